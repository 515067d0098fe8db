-- What the contents are once they have another capacity, and ghosts within the new limit.
use Rattle.std.proofs.Common.{◌≡◌, ℕ, ◌-◌, Bool, List, length, drop, ap, ◌∙◌, refl, arith}
use Rattle.std.proofs.lemmas.List.{length-drop, length-map}
use Rattle.quick_cache_model.specs.Capacity.{resized}
use Rattle.quick_cache_model.specs.Eviction.{newest}
use Rattle.quick_cache_model.specs.Hooks.{Rules}
use Rattle.quick_cache_model.specs.Sizes.{rescaled_target, rescaled_limit}
use Rattle.quick_cache_model.proofs.KeptSizes.{rescaled_target-le, rescaled_target-pos, rescaled_limit-counts}
use Rattle.quick_cache_store.specs.Lists.{HeldGhost}
use Rattle.quick_cache_store.specs.Views.{hashes_of}
use Rattle.quick_cache_policy.specs.declared.contents.Contents.{Contents}
use Rattle.quick_cache_policy.specs.Contents.{IsSound, state_of}
use Rattle.quick_cache_policy.proofs.GhostLemmas.{with_cut}
use Rattle.quick_cache_policy.proofs.VictimLemmas.{newest-hashes}

module _ {K V P W A T : Type 0} (ticket_of : P → ℕ) (old : Contents K V W A T P)
    (capacity hot_target ghost_limit : ℕ)
    (target_is : hot_target ≡ rescaled_target old.capacity capacity old.hot_target)
    (limit_is : ghost_limit ≡ rescaled_limit old.capacity capacity old.ghost_limit)
    (ghosts : List HeldGhost) (next room : ℕ)
    (rest : hashes_of ghosts
    ≡ drop (length old.lists.ghosts - ghost_limit) (hashes_of old.lists.ghosts)) where
  -- the contents with other sizes and other ghosts
  abbrev pub refitted : Contents K V W A T P
  refitted = record old {
    lists = record old.lists { ghosts = ghosts; next = next; room = room };
    capacity = capacity;
    hot_target = hot_target;
    ghost_limit = ghost_limit;
  }

  -- the ghosts are the newest within the new limit
  ghosts-newest : hashes_of ghosts
      ≡ newest (rescaled_limit old.capacity capacity old.ghost_limit) (hashes_of old.lists.ghosts)
  ghosts-newest =
      rest ∙ newest-hashes ghost_limit old.lists.ghosts (hashes_of old.lists.ghosts) refl
      ∙ ap (λ (n : ℕ). newest n (hashes_of old.lists.ghosts)) limit_is

  -- the state that they are: the resized one with its ghosts cut
  pub refitted-state : (rules : Rules K V)
      → state_of ticket_of refitted ≡ with_cut (resized rules capacity (state_of ticket_of old))
  refitted-state rules = λ i. record (state_of ticket_of old) {
    capacity = capacity;
    hot_target = target_is i;
    ghost_limit = limit_is i;
    ghosts = ghosts-newest i;
  }

  -- they are sound
  pub refitted-sound : (equal : K → K → Bool) (hash : K → ℕ) → IsSound ticket_of equal hash old
      → IsSound ticket_of equal hash refitted
  refitted-sound equal hash sound = record {
    valid = record {
      one_entry_a_key = sound.valid.one_entry_a_key;
      one_entry_a_ticket = sound.valid.one_entry_a_ticket;
      tickets_given = sound.valid.tickets_given;
      ghosts_within = omega (
        arith,
        ap length rest,
        length-drop (length old.lists.ghosts - ghost_limit) (hashes_of old.lists.ghosts),
        length-map old.lists.ghosts (λ (shade : HeldGhost). shade.hash),
      );
      in_hot = sound.valid.in_hot;
      in_cold = sound.valid.in_cold;
      in_still = sound.valid.in_still;
    };
    sized = record {
      target_within = omega (
        arith,
        target_is,
        rescaled_target-le old.capacity capacity old.hot_target,
      );
      target_above = omega (
        arith,
        target_is,
        rescaled_target-pos old.capacity capacity old.hot_target,
      );
      limit_counts = omega (
        arith,
        limit_is,
        rescaled_limit-counts old.capacity capacity old.ghost_limit sound.sized.limit_counts,
      );
      some_mark = sound.sized.some_mark;
      few_marks = sound.sized.few_marks;
    };
    hashed = record {
      hot = sound.hashed.hot;
      cold = sound.hashed.cold;
      still = sound.hashed.still;
      loading = sound.hashed.loading;
    };
  }
