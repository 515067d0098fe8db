-- A cache whose tickets are spent.
use Rattle.std.proofs.Common.{◌≡◌, ℕ, Bool, sym, subst}
use Rattle.quick_cache_model.specs.CacheState.{CacheState, IsValid, empty_state}
use Rattle.quick_cache_model.proofs.Valid.States.{empty_state-valid}
use Rattle.quick_cache_policy.specs.declared.contents.Contents.{Contents}
use Rattle.quick_cache_policy.specs.Contents.{IsSound, state_of}

-- where nothing is loading, the next ticket may be any
pub IsSound-ticket : {K V P W A T : Type 0} (ticket_of : P → ℕ) (equal : K → K → Bool)
    (hash : K → ℕ) (contents : Contents K V W A T P) (capacity target limit ticket : ℕ)
    → state_of ticket_of contents ≡ empty_state capacity target limit
    → IsSound ticket_of equal hash contents
    → IsSound ticket_of equal hash (record contents { next_ticket = ticket })
IsSound-ticket {K} {V} ticket_of equal hash contents capacity target limit ticket empty sound =
    let valid = empty_state-valid {K = K} {V = V} equal capacity target limit in
    record {
      valid =
          subst (λ (state : CacheState K V). IsValid equal (record state { next_ticket = ticket }))
          (sym empty)
          (record {
            one_entry_a_key = valid.one_entry_a_key;
            one_entry_a_ticket = valid.one_entry_a_ticket;
            tickets_given = tt;
            ghosts_within = valid.ghosts_within;
            in_hot = valid.in_hot;
            in_cold = valid.in_cold;
            in_still = valid.in_still;
          });
      sized = sound.sized;
      hashed = sound.hashed;
    }
