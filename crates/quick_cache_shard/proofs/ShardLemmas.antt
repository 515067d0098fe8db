-- What always holds of a shard.
use Rattle.std.proofs.Common.{◌≡◌, ℕ, ◌≤◌, Bool, true, true≢false, Option, Some, None, MatchOption, Result, Ok, MatchResult, sym, subst}
use Rattle.std.proofs.Common.{arith}
use Rattle.std.specs.Option.{is_some}
use Rattle.std.specs.Cmp.{IsEquivalence}
use Rattle.quick_cache_store.specs.Lists.{AreApart, entry_count}
use Rattle.quick_cache_policy.specs.Contents.{IsSound, state_of, work_of}
use Rattle.quick_cache_policy.specs.Places.{places_of}
use Rattle.quick_cache_shard.specs.Shard.{IsSoundShard}
use Rattle.quick_cache_policy.specs.declared.contents.Contents.{Contents}
use Rattle.quick_cache_policy.proofs.AnswerLemmas.{entry_count-taken}
use Rattle.quick_cache_policy.proofs.WrittenPlaces.{LosesOnly-keeps}
use Rattle.quick_cache_shard.proofs.PlaceLemmas.{place-same}

module _ {K V P W A T We B L : Type 0} (ticket_of : P → ℕ) (equal : K → K → Bool) (hash : K → ℕ)
    (contents : Contents K V W A T P) where
  -- a sound cache in its slots, whose tokens are apart, is a sound shard
  pub IsSound-shard : IsSound ticket_of equal hash contents
      → entry_count contents.lists ≤ 4294967294 → AreApart contents.lists → IsEquivalence equal
      → (weigher : We) (builder : B) (lifecycle : L)
      → IsSoundShard equal (record {
        state = state_of ticket_of contents;
        places = places_of contents.lists;
        weigher = weigher;
        builder = builder;
        lifecycle = lifecycle;
        room = contents.lists.room;
        work = work_of contents;
      })
  IsSound-shard sound within apart laws weigher builder lifecycle = record {
    valid = sound.valid;
    sized = record {
      target_within = sound.sized.target_within;
      target_above = sound.sized.target_above;
      limit_counts = sound.sized.limit_counts;
    };
    some_mark = sound.sized.some_mark;
    few_marks = sound.sized.few_marks;
    slots = omega (arith, within, entry_count-taken ticket_of contents);
    places = record {
      one_key = place-same contents.lists apart;
      one_token = LosesOnly-keeps ticket_of contents equal laws sound.valid
          (places_of contents.lists) (λ place there. there);
    };
  }

-- what is said of each answer is known of the one that there is
pub MatchOption-some : {X P : Type 0} (none : Type 0) (some : X → Type 0) (answer : Option X)
    → is_some answer ≡ true → MatchOption answer none some → ((x : X) → some x → P) → P
MatchOption-some none some None is says gives = absurd (true≢false (sym is))
MatchOption-some none some (Some x) is says gives = gives x says

-- what is said of each answer is known of the value that there is
pub MatchResult-ok : {X E : Type 0} (ok : X → Type 0) (err : E → Type 0) (answer : Result X E)
    (x : X) → answer ≡ Ok x → MatchResult answer ok err → ok x
MatchResult-ok ok err answer x is says = subst (λ r. MatchResult r ok err) is says
