-- Looks with a test, of which what fails is taken out.
use Rattle.std.proofs.Common.{◌≡◌, ℕ, ◌<◌, ◌≤◌, Bool, true, false, not, Option, Some, None, Result, Ok, Err, IfOk, refl}
use Rattle.std.specs.Int.NonZero.{non_zero_u32_get as number}
use Rattle.std.specs.declared.num.NonZeroU32.{NonZeroU32 as Token}
use Rattle.quick_cache_model.specs.declared.refusal.Refusal.{Refusal}
use Rattle.quick_cache_model.specs.CacheState.{CacheState}
use Rattle.quick_cache_model.specs.Lookups.{looked_up}
use Rattle.quick_cache_model.proofs.OrderLaws.{UpToOrder-map}
use Rattle.quick_cache_store.specs.Lists.{HeldItem}
use Rattle.quick_cache_policy.specs.Contents.{state_of, work_of}
use Rattle.quick_cache_policy.specs.Places.{LosesOnly, places_of}
use Rattle.quick_cache_policy.specs.Predicates.{RemovesAsked}
use Rattle.quick_cache_policy.specs.References.{count_under}
use Rattle.quick_cache_policy.specs.Tests.{LooksUpOrTakesOut, PassesTest, TestsOrTakes, UnlessTaken}
use Rattle.quick_cache_policy.specs.declared.contents.Contents.{Contents}
use Rattle.quick_cache_policy.specs.declared.looking.tested.Miss.{Miss}
use Rattle.quick_cache_shard.specs.Shared.{PeeksIf}
use Rattle.quick_cache_shard.specs.Tests.{FindsOrTakes, GetsOrTakes}
use Rattle.quick_cache_shard.proofs.PlaceLemmas.{HasItem-place, HasItem-resident}
use Rattle.quick_cache_shard.proofs.ReferenceLemmas.{LooksUp-there}
use Rattle.quick_cache_shard.proofs.ShownLemmas.{same-state, same-work, shard_of}

module _ {K V : Type 0} (stands_for : K → Bool) (answers other : V → Bool → Type 0)
    (weaker : (value : V) (said : Bool) → answers value said → other value said)
    (old : CacheState K V) where
  -- what a test answered may be said in weaker words
  RemovesAsked-weaker : (removed : Option (K × V)) (new : CacheState K V)
      → RemovesAsked stands_for old answers removed new
      → RemovesAsked stands_for old other removed new
  RemovesAsked-weaker _ _ (RemovesAsked.goes place before item after at said) =
      RemovesAsked.goes place before item after at (weaker item.value true said)
  RemovesAsked-weaker _ _ (RemovesAsked.stays place before item after at said) =
      RemovesAsked.stays place before item after at (weaker item.value false said)
  RemovesAsked-weaker _ _ (RemovesAsked.absent none) = RemovesAsked.absent none

  pub PassesTest-weaker : (value : V) (new : CacheState K V)
      → PassesTest stands_for answers old value new → PassesTest stands_for other old value new
  PassesTest-weaker value new passes =
      record { looks_up = passes.looks_up; said = weaker value true passes.said }

module _ {K V : Type 0} (stands_for : K → Bool) (answers other : V → Bool → Type 0)
    (weaker : (value : V) (said : Bool) → answers value said → other value said)
    (old : CacheState K V) where
  pub LooksUpOrTakesOut-weaker : (found : Result V (Option (K × V))) (new : CacheState K V)
      → LooksUpOrTakesOut stands_for answers old found new
      → LooksUpOrTakesOut stands_for other old found new
  LooksUpOrTakesOut-weaker (Ok value) new passes =
      PassesTest-weaker stands_for answers other weaker old value new passes
  LooksUpOrTakesOut-weaker (Err (Some pair)) new takes = record {
    mid = takes.mid;
    removes = UpToOrder-map _ _ takes.mid
        (λ state. RemovesAsked-weaker stands_for (λ value goes. answers value (not goes))
        (λ value goes. other value (not goes)) (λ value goes. weaker value (not goes)) old
        (Some pair) state) takes.removes;
    counts = takes.counts;
  }
  LooksUpOrTakesOut-weaker (Err None) new misses = misses

  pub PeeksIf-weaker : (is_clone : V → V → Type 0) (found : Result (Result V Miss) Refusal)
      → PeeksIf stands_for is_clone answers old found → PeeksIf stands_for is_clone other old found
  PeeksIf-weaker is_clone _ (PeeksIf.passes value clone sees said cloned) =
      PeeksIf.passes value clone sees (weaker value true said) cloned
  PeeksIf-weaker is_clone _ (PeeksIf.fails value sees said) =
      PeeksIf.fails value sees (weaker value false said)
  PeeksIf-weaker is_clone _ (PeeksIf.is_absent none) = PeeksIf.is_absent none
  PeeksIf-weaker is_clone _ (PeeksIf.refuses value sees said) =
      PeeksIf.refuses value sees (weaker value true said)

-- what follows from what holds unless something was taken out
UnlessTaken-weaker : {T X P Q : Type 0} → (P → Q) → (found : Result T (Option X))
    → UnlessTaken found P → UnlessTaken found Q
UnlessTaken-weaker weaker (Ok shown) holds = weaker holds
UnlessTaken-weaker weaker (Err (Some taken)) holds = tt
UnlessTaken-weaker weaker (Err None) holds = weaker holds

module _ {K V P W A T : Type 0} (ticket_of : P → ℕ) (old new : Contents K V W A T P)
    (stands_for : K → Bool) (answers : V → Bool → Type 0) where
  -- what was found is there
  pub found-there : (found : Result Token (Option (K × V)))
      → TestsOrTakes ticket_of stands_for answers old found new
      → IfOk found (λ _. 0 < count_under stands_for (state_of ticket_of new))
  found-there (Ok token) passed =
      let looks = passed.looks in
      LooksUp-there stands_for (λ item. item.value) looks.item.value (state_of ticket_of old)
      (state_of ticket_of new) looks.value
  found-there (Err taken) tests = tt

  module _ {We B L : Type 0} (weigher : We) (builder : B) (lifecycle : L)
      (places : LosesOnly (places_of old.lists) (places_of new.lists))
      (room : old.lists.room ≤ new.lists.room) (work : work_of new ≡ work_of old) where
    -- what the look did to the contents it did to their shard
    pub gets-or-takes : (found : Result V (Option (K × V)))
        → LooksUpOrTakesOut stands_for answers (state_of ticket_of old) found (state_of ticket_of new)
        → UnlessTaken found ((places_of new.lists ≡ places_of old.lists)
        × (new.lists.room ≡ old.lists.room))
        → GetsOrTakes stands_for answers
        (shard_of ticket_of weigher builder lifecycle old) found
        (shard_of ticket_of weigher builder lifecycle new)
    gets-or-takes found looks_up stays = record {
      looks_up = looks_up;
      same = UnlessTaken-weaker
          (λ kept. same-state ticket_of weigher builder lifecycle old new work
          (shard_of ticket_of weigher builder lifecycle old) refl kept.0 kept.1) found stays;
      places = places;
      room = room;
      work = same-work ticket_of weigher builder lifecycle old new work
          (shard_of ticket_of weigher builder lifecycle old) refl;
    }

    -- also where a token stands for the value
    pub finds-or-takes : (found : Result Token (Option (K × V)))
        → TestsOrTakes ticket_of stands_for answers old found new
        → UnlessTaken found ((places_of new.lists ≡ places_of old.lists)
        × (new.lists.room ≡ old.lists.room))
        → FindsOrTakes stands_for answers
        (shard_of ticket_of weigher builder lifecycle old) found
        (shard_of ticket_of weigher builder lifecycle new)
    finds-or-takes (Ok token) passed stays =
        let value = passed.looks.item.value in
        let passes : PassesTest stands_for answers (state_of ticket_of old) value
        (state_of ticket_of new) =
        record { looks_up = passed.looks.value; said = passed.said } in
        let held : HeldItem K V =
        record {
          token = number token;
          hash = passed.looks.now.0;
          item = looked_up old.mark_cut passed.looks.item;
        } in (
          value,
          gets-or-takes (Ok value) passes stays,
          (
            held.item,
            record {
              place = HasItem-place new.lists held passed.looks.now.1;
              there = HasItem-resident new.lists held passed.looks.now.1;
            },
            refl,
          ),
        )
    finds-or-takes (Err taken) tests stays = gets-or-takes (Err taken) tests stays
