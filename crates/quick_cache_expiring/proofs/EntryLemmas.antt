-- Looks at entries that may be over, from looks at values with their ends.
use Rattle.std.proofs.Common.{◌≡◌, ◌≤◌, ℕ, Bool, true, false, Option, Some, None, Result, Err, refl, sym, ap, subst, ◌∙◌, arith}
use Rattle.quick_cache_model.specs.CacheState.{CacheState, Item, IsValid, keys_by}
use Rattle.quick_cache_model.specs.Lookups.{Sees, LooksUp}
use Rattle.quick_cache_model.specs.Hooks.{Rules}
use Rattle.quick_cache_shard.specs.References.{IsValueUnder, ReweighsUnder, with_value_under}
use Rattle.quick_cache_shard.specs.Steps.{Goes, rules_in}
use Rattle.quick_cache_shard.specs.Tests.{GetsOrTakes, Miss, PassesTest, miss_of}
use Rattle.quick_cache_shard.proofs.TestLemmas.{LooksUpOrTakesOut-weaker}
use Rattle.quick_cache_unsync.specs.Touches.{no_touches}
use Rattle.quick_cache_unsync.proofs.ReferenceLemmas.{pokes-final}
use Rattle.quick_cache_shard.specs.Shard.{Shard, KeepsWork}
use Rattle.quick_cache_model.proofs.KeyCounts.{keys_by-fewer}
use Rattle.quick_cache_expiring.specs.declared.lasting.Lasting.{Lasting}
use Rattle.quick_cache_expiring.specs.declared.by_value.ByValue.{ByValue}
use Rattle.quick_cache_expiring.specs.Lastings.{lasting_of}
use Rattle.quick_cache_expiring.specs.Lives.{lives}
use Rattle.quick_cache_expiring.specs.Entries.{AnswersAt, Entries, Gets, KeepsRest, Renews, Shows, expired_after, is_failed, took_out, value_in}

-- a query stands for one key at most of a state in which no two keys are equal
pub keys_by-one : {K V : Type 0} (test : K → Bool) (equal : K → K → Bool)
    → ((first second : K) → test first ≡ true → test second ≡ true → equal first second ≡ true)
    → (state : CacheState K V) → IsValid equal state → (key : K) → test key ≡ true
    → keys_by test state ≤ 1
keys_by-one test equal same state valid key passes = omega (
  arith,
  keys_by-fewer test (equal key) (λ k also. same key k passes also) state,
  valid.one_entry_a_key key,
)

module _ {K V : Type 0} (test : K → Bool) (now : ℕ) (state : CacheState K (Lasting V)) where
  -- a value that is seen and lives is shown
  pub Shows-serves : (found : Option (Lasting V)) → Sees test state (λ item. item.value) found
      → (lasting : Lasting V) → found ≡ Some lasting → lives lasting.until now ≡ true
      → Shows test now state (Some lasting.value)
  Shows-serves _ (Sees.is_there place before item after at) lasting is live =
      let same : item.value ≡ lasting = cc in
      subst (λ (l : Lasting V). Shows test now state (Some l.value)) same
      (Shows.serves place before item after at (subst (λ (l : Lasting V). lives l.until now ≡ true)
      (sym same) live))
  Shows-serves _ (Sees.is_absent none) lasting is live =
      let never : None ≡ Some lasting = is in absurd cc

  -- one that is over is not
  pub Shows-over : (found : Option (Lasting V)) → Sees test state (λ item. item.value) found
      → (lasting : Lasting V) → found ≡ Some lasting → lives lasting.until now ≡ false
      → Shows test now state None
  Shows-over _ (Sees.is_there place before item after at) lasting is over =
      let same : item.value ≡ lasting = cc in
      Shows.is_over place before item after at (subst (λ (l : Lasting V). lives l.until now ≡ false)
      (sym same) over)
  Shows-over _ (Sees.is_absent none) lasting is over =
      let never : None ≡ Some lasting = is in absurd cc

  -- nor is what is absent
  pub Shows-absent : (found : Option (Lasting V)) → Sees test state (λ item. item.value) found
      → found ≡ None → Shows test now state None
  Shows-absent _ (Sees.is_there place before item after at) is =
      let never : Some item.value ≡ None = is in absurd cc
  Shows-absent _ (Sees.is_absent none) is = Shows.is_absent none

module _ {K V We B L : Type 0} (test : K → Bool) (now : ℕ)
    (answers : Lasting V → Bool → Type 0)
    (told : (lasting : Lasting V) (said : Bool) → answers lasting said → AnswersAt now lasting said)
    (old new : Entries K V We B L) where
  -- a look with the test whether an entry serves
  pub Gets-tested : (found : Result (Lasting V) (Option (K × Lasting V)))
      → GetsOrTakes test answers old.cache found new.cache
      → new ≡ record old {
        cache = new.cache;
        expired = expired_after (took_out found) old.expired;
      } → Gets test now old (value_in found) new
  Gets-tested found gets rest = record {
    found = found;
    looks_up = LooksUpOrTakesOut-weaker test answers (AnswersAt now) told old.cache.state found
        new.cache.state gets.looks_up;
    shows = refl;
    rest = rest;
    same = gets.work;
  }

  -- where what is over is dropped
  pub Gets-dropped : (taken : Option (K × Lasting V)) (miss : Miss) → miss ≡ miss_of taken
      → GetsOrTakes test answers old.cache (Err taken) new.cache
      → new ≡ record old {
        cache = new.cache;
        expired = expired_after (is_failed miss) old.expired;
      } → Gets test now old None new
  Gets-dropped (Some pair) miss is gets rest = Gets-tested (Err (Some pair)) gets
      (subst (λ (m : Miss). new ≡ record old {
        cache = new.cache;
        expired = expired_after (is_failed m) old.expired;
      }) is rest)
  Gets-dropped None miss is gets rest = Gets-tested (Err None) gets
      (subst (λ (m : Miss). new ≡ record old {
        cache = new.cache;
        expired = expired_after (is_failed m) old.expired;
      }) is rest)

-- a query stands for the key of what was looked up and found
found-key : {K V X : Type 0} (test : K → Bool) (state : CacheState K V) (of : Item K V → X)
    (found : Option X) (new : CacheState K V) → LooksUp test state of found new → (seen : X)
    → found ≡ Some seen → (key : K) × (test key ≡ true)
found-key test state of _ _ (LooksUp.hit place before item after at) seen is =
    (item.key, at.passes)
found-key test state of _ _ (LooksUp.miss absent) seen is =
    let never : None ≡ Some seen = is in absurd cc

-- an entry that lives was looked up, and written through a reference with a new end
pub Renews-written : {K V We B L S Q : Type 0} (equivalent : Q → K → Bool)
    (goes : Goes K (Lasting V) (ByValue We) B L S) (now until : ℕ)
    (old new : Entries K V We B L) (query asked : Q) → asked ≡ query
    → (lent : Shard K (Lasting V) (ByValue We) B L)
    → lent ≡ record old.cache { state = lent.state }
    → ((key : K) → equivalent query key ≡ true → keys_by (equivalent query) lent.state ≤ 1)
    → (seen : Lasting V)
    → PassesTest (equivalent query) (AnswersAt now) old.cache.state seen lent.state
    → (was : Lasting V) → IsValueUnder (equivalent asked) lent.state was
    → (final : Shard K (Lasting V) (ByValue We) B L) → new.cache ≡ final
    → ReweighsUnder (equivalent asked) (rules_in goes no_touches lent)
    (with_value_under (equivalent asked) (lasting_of was.value until) lent.state) final.state
    → final ≡ record lent { state = final.state; places = final.places }
    → KeepsRest old new → Renews (rules_in goes no_touches old.cache) (equivalent query) now
    until old new
Renews-written {K} {V} {We} {B} {L} {S} {Q} equivalent goes now until old new query asked is lent same
    single seen looks was under final ends reweighs keeps rest =
    let key = found-key (equivalent query) old.cache.state (λ item. item.value) (Some seen)
    looks.looks_up.ordered looks.looks_up.holds seen refl in
    let whole : final ≡ record old.cache { state = final.state; places = final.places } =
    keeps ∙ ap (λ (s : Shard K (Lasting V) (ByValue We) B L).
    record s { state = final.state; places = final.places }) same in
    record {
      found = seen;
      mid = lent.state;
      looks_up = looks;
      was = was;
      under = subst (λ (q : Q). IsValueUnder (equivalent q) lent.state was) is under;
      writes = pokes-final (rules_in goes no_touches old.cache) (equivalent query) (lasting_of was.value until) new.cache
          final ends lent.state (single key.0 key.1)
          (subst (λ (x : Q × Rules K (Lasting V)). ReweighsUnder (equivalent x.0) x.1
          (with_value_under (equivalent x.0) (lasting_of was.value until) lent.state) final.state)
          (λ i. (is i, rules_in goes no_touches (same i))) reweighs);
      rest = rest;
      same = subst (λ (s : Shard K (Lasting V) (ByValue We) B L). KeepsWork old.cache s) (sym ends)
          (whole ∙ (λ i. record old.cache {
            state = final.state;
            places = final.places;
            room = sym (ap (λ (s : Shard K (Lasting V) (ByValue We) B L). s.room) whole) i;
          }));
    }

-- the end of what is seen
module _ {K V : Type 0} (test : K → Bool) (state : CacheState K (Lasting V)) where
  pub Sees-until : (found : Option (Lasting V)) → Sees test state (λ item. item.value) found
      → (lasting : Lasting V) → found ≡ Some lasting
      → Sees test state (λ item. item.value.until) (Some lasting.until)
  Sees-until _ (Sees.is_there place before item after at) lasting is =
      let same : item.value ≡ lasting = cc in
      subst (λ (l : Lasting V). Sees test state (λ item. item.value.until) (Some l.until)) same
      (Sees.is_there place before item after at)
  Sees-until _ (Sees.is_absent none) lasting is =
      let never : None ≡ Some lasting = is in absurd cc

  pub Sees-until-none : (found : Option (Lasting V)) → Sees test state (λ item. item.value) found
      → found ≡ None → Sees test state (λ item. item.value.until) None
  Sees-until-none _ (Sees.is_there place before item after at) is =
      let never : Some item.value ≡ None = is in absurd cc
  Sees-until-none _ (Sees.is_absent none) is = Sees.is_absent none
