-- Inserts that do not wait for a lock.
use Rattle.std.proofs.Common.{◌≡◌, Bool, Result, Ok, Err}
use Rattle.quick_cache_model.specs.declared.terms.lifecycle.Lifecycle as lifecycle
use Rattle.quick_cache_model.specs.declared.refusal.Refusal.{Refusal}
use Rattle.quick_cache_model.specs.Hooks.{Rules, Hooks}
use Rattle.quick_cache_shard.specs.Shard.{Shard}
use Rattle.quick_cache_sync.specs.Answers.{InsertsSo, InsertsAloneSo}
use Rattle.quick_cache_locked.specs.Locked.{FromSome}
use Rattle.quick_cache_sync.specs.Tries.{IsTriedWith, IfContended}
use Rattle.quick_cache_sync.specs.declared.error.TryError.{TryError}

module _ {K V We B L S : Type 0} (life : lifecycle.Ghosts L K V S) (equal : K → K → Bool)
    (hooks : Shard K V We B L → Hooks K V S) (rules : Shard K V We B L → Rules K V)
    (is_default : S → Type 0) (first last : S) (begins : is_default first) (key : K) (value : V)
  where
    -- an insert answers so, with this request state
    abbrev With : Result (Unit {0}) (K × V × Refusal) → Type 0
    With answer = FromSome life equal
        (λ (shard : Shard K V We B L). InsertsSo (life.steady shard.lifecycle) (hooks shard)
        (rules shard) equal shard.state first key value answer last)

    -- an insert answers so, with a request state of its own
    abbrev Alone : Result (Unit {0}) (K × V × Refusal) → Type 0
    Alone answer = FromSome life equal
        (λ (shard : Shard K V We B L). InsertsAloneSo (life.steady shard.lifecycle) (hooks shard)
        (rules shard) equal shard.state is_default key value answer)

    With-alone : (answer : Result (Unit {0}) (K × V × Refusal)) → With answer → Alone answer
    With-alone answer some = record {
      shard = some.shard;
      kept = some.kept;
      holds = record {
        new = some.holds.new;
        step = record { first = first; last = last; begins = begins; does = some.holds.step };
      };
    }

    -- the same of an insert that was tried
    pub IsTriedWith-alone : (result : Result (Unit {0}) (K × V × TryError))
        → IsTriedWith With result → IsTriedWith Alone result
    IsTriedWith-alone (Ok done) is = With-alone (Ok done) is
    IsTriedWith-alone (Err (back_key, back_value, TryError.Contended contention)) is = is
    IsTriedWith-alone (Err (back_key, back_value, TryError.Refused refusal)) is =
        With-alone (Err (back_key, back_value, refusal)) is

-- the pair that came back with contention is this one, whatever else is known
pub IfContended-pair : {K V T : Type 0} (key : K) (value : V) (more : Type 0)
    (result : Result T (K × V × TryError))
    → IfContended result (λ back_key back_value. (back_key ≡ key) × (back_value ≡ value) × more)
    → IfContended result (λ back_key back_value. (back_key ≡ key) × (back_value ≡ value))
IfContended-pair key value more (Ok done) is = is
IfContended-pair key value more (Err (back_key, back_value, TryError.Contended contention)) is =
    (is.0, is.1)
IfContended-pair key value more (Err (back_key, back_value, TryError.Refused refusal)) is = is
