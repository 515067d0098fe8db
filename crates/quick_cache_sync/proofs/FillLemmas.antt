-- A fill that ends with a refusal.
use Rattle.std.proofs.Common.{Bool, List, Option, Some, Result, Err, sym, subst}
use Rattle.std.specs.Iterator.{YieldsThen}
use Rattle.quick_cache_model.specs.declared.terms.lifecycle.Lifecycle as lifecycle
use Rattle.quick_cache_model.specs.declared.refusal.Refusal.{Refusal}
use Rattle.quick_cache_shard.specs.Shard.{Shard}
use Rattle.quick_cache_shard.specs.Steps.{Goes}
use Rattle.quick_cache_shard.proofs.InsertLemmas.{Inserts-pair}
use Rattle.quick_cache_locked.specs.Locked.{FromSome}
use Rattle.quick_cache_sync.specs.Answers.{InsertsAloneBy}
use Rattle.quick_cache_sync.specs.Fills.{EndsSo}

module _ {K V We B L S I : Type 0} (life : lifecycle.Ghosts L K V S) (goes : Goes K V We B L S)
    (is_default : S → Type 0) (equal : K → K → Bool) (gives : I → Option (K × V) → I → Type 0)
    (pairs : I) where
  -- an insert of the pair answers so on some shard
  abbrev pub Answers : K → V → Result (Unit {0}) (K × V × Refusal) → Type 0
  Answers key value answer = FromSome life equal (λ (shard : Shard K V We B L).
      InsertsAloneBy goes equal shard is_default key value answer)

  -- the pair that comes back is the one that came last
  pub EndsSo-refused : (came : List (K × V)) (pair : K × V) (key : K) (value : V)
      (refusal : Refusal) (rest : I) → YieldsThen gives pairs came (Some pair) rest
      → Answers pair.0 pair.1 (Err (key, value, refusal))
      → EndsSo gives Answers pairs came (Err (key, value, refusal, rest))
  EndsSo-refused came pair key value refusal rest yields some =
      let done = some.holds.step in
      subst (λ (p : K × V). YieldsThen gives pairs came (Some p) rest
      × Answers p.0 p.1 (Err (p.0, p.1, refusal)))
      (λ i. (sym done.does.key_back i, sym done.does.value_back i)) (
        yields,
        record {
          shard = some.shard;
          kept = some.kept;
          holds = record {
            new = some.holds.new;
            step = record {
              first = done.first;
              last = done.last;
              begins = done.begins;
              does = Inserts-pair _ _ _ _ _ _ _ _ _ _ _ done.does;
            };
          };
        },
      )

  -- and so it fits where that one does
  pub Fits-refused : (fits : K → V → Type 0) (pair : K × V) (key : K) (value : V)
      (refusal : Refusal) → Answers pair.0 pair.1 (Err (key, value, refusal))
      → fits pair.0 pair.1 → fits key value
  Fits-refused fits pair key value refusal some fit =
      let does = some.holds.step.does in
      subst (λ (p : K × V). fits p.0 p.1)
      (λ i. (sym does.key_back i, sym does.value_back i)) fit
