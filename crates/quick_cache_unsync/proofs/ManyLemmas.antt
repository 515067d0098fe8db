-- Many pairs at once: lists of which the first are taken, and a fill that ends with a refusal.
use Rattle.std.proofs.Common.{◌≡◌, ℕ, zero, suc, Bool, List, [], ◌∷◌, ◌++◌, take, Option, Some, Err, refl, ap, sym, subst, ◌∙◌}
use Rattle.std.specs.Iterator.{YieldsThen}
use Rattle.quick_cache_model.specs.declared.refusal.Refusal.{Refusal}
use Rattle.quick_cache_shard.specs.Shard.{Shard, KeepsTerms, KeepsWork}
use Rattle.quick_cache_shard.specs.Steps.{Goes}
use Rattle.quick_cache_shard.proofs.InsertLemmas.{Inserts-pair}
use Rattle.quick_cache_unsync.specs.Many.{InsertsPair, EndsInTurn}

-- what is taken twice is what is taken once
take-again : {A : Type 0} (n : ℕ) (xs ys : List A) → take n (take n xs ++ ys) ≡ take n (xs ++ ys)
take-again zero xs ys = refl
take-again (suc n) [] ys = refl
take-again (suc n) (x ∷ xs) ys = ap (λ zs. x ∷ zs) (take-again n xs ys)

-- what was added in two steps is what is added in one
pub adds-more : {A : Type 0} (n : ℕ) (old more rest mid new : List A) → mid ≡ take n (old ++ more)
    → new ≡ take n (mid ++ rest) → new ≡ take n (old ++ (more ++ rest))
adds-more n old more rest mid new first second =
    second ∙ (ap (λ xs. take n (xs ++ rest)) first ∙ (take-again n (old ++ more) rest
    ∙ ap (take n) (one-list old more rest)))
  where
    one-list : {A : Type 0} (xs ys zs : List A) → (xs ++ ys) ++ zs ≡ xs ++ (ys ++ zs)
    one-list [] ys zs = refl
    one-list (x ∷ xs) ys zs = ap (λ all. x ∷ all) (one-list xs ys zs)

-- what two calls keep
pub KeepsTerms-on : {K V We B L : Type 0} (old mid new : Shard K V We B L) → KeepsTerms old mid
    → KeepsTerms mid new → KeepsTerms old new
KeepsTerms-on {K} {V} {We} {B} {L} old mid new first second =
    second ∙ ap (λ (shard : Shard K V We B L). record shard {
      state = new.state;
      places = new.places;
      room = new.room;
      work = new.work;
    }) first

-- and what two calls keep that do no work
pub KeepsWork-on : {K V We B L : Type 0} (old mid new : Shard K V We B L) → KeepsWork old mid
    → KeepsWork mid new → KeepsWork old new
KeepsWork-on {K} {V} {We} {B} {L} old mid new first second =
    second ∙ ap (λ (shard : Shard K V We B L). record shard {
      state = new.state;
      places = new.places;
      room = new.room;
    }) first

module _ {K V We B L S I : Type 0} (goes : Goes K V We B L S) (is_default : S → Type 0)
    (equal : K → K → Bool) (gives : I → Option (K × V) → I → Type 0) (pairs : I) where
  -- the pair that comes back is the one that came last
  pub EndsInTurn-refused : (came : List (K × V)) (old new : Shard K V We B L) (pair : K × V)
      (key : K) (value : V) (refusal : Refusal) (rest : I)
      → YieldsThen gives pairs came (Some pair) rest
      → InsertsPair goes is_default equal old pair (Err (key, value, refusal)) new
      → EndsInTurn goes is_default equal gives pairs came old (Err (key, value, refusal, rest)) new
  EndsInTurn-refused came old new pair key value refusal rest yields one =
      let done = one.inserts in
      subst (λ (p : K × V). YieldsThen gives pairs came (Some p) rest
      × InsertsPair goes is_default equal old p (Err (p.0, p.1, refusal)) new)
      (λ i. (sym done.does.key_back i, sym done.does.value_back i)) (
        yields,
        record {
          inserts = record {
            first = done.first;
            last = done.last;
            begins = done.begins;
            does = Inserts-pair _ _ _ _ _ _ _ _ _ _ _ done.does;
          };
          room = one.room;
          work = one.work;
          same = one.same;
        },
      )
