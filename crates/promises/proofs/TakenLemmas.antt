-- What was taken out, and what a lifecycle was told of it.
use Rattle.std.proofs.Common.{◌≡◌, ◌⊎◌, inl, inr, ℕ, Bool, true, false, true≢false, not, List, [], ◌∷◌, Option, Some, None, refl, ap, subst, sym, ◌∙◌}
use Rattle.std.proofs.iter.Yields.{iter_once_steps, Once-Drains}
use Rattle.std.specs.Prelude.{IfSome}
use Rattle.std.specs.Iterator.{Drains, Yields}
use Rattle.std.specs.List.{FoldsTo}
use Rattle.std.specs.List.Sorted.{IsPermutation}
use Rattle.std.specs.declared.iter.Once.{Once}
use denote.Ref.{Bor}
use denote.Param.Members.{Shared}
use Rattle.quick_cache_expiring.specs.Lives.{lives}
use Rattle.quick_cache_expiring.specs.Over.{TakesOver, moment_of}
use Rattle.quick_cache_expiring.specs.declared.alone.over.TakeOver.{TakeOver}
use Rattle.quick_cache_expiring.specs.declared.lasting.Lasting.{Lasting}
use Rattle.quick_cache_listeners.specs.declared.causes.cause.Cause.{Cause}
use Rattle.quick_cache_listeners.specs.Taken.{TellsEach}
use Rattle.quick_cache_shard.specs.Shard.{Shard}
use Rattle.quick_cache_shard.specs.ShardDrain.{pairs_in}
use Rattle.quick_cache_shard.proofs.DrainLemmas.{TakesItem-gives}
use Rattle.quick_cache_unsync.specs.Extracting.{Extracts, takes_from}
use Rattle.quick_cache_unsync.specs.declared.walking.extracting.ExtractIf.{ExtractIf}

-- only the opposite of false is true
not-true : (answer : Bool) → not answer ≡ true → answer ≡ false
not-true true is = absurd (true≢false (sym is))
not-true false is = refl

module _ {K V S : Type 0} (tells : S → K → V → Cause → S → Type 0) (cause : Cause) (old new : S)
    (option : Once (K × V)) (told : TellsEach iter_once_steps option tells cause old new) where
  -- it was told the pair that there was
  pub TellsEach-one : (pair : K × V) → option.item ≡ Some pair → tells old pair.0 pair.1 cause new
  TellsEach-one pair is =
      let one = subst (λ pairs. FoldsTo (λ before p after. tells before p.0 p.1 cause after) old
      pairs new) (Once-Drains option (Some pair) told.came is told.drains) told.told in
      subst (tells old pair.0 pair.1 cause) one.2 one.1

  -- where there was none it was told nothing
  pub TellsEach-none : option.item ≡ None → new ≡ old
  TellsEach-none is =
      sym (subst (λ pairs. FoldsTo (λ before p after. tells before p.0 p.1 cause after) old
      pairs new) (Once-Drains option None told.came is told.drains) told.told)

module _ {K V S : Type 0} (tells : S → K → V → Cause → S → Type 0) (cause : Cause) (P : S → Type 0)
    (leaves : (old new : S) (key : K) (value : V) → tells old key value cause new → P new) where
  -- what was told each pair is as at first, or as the last one left it
  told-last : (came : List (K × V)) (old new : S)
      → FoldsTo (λ before pair after. tells before pair.0 pair.1 cause after) old came new
      → (new ≡ old) ⊎ P new
  told-last [] old new told = inl (sym told)
  told-last (pair ∷ came) old new told = elim (told-last came told.0 new told.2) [
    | inl is ↦ inr (subst P (sym is) (leaves old told.0 pair.0 pair.1 told.1))
    | inr last ↦ inr last
  ]

pub TellsEach-last : {K V S I : Type 0} {gives : I → Option (K × V) → I → Type 0} {pairs : I}
    {tells : S → K → V → Cause → S → Type 0} {cause : Cause} {old new : S}
    → TellsEach gives pairs tells cause old new → (P : S → Type 0)
    → ((before after : S) (key : K) (value : V) → tells before key value cause after → P after)
    → (new ≡ old) ⊎ P new
TellsEach-last {tells = tells} {cause = cause} {old = old} {new = new} told P leaves =
    told-last tells cause P leaves told.came old new told.told

-- of the pairs in a cache a walk gives one, and the others are left
pub gives-one : {F K V We B L A H : Type 0} (calls : Shared F (Bor K × (Bor V × Unit {0})) Bool)
    (equal : K → K → Bool) (first next : ExtractIf K V We B L F A H) (pair : Option (K × V))
    → Extracts calls equal first pair next → (old left : Shard K V We B L)
    → (takes_from first).now ≡ old → left ≡ (takes_from next).now
    → IfSome pair (λ p. IsPermutation (pairs_in old) (p ∷ pairs_in left))
gives-one calls equal first next None steps old left begins ends = tt
gives-one {K = K} {V = V} {We = We} {B = B} {L = L} calls equal first next (Some pair) steps old left
    begins ends =
    subst (λ (s : Shard K V We B L). IsPermutation (pairs_in s) (pair ∷ pairs_in left)) begins
    (subst (λ (s : Shard K V We B L). IsPermutation (pairs_in (takes_from first).now)
    (pair ∷ pairs_in s)) (sym ends)
    (TakesItem-gives (takes_from first).now (takes_from next).now pair steps.gives.1.takes))

-- what is told of each entry that was over leaves what it leaves, where there is one
module _ {K V We B L A H S : Type 0} (equal : K → K → Bool) (now : ℕ)
    (tells : S → K → Lasting V → Cause → S → Type 0) (cause : Cause) (P : S → Type 0)
    (leaves : (old new : S) (key : K) (lasting : Lasting V) → lives lasting.until now ≡ false
    → tells old key lasting cause new → P new) where
  -- an entry that a walk at the moment gives is over
  given-over : (first next : TakeOver K V We B L A H) (pair : K × Lasting V)
      → moment_of first ≡ now → TakesOver equal first (Some pair) next
      → lives pair.1.until now ≡ false
  given-over first next pair at steps =
      let taken = steps.gives.1 in
      let over : lives taken.takes.item.value.until (moment_of first) ≡ false =
      not-true _ (sym taken.first.wanted) in
      subst (λ (moment : ℕ). lives pair.1.until moment ≡ false) at
      (subst (λ (lasting : Lasting V). lives lasting.until (moment_of first) ≡ false)
      (sym (ap (λ (p : K × Lasting V). p.1) taken.takes.gives)) over)

  over-told : (came : List (K × Lasting V)) (first last : TakeOver K V We B L A H)
      → moment_of first ≡ now → Yields (TakesOver equal) first came last → (old new : S)
      → FoldsTo (λ before pair after. tells before pair.0 pair.1 cause after) old came new
      → P old → P new
  over-told [] first last at yields old new told holds = subst P told holds
  over-told (pair ∷ came) first last at (next, step, rest) old new told holds =
      over-told came next last (step.moment ∙ at) rest told.0 new told.2
      (leaves old told.0 pair.0 pair.1 (given-over first next pair at step) told.1)

  -- so does what is told of all that a walk gives
  pub TellsEach-over : (first : TakeOver K V We B L A H) (old new : S) → moment_of first ≡ now
      → TellsEach (TakesOver equal) first tells cause old new → P old → P new
  TellsEach-over first old new at told holds = go told.drains
    where
      go : Drains (TakesOver equal) first told.came → P new
      go (end, (last, yields, ends)) =
          over-told told.came first last at yields old new told.told holds
