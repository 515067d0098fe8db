-- What a predicate answered of an entry that is taken out.
use Rattle.std.proofs.Common.{ℕ, Bool, true, false, Option, Some, None}
use Rattle.std.specs.declared.num.NonZeroU32.{NonZeroU32 as Token}
use denote.Ref.{Bor}
use denote.Param.Members.{Shared}
use Rattle.quick_cache_shard.specs.Predicates.{Answers}
use Rattle.quick_cache_shard.specs.Shard.{Shard}
use Rattle.quick_cache_shard.specs.TakesWanted.{TakesNextWanted}

module _ {F K V : Type 0} (calls : Shared F (Bor K × (Bor V × Unit {0})) Bool) (wanted : F)
    (second : K → V → Bool → Type 0)
    (says : (key : K) (value : V) (said : Bool) → Answers calls wanted key value said
    → second key value said) where
  -- may be said in other words
  pub TakesNextWanted-told : {We B L : Type 0} (after : ℕ) (old : Shard K V We B L)
      (taken : Option (Token × K × V)) (new : Shard K V We B L)
      → TakesNextWanted (Answers calls wanted) after old taken new
      → TakesNextWanted second after old taken new
  TakesNextWanted-told after old None new none = (
    λ next token item at above below.
        says item.key item.value false (none.0 next token item at above below),
    none.1,
  )
  TakesNextWanted-told after old (Some gone) new takes = record {
    takes = takes.takes;
    first = record {
      stands = takes.first.stands;
      above = takes.first.above;
      passes = λ token item at above below.
          says item.key item.value false (takes.first.passes token item at above below);
      wanted = says _ _ true takes.first.wanted;
    };
    leaves = takes.leaves;
  }
