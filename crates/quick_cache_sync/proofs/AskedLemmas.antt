-- What a predicate answered of items, in other words.
use Rattle.std.proofs.Common.{Bool, List, Option, Result, Ok, Err, subst}
use denote.Ref.{MutBor}
use denote.Param.Members.{Once}
use Rattle.quick_cache_model.specs.CacheState.{CacheState, Item}
use Rattle.quick_cache_model.specs.Hooks.{Rules}
use Rattle.quick_cache_shard.specs.Predicates.{StayAsAnswered, RetainsAsked}
use Rattle.quick_cache_shard.proofs.TestLemmas.{LooksUpOrTakesOut-weaker, PassesTest-weaker}
use Rattle.quick_cache_locked.specs.Changes.{LeavesOf}
use Rattle.quick_cache_sync.specs.Answers.{ChangesOrTakesSo}

module _ {K V : Type 0} (first second : K → V → Bool → Type 0)
    (says : (key : K) (value : V) (answer : Bool) → first key value answer
    → second key value answer) where
  -- what was answered may be said in other words
  StayAsAnswered-says : (olds news : List (Item K V)) → StayAsAnswered first olds news
      → StayAsAnswered second olds news
  StayAsAnswered-says _ _ StayAsAnswered.ends = StayAsAnswered.ends
  StayAsAnswered-says _ _ (StayAsAnswered.stays item olds news said rest) =
      StayAsAnswered.stays item olds news (says item.key item.value _ said)
      (StayAsAnswered-says olds news rest)
  StayAsAnswered-says _ _ (StayAsAnswered.goes item olds news said rest) =
      StayAsAnswered.goes item olds news (says item.key item.value _ said)
      (StayAsAnswered-says olds news rest)

  pub RetainsAsked-says : (old new : CacheState K V) → RetainsAsked first old new
      → RetainsAsked second old new
  RetainsAsked-says old new retains = record {
    hot = StayAsAnswered-says old.hot new.hot retains.hot;
    cold = StayAsAnswered-says old.cold new.cold retains.cold;
    still = StayAsAnswered-says old.still new.still retains.still;
    same = retains.same;
  }

module _ {K V T : Type 0} (first second : V → T → V → Type 0)
    (changes : (value : V) (told : T) (left : V) → first value told left → second value told left)
    (stands_for : K → Bool) (answers other : V → Bool → Type 0)
    (says : (value : V) (said : Bool) → answers value said → other value said) (rules : Rules K V)
    (old : CacheState K V) where
  -- so may what a callback told and left, and what a test answered
  pub ChangesOrTakesSo-says : (answer : Result T (Option (K × V)))
      → ChangesOrTakesSo first stands_for answers rules old answer
      → ChangesOrTakesSo second stands_for other rules old answer
  ChangesOrTakesSo-says (Ok told) so = record {
    new = so.new;
    step = record {
      value = so.step.value;
      mid = so.step.mid;
      looks_up = PassesTest-weaker stands_for answers other says old so.step.value so.step.mid
          so.step.looks_up;
      left = so.step.left;
      changed = changes so.step.value told so.step.left so.step.changed;
      writes = so.step.writes;
    };
  }
  ChangesOrTakesSo-says (Err taken) so = record {
    new = so.new;
    step = LooksUpOrTakesOut-weaker stands_for answers other says old (Err taken) so.new so.step;
  }

-- what is true of the references that a callback is shown and leaves is true of their values
pub LeavesOf-says : {F V T : Type 0}
    (calls : Once F (MutBor V × Unit {0}) (T × (MutBor V × Unit {0}))) (change : F)
    (P : V → T → V → Type 0) (value : V) (told : T) (left : V)
    → (leaves : LeavesOf calls change value told left)
    → P leaves.shown.now told leaves.left_by.now → P value told left
LeavesOf-says calls change P value told left leaves holds =
    subst (λ v. P v told left) leaves.shows (subst (P leaves.shown.now told) leaves.leaves holds)
