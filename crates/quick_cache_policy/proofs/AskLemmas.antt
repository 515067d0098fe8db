-- Items that a predicate is asked of, in a walk that takes items out.
use Rattle.std.proofs.Common.{◌≡◌, ℕ, Bool, List, [], ◌∷◌, ◌++◌, ap}
use Rattle.quick_cache_model.specs.CacheState.{Place, InHot, InCold, InStill}
use Rattle.quick_cache_store.specs.Lists.{HeldItem, StandsIn, HasItem, items_at}
use Rattle.quick_cache_policy.specs.declared.contents.Contents.{Contents}
use Rattle.quick_cache_policy.proofs.RetainLemmas.{Sifted, IsSifting}

-- what stands in a list stands behind one element more
later : {X : Type 0} (first : X) (xs : List X) (x : X) → StandsIn xs x → StandsIn (first ∷ xs) x
later first xs x s = record {
  before = first ∷ s.before;
  after = s.after;
  split = ap (λ l. first ∷ l) s.split;
}

module _ {K V : Type 0} (answers : K → V → Bool → Type 0) (passed : ℕ) where
  -- an entry that is left was there
  left-stood : (olds news : List (HeldItem K V)) → Sifted answers passed olds news
      → (before : List (HeldItem K V)) (held : HeldItem K V) (after : List (HeldItem K V))
      → news ≡ before ++ held ∷ after → StandsIn olds held
  left-stood _ _ Sifted.ends [] held after split = absurd (cc)
  left-stood _ _ Sifted.ends (b ∷ before) held after split = absurd (cc)
  left-stood _ _ (Sifted.waits first olds news above rest) [] held after split =
      record { before = []; after = olds; split = cc }
  left-stood _ _ (Sifted.waits first olds news above rest) (b ∷ before) held after split =
      later first olds held (left-stood olds news rest before held after (cc))
  left-stood _ _ (Sifted.stays first olds news said rest) [] held after split =
      record { before = []; after = olds; split = cc }
  left-stood _ _ (Sifted.stays first olds news said rest) (b ∷ before) held after split =
      later first olds held (left-stood olds news rest before held after (cc))
  left-stood _ _ (Sifted.goes first olds news refused rest) before held after split =
      later first olds held (left-stood olds news rest before held after split)

  -- an item that is left was there
  pub sifting-stood : {P W A T : Type 0} (old now : Contents K V W A T P)
      → IsSifting answers passed old now → (held : HeldItem K V) → HasItem now.lists held
      → HasItem old.lists held
  sifting-stood old now sifting held has = go has.place has.stands
    where
      go : (place : Place) → StandsIn (items_at place now.lists) held → HasItem old.lists held
      go InHot s = record {
        place = InHot;
        stands = left-stood old.lists.hot now.lists.hot sifting.hot s.before held s.after s.split;
      }
      go InCold s = record {
        place = InCold;
        stands = left-stood old.lists.cold now.lists.cold sifting.cold s.before held s.after
            s.split;
      }
      go InStill s = record {
        place = InStill;
        stands = left-stood old.lists.still now.lists.still sifting.still s.before held s.after
            s.split;
      }
