-- Items under their tokens: each token has one, so what is said of a token is said of its item.
use Rattle.std.proofs.Common.{◌≡◌, ◌≢◌, ℕ, ◌==◌, Bool, true, false, if◌then◌else◌, List, [], ◌∷◌, ◌++◌, refl, sym, ap, subst, ◌∙◌}
use Rattle.quick_cache_model.specs.CacheState.{Item, Place, InHot, InCold, InStill}
use Rattle.quick_cache_model.specs.Touches.{with_touches, raised_by, counted_up}
use Rattle.quick_cache_store.specs.Lists.{HeldItem, Lists, StandsIn, HasItem, IsItemOf, AreApart, items_at, with_change, with_counts}
use Rattle.quick_cache_store.proofs.lists.CallerLemmas.{change-hot, change-cold, change-still}
use Rattle.std.proofs.lemmas.Bool.{eqb-true}

module _ {X : Type 0} where
  -- what stands between the same two lists is the same
  pub same_between : (before after : List X) (x y : X) → before ++ x ∷ after ≡ before ++ y ∷ after
      → x ≡ y
  same_between [] after x y same = cc
  same_between (z ∷ zs) after x y same =
      let tail : zs ++ x ∷ after ≡ zs ++ y ∷ after = cc in same_between zs after x y tail

module _ {K V P : Type 0} (lists : Lists K V P) (apart : AreApart lists) where
  -- what a change makes of the list that the item stands in
  pub items_at-change : (change : Item K V → Item K V) (place : Place)
      (before after : List (HeldItem K V)) (held : HeldItem K V)
      → items_at place lists ≡ before ++ held ∷ after
      → items_at place (with_change held.token change lists)
      ≡ before ++ record held { item = change held.item } ∷ after
  items_at-change change InHot before after held split =
      ap (λ (l : Lists K V P). l.hot) (change-hot lists apart change before after held split)
  items_at-change change InCold before after held split =
      ap (λ (l : Lists K V P). l.cold) (change-cold lists apart change before after held split)
  items_at-change change InStill before after held split =
      ap (λ (l : Lists K V P). l.still) (change-still lists apart change before after held split)

  -- a change that leaves the item as it is leaves the lists
  pub with_change-same : (change : Item K V → Item K V) (held : HeldItem K V) → HasItem lists held
      → change held.item ≡ held.item → with_change held.token change lists ≡ lists
  with_change-same change held has same = go has.place has.stands
    where
      go : (place : Place) → StandsIn (items_at place lists) held
          → with_change held.token change lists ≡ lists
      go InHot s = change-hot lists apart change s.before s.after held s.split
          ∙ ap (λ (i : Item K V). record lists
          { hot = s.before ++ record held { item = i } ∷ s.after }) same
          ∙ ap (λ (xs : List (HeldItem K V)). record lists { hot = xs }) (sym s.split)
      go InCold s = change-cold lists apart change s.before s.after held s.split
          ∙ ap (λ (i : Item K V). record lists
          { cold = s.before ++ record held { item = i } ∷ s.after }) same
          ∙ ap (λ (xs : List (HeldItem K V)). record lists { cold = xs }) (sym s.split)
      go InStill s = change-still lists apart change s.before s.after held s.split
          ∙ ap (λ (i : Item K V). record lists
          { still = s.before ++ record held { item = i } ∷ s.after }) same
          ∙ ap (λ (xs : List (HeldItem K V)). record lists { still = xs }) (sym s.split)

  -- two items of one token are one: to write the one over the other changes nothing
  pub HasItem-one : (held other : HeldItem K V) → HasItem lists held → HasItem lists other
      → other.token ≡ held.token → held.item ≡ other.item
  HasItem-one held other has has' same =
      let s = has'.stands in
      let kept = subst (λ t. with_change t (λ _. held.item) lists ≡ lists) (sym same)
      (with_change-same (λ _. held.item) held has refl) in
      ap (λ (h : HeldItem K V). h.item)
      (same_between s.before s.after (record other { item = held.item }) other
      (sym (items_at-change (λ _. held.item) has'.place s.before s.after other s.split)
      ∙ ap (items_at has'.place) kept ∙ s.split))

  -- the item of the first token of the cold ring is its first item
  pub IsItemOf-first_cold : (held : HeldItem K V) (rest : List (HeldItem K V)) (item : Item K V)
      → lists.cold ≡ held ∷ rest → IsItemOf lists held.token item → item ≡ held.item
  IsItemOf-first_cold held rest item split is =
      HasItem-one (record { token = held.token; hash = is.0; item = item }) held is.1
      (record { place = InCold; stands = record { before = []; after = rest; split = split } }) refl

  -- an item that is given its own counts leaves the lists as they are
  pub with_change-own_counts : (token : ℕ) (item : Item K V) → IsItemOf lists token item
      → with_change token (with_counts item.mark item.reads) lists ≡ lists
  with_change-own_counts token item is =
      with_change-same (with_counts item.mark item.reads)
      (record { token = token; hash = is.0; item = item }) is.1 refl

module _ {K V : Type 0} where
  -- touches that were taken in, where there are any
  pub with_touches-some : (cut n : ℕ) (item : Item K V) → n ≢ 0
      → with_touches cut n item
      ≡ record item { mark = raised_by cut n item.mark; reads = counted_up n item.reads }
  with_touches-some cut n item some = go (n == 0) refl
    where
      raised : Item K V
      raised = record item { mark = raised_by cut n item.mark; reads = counted_up n item.reads }

      go : (b : Bool) → (n == 0) ≡ b → (if b then item else raised) ≡ raised
      go true is = absurd (some (eqb-true n 0 is))
      go false is = refl
