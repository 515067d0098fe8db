-- What a drain gives, step by step.
use Rattle.std.proofs.Common.{◌≡◌, ◌≤◌, List, [], ◌∷◌, ◌++◌, Some, refl, ap, subst, ◌∙◌, arith}
use Rattle.std.specs.Borrow.{MutBor}
use Rattle.std.specs.List.Sorted.{IsPermutation}
use Rattle.std.proofs.lemmas.List.Sorted.{IsPermutation-refl, IsPermutation-trans, IsPermutation-cons, IsPermutation-map}
use Rattle.std.proofs.lemmas.List.Sorted.{IsPermutation-middle, IsPermutation-append_left, IsPermutation-append_right}
use Rattle.quick_cache_model.specs.CacheState.{CacheState, Item, Place, InHot, InCold, InStill, items_at, with_items}
use Rattle.quick_cache_model.specs.Removal.{cleared, pair_of}
use Rattle.quick_cache_policy.specs.Tokens.{TakesItem}
use Rattle.quick_cache_shard.specs.Shard.{Shard, KeepsWork, residents}
use Rattle.quick_cache_shard.specs.ShardDrain.{GivesOne, KeepsBesideItems, pairs_in, DrainSteps, DrainsAlong, DrainsInAll}

module _ {K V : Type 0} where
  -- an item that goes from its place goes from all items, and nothing else does
  pub residents-taken : (place : Place) (old new : CacheState K V) (before : List (Item K V))
      (item : Item K V) (after : List (Item K V))
      → items_at place old ≡ before ++ item ∷ after
      → new ≡ with_items place (before ++ after) old
      → IsPermutation (residents old) (item ∷ residents new)
  residents-taken InHot old new before item after split rest =
      rw (split, rest) (IsPermutation-append_left old.still _ _
      (IsPermutation-append_left old.cold (before ++ item ∷ after) (item ∷ (before ++ after))
      (IsPermutation-middle before item after)))
  residents-taken InCold old new before item after split rest =
      rw (split, rest) (IsPermutation-append_left old.still _ _ (IsPermutation-trans _ _ _
      (IsPermutation-append_right old.hot (before ++ item ∷ after) (item ∷ (before ++ after))
      (IsPermutation-middle before item after))
      (IsPermutation-middle old.hot item (before ++ after))))
  residents-taken InStill old new before item after split rest =
      rw (split, rest) (IsPermutation-trans _ _ _
      (IsPermutation-append_right (old.hot ++ old.cold) (before ++ item ∷ after)
      (item ∷ (before ++ after)) (IsPermutation-middle before item after))
      (IsPermutation-middle (old.hot ++ old.cold) item (before ++ after)))

  -- what stays beside the items does not change as one goes
  with_items-cleared : (place : Place) (items : List (Item K V)) (state : CacheState K V)
      → cleared (with_items place items state) ≡ cleared state
  with_items-cleared InHot items state = refl
  with_items-cleared InCold items state = refl
  with_items-cleared InStill items state = refl

module _ {K V We B L : Type 0} where
  -- nothing changes
  pub KeepsBesideItems-refl : (shard : Shard K V We B L) → KeepsBesideItems shard shard
  KeepsBesideItems-refl shard = record { cleared = refl; room = omega arith; same = refl }

  pub KeepsBesideItems-trans : (old mid new : Shard K V We B L) → KeepsBesideItems old mid
      → KeepsBesideItems mid new → KeepsBesideItems old new
  KeepsBesideItems-trans old mid new first second = record {
    cleared = second.cleared ∙ first.cleared;
    room = omega (arith, first.room, second.room);
    same = second.same
        ∙ ap (λ (s : Shard K V We B L). record s { state = new.state; places = new.places; room = new.room }) first.same;
  }

  -- one step of a drain: what it gives, and what stays
  pub TakesItem-gives : (old new : Shard K V We B L) (pair : K × V)
      → TakesItem old.state pair new.state
      → GivesOne (pairs_in old) (Some pair) (pairs_in new)
  TakesItem-gives old new pair takes =
      rw takes.gives (IsPermutation-map pair_of _ _
      (residents-taken takes.place old.state new.state takes.before takes.item takes.after
      takes.split takes.rest))

  pub TakesItem-keeps : (old new : Shard K V We B L) (pair : K × V)
      → TakesItem old.state pair new.state → old.room ≤ new.room → KeepsWork old new
      → KeepsBesideItems old new
  TakesItem-keeps old new pair takes room same = record {
    cleared = ap cleared takes.rest
        ∙ with_items-cleared takes.place (takes.before ++ takes.after) old.state;
    room = room;
    same = same;
  }

module _ {D K V We B L : Type 0} (held : D → MutBor (Shard K V We B L)) where
  -- an item is taken out
  pub DrainSteps-takes : (old new : D) (pair : K × V)
      → (held new).ghost_name ≡ (held old).ghost_name
      → TakesItem (held old).now.state pair (held new).now.state
      → (held old).now.room ≤ (held new).now.room → KeepsWork (held old).now (held new).now
      → DrainSteps held old (Some pair) new
  DrainSteps-takes old new pair lender takes room same = (
    TakesItem-gives (held old).now (held new).now pair takes,
    record {
      lender = lender;
      shard = TakesItem-keeps (held old).now (held new).now pair takes room same;
    },
  )

  -- calls of `next` drain along
  pub Drains_in_all : (first : D) → DrainsInAll held first
  Drains_in_all first [] later run =
      subst (DrainsAlong held first []) run (record {
        gives = IsPermutation-refl _;
        keeps = record { lender = refl; shard = KeepsBesideItems-refl _ };
      })
  Drains_in_all first (pair ∷ taken) later run =
      let step = run.1.1 in
      let rest = Drains_in_all run.0 taken later run.2 in
      record {
        gives = IsPermutation-trans _ _ _ run.1.0 (IsPermutation-cons pair _ _ rest.gives);
        keeps = record {
          lender = rest.keeps.lender ∙ step.lender;
          shard = KeepsBesideItems-trans _ _ _ step.shard rest.keeps.shard;
        };
      }
