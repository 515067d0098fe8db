-- Which hashes come to a state: an insert brings that of its key, a look-up and an eviction none.
use Rattle.std.proofs.Common.{◌≡◌, ◌≢◌, ℕ, ◌==◌, Bool, true, false, List, [], ◌∷◌, ◌++◌, Option, refl, sym, ap, subst, ◌∙◌}
use Rattle.std.specs.List.{AllByRecursion}
use Rattle.std.proofs.lemmas.Bool.{eqb-true, eqb-false}
use Rattle.quick_cache_model.specs.declared.queue.Queue.{Queue}
use Rattle.quick_cache_model.specs.CacheState.{CacheState, Item, Place, InHot, InCold, InStill, SameButOrder, entered, place_of_item}
use Rattle.quick_cache_model.specs.Hooks.{Rules}
use Rattle.quick_cache_model.specs.Lookups.{LooksUp, looked_up}
use Rattle.quick_cache_model.specs.Writes.{new_item, queue_for}
use Rattle.quick_cache_model.proofs.EachElement.{all-right, all-middle, all-instead, all-push, all-weaker, all-permutation}
use Rattle.quick_cache_model.proofs.Eviction.Keys.{EvictsToCapacity-none}
use Rattle.quick_cache_model.proofs.EvictionKeeps.{EvictsToCapacity-beside}
use Rattle.quick_cache_model.proofs.Valid.Places.{put}
use Rattle.quick_cache_laws.specs.Scans.{HasNoHash}
use Rattle.quick_cache_laws.proofs.Fronts.{TakesFront}
use Rattle.quick_cache_laws.proofs.Turns.{IsInserted}

-- two numbers that differ fail the test of equality
differ : (one other : ℕ) → one ≢ other → (one == other) ≡ false
differ one other apart = go (one == other) refl
  where
    go : (b : Bool) → (one == other) ≡ b → b ≡ false
    go true is = absurd (apart (eqb-true one other is))
    go false is = refl

module _ {K V : Type 0} (rules : Rules K V) where
  -- no item of the list has the hash
  abbrev pub NoneHas : ℕ → List (Item K V) → Type 0
  NoneHas hash items = AllByRecursion (λ item. rules.hash item.key ≢ hash) items

  -- a test for keys of the hash
  abbrev pub Fails : ℕ → Item K V → Type 0
  Fails hash item = (rules.hash item.key == hash) ≡ false

  none_has : (hash : ℕ) (items : List (Item K V)) → AllByRecursion (Fails hash) items
      → NoneHas hash items
  none_has hash items none = all-weaker (Fails hash) (λ item. rules.hash item.key ≢ hash)
      (λ item fails. eqb-false (rules.hash item.key) hash fails) items none

  -- From one state to the next the sizes stay, and no hash comes but those that are no others.
  pub record BringsNo (others : ℕ → Type 0) (old new : CacheState K V) : Type 0 where
    pub target : new.hot_target ≡ old.hot_target
    pub capacity : new.capacity ≡ old.capacity
    pub cold : (hash : ℕ) → others hash → NoneHas hash old.cold → NoneHas hash new.cold
    pub nothing : (hash : ℕ) → others hash → HasNoHash rules hash old → HasNoHash rules hash new

  pub brings_both : (others : ℕ → Type 0) (old mid new : CacheState K V) → BringsNo others old mid
      → BringsNo others mid new → BringsNo others old new
  brings_both others old mid new a b = record {
    target = b.target ∙ a.target;
    capacity = b.capacity ∙ a.capacity;
    cold = λ hash other none. b.cold hash other (a.cold hash other none);
    nothing = λ hash other none. b.nothing hash other (a.nothing hash other none);
  }

  -- another order of what has none
  pub brings_in_order : (others : ℕ → Type 0) (old new : CacheState K V) → SameButOrder old new
      → BringsNo others old new
  brings_in_order others old new order = record {
    target = ap (λ (s : CacheState K V). s.hot_target) order.same;
    capacity = ap (λ (s : CacheState K V). s.capacity) order.same;
    cold = λ hash other none.
        subst (λ (s : CacheState K V). NoneHas hash s.cold) (sym order.same) none;
    nothing = λ hash other none. subst (HasNoHash rules hash) (sym order.same) (record {
      keys = record {
        items = record {
          hot = none.keys.items.hot;
          cold = none.keys.items.cold;
          still = all-permutation (Fails hash) old.still new.still order.still
              none.keys.items.still;
        };
        loading = all-permutation (λ entry. (rules.hash entry.key == hash) ≡ false) old.loading
            new.loading order.loading none.keys.loading;
      };
      ghosts = none.ghosts;
    });
  }

  -- an item that enters brings its own hash
  brings_entered : (item : Item K V) (state : CacheState K V)
      → BringsNo (λ hash. hash ≢ rules.hash item.key) state (entered item state)
  brings_entered item state = go (place_of_item item)
    where
      apart : (hash : ℕ) → hash ≢ rules.hash item.key → rules.hash item.key ≢ hash
      apart hash other same = other (sym same)

      push : (hash : ℕ) → hash ≢ rules.hash item.key → (items : List (Item K V))
          → AllByRecursion (Fails hash) items → AllByRecursion (Fails hash) (items ++ item ∷ [])
      push hash other items none = all-push (Fails hash) items item none
          (differ (rules.hash item.key) hash (apart hash other))

      go : (place : Place)
          → BringsNo (λ hash. hash ≢ rules.hash item.key) state (put place item state)
      go InHot = record {
        target = refl;
        capacity = refl;
        cold = λ hash other none. none;
        nothing = λ hash other none. record {
          keys = record {
            items = record {
              hot = push hash other state.hot none.keys.items.hot;
              cold = none.keys.items.cold;
              still = none.keys.items.still;
            };
            loading = none.keys.loading;
          };
          ghosts = none.ghosts;
        };
      }
      go InCold = record {
        target = refl;
        capacity = refl;
        cold = λ hash other none. all-push (λ other. rules.hash other.key ≢ hash) state.cold item
            none (apart hash other);
        nothing = λ hash other none. record {
          keys = record {
            items = record {
              hot = none.keys.items.hot;
              cold = push hash other state.cold none.keys.items.cold;
              still = none.keys.items.still;
            };
            loading = none.keys.loading;
          };
          ghosts = none.ghosts;
        };
      }
      go InStill = record {
        target = refl;
        capacity = refl;
        cold = λ hash other none. none;
        nothing = λ hash other none. record {
          keys = record {
            items = record {
              hot = none.keys.items.hot;
              cold = none.keys.items.cold;
              still = push hash other state.still none.keys.items.still;
            };
            loading = none.keys.loading;
          };
          ghosts = none.ghosts;
        };
      }

  module _ (equal_to : K → Bool) (key : K) (value : V) (old : CacheState K V) where
    -- an insert brings the hash of its key
    pub brings_inserted : (new : CacheState K V) (is : IsInserted rules equal_to key value old new)
        → TakesFront rules (rules.weight key value) old is.mid
        → BringsNo (λ hash. hash ≢ rules.hash key) old new
    brings_inserted new is takes =
        let need = rules.weight key value in
        let beside = EvictsToCapacity-beside rules need old is.mid is.calls is.evicts in
        let item = new_item rules key value (queue_for rules old key value Queue.Cold) 0 in
        let others : ℕ → Type 0 = λ hash. hash ≢ rules.hash key in
        let made : BringsNo others old is.mid = record {
          target = beside.hot_target;
          capacity = beside.capacity;
          cold = λ hash other none.
              subst (NoneHas hash) (sym takes.cold)
              (all-right (λ item. rules.hash item.key ≢ hash) takes.front takes.rest
              (subst (NoneHas hash) takes.is_shortest.parts none));
          nothing = λ hash other none. record {
            keys = EvictsToCapacity-none (λ key. rules.hash key == hash) rules need old is.mid
                is.calls is.evicts none.keys;
            ghosts = takes.ghosts hash none.ghosts
                (none_has hash old.cold none.keys.items.cold);
          };
        } in
        subst (BringsNo others old) (sym is.same)
        (brings_both others old is.mid (entered item is.mid) made (brings_entered item is.mid))

  -- a look-up brings none
  module _ (stands_for : K → Bool) (others : ℕ → Type 0) where
    pub brings_looked : (old : CacheState K V) (found : Option V) (new : CacheState K V)
        → LooksUp stands_for old (λ item. item.value) found new → BringsNo others old new
    brings_looked old _ _ (LooksUp.hit InHot before item after there) = record {
      target = refl;
      capacity = refl;
      cold = λ hash other none. none;
      nothing = λ hash other none.
          let all = subst (AllByRecursion (Fails hash)) there.split none.keys.items.hot in
          record {
            keys = record {
              items = record {
                hot = all-instead (Fails hash) before item (looked_up old.mark_cut item) after
                    (all-middle (Fails hash) before item after all) all;
                cold = none.keys.items.cold;
                still = none.keys.items.still;
              };
              loading = none.keys.loading;
            };
            ghosts = none.ghosts;
          };
    }
    brings_looked old _ _ (LooksUp.hit InCold before item after there) = record {
      target = refl;
      capacity = refl;
      cold = λ hash other none.
          let all = subst (NoneHas hash) there.split none in
          all-instead (λ item. rules.hash item.key ≢ hash) before item
          (looked_up old.mark_cut item) after
          (all-middle (λ item. rules.hash item.key ≢ hash) before item after all) all;
      nothing = λ hash other none.
          let all = subst (AllByRecursion (Fails hash)) there.split none.keys.items.cold in
          record {
            keys = record {
              items = record {
                hot = none.keys.items.hot;
                cold = all-instead (Fails hash) before item (looked_up old.mark_cut item) after
                    (all-middle (Fails hash) before item after all) all;
                still = none.keys.items.still;
              };
              loading = none.keys.loading;
            };
            ghosts = none.ghosts;
          };
    }
    brings_looked old _ _ (LooksUp.hit InStill before item after there) = record {
      target = refl;
      capacity = refl;
      cold = λ hash other none. none;
      nothing = λ hash other none.
          let all = subst (AllByRecursion (Fails hash)) there.split none.keys.items.still in
          record {
            keys = record {
              items = record {
                hot = none.keys.items.hot;
                cold = none.keys.items.cold;
                still = all-instead (Fails hash) before item (looked_up old.mark_cut item) after
                    (all-middle (Fails hash) before item after all) all;
              };
              loading = none.keys.loading;
            };
            ghosts = none.ghosts;
          };
    }
    brings_looked old _ _ (LooksUp.miss none_there) = record {
      target = refl;
      capacity = refl;
      cold = λ hash other none. none;
      nothing = λ hash other none. record {
        keys = record {
          items = record {
            hot = none.keys.items.hot;
            cold = none.keys.items.cold;
            still = none.keys.items.still;
          };
          loading = none.keys.loading;
        };
        ghosts = none.ghosts;
      };
    }
