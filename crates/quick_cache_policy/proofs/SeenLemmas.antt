-- What a round saw of the items that it passed.
use Rattle.std.proofs.Common.{◌≡◌, ◌<◌, ◌≤◌, Bool, true, false, true≢false, List, [], ◌∷◌, ◌++◌, sym, ◌∙◌, arith}
use Rattle.quick_cache_model.specs.CacheState.{Item}
use Rattle.quick_cache_policy.specs.Rounds.{IsUnpinned, Seen}
use Rattle.quick_cache_model.proofs.EachElement.{all-append, all-left, all-right}

module _ {K V : Type 0} (steady : Type 0) (pinned : K → V → Bool) where
  -- nothing, at first
  pub seen-begins : Seen steady pinned [] false
  seen-begins = record {
    passes = λ s. tt;
    none = λ e s. tt;
    some = λ e. absurd (true≢false (sym e));
  }

  -- one more that is pinned
  pub seen-pinned : (items : List (Item K V)) (x : Item K V) (unpinned : Bool)
      → Seen steady pinned items unpinned → (steady → pinned x.key x.value ≡ true)
      → Seen steady pinned (items ++ x ∷ []) unpinned
  seen-pinned items x unpinned seen met = record {
    passes = λ s. all-append (λ i. IsUnpinned pinned i → 1 ≤ i.mark) items (x ∷ [])
        (seen.passes s) (λ u. absurd (true≢false (sym (met s) ∙ u)), tt);
    none = λ e s. all-append (λ i. pinned i.key i.value ≡ true) items (x ∷ []) (seen.none e s)
        (met s, tt);
    some = λ e. (
      λ s all. (seen.some e).0 s (all-left (λ i. pinned i.key i.value ≡ true) items (x ∷ []) all),
      λ zeros. (seen.some e).1 (all-left (λ i. i.mark ≡ 0) items (x ∷ []) zeros),
    );
  }

  -- one more that is marked
  pub seen-marked : (items : List (Item K V)) (x : Item K V) (unpinned : Bool)
      → Seen steady pinned items unpinned → 0 < x.mark → (steady → IsUnpinned pinned x)
      → Seen steady pinned (items ++ x ∷ []) true
  seen-marked items x unpinned seen marked met = record {
    passes = λ s. all-append (λ i. IsUnpinned pinned i → 1 ≤ i.mark) items (x ∷ [])
        (seen.passes s) (λ u. omega (arith, marked), tt);
    none = λ e. absurd (true≢false e);
    some = λ e. (
      λ s all. absurd (true≢false
          (sym (all-right (λ i. pinned i.key i.value ≡ true) items (x ∷ []) all).0 ∙ met s)),
      λ zeros. absurd
          (omega (arith, marked, (all-right (λ i. i.mark ≡ 0) items (x ∷ []) zeros).0)),
    );
  }
