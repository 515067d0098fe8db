-- Walks that show all pairs.
use Rattle.std.proofs.Common.{◌≡◌, List, [], ◌∷◌, ◌++◌, sym, subst, ◌∙◌}
use Rattle.std.proofs.lemmas.List.{append-nil}
use Rattle.quick_cache_model.proofs.RunLemmas.{took_one}
use Rattle.quick_cache_model.specs.Shown.{ArePairsShown}

module _ {K V : Type 0} (shows_key : K → K → Type 0) (shows : V → V → Type 0) where
  -- one pair more is shown
  pub ArePairsShown-push : (found shown : List (K × V)) (pair other : K × V)
      → ArePairsShown shows_key shows found shown → shows_key pair.0 other.0 → shows pair.1 other.1
      → ArePairsShown shows_key shows (found ++ pair ∷ []) (shown ++ other ∷ [])
  ArePairsShown-push [] [] pair other are is_key is_value = (is_key, is_value, tt)
  ArePairsShown-push [] (y ∷ ys) pair other are is_key is_value = absurd are
  ArePairsShown-push (x ∷ xs) [] pair other are is_key is_value = absurd are
  ArePairsShown-push (x ∷ xs) (y ∷ ys) pair other are is_key is_value =
      (are.0, are.1, ArePairsShown-push xs ys pair other are.2 is_key is_value)

  -- of all pairs, those that are not left are shown
  pub record HasShown (all shown left : List (K × V)) : Type 0 where
    pub given : List (K × V)
    pub split : all ≡ given ++ left
    pub are : ArePairsShown shows_key shows given shown

  -- none is shown as yet
  pub HasShown-none : (all shown left : List (K × V)) → left ≡ all → shown ≡ []
      → HasShown all shown left
  HasShown-none all [] left same none = record { given = []; split = sym same; are = tt }
  HasShown-none all (x ∷ xs) left same none = absurd cc

  pub HasShown-more : (all shown left less : List (K × V)) (pair other : K × V)
      → HasShown all shown left → left ≡ pair ∷ less
      → shows_key pair.0 other.0 → shows pair.1 other.1
      → HasShown all (shown ++ other ∷ []) less
  HasShown-more all shown left less pair other has first is_key is_value = record {
    given = has.given ++ pair ∷ [];
    split = took_one all has.given left less pair has.split first;
    are = ArePairsShown-push has.given shown pair other has.are is_key is_value;
  }

  pub HasShown-all : (all shown left : List (K × V)) → HasShown all shown left → left ≡ []
      → ArePairsShown shows_key shows all shown
  HasShown-all all shown left has none =
      subst (λ pairs. ArePairsShown shows_key shows pairs shown)
      (sym (has.split ∙ (λ i. has.given ++ none i) ∙ append-nil has.given)) has.are
