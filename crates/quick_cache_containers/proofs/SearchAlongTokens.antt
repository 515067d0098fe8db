-- A search along tokens, a call at a time.
use Rattle.std.proofs.Common.{◌≡◌, ℕ, ◌<◌, Bool, true, false, eqb, List, [], ◌∷◌, Option, Some, None, refl, sym, ap, ◌∙◌, subst, inl, inr}
use Rattle.std.proofs.Common.{arith, count_by}
use Rattle.std.specs.declared.num.NonZeroU32.{NonZeroU32}
use Rattle.std.specs.Int.NonZero.{non_zero_u32_get}
use Rattle.std.proofs.lemmas.Bool.{eq-eqb}
use Rattle.std.proofs.lemmas.Bool.Decides.{eqb_tells}
use Rattle.std.proofs.lemmas.List.Sums.{sum_by-cons}
use Rattle.quick_cache_containers.specs.Table.{Table, HasPair, has_pair, SearchesAlong, CallsKeep, AnswersSo, FindsByAnswer, ComputesTest}
use Rattle.quick_cache_containers.specs.Table.{SearchesHash, FindsPassing}
use Rattle.quick_cache_index.proofs.CountedTokens.{bool_tells, bit}

some-injective : (x y : NonZeroU32) → Some x ≡ Some y → x ≡ y
some-injective x y e = cc

module _ {F : Type 0} (step : F → NonZeroU32 → Bool → F → Type 0) where
  -- it goes on where the first answer is false
  pub SearchesAlong-on : (f next : F) (token : NonZeroU32) (answer : Bool) (tokens rest : List ℕ)
      (result : Option NonZeroU32) → tokens ≡ non_zero_u32_get token ∷ rest
      → step f token answer next → answer ≡ false → SearchesAlong step next rest result
      → SearchesAlong step f tokens result
  SearchesAlong-on f next token answer tokens rest result first called fails later =
      let P : Bool → Type 0 = λ b. step f token b next in
      let Q : List ℕ → Type 0 = λ ts. SearchesAlong step f ts result in
      subst Q (sym first) (token, false, next, refl, subst P fails called, later)

  -- it ends where the first answer is true
  pub SearchesAlong-ends : (f next : F) (token : NonZeroU32) (answer : Bool) (tokens rest : List ℕ)
      → tokens ≡ non_zero_u32_get token ∷ rest → step f token answer next → answer ≡ true
      → SearchesAlong step f tokens (Some token)
  SearchesAlong-ends f next token answer tokens rest first called holds =
      let P : Bool → Type 0 = λ b. step f token b next in
      let Q : List ℕ → Type 0 = λ ts. SearchesAlong step f ts (Some token) in
      subst Q (sym first) (token, true, next, refl, subst P holds called, refl)

  -- where f computes a test, a search that found a token had it pass
  SearchesAlong-found : (f : F) (passes : ℕ → Bool) (tokens : List ℕ) (token : NonZeroU32)
      → ComputesTest step f passes → SearchesAlong step f tokens (Some token)
      → passes (non_zero_u32_get token) ≡ true
  SearchesAlong-found f passes [] token tests search_along = absurd (cc)
  SearchesAlong-found f passes (first ∷ rest) token tests (shown, true, next, at, called, ended) =
      let same : shown ≡ token = some-injective shown token (sym ended) in
      ap (λ t. passes (non_zero_u32_get t)) (sym same) ∙ sym (tests.answers shown true next called)
  SearchesAlong-found f passes (first ∷ rest) token tests (shown, false, next, at, called, later) =
      let P : F → Type 0 = λ g. SearchesAlong step g rest (Some token) in
      SearchesAlong-found f passes rest token tests
      (subst P (tests.keeps shown false next called) later)

  -- and one that found nothing had none pass
  SearchesAlong-missed : (f : F) (passes : ℕ → Bool) (tokens : List ℕ)
      → ComputesTest step f passes → SearchesAlong step f tokens None
      → (token : ℕ) → 0 < count_by (λ k. eqb k token) tokens → passes token ≡ false
  SearchesAlong-missed f passes [] tests search_along token some = absurd (omega (arith, some))
  SearchesAlong-missed f passes (first ∷ rest) tests (shown, true, next, at, called, ended) token
      some =
      absurd (cc)
  SearchesAlong-missed f passes (first ∷ rest) tests (shown, false, next, at, called, later) token
      some =
      let P : F → Type 0 = λ g. SearchesAlong step g rest None in
      let counted = sum_by-cons (λ k. bit (eqb k token)) first rest in
      elim (eqb_tells first token) [
        | inl t ↦
            let same : non_zero_u32_get shown ≡ token = at ∙ t.1 in
            ap passes (sym same) ∙ sym (tests.answers shown false next called)
        | inr t ↦
            SearchesAlong-missed f passes rest tests
            (subst P (tests.keeps shown false next called) later) token
            (omega (arith, some, counted, ap bit t.0))
      ]

  -- where calls keep f, a search that found a token had true for it
  SearchesAlong-answered : (f : F) (tokens : List ℕ) (token : NonZeroU32) → CallsKeep step f
      → SearchesAlong step f tokens (Some token) → AnswersSo step f (non_zero_u32_get token) true
  SearchesAlong-answered f [] token keeps search_along = absurd (cc)
  SearchesAlong-answered f (first ∷ rest) token keeps (shown, true, next, at, called, ended) =
      let kept : next ≡ f = keeps shown true next called in
      let P : F → Type 0 = λ g. step f shown true g in
      (shown, ap non_zero_u32_get (some-injective shown token (sym ended)), subst P kept called)
  SearchesAlong-answered f (first ∷ rest) token keeps (shown, false, next, at, called, later) =
      let P : F → Type 0 = λ g. SearchesAlong step g rest (Some token) in
      SearchesAlong-answered f rest token keeps (subst P (keeps shown false next called) later)

  -- and one that found none had false for each
  SearchesAlong-refused : (f : F) (tokens : List ℕ) → CallsKeep step f
      → SearchesAlong step f tokens None → (token : ℕ) → 0 < count_by (λ k. eqb k token) tokens
      → AnswersSo step f token false
  SearchesAlong-refused f [] keeps search_along token some = absurd (omega (arith, some))
  SearchesAlong-refused f (first ∷ rest) keeps (shown, true, next, at, called, ended) token some =
      absurd (cc)
  SearchesAlong-refused f (first ∷ rest) keeps (shown, false, next, at, called, later) token some =
      let kept : next ≡ f = keeps shown false next called in
      let P : F → Type 0 = λ g. SearchesAlong step g rest None in
      let Q : F → Type 0 = λ g. step f shown false g in
      let counted = sum_by-cons (λ k. bit (eqb k token)) first rest in
      elim (eqb_tells first token) [
        | inl t ↦ (shown, at ∙ t.1, subst Q kept called)
        | inr t ↦
            SearchesAlong-refused f rest keeps (subst P kept later) token
            (omega (arith, some, counted, ap bit t.0))
      ]

  -- a search along the tokens of a hash finds by the answers
  pub FindsByAnswer-from_search : (table : Table) (hash : ℕ) (f : F) (result : Option NonZeroU32)
      → CallsKeep step f → SearchesHash step table hash f result
      → FindsByAnswer step table hash f result
  FindsByAnswer-from_search table hash f None keeps (tokens, are, along) =
      λ token has. SearchesAlong-refused f tokens keeps along token
      (omega (arith, are token, ap bit has))
  FindsByAnswer-from_search table hash f (Some token) keeps (tokens, are, along) =
      SearchesAlong-answered f tokens token keeps along

  -- a token that a search ended at is one of those that it was led along
  SearchesAlong-has : (f : F) (tokens : List ℕ) (token : NonZeroU32)
      → SearchesAlong step f tokens (Some token)
      → 0 < count_by (λ k. eqb k (non_zero_u32_get token)) tokens
  SearchesAlong-has f [] token search_along = absurd (cc)
  SearchesAlong-has f (first ∷ rest) token (shown, true, next, at, called, ended) =
      let here : first ≡ non_zero_u32_get token =
      sym at ∙ ap non_zero_u32_get (some-injective shown token (sym ended)) in
      omega (
        arith,
        sum_by-cons (λ k. bit (eqb k (non_zero_u32_get token))) first rest,
        ap bit
            (eq-eqb first (non_zero_u32_get token) here),
      )
  SearchesAlong-has f (first ∷ rest) token (shown, false, next, at, called, later) =
      omega (
        arith,
        SearchesAlong-has next rest token later,
        sum_by-cons
            (λ k. bit (eqb k (non_zero_u32_get token))) first rest,
      )

  -- what a search of a hash finds is a token of that hash
  pub HasPair-from_search : (table : Table) (hash : ℕ) (f : F) (token : NonZeroU32)
      → SearchesHash step table hash f (Some token) → HasPair table hash (non_zero_u32_get token)
  HasPair-from_search table hash f token (tokens, are, along) =
      elim (bool_tells (has_pair table hash (non_zero_u32_get token))) [
        | inl holds ↦ holds
        | inr fails ↦
            absurd (omega (
              arith,
              SearchesAlong-has f tokens token along,
              are
                  (non_zero_u32_get token),
              ap bit fails,
            ))
      ]

  -- a search along the tokens of a hash decides by the test
  pub FindsPassing-from_search : (table : Table) (hash : ℕ) (f : F) (passes : ℕ → Bool)
      (result : Option NonZeroU32) → ComputesTest step f passes → SearchesHash step table hash f
      result
      → FindsPassing table hash passes result
  FindsPassing-from_search table hash f passes result tests (tokens, are, along) = record {
    found = λ token some.
        HasPair-from_search table hash f token
        (tokens, are, subst (λ r. SearchesAlong step f tokens r) some along);
    passed = λ token some.
        SearchesAlong-found f passes tokens token tests
        (subst (λ r. SearchesAlong step f tokens r) some along);
    missed = λ none token has.
        SearchesAlong-missed f passes tokens tests
        (subst (λ r. SearchesAlong step f tokens r) none along) token
        (omega (arith, are token, ap bit has));
  }
