-- Candidates for a hash: each token to which it leads is among them, and each is there.
use Rattle.std.proofs.Common.{◌≡◌, ℕ, ◌<◌, ◌⊎◌, eqb, List, [], ◌∷◌, get_or, Option, Some, None, sym, ap, subst, ◌∙◌, inl, inr, arith}
use Rattle.std.specs.List.{filter_map, cons_option}
use Rattle.std.proofs.lemmas.Bool.{eqb-true, lt-ltb}
use Rattle.std.proofs.lemmas.List.Sums.{sum_by-cons}
use Rattle.quick_cache_index.specs.declared.index.walk.Walk.{Walk}
use Rattle.quick_cache_index.specs.Index.{Index, Leads, AreCandidates}
use Rattle.quick_cache_index.specs.IndexGroups.{tagged_token, positions_left, candidates_left, IsWalk, CoversTagged}
use Rattle.quick_cache_index.proofs.CountedTokens.{bool_tells, bit, inside-some, count_by-place}
use Rattle.quick_cache_index.proofs.WalkedTokens.{times, tag_of-some, tagged_token-some}

-- the first of what is given, or another
given_first : (k : ℕ) (o : Option ℕ) (rest : List ℕ) → 0 < times k (cons_option o rest)
    → (o ≡ Some k) ⊎ (0 < times k rest)
given_first k None rest some = inr some
given_first k (Some token) rest some =
    elim (bool_tells (eqb token k)) [
      | inl holds ↦ inl (ap (λ t. Some t) (eqb-true token k holds))
      | inr fails ↦ inr
          (omega (arith, some, sum_by-cons (λ t. bit (eqb t k)) token rest, ap bit fails))
    ]

-- what is given is given at some position
given_at : (give : ℕ → Option ℕ) (k : ℕ) (positions : List ℕ)
    → 0 < times k (filter_map give positions) → (position : ℕ) × (give position ≡ Some k)
given_at give k [] some = absurd (omega (arith, some))
given_at give k (position ∷ rest) some =
    elim (given_first k (give position) (filter_map give rest) some) [
      | inl here ↦ (position, here)
      | inr more ↦ given_at give k rest more
    ]

-- a token to which a hash leads is among those that cover it
pub times-leads : (index : Index) (hash token : ℕ) (found : List ℕ) → Leads index hash token
    → CoversTagged index.tags index.tokens index.reaches index.mask hash found
    → 0 < times token found
times-leads index hash token found leads all =
    let at = all leads.position
    (inside-some index.tokens leads.position (omega (arith, leads.some, leads.there))) leads.tag
    leads.reached in
    let P : ℕ → Type 0 = λ k. 0 < times k found in
    subst P leads.there at

-- what a walk over an index has to meet are candidates, where it covers the hash
pub AreCandidates-walk : (index : Index) (walk : Walk) (hash : ℕ) → walk.tokens.now ≡ index.tokens
    → IsWalk walk
    → CoversTagged index.tags index.tokens index.reaches index.mask hash (candidates_left walk)
    → AreCandidates index hash (candidates_left walk)
AreCandidates-walk index walk hash same is all = record {
  all = λ token leads. times-leads index hash token (candidates_left walk) leads all;
  only = λ token some.
      let given = given_at (tagged_token walk.tags.now walk.tokens.now walk.hash) token
      (positions_left walk) some in
      let position = given.0 in
      let at = tagged_token-some walk.tags.now walk.tokens.now walk.hash position token given.1 in
      let taken = is.taken position (omega (arith, at.0, tag_of-some walk.hash)) in
      let there : get_or index.tokens position 0 ≡ token =
      ap (λ ts. get_or ts position 0) (sym same) ∙ at.1 in
      lt-ltb _ _ (count_by-place index.tokens position token (omega (arith, taken, at.1)) there);
}

-- what covers the lists that were lent covers those of the index
pub CoversTagged-lent : (index : Index) (tags tokens reaches : List ℕ) (mask hash : ℕ)
    (found : List ℕ) → tags ≡ index.tags → tokens ≡ index.tokens → reaches ≡ index.reaches
    → mask ≡ index.mask → CoversTagged tags tokens reaches mask hash found
    → CoversTagged index.tags index.tokens index.reaches index.mask hash found
CoversTagged-lent index tags tokens reaches mask hash found tags_are tokens_are reaches_are mask_is
    covers =
    let T : List ℕ → Type 0 = λ ts. CoversTagged ts tokens reaches mask hash found in
    let K : List ℕ → Type 0 = λ ts. CoversTagged index.tags ts reaches mask hash found in
    let R : List ℕ → Type 0 = λ rs. CoversTagged index.tags index.tokens rs mask hash found in
    let M : ℕ → Type 0 = λ m. CoversTagged index.tags index.tokens index.reaches m hash found in
    subst M mask_is (subst R reaches_are (subst K tokens_are (subst T tags_are covers)))
