-- Clones of what an iterator gave are added to a list.
use Rattle.std.proofs.Common.{◌≡◌, List, [], ◌∷◌, ◌++◌, map, refl, ap, sym, subst, ◌∙◌, append-nil}
use Rattle.std.specs.List.{AllZip, AppendsClones}
use Rattle.std.proofs.lemmas.List.{append_assoc, map-append}
use Rattle.std.proofs.lemmas.List.Elements.{AllZip-push}

module _ {X Y : Type 0} (clones : Y → Y → Type 0) (of : X → Y) where
  -- what came first of all is in the list as clones, and the others are left
  pub record CameFirst (all left : List X) (old now : List Y) : Type 0 where
    pub came : List X
    pub split : all ≡ came ++ left
    pub added : AppendsClones clones old now (map of came)

  -- nothing came
  pub CameFirst-none : (all : List X) (old : List Y) → CameFirst all all old old
  CameFirst-none all old = record {
    came = [];
    split = refl;
    added = ([], sym (append-nil old), tt);
  }

  -- one more came
  pub CameFirst-next : (all left rest : List X) (item : X) (clone : Y) (old now new : List Y)
      → left ≡ item ∷ rest → new ≡ now ++ clone ∷ [] → clones (of item) clone
      → CameFirst all left old now → CameFirst all rest old new
  CameFirst-next all left rest item clone old now new first grown one so_far = record {
    came = so_far.came ++ item ∷ [];
    split = so_far.split ∙ (ap (λ xs. so_far.came ++ xs) first
        ∙ sym (append_assoc so_far.came (item ∷ []) rest));
    added = (
      so_far.added.0 ++ clone ∷ [],
      grown ∙ (ap (λ xs. xs ++ clone ∷ []) so_far.added.1
          ∙ append_assoc old so_far.added.0 (clone ∷ [])),
      subst (λ xs. AllZip clones xs (so_far.added.0 ++ clone ∷ []))
          (sym (map-append of so_far.came (item ∷ [])))
          (AllZip-push clones (map of so_far.came) so_far.added.0 (of item) clone
          so_far.added.2 one),
    );
  }

  -- all came
  pub CameFirst-all : (all left : List X) (old now : List Y) → left ≡ []
      → CameFirst all left old now → AppendsClones clones old now (map of all)
  CameFirst-all all left old now none so_far =
      subst (λ xs. AppendsClones clones old now (map of xs))
      (sym (so_far.split ∙ (ap (λ xs. so_far.came ++ xs) none ∙ append-nil so_far.came)))
      so_far.added
