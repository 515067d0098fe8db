-- For callers: what a call does to the lists, told of the place where an entry stands.
use Rattle.std.proofs.Common.{◌≡◌, ℕ, ◌+◌, ◌<◌, ◌≤◌, Bool, true, false, cond, eqb, List, [], ◌∷◌, ◌++◌, map, sum_by, refl, sym, ap, ◌∙◌}
use Rattle.std.proofs.Common.{inl, inr, arith}
use Rattle.std.proofs.lemmas.Bool.{cases_eq, eq-eqb, ne_eqb}
use Rattle.std.proofs.lemmas.List.{map-append}
use Rattle.std.proofs.lemmas.List.Sums.{sum_by-cons}
use Rattle.quick_cache_model.specs.CacheState.{Item, weight_of}
use Rattle.quick_cache_store.specs.Pool.{times}
use Rattle.quick_cache_store.proofs.pool.TokenCounts.{times-here, times-other, times-append}
use Rattle.quick_cache_store.specs.Lists.{HeldItem, HeldLoading, HeldGhost, Lists, AreApart, dropped, ahead_of, behind, restarted, left_by}
use Rattle.quick_cache_store.specs.Lists.{without_entry, changed_held, with_change}
use Rattle.quick_cache_store.specs.Views.{items_of, joined_around}

module _ {X : Type 0} (name : X → ℕ) (t : ℕ) where
  -- ---- a list that the token is not in

  fewer : (x : X) (xs : List X) → times t (map name (x ∷ xs)) ≡ 0 → (name x ≡ t → ⊥)
      × (times t (map name xs) ≡ 0)
  fewer x xs out = elim (cases_eq (name x) t) [
    | inl same ↦ absurd (omega (
      arith,
      out,
      ap (times t)
          (ap (λ (n : ℕ). n ∷ map name xs) same),
      times-here t (map name xs),
    ))
    | inr other ↦ (other, omega (arith, out, times-other t (name x) (map name xs) other))
  ]

  pub dropped-other : (xs : List X) → times t (map name xs) ≡ 0 → dropped name t xs ≡ xs
  dropped-other [] out = refl
  dropped-other (x ∷ xs) out =
      let rest = fewer x xs out in rw (ne_eqb (name x) t rest.0)
      (ap (λ ys. x ∷ ys) (dropped-other xs rest.1))

  behind-other : (xs : List X) → times t (map name xs) ≡ 0 → behind name t xs ≡ []
  behind-other [] out = refl
  behind-other (x ∷ xs) out = let rest =
      fewer x xs out in rw (ne_eqb (name x) t rest.0) (behind-other xs rest.1)

  ahead_of-other : (xs : List X) → times t (map name xs) ≡ 0 → ahead_of name t xs ≡ xs
  ahead_of-other [] out = refl
  ahead_of-other (x ∷ xs) out =
      let rest = fewer x xs out in rw (ne_eqb (name x) t rest.0)
      (ap (λ ys. x ∷ ys) (ahead_of-other xs rest.1))

  pub left_by-other : (restarts : Bool) (xs : List X) → times t (map name xs) ≡ 0
      → left_by restarts name t xs ≡ xs
  left_by-other false xs out = dropped-other xs out
  left_by-other true xs out = rw (behind-other xs out, ahead_of-other xs out) refl

  -- ---- the list where the token stands

  pub dropped-split : (before after : List X) (x : X) → name x ≡ t → times t (map name before) ≡ 0
      → times t (map name after) ≡ 0 → dropped name t (before ++ x ∷ after) ≡ before ++ after
  dropped-split [] after x is out out' = rw (eq-eqb (name x) t is) (dropped-other after out')
  dropped-split (y ∷ ys) after x is out out' =
      let rest = fewer y ys out in rw (ne_eqb (name y) t rest.0)
      (ap (λ zs. y ∷ zs) (dropped-split ys after x is rest.1 out'))

  behind-split : (before after : List X) (x : X) → name x ≡ t → times t (map name before) ≡ 0
      → behind name t (before ++ x ∷ after) ≡ after
  behind-split [] after x is out = rw (eq-eqb (name x) t is) refl
  behind-split (y ∷ ys) after x is out =
      let rest = fewer y ys out in rw (ne_eqb (name y) t rest.0) (behind-split ys after x is rest.1)

  ahead_of-split : (before after : List X) (x : X) → name x ≡ t → times t (map name before) ≡ 0
      → ahead_of name t (before ++ x ∷ after) ≡ before
  ahead_of-split [] after x is out = rw (eq-eqb (name x) t is) refl
  ahead_of-split (y ∷ ys) after x is out =
      let rest = fewer y ys out in rw (ne_eqb (name y) t rest.0)
      (ap (λ zs. y ∷ zs) (ahead_of-split ys after x is rest.1))

  pub restarted-split : (before after : List X) (x : X) → name x ≡ t → times t (map name before) ≡ 0
      → restarted name t (before ++ x ∷ after) ≡ after ++ before
  restarted-split before after x is out =
      rw (behind-split before after x is out, ahead_of-split before after x is out) refl

  pub left_by-split : (restarts : Bool) (before after : List X) (x : X) → name x ≡ t
      → times t (map name before) ≡ 0 → times t (map name after) ≡ 0
      → left_by restarts name t (before ++ x ∷ after) ≡ joined_around restarts before after
  left_by-split false before after x is out out' = dropped-split before after x is out out'
  left_by-split true before after x is out out' = restarted-split before after x is out

  -- the others do not have the token, where it stands once at most
  pub record IsSingle (before after : List X) : Type 0 where
    pub out_before : times t (map name before) ≡ 0
    pub out_after : times t (map name after) ≡ 0

  pub single-split : (xs before after : List X) (x : X) → xs ≡ before ++ x ∷ after → name x ≡ t
      → times t (map name xs) ≤ 1 → IsSingle before after
  single-split xs before after x split is once =
      let all = ap (times t) (ap (map name) split ∙ map-append name before (x ∷ after)) in
      let parts = times-append t (map name before) (map name (x ∷ after)) in
      let here = ap (times t) (ap (λ (n : ℕ). n ∷ map name after) is) in
      record {
        out_before = omega (arith, once, all, parts, here, times-here t (map name after));
        out_after = omega (arith, once, all, parts, here, times-here t (map name after));
      }

  pub stands-once : (xs before after : List X) (x : X) → xs ≡ before ++ x ∷ after → name x ≡ t
      → 0 < times t (map name xs)
  stands-once xs before after x split is =
      let all = ap (times t) (ap (map name) split ∙ map-append name before (x ∷ after)) in
      let parts = times-append t (map name before) (map name (x ∷ after)) in
      let here = ap (times t) (ap (λ (n : ℕ). n ∷ map name after) is) in
      omega (arith, all, parts, here, times-here t (map name after))

  pub map-other : (change : X → X) (xs : List X) → times t (map name xs) ≡ 0
      → map (λ y. cond (eqb (name y) t) (change y) y) xs ≡ xs
  map-other change [] out = refl
  map-other change (x ∷ xs) out =
      let rest = fewer x xs out in rw (ne_eqb (name x) t rest.0)
      (ap (λ ys. x ∷ ys) (map-other change xs rest.1))

  pub map-split : (change : X → X) (before after : List X) (x : X) → name x ≡ t
      → times t (map name before) ≡ 0 → times t (map name after) ≡ 0
      → map (λ y. cond (eqb (name y) t) (change y) y) (before ++ x ∷ after) ≡ before ++ change x
      ∷ after
  map-split change [] after x is out out' =
      rw (eq-eqb (name x) t is) (ap (λ ys. change x ∷ ys) (map-other change after out'))
  map-split change (y ∷ ys) after x is out out' =
      let rest = fewer y ys out in rw (ne_eqb (name y) t rest.0)
      (ap (λ zs. y ∷ zs) (map-split change ys after x is rest.1 out'))

module _ {K V P : Type 0} (lists : Lists K V P) (apart : AreApart lists) where
  -- ---- an item that is taken from its place

  pub without-hot : (restarts : Bool) (before after : List (HeldItem K V)) (held : HeldItem K V)
      → lists.hot ≡ before ++ held ∷ after
      → without_entry restarts held.token lists
      ≡ record lists {
        hot = joined_around restarts before after;
        next = held.token;
        room = lists.room + 1;
      }
  without-hot restarts before after held split =
      let t = held.token in
      let some = stands-once (λ (h : HeldItem K V). h.token) t lists.hot before after held split
      refl in
      let once = apart t in
      let single = single-split (λ (h : HeldItem K V). h.token) t lists.hot before after held split
      refl (omega (arith, once)) in
      let hot = ap (left_by restarts (λ (h : HeldItem K V). h.token) t) split
      ∙ left_by-split (λ (h : HeldItem K V). h.token) t restarts before after held refl
      single.out_before single.out_after in
      let cold = left_by-other (λ (h : HeldItem K V). h.token) t restarts lists.cold
      (omega (arith, once, some)) in
      let still = dropped-other (λ (h : HeldItem K V). h.token) t lists.still
      (omega (arith, once, some)) in
      let loading = dropped-other (λ (w : HeldLoading K P). w.token) t lists.loading
      (omega (arith, once, some)) in
      let ghosts = left_by-other (λ (h : HeldGhost). h.token) t restarts lists.ghosts
      (omega (arith, once, some)) in
      λ i. record {
        hot = hot i;
        cold = cold i;
        still = still i;
        loading = loading i;
        ghosts = ghosts i;
        next = t;
        room = lists.room + 1;
      }

  pub without-cold : (restarts : Bool) (before after : List (HeldItem K V)) (held : HeldItem K V)
      → lists.cold ≡ before ++ held ∷ after
      → without_entry restarts held.token lists
      ≡ record lists {
        cold = joined_around restarts before after;
        next = held.token;
        room = lists.room + 1;
      }
  without-cold restarts before after held split =
      let t = held.token in
      let some = stands-once (λ (h : HeldItem K V). h.token) t lists.cold before after held split
      refl in
      let once = apart t in
      let single = single-split (λ (h : HeldItem K V). h.token) t lists.cold before after held split
      refl (omega (arith, once)) in
      let hot = left_by-other (λ (h : HeldItem K V). h.token) t restarts lists.hot
      (omega (arith, once, some)) in
      let cold = ap (left_by restarts (λ (h : HeldItem K V). h.token) t) split
      ∙ left_by-split (λ (h : HeldItem K V). h.token) t restarts before after held refl
      single.out_before single.out_after in
      let still = dropped-other (λ (h : HeldItem K V). h.token) t lists.still
      (omega (arith, once, some)) in
      let loading = dropped-other (λ (w : HeldLoading K P). w.token) t lists.loading
      (omega (arith, once, some)) in
      let ghosts = left_by-other (λ (h : HeldGhost). h.token) t restarts lists.ghosts
      (omega (arith, once, some)) in
      λ i. record {
        hot = hot i;
        cold = cold i;
        still = still i;
        loading = loading i;
        ghosts = ghosts i;
        next = t;
        room = lists.room + 1;
      }

  pub without-still : (restarts : Bool) (before after : List (HeldItem K V)) (held : HeldItem K V)
      → lists.still ≡ before ++ held ∷ after
      → without_entry restarts held.token lists
      ≡ record lists { still = before ++ after; next = held.token; room = lists.room + 1 }
  without-still restarts before after held split =
      let t = held.token in
      let some = stands-once (λ (h : HeldItem K V). h.token) t lists.still before after held split
      refl in
      let once = apart t in
      let single = single-split (λ (h : HeldItem K V). h.token) t lists.still before after held
      split refl (omega (arith, once)) in
      let hot = left_by-other (λ (h : HeldItem K V). h.token) t restarts lists.hot
      (omega (arith, once, some)) in
      let cold = left_by-other (λ (h : HeldItem K V). h.token) t restarts lists.cold
      (omega (arith, once, some)) in
      let still = ap (dropped (λ (h : HeldItem K V). h.token) t) split
      ∙ dropped-split (λ (h : HeldItem K V). h.token) t before after held refl single.out_before
      single.out_after in
      let loading = dropped-other (λ (w : HeldLoading K P). w.token) t lists.loading
      (omega (arith, once, some)) in
      let ghosts = left_by-other (λ (h : HeldGhost). h.token) t restarts lists.ghosts
      (omega (arith, once, some)) in
      λ i. record {
        hot = hot i;
        cold = cold i;
        still = still i;
        loading = loading i;
        ghosts = ghosts i;
        next = t;
        room = lists.room + 1;
      }

  -- ---- a ghost, and a placeholder

  pub without-ghost : (restarts : Bool) (before after : List HeldGhost) (shade : HeldGhost)
      → lists.ghosts ≡ before ++ shade ∷ after
      → without_entry restarts shade.token lists
      ≡ record lists {
        ghosts = joined_around restarts before after;
        next = shade.token;
        room = lists.room + 1;
      }
  without-ghost restarts before after shade split =
      let t = shade.token in
      let some = stands-once (λ (h : HeldGhost). h.token) t lists.ghosts before after shade split
      refl in
      let once = apart t in
      let single = single-split (λ (h : HeldGhost). h.token) t lists.ghosts before after shade split
      refl (omega (arith, once)) in
      let hot = left_by-other (λ (h : HeldItem K V). h.token) t restarts lists.hot
      (omega (arith, once, some)) in
      let cold = left_by-other (λ (h : HeldItem K V). h.token) t restarts lists.cold
      (omega (arith, once, some)) in
      let still = dropped-other (λ (h : HeldItem K V). h.token) t lists.still
      (omega (arith, once, some)) in
      let loading = dropped-other (λ (w : HeldLoading K P). w.token) t lists.loading
      (omega (arith, once, some)) in
      let ghosts = ap (left_by restarts (λ (h : HeldGhost). h.token) t) split
      ∙ left_by-split (λ (h : HeldGhost). h.token) t restarts before after shade refl
      single.out_before single.out_after in
      λ i. record {
        hot = hot i;
        cold = cold i;
        still = still i;
        loading = loading i;
        ghosts = ghosts i;
        next = t;
        room = lists.room + 1;
      }

  pub without-loading : (restarts : Bool) (before after : List (HeldLoading K P))
      (waiting : HeldLoading K P) → lists.loading ≡ before ++ waiting ∷ after
      → without_entry restarts waiting.token lists
      ≡ record lists { loading = before ++ after; next = waiting.token; room = lists.room + 1 }
  without-loading restarts before after waiting split =
      let t = waiting.token in
      let some = stands-once (λ (w : HeldLoading K P). w.token) t lists.loading before after waiting
      split refl in
      let once = apart t in
      let single = single-split (λ (w : HeldLoading K P). w.token) t lists.loading before after
      waiting split refl (omega (arith, once)) in
      let hot = left_by-other (λ (h : HeldItem K V). h.token) t restarts lists.hot
      (omega (arith, once, some)) in
      let cold = left_by-other (λ (h : HeldItem K V). h.token) t restarts lists.cold
      (omega (arith, once, some)) in
      let still = dropped-other (λ (h : HeldItem K V). h.token) t lists.still
      (omega (arith, once, some)) in
      let loading = ap (dropped (λ (w : HeldLoading K P). w.token) t) split
      ∙ dropped-split (λ (w : HeldLoading K P). w.token) t before after waiting refl
      single.out_before single.out_after in
      let ghosts = left_by-other (λ (h : HeldGhost). h.token) t restarts lists.ghosts
      (omega (arith, once, some)) in
      λ i. record {
        hot = hot i;
        cold = cold i;
        still = still i;
        loading = loading i;
        ghosts = ghosts i;
        next = t;
        room = lists.room + 1;
      }

  -- ---- an item that is changed in its place

  pub change-hot : (change : Item K V → Item K V) (before after : List (HeldItem K V))
      (held : HeldItem K V) → lists.hot ≡ before ++ held ∷ after
      → with_change held.token change lists
      ≡ record lists { hot = before ++ record held { item = change held.item } ∷ after }
  change-hot change before after held split =
      let t = held.token in
      let some = stands-once (λ (h : HeldItem K V). h.token) t lists.hot before after held split
      refl in
      let once = apart t in
      let single = single-split (λ (h : HeldItem K V). h.token) t lists.hot before after held split
      refl (omega (arith, once)) in
      let made : HeldItem K V → HeldItem K V = λ h. record h { item = change h.item } in
      let hot = ap (map (changed_held t change)) split
      ∙ map-split (λ (h : HeldItem K V). h.token) t made before after held refl
      single.out_before single.out_after in
      let cold = map-other (λ (h : HeldItem K V). h.token) t made lists.cold
      (omega (arith, once, some)) in
      let still = map-other (λ (h : HeldItem K V). h.token) t made lists.still
      (omega (arith, once, some)) in
      λ i. record lists { hot = hot i; cold = cold i; still = still i }

  pub change-cold : (change : Item K V → Item K V) (before after : List (HeldItem K V))
      (held : HeldItem K V) → lists.cold ≡ before ++ held ∷ after
      → with_change held.token change lists
      ≡ record lists { cold = before ++ record held { item = change held.item } ∷ after }
  change-cold change before after held split =
      let t = held.token in
      let some = stands-once (λ (h : HeldItem K V). h.token) t lists.cold before after held split
      refl in
      let once = apart t in
      let single = single-split (λ (h : HeldItem K V). h.token) t lists.cold before after held split
      refl (omega (arith, once)) in
      let made : HeldItem K V → HeldItem K V = λ h. record h { item = change h.item } in
      let hot = map-other (λ (h : HeldItem K V). h.token) t made lists.hot
      (omega (arith, once, some)) in
      let cold = ap (map (changed_held t change)) split
      ∙ map-split (λ (h : HeldItem K V). h.token) t made before after held refl
      single.out_before single.out_after in
      let still = map-other (λ (h : HeldItem K V). h.token) t made lists.still
      (omega (arith, once, some)) in
      λ i. record lists { hot = hot i; cold = cold i; still = still i }

  pub change-still : (change : Item K V → Item K V) (before after : List (HeldItem K V))
      (held : HeldItem K V) → lists.still ≡ before ++ held ∷ after
      → with_change held.token change lists
      ≡ record lists { still = before ++ record held { item = change held.item } ∷ after }
  change-still change before after held split =
      let t = held.token in
      let some = stands-once (λ (h : HeldItem K V). h.token) t lists.still before after held split
      refl in
      let once = apart t in
      let single = single-split (λ (h : HeldItem K V). h.token) t lists.still before after held
      split refl (omega (arith, once)) in
      let made : HeldItem K V → HeldItem K V = λ h. record h { item = change h.item } in
      let hot = map-other (λ (h : HeldItem K V). h.token) t made lists.hot
      (omega (arith, once, some)) in
      let cold = map-other (λ (h : HeldItem K V). h.token) t made lists.cold
      (omega (arith, once, some)) in
      let still = ap (map (changed_held t change)) split
      ∙ map-split (λ (h : HeldItem K V). h.token) t made before after held refl
      single.out_before single.out_after in
      λ i. record lists { hot = hot i; cold = cold i; still = still i }

-- ---- tokens dropped

module _ {K V : Type 0} where
  pub items_of-split : (before after : List (HeldItem K V)) (held : HeldItem K V)
      → items_of (before ++ held ∷ after) ≡ items_of before ++ held.item ∷ items_of after
  items_of-split before after held = map-append (λ (h : HeldItem K V). h.item) before (held ∷ after)

  pub items_of-around : (restarts : Bool) (before after : List (HeldItem K V))
      → items_of (joined_around restarts before after)
      ≡ joined_around restarts (items_of before) (items_of after)
  items_of-around false before after = map-append (λ (h : HeldItem K V). h.item) before after
  items_of-around true before after = map-append (λ (h : HeldItem K V). h.item) after before

  pub weight_of-items : (xs : List (HeldItem K V))
      → sum_by (λ held. held.item.weight) xs ≡ weight_of (items_of xs)
  weight_of-items [] = refl
  weight_of-items (x ∷ xs) =
      sum_by-cons (λ (held : HeldItem K V). held.item.weight) x xs
      ∙ ap (λ n. x.item.weight + n) (weight_of-items xs)
      ∙ sym (sum_by-cons (λ (item : Item K V). item.weight) x.item (items_of xs))
