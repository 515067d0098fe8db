-- For callers: each token has one entry, so what is found under the token of a known entry is that
-- entry; and the lists without the first of a list, or without the last ghost.
use Rattle.std.proofs.Common.{◌≡◌, ℕ, ◌+◌, ◌≤◌, false, List, [], ◌∷◌, ◌++◌, map, refl, sym, ap, subst, ◌∙◌, arith, append-nil}
use Rattle.quick_cache_model.specs.declared.queue.Queue.{Queue}
use Rattle.quick_cache_model.specs.CacheState.{Place, InHot, InCold, InStill, ring_place}
use Rattle.quick_cache_store.specs.Pool.{times}
use Rattle.quick_cache_store.proofs.pool.TokenCounts.{times-here, times-append}
use Rattle.quick_cache_store.specs.declared.slots.entry.Entry.{Entry}
use Rattle.quick_cache_store.specs.Lists.{HeldItem, HeldLoading, HeldGhost, Lists, StandsIn, HasItem, IsEntry, AreApart, items_at}
use Rattle.quick_cache_store.specs.Lists.{with_items, without_entry}
use Rattle.quick_cache_store.proofs.lists.CallerLemmas.{stands-once, without-hot, without-cold, without-ghost}

module _ {X : Type 0} (name : X → ℕ) (t : ℕ) where
  -- of a list that has a token once, two elements of that token are one
  pub one-element : (before after before' after' : List X) (x y : X)
      → before ++ x ∷ after ≡ before' ++ y ∷ after' → name x ≡ t → name y ≡ t
      → times t (map name (before ++ x ∷ after)) ≤ 1 → y ≡ x
  one-element [] after [] after' x y same is is' once = cc same
  one-element [] after (z ∷ zs) after' x y same is is' once =
      absurd (omega (
        arith,
        once,
        ap (times t) (ap (λ (n : ℕ). n ∷ map name after) is),
        times-here t (map name after),
        stands-once name t after zs after' y (cc same) is',
      ))
  one-element (z ∷ zs) after [] after' x y same is is' once =
      absurd (omega (
        arith,
        once,
        ap (λ (l : List X). times t (map name l)) same,
        ap (times t) (ap (λ (n : ℕ). n ∷ map name after') is'),
        times-here t (map name after'),
        stands-once name t after' zs after x (cc same) is,
      ))
  one-element (z ∷ zs) after (w ∷ ws) after' x y same is is' once =
      one-element zs after ws after' x y (cc same) is is'
      (omega (arith, once, times-append t (name z ∷ []) (map name (zs ++ x ∷ after))))

module _ {K V P : Type 0} (lists : Lists K V P) (apart : AreApart lists) where
  -- ---- the first item of a ring has its token alone

  module _ (held : HeldItem K V) (rest : List (HeldItem K V)) where
    -- an item of that token is the first of the ring
    pub first-item : (queue : Queue) (other : HeldItem K V)
        → items_at (ring_place queue) lists ≡ held ∷ rest → HasItem lists other
        → other.token ≡ held.token → other ≡ held
    first-item Queue.Hot other split has is = go has.place has.stands
      where
        go : (place : Place) → StandsIn (items_at place lists) other → other ≡ held
        go InHot stands =
            one-element (λ (h : HeldItem K V). h.token) held.token [] rest stands.before
            stands.after held other (sym split ∙ stands.split) refl is
            (omega (
              arith,
              apart held.token,
              ap (λ (l : List (HeldItem K V)). times held.token (map (λ h. h.token) l)) split,
            ))
        go InCold stands =
            absurd (omega (
              arith,
              apart held.token,
              stands-once (λ (h : HeldItem K V). h.token) held.token lists.hot [] rest held split
                  refl,
              stands-once (λ (h : HeldItem K V). h.token) held.token lists.cold stands.before
                  stands.after other stands.split is,
            ))
        go InStill stands =
            absurd (omega (
              arith,
              apart held.token,
              stands-once (λ (h : HeldItem K V). h.token) held.token lists.hot [] rest held split
                  refl,
              stands-once (λ (h : HeldItem K V). h.token) held.token lists.still stands.before
                  stands.after other stands.split is,
            ))
    first-item Queue.Cold other split has is = go has.place has.stands
      where
        go : (place : Place) → StandsIn (items_at place lists) other → other ≡ held
        go InCold stands =
            one-element (λ (h : HeldItem K V). h.token) held.token [] rest stands.before
            stands.after held other (sym split ∙ stands.split) refl is
            (omega (
              arith,
              apart held.token,
              ap (λ (l : List (HeldItem K V)). times held.token (map (λ h. h.token) l)) split,
            ))
        go InHot stands =
            absurd (omega (
              arith,
              apart held.token,
              stands-once (λ (h : HeldItem K V). h.token) held.token lists.cold [] rest held split
                  refl,
              stands-once (λ (h : HeldItem K V). h.token) held.token lists.hot stands.before
                  stands.after other stands.split is,
            ))
        go InStill stands =
            absurd (omega (
              arith,
              apart held.token,
              stands-once (λ (h : HeldItem K V). h.token) held.token lists.cold [] rest held split
                  refl,
              stands-once (λ (h : HeldItem K V). h.token) held.token lists.still stands.before
                  stands.after other stands.split is,
            ))

    -- no placeholder has it
    pub first-loading : (queue : Queue) (waiting : HeldLoading K P)
        → items_at (ring_place queue) lists ≡ held ∷ rest → StandsIn lists.loading waiting
        → waiting.token ≡ held.token → ⊥
    first-loading Queue.Hot waiting split stands is =
        omega (
          arith,
          apart held.token,
          stands-once (λ (h : HeldItem K V). h.token) held.token lists.hot [] rest held split refl,
          stands-once (λ (w : HeldLoading K P). w.token) held.token lists.loading stands.before
              stands.after waiting stands.split is,
        )
    first-loading Queue.Cold waiting split stands is =
        omega (
          arith,
          apart held.token,
          stands-once (λ (h : HeldItem K V). h.token) held.token lists.cold [] rest held split refl,
          stands-once (λ (w : HeldLoading K P). w.token) held.token lists.loading stands.before
              stands.after waiting stands.split is,
        )

    -- and no ghost
    pub first-ghost : (queue : Queue) (shade : HeldGhost)
        → items_at (ring_place queue) lists ≡ held ∷ rest → StandsIn lists.ghosts shade
        → shade.token ≡ held.token → ⊥
    first-ghost Queue.Hot shade split stands is =
        omega (
          arith,
          apart held.token,
          stands-once (λ (h : HeldItem K V). h.token) held.token lists.hot [] rest held split refl,
          stands-once (λ (g : HeldGhost). g.token) held.token lists.ghosts stands.before
              stands.after shade stands.split is,
        )
    first-ghost Queue.Cold shade split stands is =
        omega (
          arith,
          apart held.token,
          stands-once (λ (h : HeldItem K V). h.token) held.token lists.cold [] rest held split refl,
          stands-once (λ (g : HeldGhost). g.token) held.token lists.ghosts stands.before
              stands.after shade stands.split is,
        )

    -- the lists without it
    pub without-first : (queue : Queue) (t : ℕ) → items_at (ring_place queue) lists ≡ held ∷ rest
        → held.token ≡ t
        → without_entry false t lists
        ≡ record (with_items (ring_place queue) rest lists) { next = t; room = lists.room + 1 }
    without-first Queue.Hot t split is =
        subst (λ (u : ℕ). without_entry false u lists
        ≡ record lists { hot = rest; next = u; room = lists.room + 1 }) is
        (without-hot lists apart false [] rest held split)
    without-first Queue.Cold t split is =
        subst (λ (u : ℕ). without_entry false u lists
        ≡ record lists { cold = rest; next = u; room = lists.room + 1 }) is
        (without-cold lists apart false [] rest held split)

  -- ---- the last ghost

  -- an entry of the last ghost's token is that ghost
  pub last_ghost-hash : {T : Type 0} (before : List HeldGhost) (t hash other : ℕ)
      (entry : Entry K V P T) → lists.ghosts ≡ before ++ record { token = t; hash = hash } ∷ []
      → IsEntry lists t other entry → other ≡ hash
  last_ghost-hash before t hash other (Entry.Item item) split has = go has.place has.stands
    where
      go : (place : Place)
          → StandsIn (items_at place lists) (record { token = t; hash = other; item = item })
          → other ≡ hash
      go InHot stands =
          absurd (omega (
            arith,
            apart t,
            stands-once (λ (g : HeldGhost). g.token) t lists.ghosts before [] _ split refl,
            stands-once (λ (h : HeldItem K V). h.token) t lists.hot stands.before stands.after _
                stands.split refl,
          ))
      go InCold stands =
          absurd (omega (
            arith,
            apart t,
            stands-once (λ (g : HeldGhost). g.token) t lists.ghosts before [] _ split refl,
            stands-once (λ (h : HeldItem K V). h.token) t lists.cold stands.before stands.after _
                stands.split refl,
          ))
      go InStill stands =
          absurd (omega (
            arith,
            apart t,
            stands-once (λ (g : HeldGhost). g.token) t lists.ghosts before [] _ split refl,
            stands-once (λ (h : HeldItem K V). h.token) t lists.still stands.before stands.after _
                stands.split refl,
          ))
  last_ghost-hash before t hash other (Entry.Loading awaited) split stands =
      absurd (omega (
        arith,
        apart t,
        stands-once (λ (g : HeldGhost). g.token) t lists.ghosts before [] _ split refl,
        stands-once (λ (w : HeldLoading K P). w.token) t lists.loading stands.before stands.after _
            stands.split refl,
      ))
  last_ghost-hash before t hash other Entry.Ghost split stands =
      ap (λ (g : HeldGhost). g.hash)
      (one-element (λ (g : HeldGhost). g.token) t before [] stands.before stands.after
      (record { token = t; hash = hash }) (record { token = t; hash = other })
      (sym split ∙ stands.split) refl refl
      (omega (
        arith,
        apart t,
        ap (λ (l : List HeldGhost). times t (map (λ g. g.token) l)) split,
      )))

  -- the lists without it
  pub without-last_ghost : (before : List HeldGhost) (t hash : ℕ)
      → lists.ghosts ≡ before ++ record { token = t; hash = hash } ∷ []
      → without_entry false t lists
      ≡ record lists { ghosts = before; next = t; room = lists.room + 1 }
  without-last_ghost before t hash split =
      without-ghost lists apart false before [] (record { token = t; hash = hash }) split
      ∙ ap (λ (l : List HeldGhost). record lists { ghosts = l; next = t; room = lists.room + 1 })
      (append-nil before)

  -- ---- the oldest ghost

  -- the lists without it
  pub without-first_ghost : (shade : HeldGhost) (rest : List HeldGhost) (t : ℕ)
      → lists.ghosts ≡ shade ∷ rest → shade.token ≡ t
      → without_entry false t lists
      ≡ record lists { ghosts = rest; next = t; room = lists.room + 1 }
  without-first_ghost shade rest t split is =
      subst (λ (u : ℕ). without_entry false u lists
      ≡ record lists { ghosts = rest; next = u; room = lists.room + 1 }) is
      (without-ghost lists apart false [] rest shade split)
