-- That placeholders that come, go and are filled, and an item that is weighed anew, move no item.
use Rattle.std.proofs.Common.{◌≡◌, ◌⊎◌, inl, inr, ℕ, Bool, true, false, cond, eqb, List, [], ◌∷◌, ◌++◌, refl, sym, ap, subst, ◌∙◌, arith}
use Rattle.std.specs.Cmp.{IsEquivalence}
use Rattle.std.specs.List.{Contains}
use Rattle.std.proofs.lemmas.List.{map-append}
use Rattle.std.proofs.lemmas.List.Elements.{Contains-append_cases}
use Rattle.quick_cache_model.specs.CacheState.{Item}
use Rattle.quick_cache_store.specs.declared.slots.entry.Awaited.{Awaited}
use Rattle.quick_cache_store.specs.declared.slots.entry.Entry.{Entry}
use Rattle.quick_cache_store.specs.Fills.{FillsToken}
use Rattle.quick_cache_store.specs.Lists.{HeldItem, HeldLoading, HeldGhost, Lists, AreApart, StandsIn, PutsItem, PutsLast, Reweighs, behind}
use Rattle.quick_cache_store.specs.Lists.{ahead_of, restarted, without_entry, with_weight}
use Rattle.quick_cache_store.proofs.lists.CallerLemmas.{without-ghost}
use Rattle.quick_cache_policy.specs.declared.contents.Contents.{Contents}
use Rattle.quick_cache_policy.specs.Contents.{IsSound}
use Rattle.quick_cache_policy.specs.Places.{place_at, places_in, places_of, LosesOnly, KeepsPlaces}
use Rattle.quick_cache_policy.proofs.FillLemmas.{awaited-is_loading, left-nowhere}
use Rattle.quick_cache_policy.proofs.LookupLemmas.{without_loading}
use Rattle.quick_cache_policy.proofs.PlaceLemmas.{LosesOnly-lists}
use Rattle.quick_cache_policy.proofs.RetainLemmas.{Sifted, IsSifting}
use Rattle.quick_cache_policy.proofs.WrittenPlaces.{Contains-later, keyed, keyed-some, keyed-state, one-place, entered-places}
use Rattle.quick_cache_policy.proofs.WrittenPlaces.{reordered-places, kept-places, dropped-places, without-places, rewritten-places}
use Rattle.quick_cache_policy.proofs.WrittenPlaces.{HasItem-place}

module _ {K V : Type 0} where
  -- the first is gone, or more
  later-places : (rest others : List (HeldItem K V)) (held : HeldItem K V) (b : Bool)
      → LosesOnly (places_in rest) (places_in others)
      → LosesOnly (place_at held ∷ places_in rest) (places_in (cond b rest others))
  later-places rest others held true fewer p there =
      Contains-later (place_at held) (places_in rest) p there
  later-places rest others held false fewer p there =
      Contains-later (place_at held) (places_in rest) p (fewer p there)

  -- nothing is left, or the first stays
  sooner-places : (rest others : List (HeldItem K V)) (held : HeldItem K V) (b : Bool)
      → LosesOnly (places_in rest) (places_in others)
      → LosesOnly (place_at held ∷ places_in rest) (places_in (cond b [] (held ∷ others)))
  sooner-places rest others held true fewer p there = absurd (omega (arith, there.1))
  sooner-places rest others held false fewer p there =
      kept-places others rest held false fewer p there

  behind-places : (token : ℕ) (entries : List (HeldItem K V))
      → LosesOnly (places_in entries) (places_in (behind (λ held. held.token) token entries))
  behind-places token [] p there = there
  behind-places token (held ∷ rest) p there =
      later-places rest (behind (λ h. h.token) token rest) held (eqb held.token token)
      (behind-places token rest) p there

  ahead_of-places : (token : ℕ) (entries : List (HeldItem K V))
      → LosesOnly (places_in entries) (places_in (ahead_of (λ held. held.token) token entries))
  ahead_of-places token [] p there = there
  ahead_of-places token (held ∷ rest) p there =
      sooner-places rest (ahead_of (λ h. h.token) token rest) held (eqb held.token token)
      (ahead_of-places token rest) p there

  -- a ring that begins behind what left
  restarted-places : (token : ℕ) (entries : List (HeldItem K V))
      → LosesOnly (places_in entries) (places_in (restarted (λ held. held.token) token entries))
  restarted-places token entries p there =
      elim (Contains-append_cases (places_in (behind (λ (h : HeldItem K V). h.token) token entries))
      (places_in (ahead_of (λ (h : HeldItem K V). h.token) token entries)) p
      (subst (λ l. Contains l p)
      (map-append place_at (behind (λ (h : HeldItem K V). h.token) token entries)
      (ahead_of (λ (h : HeldItem K V). h.token) token entries)) there)) [
        | inl back ↦ behind-places token entries p back
        | inr front ↦ ahead_of-places token entries p front
      ]

  module _ (answers : K → V → Bool → Type 0) where
    -- what was asked of each item takes some out
    sifted-places : (passed : ℕ) (olds news : List (HeldItem K V))
        → Sifted answers passed olds news → LosesOnly (places_in olds) (places_in news)
    sifted-places passed _ _ Sifted.ends p there = there
    sifted-places passed _ _ (Sifted.waits held olds news above rest) p there =
        kept-places news olds held false (sifted-places passed olds news rest) p there
    sifted-places passed _ _ (Sifted.stays held olds news said rest) p there =
        kept-places news olds held false (sifted-places passed olds news rest) p there
    sifted-places passed _ _ (Sifted.goes held olds news refused rest) p there =
        Contains-later (place_at held) (places_in olds) p
        (sifted-places passed olds news rest p there)

    pub sifting-places : {P W A T : Type 0} (passed : ℕ) (old now : Contents K V W A T P)
        → IsSifting answers passed old now
        → LosesOnly (places_of old.lists) (places_of now.lists)
    sifting-places passed old now sifting =
        LosesOnly-lists old.lists now.lists
        (sifted-places passed old.lists.hot now.lists.hot sifting.hot)
        (sifted-places passed old.lists.cold now.lists.cold sifting.cold)
        (sifted-places passed old.lists.still now.lists.still sifting.still)

module _ {K V P : Type 0} where
  -- an entry left, and its ring keeps its order or begins behind it
  pub left-places : (restarts : Bool) (token : ℕ) (lists : Lists K V P)
      → LosesOnly (places_of lists) (places_of (without_entry restarts token lists))
  left-places false token lists = without-places token lists
  left-places true token lists =
      LosesOnly-lists lists (without_entry true token lists) (restarted-places token lists.hot)
      (restarted-places token lists.cold) (dropped-places token lists.still)

  -- an item was weighed anew
  pub reweighed-places : (old new : Lists K V P) (token weight : ℕ)
      → Reweighs old token weight new → LosesOnly (places_of old) (places_of new)
  reweighed-places old new token weight reweighs p there =
      let was = reweighs.0 in
      let rewrites = reweighs.1 in
      let held : HeldItem K V = record { token = token; hash = rewrites.hash; item = was } in
      elim (rewritten-places old new token (with_weight weight was) was rewrites p there) [
        | inl stood ↦ stood
        | inr is ↦ subst (λ q. Contains (places_of old) q) (sym is) (HasItem-place old held (record {
          place = rewrites.place;
          stands = record {
            before = rewrites.before;
            after = rewrites.after;
            split = rewrites.split;
          };
        }))
      ]

  -- an item was put last
  puts-places : (old new : Lists K V P) (token hash : ℕ) (item : Item K V)
      → PutsItem old token hash item new → (p : ℕ × K) → Contains (places_of new) p
      → Contains (places_of old) p ⊎ (p ≡ (token, item.key))
  puts-places old new token hash item puts p there =
      entered-places (record { token = token; hash = hash; item = item }) old p
      (reordered-places _ new puts.put p there)

  module _ {T : Type 0} where
    -- a placeholder was put last
    pub awaited-places : (old new : Lists K V P) (token hash : ℕ) (awaited : Awaited K P)
        → PutsLast {T = T} old token hash (Entry.Loading awaited) new
        → places_of new ≡ places_of old
    awaited-places old new token hash awaited puts = λ i.
        places_in (ap (λ (l : Lists K V P). l.hot) puts.put.same i)
        ++ places_in (ap (λ (l : Lists K V P). l.cold) puts.put.same i)
        ++ places_in (puts.still_stays refl i)

    -- in the place of a ghost
    pub haunted-places : (old new : Lists K V P) → AreApart old → (shade : HeldGhost)
        → StandsIn old.ghosts shade → (hash : ℕ) (awaited : Awaited K P)
        → PutsLast {T = T} (without_entry false shade.token old) shade.token hash
        (Entry.Loading awaited) new
        → places_of new ≡ places_of old
    haunted-places old new apart shade stands hash awaited puts =
        awaited-places (without_entry false shade.token old) new shade.token hash awaited puts
        ∙ ap (λ (l : Lists K V P). places_of l)
        (without-ghost old apart false stands.before stands.after shade stands.split)

module _ {K V P W A X : Type 0} (ticket_of : P → ℕ) (contents : Contents K V W A X P)
    (apart : AreApart contents.lists) (token : ℕ) (waiting : HeldLoading K P)
    (stands : StandsIn contents.lists.loading waiting) (named : waiting.token ≡ token) where
  -- a placeholder that leaves moves no item
  unloaded-places : places_of (without_entry false token contents.lists)
      ≡ places_of contents.lists
  unloaded-places = ap (λ (l : Lists K V P). places_of l)
      (without_loading ticket_of contents apart (λ _. true) 0 token waiting stands named)

  -- nor does one that is filled, whose key stood nowhere
  pub filled-keeps : (equal : K → K → Bool) → IsEquivalence equal → (hashed : K → ℕ)
      → IsSound ticket_of equal hashed contents → (item : K → Item K V)
      → ((key : K) → (item key).key ≡ key) → (new : Lists K V P)
      → FillsToken contents.lists token item new → (last : List (ℕ × K))
      → LosesOnly (places_of new) last → KeepsPlaces equal (places_of contents.lists) last
  filled-keeps equal laws hashed sound item own new fills last loses was is there now same =
      let without = without_entry false token contents.lists in
      elim (puts-places without new token fills.hash (item fills.awaited.key) fills.last is
      (loses is now)) [
        | inl stood ↦ ap (λ (p : ℕ × K). p.0)
            (sym (one-place ticket_of contents equal sound.valid was.1 was is there
            (subst (λ l. Contains l is) unloaded-places stood) (laws.refl was.1) same))
        | inr made ↦
            let awaited : fills.awaited.key ≡ waiting.key = ap (λ (w : HeldLoading K P). w.key)
            (awaited-is_loading contents.lists apart token fills.hash fills.awaited fills.taken
            waiting stands named) in
            let key : is.1 ≡ waiting.key =
            ap (λ (p : ℕ × K). p.1) made ∙ own fills.awaited.key ∙ awaited in
            let passes : equal waiting.key was.1 ≡ true =
            laws.symm waiting.key was.1 ∙ ap (equal was.1) (sym key) ∙ same in
            absurd (omega (
              arith,
              keyed-some (equal waiting.key) (places_of contents.lists) was there passes,
              ap (λ l. keyed (equal waiting.key) l) unloaded-places,
              keyed-state ticket_of (record contents { lists = without }) (equal waiting.key),
              left-nowhere ticket_of contents apart token waiting stands named equal laws hashed
                  sound,
            ))
      ]
