-- What holds of the slots, and what the lists show, once an entry left.
use Rattle.std.proofs.Common.{◌≡◌, ◌≢◌, ℕ, ◌+◌, ◌≤◌, Bool, true, false, ◌&&◌, not, is_some, List, ◌∷◌, ◌++◌, length, Option, Some, None}
use Rattle.std.proofs.Common.{refl, sym, ap, ◌∙◌, inl, inr, arith, true≢false}
use Rattle.std.proofs.lemmas.Bool.{cases_eq, eq-eqb, ne_eqb}
use Rattle.quick_cache_model.specs.Sequences.{times}
use Rattle.quick_cache_store.specs.Pool.{Pool, item_at}
use Rattle.quick_cache_index.specs.Index.{Index, KeepsOtherLeads, LosesToken, has_token, token_count}
use Rattle.quick_cache_store.specs.Queues.{Leaves}
use Rattle.quick_cache_store.specs.Rings.{Ring, IsLeft}
use Rattle.quick_cache_store.specs.declared.slots.entry.Slot.{Slot}
use Rattle.quick_cache_store.specs.Frames.{IsRemoved}
use Rattle.quick_cache_store.specs.Lists.{dropped, restarted, left_by}
use Rattle.quick_cache_store.specs.ListSlots.{Stand, stand_of, has_hash}
use Rattle.quick_cache_store.specs.Sound.{gather, put, IsRingOf, IsKeyed}
use Rattle.quick_cache_store.proofs.lists.GatherLemmas.{gather-append, gather-dropped, gather-restarted, gather-other, untouched}
use Rattle.quick_cache_store.proofs.lists.SoundLemmas.{vacant-stand, IsRingOf-kept}

module _ {K V P T : Type 0} (old new : Pool (Slot K V P T)) (t : ℕ)
    (removed : IsRemoved old new t) where
  -- ---- the entries that stay

  pub IsRingOf-removed : (ring : Ring) (r : Stand) → IsRingOf old ring r
      → stand_of (item_at old t) ≢ Some r → IsRingOf new ring r
  IsRingOf-removed ring r is off =
      IsRingOf-kept old new t removed.others ring r off (vacant-stand new t r removed.here) is

  pub IsKeyed-removed : (told tnew : Index) → IsKeyed old told → LosesToken told tnew t
      → KeepsOtherLeads told tnew t
      → token_count tnew + 1 ≡ token_count told → IsKeyed new tnew
  IsKeyed-removed told tnew keyed loses kept count = record {
    leads = λ h u has. elim (cases_eq u t) [
      | inl here ↦
          let gone : item_at new u ≡ None = ap (λ (w : ℕ). item_at new w) here ∙ removed.here in
          absurd (true≢false (sym has ∙ ap (has_hash h) gone))
      | inr other ↦
          kept h u other
          (keyed.leads h u (sym (ap (has_hash h) (removed.others u other)) ∙ has))
    ];
    tokens = λ u. elim (cases_eq u t) [
      | inl here ↦
          let gone : item_at new u ≡ None = ap (λ (w : ℕ). item_at new w) here ∙ removed.here in
          loses u ∙ ap (λ (b : Bool). not b && has_token told u) (eq-eqb u t here)
          ∙ sym (ap is_some gone)
      | inr other ↦ loses u ∙ ap (λ (b : Bool). not b && has_token told u) (ne_eqb u t other)
          ∙ keyed.tokens u ∙ ap is_some (sym (removed.others u other))
    ];
    few = omega (arith, removed.long, keyed.few);
    light = λ u. elim (cases_eq u t) [
      | inl here ↦ rw (here, removed.here) (omega arith)
      | inr other ↦ rw (removed.others u other) (keyed.light u)
    ];
    counted = omega (arith, removed.long, ap length removed.free, keyed.counted, count);
  }

  -- ---- what the lists show

  module _ {Y : Type 0} (shows : ℕ → Option (Slot K V P T) → Option Y)
      (nothing : (u : ℕ) → shows u None ≡ None) (name : Y → ℕ)
      (named : (u : ℕ) (o : Option (Slot K V P T)) (y : Y) → shows u o ≡ Some y → name y ≡ u) where
    abbrev now : List ℕ → List Y
    now xs = gather (λ u. shows u (item_at new u)) xs

    is_named : (u : ℕ) (y : Y) → shows u (item_at old u) ≡ Some y → name y ≡ u
    is_named u y is = named u (item_at old u) y is

    same : (u : ℕ) → u ≢ t → shows u (item_at new u) ≡ shows u (item_at old u)
    same u differs = ap (shows u) (removed.others u differs)

    gone : shows t (item_at new t) ≡ None
    gone = ap (shows t) removed.here ∙ nothing t

    -- a list of all slots
    pub view-dropped : (tokens tokens' : List ℕ) → tokens' ≡ tokens
        → gather (λ u. shows u (item_at new u)) tokens'
        ≡ dropped name t (gather (λ u. shows u (item_at old u)) tokens)
    view-dropped tokens tokens' e =
        rw e (gather-dropped name (λ u. shows u (item_at old u))
        (λ u. shows u (item_at new u)) t is_named same gone tokens)

    restarted-other : (xs : List ℕ) → times t xs ≡ 0
        → restarted name t (gather (λ u. shows u (item_at old u)) xs)
        ≡ gather (λ u. shows u (item_at old u)) xs
    restarted-other xs out =
        let both = untouched name (λ u. shows u (item_at old u)) t is_named xs out in
        rw (both.0, both.1) refl

    -- a ring that it was not in
    pub view-other : (restarts : Bool) (tokens : List ℕ) → times t tokens ≡ 0
        → gather (λ u. shows u (item_at new u)) tokens
        ≡ left_by restarts name t (gather (λ u. shows u (item_at old u)) tokens)
    view-other false tokens out = view-dropped tokens tokens refl
    view-other true tokens out =
        rw (restarted-other tokens out)
        (gather-other (λ u. shows u (item_at old u))
        (λ u. shows u (item_at new u)) t tokens same out)

    -- the ring that it left
    pub view-left : (ring left : Ring) (restarts : Bool) (w : ℕ) (y : Y)
        → shows t (item_at old t) ≡ Some y → times t ring.tokens ≤ 1 → IsLeft ring left t restarts w
        → gather (λ u. shows u (item_at new u)) left.tokens
        ≡ left_by restarts name t (gather (λ u. shows u (item_at old u)) ring.tokens)
    view-left ring left restarts w y is once leaves = by_flag restarts leaves.leaves
      where
        by_flag : (b : Bool) → Leaves b ring.tokens t left.tokens
            → gather (λ u. shows u (item_at new u)) left.tokens
            ≡ left_by b name t (gather (λ u. shows u (item_at old u)) ring.tokens)
        by_flag false l =
            let with_gap : now (l.before ++ t ∷ l.after) ≡ now l.before ++ now l.after =
            gather-append (λ u. shows u (item_at new u)) l.before (t ∷ l.after)
            ∙ ap (λ o. now l.before ++ put o (now l.after)) gone in
            ap now l.left ∙ gather-append (λ u. shows u (item_at new u)) l.before l.after
            ∙ sym with_gap ∙ ap now (sym l.split)
            ∙ gather-dropped name (λ u. shows u (item_at old u))
            (λ u. shows u (item_at new u)) t is_named same gone ring.tokens
        by_flag true l =
            ap now l.left ∙ gather-restarted name (λ u. shows u (item_at old u))
            (λ u. shows u (item_at new u)) t is_named same gone l.before l.after y is
            (omega (arith, once, ap (times t) l.split))
            ∙ ap (λ xs. restarted name t (gather (λ u. shows u (item_at old u)) xs)) (sym l.split)
