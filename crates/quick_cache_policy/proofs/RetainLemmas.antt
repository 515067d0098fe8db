-- A walk that asks of each item whether it stays, token by token.
use Rattle.std.proofs.Common.{◌≡◌, ℕ, ◌<◌, ◌≤◌, Bool, true, false, List, [], ◌∷◌, refl, sym, ap, subst, ◌∙◌, inl, inr, arith}
use Rattle.std.specs.List.{AllByRecursion}
use Rattle.std.specs.Int.NonZero.{non_zero_u32_get as number}
use Rattle.std.specs.declared.num.NonZeroU32.{NonZeroU32 as Token}
use Rattle.std.proofs.lemmas.Bool.{cases_eq, cases_lt, eq-eqb, ne_eqb}
use Rattle.quick_cache_model.specs.CacheState.{CacheState, Item, Place, InHot, InCold, InStill}
use Rattle.quick_cache_model.specs.Removal.{Retains, retained}
use Rattle.quick_cache_store.specs.Lists.{HeldItem, Lists, AreApart, StandsIn, HasItem, HasItemToken, IsItemOf, items_at, dropped}
use Rattle.quick_cache_store.specs.Lists.{without_entry}
use Rattle.quick_cache_store.specs.Views.{items_of}
use Rattle.quick_cache_store.proofs.lists.StandingLemmas.{found-same}
use Rattle.quick_cache_policy.specs.Contents.{state_of}
use Rattle.quick_cache_policy.specs.Predicates.{StayAsAnswered, RetainsAsked}
use Rattle.quick_cache_policy.specs.declared.contents.Contents.{Contents}
use Rattle.quick_cache_policy.proofs.TokenLemmas.{without_item-beside}

-- what holds of all that stand in a list holds of each element
pub all-standing : {X : Type 0} (Q : X → Type 0) (xs : List X) → ((x : X) → StandsIn xs x → Q x)
    → AllByRecursion Q xs
all-standing Q [] of = tt
all-standing Q (x ∷ xs) of = (
  of x (record { before = []; after = xs; split = refl }),
  all-standing Q xs (λ y at. of y (record {
    before = x ∷ at.before;
    after = at.after;
    split = ap (λ ys. x ∷ ys) at.split;
  })),
)

module _ {K V : Type 0} (answers : K → V → Bool → Type 0) where
  -- Of the first entries the second are left, once those up to a token were asked.
  pub data Sifted (passed : ℕ) : List (HeldItem K V) → List (HeldItem K V) → Type 0 where
    ends : Sifted passed [] []
    waits : (held : HeldItem K V) (olds news : List (HeldItem K V)) → passed < held.token
        → Sifted passed olds news → Sifted passed (held ∷ olds) (held ∷ news)
    stays : (held : HeldItem K V) (olds news : List (HeldItem K V))
        → answers held.item.key held.item.value true
        → Sifted passed olds news → Sifted passed (held ∷ olds) (held ∷ news)
    goes : (held : HeldItem K V) (olds news : List (HeldItem K V))
        → answers held.item.key held.item.value false
        → Sifted passed olds news → Sifted passed (held ∷ olds) news

  -- an entry, where the walk went on from a token to the next, whose item was answered so
  pub data Stepped (passed next : ℕ) (answer : Bool) (held : HeldItem K V) : Type 0 where
    is_behind : held.token ≤ passed → (held.token ≡ next → ⊥) → Stepped passed next answer held
    is_ahead : next < held.token → Stepped passed next answer held
    is_asked : held.token ≡ next → answers held.item.key held.item.value answer
        → Stepped passed next answer held

  -- none was asked yet
  pub sifted-start : (xs : List (HeldItem K V)) → AllByRecursion (λ held. 0 < held.token) xs
      → Sifted 0 xs xs
  sifted-start [] above = Sifted.ends
  sifted-start (x ∷ xs) above = Sifted.waits x xs xs above.0 (sifted-start xs above.1)

  -- the item that was asked stays
  pub sifted-stay : (passed next : ℕ) (olds news : List (HeldItem K V)) → Sifted passed olds news
      → AllByRecursion (Stepped passed next true) news → Sifted next olds news
  sifted-stay passed next _ _ Sifted.ends all = Sifted.ends
  sifted-stay passed next _ _ (Sifted.waits held olds news above rest) all =
      go all.0 (sifted-stay passed next olds news rest all.1)
    where
      go : Stepped passed next true held → Sifted next olds news
          → Sifted next (held ∷ olds) (held ∷ news)
      go (Stepped.is_behind low other) later = absurd (omega (arith, above, low))
      go (Stepped.is_ahead high) later = Sifted.waits held olds news high later
      go (Stepped.is_asked here said) later = Sifted.stays held olds news said later
  sifted-stay passed next _ _ (Sifted.stays held olds news said rest) all =
      Sifted.stays held olds news said (sifted-stay passed next olds news rest all.1)
  sifted-stay passed next _ _ (Sifted.goes held olds news no_answer rest) all =
      Sifted.goes held olds news no_answer (sifted-stay passed next olds news rest all)

  -- the item that was asked goes
  pub sifted-go : (passed next : ℕ) (olds news : List (HeldItem K V)) → Sifted passed olds news
      → AllByRecursion (Stepped passed next false) news
      → Sifted next olds (dropped (λ held. held.token) next news)
  sifted-go passed next _ _ Sifted.ends all = Sifted.ends
  sifted-go passed next _ _ (Sifted.waits held olds news above rest) all =
      go all.0 (sifted-go passed next olds news rest all.1)
    where
      go : Stepped passed next false held
          → Sifted next olds (dropped (λ h. h.token) next news)
          → Sifted next (held ∷ olds) (dropped (λ h. h.token) next (held ∷ news))
      go (Stepped.is_behind low other) later = absurd (omega (arith, above, low))
      go (Stepped.is_ahead high) later =
          rw (ne_eqb held.token next (λ e. omega (arith, e, high)))
          (Sifted.waits held olds _ high later)
      go (Stepped.is_asked here refused) later =
          rw (eq-eqb held.token next here) (Sifted.goes held olds _ refused later)
  sifted-go passed next _ _ (Sifted.stays held olds news said rest) all =
      go all.0 (sifted-go passed next olds news rest all.1)
    where
      go : Stepped passed next false held
          → Sifted next olds (dropped (λ h. h.token) next news)
          → Sifted next (held ∷ olds) (dropped (λ h. h.token) next (held ∷ news))
      go (Stepped.is_behind low other) later =
          rw (ne_eqb held.token next other) (Sifted.stays held olds _ said later)
      go (Stepped.is_ahead high) later =
          rw (ne_eqb held.token next (λ e. omega (arith, e, high)))
          (Sifted.stays held olds _ said later)
      go (Stepped.is_asked here refused) later =
          rw (eq-eqb held.token next here) (Sifted.goes held olds _ refused later)
  sifted-go passed next _ _ (Sifted.goes held olds news refused rest) all =
      Sifted.goes held olds (dropped (λ (h : HeldItem K V). h.token) next news) refused
      (sifted-go passed next olds news rest all)

  -- all were asked
  pub sifted-end : (passed : ℕ) (olds news : List (HeldItem K V)) → Sifted passed olds news
      → AllByRecursion (λ held. held.token ≤ passed) news
      → StayAsAnswered answers (items_of olds) (items_of news)
  sifted-end passed _ _ Sifted.ends all = StayAsAnswered.ends
  sifted-end passed _ _ (Sifted.waits held olds news above rest) all =
      absurd (omega (arith, above, all.0))
  sifted-end passed _ _ (Sifted.stays held olds news said rest) all =
      StayAsAnswered.stays held.item (items_of olds) (items_of news) said
      (sifted-end passed olds news rest all.1)
  sifted-end passed _ _ (Sifted.goes held olds news refused rest) all =
      StayAsAnswered.goes held.item (items_of olds) (items_of news) refused
      (sifted-end passed olds news rest all)

module _ {K V P : Type 0} (answers : K → V → Bool → Type 0) (lists : Lists K V P)
    (apart : AreApart lists) where
  -- the entries of a place, where the walk goes on to a token
  pub all-stepped : (passed : ℕ) (first : Token) (item : Item K V) (answer : Bool)
      → answers item.key item.value answer → IsItemOf lists (number first) item
      → passed < number first
      → ((other : ℕ) → passed < other → other < number first → HasItemToken lists other → ⊥)
      → (place : Place)
      → AllByRecursion (Stepped answers passed (number first) answer) (items_at place lists)
  all-stepped passed first item answer asked stood above least place =
      all-standing (Stepped answers passed (number first) answer) (items_at place lists) step
    where
      step : (held : HeldItem K V) → StandsIn (items_at place lists) held
          → Stepped answers passed (number first) answer held
      step held at =
          let has : HasItem lists held = record { place = place; stands = at } in
          elim (cases_lt (number first) held.token) [
            | inl high ↦ Stepped.is_ahead high
            | inr low ↦ elim (cases_eq held.token (number first)) [
              | inl same ↦ Stepped.is_asked same
                  (subst (λ (h : HeldItem K V). answers h.item.key h.item.value answer)
                  (sym (found-same lists apart (number first)
                  (record { token = number first; hash = stood.0; item = item }) held stood.1 has
                  refl same)) asked)
              | inr other ↦ elim (cases_lt passed held.token) [
                | inl between ↦ absurd (least held.token between
                    (omega (arith, low, other)) (held, has, refl))
                | inr behind ↦ Stepped.is_behind (omega (arith, behind)) other
              ]
            ]
          ]

-- ---- the whole cache

-- the items up to a token were asked, and what was answered no is gone
pub record IsSifting {K V P W A T : Type 0} (answers : K → V → Bool → Type 0) (passed : ℕ)
    (old now : Contents K V W A T P) : Type 0 where
  pub hot : Sifted answers passed old.lists.hot now.lists.hot
  pub cold : Sifted answers passed old.lists.cold now.lists.cold
  pub still : Sifted answers passed old.lists.still now.lists.still
  pub loading : now.lists.loading ≡ old.lists.loading
  pub ghosts : now.lists.ghosts ≡ old.lists.ghosts
  pub same : now ≡ record old { lists = now.lists }
  pub room : old.lists.room ≤ now.lists.room

module _ {K V P W A T : Type 0} (answers : K → V → Bool → Type 0) (old : Contents K V W A T P) where
  -- none has the token 0, so none was asked
  pub IsSifting-start : (HasItemToken old.lists 0 → ⊥) → IsSifting answers 0 old old
  IsSifting-start numbered = record {
    hot = sifted-start answers old.lists.hot (above InHot);
    cold = sifted-start answers old.lists.cold (above InCold);
    still = sifted-start answers old.lists.still (above InStill);
    loading = refl;
    ghosts = refl;
    same = refl;
    room = omega arith;
  }
    where
      above : (place : Place)
          → AllByRecursion (λ (held : HeldItem K V). 0 < held.token) (items_at place old.lists)
      above place = all-standing (λ (held : HeldItem K V). 0 < held.token)
          (items_at place old.lists)
          (λ held at. elim (cases_eq held.token 0) [
            | inl none ↦ absurd (numbered (held, record { place = place; stands = at }, none))
            | inr some ↦ omega (arith, some)
          ])

  module _ (now : Contents K V W A T P) (apart : AreApart now.lists) (passed : ℕ) (first : Token)
      (item : Item K V) (sifting : IsSifting answers passed old now)
      (stood : IsItemOf now.lists (number first) item) (above : passed < number first)
      (least : (other : ℕ) → passed < other → other < number first
      → HasItemToken now.lists other → ⊥) where
    -- the next one stays
    pub IsSifting-stay : answers item.key item.value true
        → IsSifting answers (number first) old now
    IsSifting-stay said = record {
      hot = sifted-stay answers passed (number first) old.lists.hot now.lists.hot sifting.hot
          (each InHot);
      cold = sifted-stay answers passed (number first) old.lists.cold now.lists.cold sifting.cold
          (each InCold);
      still = sifted-stay answers passed (number first) old.lists.still now.lists.still
          sifting.still (each InStill);
      loading = sifting.loading;
      ghosts = sifting.ghosts;
      same = sifting.same;
      room = sifting.room;
    }
      where
        each : (place : Place)
            → AllByRecursion (Stepped answers passed (number first) true) (items_at place now.lists)
        each = all-stepped answers now.lists apart passed first item true said stood above least

    -- the next one goes
    pub IsSifting-go : answers item.key item.value false → (new : Contents K V W A T P)
        → new ≡ record now { lists = without_entry false (number first) now.lists }
        → IsSifting answers (number first) old new
    IsSifting-go refused new is =
        subst (λ (c : Contents K V W A T P). IsSifting answers (number first) old c) (sym is)
        (record {
          hot = sifted-go answers passed (number first) old.lists.hot now.lists.hot sifting.hot
              (each InHot);
          cold = sifted-go answers passed (number first) old.lists.cold now.lists.cold
              sifting.cold (each InCold);
          still = sifted-go answers passed (number first) old.lists.still now.lists.still
              sifting.still (each InStill);
          loading = beside.0 ∙ sifting.loading;
          ghosts = beside.1 ∙ sifting.ghosts;
          same = ap (λ (c : Contents K V W A T P). record c {
            lists = without_entry false (number first) now.lists;
          }) sifting.same;
          room = omega (arith, sifting.room);
        })
      where
        each : (place : Place)
            → AllByRecursion (Stepped answers passed (number first) false)
            (items_at place now.lists)
        each = all-stepped answers now.lists apart passed first item false refused stood above least

        beside : ((without_entry false (number first) now.lists).loading ≡ now.lists.loading)
            × ((without_entry false (number first) now.lists).ghosts ≡ now.lists.ghosts)
        beside = without_item-beside now.lists apart (number first) item stood

  -- no item is left to be asked
  pub IsSifting-end : (ticket_of : P → ℕ) (now : Contents K V W A T P) (passed : ℕ)
      → IsSifting answers passed old now
      → ((other : ℕ) → passed < other → HasItemToken now.lists other → ⊥)
      → RetainsAsked answers (state_of ticket_of old) (state_of ticket_of now)
  IsSifting-end ticket_of now passed sifting none = record {
    hot = sifted-end answers passed old.lists.hot now.lists.hot sifting.hot (each InHot);
    cold = sifted-end answers passed old.lists.cold now.lists.cold sifting.cold (each InCold);
    still = sifted-end answers passed old.lists.still now.lists.still sifting.still (each InStill);
    same = ap (state_of ticket_of) sifting.same
        ∙ (λ i. state_of ticket_of (record old {
          lists = record now.lists { loading = sifting.loading i; ghosts = sifting.ghosts i };
        }));
  }
    where
      each : (place : Place)
          → AllByRecursion (λ (held : HeldItem K V). held.token ≤ passed) (items_at place now.lists)
      each place = all-standing (λ (held : HeldItem K V). held.token ≤ passed)
          (items_at place now.lists)
          (λ held at. elim (cases_lt passed held.token) [
            | inl above ↦ absurd (none held.token above
                (held, record { place = place; stands = at }, refl))
            | inr below ↦ omega (arith, below)
          ])

-- ---- a predicate that is a pure test

module _ {K V : Type 0} (answers : K → V → Bool → Type 0) (keeps : K → V → Bool)
    (as_test : (key : K) (value : V) (answer : Bool) → answers key value answer
    → answer ≡ keeps key value) where
  -- what stays is what the test keeps
  pub StayAsAnswered-retained : (items left : List (Item K V)) → StayAsAnswered answers items left
      → left ≡ retained keeps items
  StayAsAnswered-retained _ _ StayAsAnswered.ends = refl
  StayAsAnswered-retained _ _ (StayAsAnswered.stays item items left said rest) =
      rw (← as_test item.key item.value true said)
      (ap (λ xs. item ∷ xs) (StayAsAnswered-retained items left rest))
  StayAsAnswered-retained _ _ (StayAsAnswered.goes item items left refused rest) =
      rw (← as_test item.key item.value false refused) (StayAsAnswered-retained items left rest)

  -- it is a retain by the test
  pub RetainsAsked-test : (old new : CacheState K V) → RetainsAsked answers old new
      → Retains keeps old new
  RetainsAsked-test old new asked =
      asked.same
      ∙ (λ i. record old {
        hot = StayAsAnswered-retained old.hot new.hot asked.hot i;
        cold = StayAsAnswered-retained old.cold new.cold asked.cold i;
        still = StayAsAnswered-retained old.still new.still asked.still i;
      })
