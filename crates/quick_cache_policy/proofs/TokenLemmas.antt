-- What an item that is taken out by its token leaves.
use Rattle.std.proofs.Common.{◌≡◌, ℕ, ◌<◌, length, inl, inr, arith, [], Bool, true, false, true≢false, List, ◌∷◌, ◌++◌, Option, Some, None}
use Rattle.std.proofs.Common.{MatchOption, refl, sym, ap, subst, ◌∙◌}
use Rattle.std.specs.Option.{is_some}
use Rattle.std.specs.Int.NonZero.{non_zero_u32_get as number}
use Rattle.std.specs.declared.num.NonZeroU32.{NonZeroU32 as Token}
use Rattle.std.proofs.lemmas.Bool.{cases_eq}
use Rattle.quick_cache_model.specs.CacheState.{CacheState, Item, Place, InHot, InCold, InStill, item_count}
use Rattle.quick_cache_store.specs.Lists.{HeldItem, Lists, AreApart, StandsIn, HasItem, HasItemToken, IsItemOf, IsFirstAbove, items_at}
use Rattle.quick_cache_store.specs.Lists.{without_entry}
use Rattle.quick_cache_store.specs.Views.{items_of}
use Rattle.quick_cache_model.specs.Removal.{RemovesIf, pair_of}
use Rattle.quick_cache_policy.specs.Contents.{state_of}
use Rattle.quick_cache_policy.specs.Predicates.{RemovesAsked}
use Rattle.quick_cache_policy.specs.Tokens.{TakesItem, TakesToken}
use Rattle.quick_cache_policy.specs.declared.contents.Contents.{Contents}
use Rattle.quick_cache_policy.proofs.EnterLemmas.{split-state}
use Rattle.quick_cache_policy.proofs.LookupLemmas.{without-at, without_item-state}

module _ {K V P W A T : Type 0} (ticket_of : P → ℕ) (old new : Contents K V W A T P)
    (apart : AreApart old.lists) (token : ℕ) (pair : K × V) where
  -- the item of the token goes from the state
  pub TakesToken-state : TakesToken old token pair new
      → TakesItem (state_of ticket_of old) pair (state_of ticket_of new)
  TakesToken-state takes =
      let held : HeldItem K V =
      record { token = token; hash = takes.stood.0; item = takes.item } in
      let has = takes.stood.1 in
      record {
        place = has.place;
        before = items_of has.stands.before;
        item = takes.item;
        after = items_of has.stands.after;
        split = split-state ticket_of old has.place has.stands.before held has.stands.after
            old.lists has.stands.split;
        gives = takes.gives;
        rest = ap (state_of ticket_of) takes.rest
            ∙ without_item-state ticket_of old apart (λ key. true) 0 token held has refl;
      }

module _ {K V P : Type 0} (lists : Lists K V P) (apart : AreApart lists) (token : ℕ) where
  -- no placeholder and no ghost goes with it
  pub without_item-beside : (item : Item K V) → IsItemOf lists token item
      → ((without_entry false token lists).loading ≡ lists.loading)
      × ((without_entry false token lists).ghosts ≡ lists.ghosts)
  without_item-beside item stood =
      let has = stood.1 in
      go has.place has.stands.before has.stands.after has.stands.split
    where
      go : (place : Place) (before after : List (HeldItem K V))
          → items_at place lists
          ≡ before ++ record { token = token; hash = stood.0; item = item } ∷ after
          → ((without_entry false token lists).loading ≡ lists.loading)
          × ((without_entry false token lists).ghosts ≡ lists.ghosts)
      go InHot before after split =
          let is = without-at lists apart InHot before after _ split in (
            ap (λ (l : Lists K V P). l.loading) is,
            ap (λ (l : Lists K V P). l.ghosts) is,
          )
      go InCold before after split =
          let is = without-at lists apart InCold before after _ split in (
            ap (λ (l : Lists K V P). l.loading) is,
            ap (λ (l : Lists K V P). l.ghosts) is,
          )
      go InStill before after split =
          let is = without-at lists apart InStill before after _ split in (
            ap (λ (l : Lists K V P). l.loading) is,
            ap (λ (l : Lists K V P). l.ghosts) is,
          )

-- an item stands where there is one to see
pub stands-there : {K V P X : Type 0} (lists : Lists K V P) (token : ℕ) (of : X → Item K V)
    (answer : Option X)
    → MatchOption answer (¬ HasItemToken lists token) (λ x. IsItemOf lists token (of x))
    → is_some answer ≡ true → HasItemToken lists token
stands-there lists token of None says some = absurd (true≢false (sym some))
stands-there lists token of (Some x) says some = (
  record { token = token; hash = says.0; item = of x },
  says.1,
  refl,
)

-- an item that a query stands for, whose value was answered yes, is taken out by the test
pub RemovesAsked-takes : {K V P W A T : Type 0} (ticket_of : P → ℕ) (stands_for : K → Bool)
    (answers : V → Bool → Type 0) (old new : Contents K V W A T P) → AreApart old.lists
    → (token : ℕ) (pair : K × V) (takes : TakesToken old token pair new)
    → stands_for takes.item.key ≡ true → answers takes.item.value true
    → RemovesAsked stands_for (state_of ticket_of old) answers (Some pair)
    (state_of ticket_of new)
unfolding TakesToken-state
RemovesAsked-takes ticket_of stands_for answers old new apart token pair takes passes said =
    let from = state_of ticket_of old in
    let goes = TakesToken-state ticket_of old new apart token pair takes in
    subst (λ p. RemovesAsked stands_for from answers (Some p) (state_of ticket_of new))
    (sym goes.gives)
    (subst (λ s. RemovesAsked stands_for from answers (Some (pair_of goes.item)) s)
    (sym goes.rest)
    (RemovesAsked.goes goes.place goes.before goes.item goes.after
    (record { split = goes.split; passes = passes }) said))

-- a removal by a test that answers as a pure one does is the removal by that one
pub RemovesAsked-test : {K V : Type 0} (stands_for : K → Bool) (answers : V → Bool → Type 0)
    (passes : V → Bool)
    → ((value : V) (answer : Bool) → answers value answer → answer ≡ passes value)
    → (old new : CacheState K V) (answer : Option (K × V))
    → RemovesAsked stands_for old answers answer new → RemovesIf stands_for old passes answer new
RemovesAsked-test stands_for answers passes as_test old _ _
    (RemovesAsked.goes place before item after there said) =
    RemovesIf.goes place before item after there (sym (as_test item.value true said))
RemovesAsked-test stands_for answers passes as_test old _ _
    (RemovesAsked.stays place before item after there refused) =
    RemovesIf.stays place before item after there (sym (as_test item.value false refused))
RemovesAsked-test stands_for answers passes as_test old _ _ (RemovesAsked.absent none) =
    RemovesIf.absent none

-- where no token has an item there is none
pub item_count-none : {K V P W A T : Type 0} (ticket_of : P → ℕ) (contents : Contents K V W A T P)
    → (HasItemToken contents.lists 0 → ⊥)
    → ((token : ℕ) → 0 < token → HasItemToken contents.lists token → ⊥)
    → item_count (state_of ticket_of contents) ≡ 0
item_count-none {K = K} {V = V} ticket_of contents numbered none =
    omega (
      arith,
      emptied contents.lists.hot (λ held at. some held (record { place = InHot; stands = at })),
      emptied contents.lists.cold (λ held at. some held (record { place = InCold; stands = at })),
      emptied contents.lists.still (λ held at. some held (record { place = InStill; stands = at })),
    )
  where
    some : (held : HeldItem K V) → HasItem contents.lists held → ⊥
    some held has = elim (cases_eq held.token 0) [
      | inl zero_is ↦ numbered (held, has, zero_is)
      | inr other ↦ none held.token (omega (arith, other)) (held, has, refl)
    ]

    emptied : (xs : List (HeldItem K V)) → ((held : HeldItem K V) → StandsIn xs held → ⊥)
        → length (items_of xs) ≡ 0
    emptied [] not = refl
    emptied (x ∷ xs) not =
        absurd (not x (record { before = []; after = xs; split = refl }))

-- the first item above the token 0, or no item at all
pub IsFirstAbove-all : {K V P W A T : Type 0} (ticket_of : P → ℕ) (contents : Contents K V W A T P)
    → (HasItemToken contents.lists 0 → ⊥) → (first : Option Token)
    → IsFirstAbove contents.lists 0 first
    → MatchOption first (item_count (state_of ticket_of contents) ≡ 0)
    (λ token. HasItemToken contents.lists (number token))
IsFirstAbove-all ticket_of contents numbered None is =
    item_count-none ticket_of contents numbered (is.none refl)
IsFirstAbove-all ticket_of contents numbered (Some token) is = (is.found token refl).1
