-- Looks with a test: what was asked, what is counted, and what goes.
use Rattle.std.proofs.Common.{◌≡◌, ℕ, Bool, true, false, not, Some, None, refl, sym, ap, subst, ◌∙◌}
use Rattle.std.specs.Int.NonZero.{non_zero_u32_get as number}
use Rattle.std.specs.declared.num.NonZeroU32.{NonZeroU32 as Token}
use Rattle.quick_cache_model.specs.Finding.{HasNoItem, IsItemAt}
use Rattle.quick_cache_model.specs.Lookups.{LooksUp, Sees}
use Rattle.quick_cache_model.specs.Touches.{counted_up}
use Rattle.quick_cache_model.proofs.OrderLaws.{UpToOrder-exact}
use Rattle.quick_cache_model.proofs.Valid.Edits.{after_miss-valid}
use Rattle.quick_cache_store.specs.Lists.{AreApart, HeldItem, Lists}
use Rattle.quick_cache_store.specs.Views.{items_of}
use Rattle.quick_cache_store.proofs.lists.StandingLemmas.{found-same}
use Rattle.quick_cache_policy.specs.Contents.{IsSound, state_of}
use Rattle.quick_cache_policy.specs.Finding.{IsLookedUp, IsMissed}
use Rattle.quick_cache_policy.specs.Predicates.{RemovesAsked}
use Rattle.quick_cache_policy.specs.Tests.{IsAsked, FailsTest, IsTakenOut, IsPassed}
use Rattle.quick_cache_policy.specs.Tokens.{TakesToken}
use Rattle.quick_cache_policy.specs.declared.contents.Contents.{Contents}
use Rattle.quick_cache_policy.proofs.FindLemmas.{IsItemAt-stands}
use Rattle.quick_cache_policy.proofs.TokenLemmas.{RemovesAsked-takes}

module _ {K V P W A T : Type 0} (ticket_of : P → ℕ) (old : Contents K V W A T P) where
  -- one more miss
  abbrev pub missed_once : Contents K V W A T P
  missed_once = record old { misses = counted_up 1 old.misses }

  -- what was sound is
  pub missed-sound : (equal : K → K → Bool) (hashed : K → ℕ) (new : Contents K V W A T P)
      → new ≡ missed_once → IsSound ticket_of equal hashed old → IsSound ticket_of equal hashed new
  missed-sound equal hashed new is sound =
      subst (λ (r : Contents K V W A T P). IsSound ticket_of equal hashed r) (sym is) (record {
        valid = after_miss-valid equal (state_of ticket_of old) sound.valid;
        sized = sound.sized;
        hashed = sound.hashed;
      })

  module _ (stands_for : K → Bool) where
    -- where nothing stands, it is a look-up that finds nothing
    pub missed : HasNoItem stands_for (state_of ticket_of old) → (new : Contents K V W A T P)
        → new ≡ missed_once → IsMissed ticket_of stands_for old new
    missed none new is =
        subst (λ (r : Contents K V W A T P). IsMissed ticket_of stands_for old r) (sym is) (record {
          value = UpToOrder-exact _ _ (LooksUp.miss none);
          pair = UpToOrder-exact _ _ (LooksUp.miss none);
        })

    module _ (hash : ℕ) (answers : V → Bool → Type 0) (token : Token) (said : Bool)
        (asked : IsAsked stands_for hash answers old.lists token said) where
      -- the item that was asked
      abbrev held : HeldItem K V
      held = record { token = number token; hash = hash; item = asked.finds.item }

      -- stands under the query
      at : IsItemAt stands_for (state_of ticket_of old) asked.finds.stands.place
          (items_of asked.finds.stands.stands.before) asked.finds.item
          (items_of asked.finds.stands.stands.after)
      at = let has = asked.finds.stands in
          IsItemAt-stands ticket_of stands_for hash old has.place has.stands.before held
          has.stands.after has.stands.split asked.finds.passes

      -- what fails stays, and a miss is counted
      pub fails : said ≡ false → (new : Contents K V W A T P) → new ≡ missed_once
          → FailsTest stands_for answers (state_of ticket_of old) (state_of ticket_of new)
      fails was new is =
          let has = asked.finds.stands in
          record {
            value = asked.finds.item.value;
            sees = Sees.is_there has.place (items_of has.stands.before) asked.finds.item
                (items_of has.stands.after) at;
            said = subst (λ (b : Bool). answers asked.finds.item.value b) was asked.said;
            counts = ap (state_of ticket_of) is;
          }

      -- what is not wanted is not removed
      pub stays : said ≡ false
          → RemovesAsked stands_for (state_of ticket_of old) answers None (state_of ticket_of old)
      stays was =
          let has = asked.finds.stands in
          RemovesAsked.stays has.place (items_of has.stands.before) asked.finds.item
          (items_of has.stands.after) at
          (subst (λ (b : Bool). answers asked.finds.item.value b) was asked.said)

      module _ (apart : AreApart old.lists) where
        -- the item that was asked is the one that is looked up
        pub passed : said ≡ true → (new : Contents K V W A T P)
            → IsLookedUp ticket_of stands_for old token new
            → IsPassed ticket_of stands_for answers old token new
        passed was new looks = record {
          looks = looks;
          said = subst (λ v. answers v true)
              (ap (λ (h : HeldItem K V). h.item.value)
              (found-same old.lists apart (number token)
              (record { token = number token; hash = looks.stood.0; item = looks.item }) held
              looks.stood.1 asked.finds.stands refl refl))
              (subst (λ (b : Bool). answers asked.finds.item.value b) was asked.said);
        }

        -- and the one that goes
        pub goes : said ≡ true → (pair : K × V) (new : Contents K V W A T P)
            → TakesToken old (number token) pair new
            → RemovesAsked stands_for (state_of ticket_of old) answers (Some pair)
            (state_of ticket_of new)
        goes was pair new takes =
            let same = found-same old.lists apart (number token)
            (record { token = number token; hash = takes.stood.0; item = takes.item }) held
            takes.stood.1 asked.finds.stands refl refl in
            RemovesAsked-takes ticket_of stands_for answers old new apart (number token) pair takes
            (subst (λ (h : HeldItem K V). stands_for h.item.key ≡ true) same asked.finds.passes)
            (subst (λ (h : HeldItem K V). answers h.item.value true) same
            (subst (λ (b : Bool). answers asked.finds.item.value b) was asked.said))

    -- what fails is taken out, and a miss is counted
    pub taken : (hash : ℕ) (answers : V → Bool → Type 0) (token : Token) (said : Bool)
        (asked : IsAsked stands_for hash answers old.lists token said) → AreApart old.lists
        → said ≡ false → (pair : K × V) (mid new : Contents K V W A T P)
        → TakesToken old (number token) pair mid
        → new ≡ record mid { misses = counted_up 1 mid.misses }
        → IsTakenOut stands_for answers (state_of ticket_of old) pair (state_of ticket_of new)
    taken hash answers token said asked apart was pair mid new takes is = record {
      mid = state_of ticket_of mid;
      removes = UpToOrder-exact _ _
          (goes hash (λ value gone. answers value (not gone)) token true
          (record {
            finds = asked.finds;
            said = subst (λ (b : Bool). answers asked.finds.item.value b) was asked.said;
          }) apart refl pair mid takes);
      counts = ap (state_of ticket_of) is;
    }

  -- an item went, and a miss was counted
  pub went-same : (lists : Lists K V P) (mid new : Contents K V W A T P)
      → mid ≡ record old { lists = lists } → new ≡ record mid { misses = counted_up 1 mid.misses }
      → new ≡ record old { lists = new.lists; hits = new.hits; misses = new.misses }
  went-same lists mid new went is =
      let all : new ≡ record old { lists = lists; misses = counted_up 1 old.misses } =
      is ∙ ap (λ (r : Contents K V W A T P). record r { misses = counted_up 1 r.misses }) went in
      all ∙ ap (λ (r : Contents K V W A T P). record old {
        lists = r.lists;
        hits = r.hits;
        misses = r.misses;
      }) (sym all)
