-- The first cold item, once it took its touches.
use Rattle.std.proofs.Common.{◌≡◌, ℕ, ◌==◌, Bool, true, false, if◌then◌else◌, List, [], ◌∷◌, refl, sym, ap, subst, ◌∙◌}
use Rattle.quick_cache_model.specs.CacheState.{Item, InCold}
use Rattle.quick_cache_model.specs.Touches.{TakesTouches, raised_by, counted_up}
use Rattle.quick_cache_store.specs.Lists.{HeldItem, Lists, HasItemToken, IsItemOf, AreApart, with_change, with_counts}
use Rattle.quick_cache_store.specs.Views.{items_of}
use Rattle.quick_cache_store.proofs.lists.CallerLemmas.{change-cold}
use Rattle.quick_cache_policy.specs.declared.contents.Contents.{Contents}
use Rattle.quick_cache_policy.specs.Advances.{HasTakenTouches, IsFound, LooksAt}
use Rattle.quick_cache_policy.specs.declared.evicting.cold.Search.{Search}
use Rattle.quick_cache_policy.specs.Contents.{IsSound}
use Rattle.quick_cache_policy.specs.Places.{places_in, LosesOnly}
use Rattle.quick_cache_policy.proofs.PlaceLemmas.{LosesOnly-same}
use Rattle.quick_cache_policy.proofs.HotRoundLemmas.{MayTake-key}
use Rattle.quick_cache_policy.proofs.ItemLemmas.{IsItemOf-first_cold}
use Rattle.quick_cache_policy.proofs.ColdSoundLemmas.{IsSound-cold_touched}

-- touches change the counts alone
pub TakesTouches-counts : {K V : Type 0} (cut : ℕ) (may_count : ℕ → Type 0) (old new : Item K V)
    → TakesTouches cut may_count old new → with_counts new.mark new.reads old ≡ new
TakesTouches-counts {K = K} {V = V} cut may_count old new takes =
    subst (λ (i : Item K V). with_counts i.mark i.reads old ≡ i) (sym takes.2) (go (takes.0 == 0))
  where
    raised : Item K V
    raised = record old {
      mark = raised_by cut takes.0 old.mark;
      reads = counted_up takes.0 old.reads;
    }

    go : (b : Bool) → with_counts (if b then old else raised).mark (if b then old else raised).reads
        old ≡ (if b then old else raised)
    go true = refl
    go false = refl

module _ {K V P W A T : Type 0} {may_count : ℕ → Type 0} {old mid : Contents K V W A T P}
    {token : ℕ} (apart : AreApart old.lists)
    (first : (held : HeldItem K V) × (rest : List (HeldItem K V)) × (old.lists.cold ≡ held ∷ rest)
    × (held.token ≡ token))
    (takes : HasTakenTouches may_count token old mid) where
  -- the item was the first one
  took : TakesTouches old.mark_cut may_count first.0.item takes.touched
  took = subst (λ (i : Item K V). TakesTouches old.mark_cut may_count i takes.touched)
      (IsItemOf-first_cold old.lists apart first.0 first.1 takes.item first.2
      (subst (λ n. IsItemOf old.lists n takes.item) (sym first.3) takes.is_of)) takes.takes

  -- what the contents are now
  pub first-touched : mid ≡ record old {
    lists = record old.lists { cold = record first.0 { item = takes.touched } ∷ first.1 };
  }
  first-touched =
      let change = with_counts takes.touched.mark takes.touched.reads in
      takes.same
      ∙ ap (λ (l : Lists K V P). record old { lists = l })
      (ap (λ n. with_change n change old.lists) (sym first.3)
      ∙ change-cold old.lists apart change [] first.1 first.0 first.2
      ∙ ap (λ (i : Item K V). record old.lists { cold = record first.0 { item = i } ∷ first.1 })
      (TakesTouches-counts old.mark_cut may_count first.0.item takes.touched took))

  -- only the cold ring is another
  pub first-touched_same : mid ≡ record old { lists = record old.lists { cold = mid.lists.cold } }
  first-touched_same = first-touched
      ∙ ap (λ (xs : List (HeldItem K V)). record old { lists = record old.lists { cold = xs } })
      (sym (ap (λ (c : Contents K V W A T P). c.lists.cold) first-touched))

  -- it stays where it stands
  pub first-touched_places : LosesOnly (places_in old.lists.cold) (places_in mid.lists.cold)
  first-touched_places = LosesOnly-same _ _
      (ap (λ (c : Contents K V W A T P). places_in c.lists.cold) first-touched
      ∙ ap (λ (k : K). (first.0.token, k) ∷ places_in first.1)
      (MayTake-key true old.mark_cut may_count first.0.item takes.touched took)
      ∙ sym (ap (λ (l : List (HeldItem K V)). places_in l) first.2))

  -- it is sound
  pub first-touched_sound : (ticket_of : P → ℕ) (equal : K → K → Bool) (hash : K → ℕ)
      → IsSound ticket_of equal hash old → IsSound ticket_of equal hash mid
  first-touched_sound ticket_of equal hash sound =
      subst (IsSound ticket_of equal hash) (sym first-touched)
      (IsSound-cold_touched ticket_of equal hash old sound may_count first.0 first.1 takes.touched
      first.2 took)

  -- the item of the token is the touched one
  pub first-touched_item : AreApart mid.lists → (item : Item K V) → IsItemOf mid.lists token item
      → item ≡ takes.touched
  first-touched_item apart' item is =
      IsItemOf-first_cold mid.lists apart' (record first.0 { item = takes.touched }) first.1 item
      (ap (λ (c : Contents K V W A T P). c.lists.cold) first-touched)
      (subst (λ n. IsItemOf mid.lists n item) (sym first.3) is)

  -- it was looked at, and this was found
  pub first-looked : (steady : Type 0) (pinned : K → V → Bool) (answer : Search)
      → IsFound steady pinned takes.touched answer
      → LooksAt steady pinned old.mark_cut may_count (items_of old.lists.cold) answer (items_of mid.lists.cold)
  first-looked steady pinned answer finds = record {
    item = first.0.item;
    touched = takes.touched;
    rest = items_of first.1;
    split = ap items_of first.2;
    takes = took;
    finds = finds;
    looked = ap (λ (c : Contents K V W A T P). items_of c.lists.cold) first-touched;
  }

  -- an item still has the token
  pub first-touched_there : HasItemToken mid.lists token
  first-touched_there = (
    record first.0 { item = takes.touched },
    record {
      place = InCold;
      stands = record {
        before = [];
        after = first.1;
        split = ap (λ (c : Contents K V W A T P). c.lists.cold) first-touched;
      };
    },
    first.3,
  )
