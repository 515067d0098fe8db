-- Rounds of a hot advance over the contents of a cache.
use Rattle.std.proofs.Common.{◌≡◌, ℕ, ◌+◌, ◌-◌, ◌^◌, ◌<◌, Bool, true, false, List, [], ◌∷◌, refl, sym, ap, subst, ◌∙◌, arith, if◌then◌else◌}
use Rattle.std.proofs.Common.{◌==◌}
use Rattle.quick_cache_model.specs.CacheState.{Item, InHot}
use Rattle.quick_cache_model.specs.Eviction.{lowered}
use Rattle.quick_cache_model.specs.Touches.{counted_up}
use Rattle.quick_cache_store.specs.Lists.{HeldItem, Lists, HasItemToken, IsItemOf, AreApart, with_change, with_counts, with_mark}
use Rattle.quick_cache_store.proofs.lists.CallerLemmas.{change-hot}
use Rattle.quick_cache_policy.specs.declared.contents.Contents.{Contents}
use Rattle.quick_cache_policy.specs.declared.evicting.hot.Visit.{Visit}
use Rattle.quick_cache_policy.specs.Advances.{HasTakenTouches, IsVisited, Meets}
use Rattle.quick_cache_policy.specs.Rounds.{MayTake}
use Rattle.quick_cache_policy.specs.HotRounds.{VisitsFirst}
use Rattle.quick_cache_policy.proofs.ItemLemmas.{HasItem-one}

-- nothing more
pub counted_up-zero : (count : ℕ) → count < 2 ^ 64 → count ≡ counted_up 0 count
counted_up-zero count within = omega (arith, within)

-- first so many more, then others
pub counted_up-twice : (n k count : ℕ)
    → counted_up k (counted_up n count) ≡ counted_up (n + k) count
counted_up-twice n k count = omega arith

module _ {K V P : Type 0} (lists : Lists K V P) (apart : AreApart lists) where
  -- the item of the first token of the hot ring is its first item
  pub IsItemOf-first_hot : (held : HeldItem K V) (rest : List (HeldItem K V)) (item : Item K V)
      → lists.hot ≡ held ∷ rest → IsItemOf lists held.token item → item ≡ held.item
  IsItemOf-first_hot held rest item split is =
      HasItem-one lists apart (record { token = held.token; hash = is.0; item = item }) held is.1
      (record { place = InHot; stands = record { before = []; after = rest; split = split } }) refl

module _ {K V P W A T : Type 0} (takes_touches : Bool) (may_count : ℕ → Type 0) where
  -- the first item of the hot ring took the touches that it was to take
  pub record FirstTakes (held : HeldItem K V) (rest : List (HeldItem K V))
      (old new : Contents K V W A T P) : Type 0 where
    pub item : Item K V
    pub takes : MayTake takes_touches old.mark_cut may_count held.item item
    pub same : new ≡ record old {
      lists = record old.lists { hot = record held { item = item } ∷ rest };
    }

module _ {K V : Type 0} where
  -- an item that took touches is the old one with other counts
  TakesTouches-counts : (cut : ℕ) (may_count : ℕ → Type 0) (x y : Item K V)
      → MayTake true cut may_count x y → with_counts y.mark y.reads x ≡ y
  TakesTouches-counts cut may_count x y takes = go (takes.0 == 0) _ _ takes.2
    where
      go : (b : Bool) (mark reads : ℕ)
          → y ≡ (if b then x else record x { mark = mark; reads = reads })
          → with_counts y.mark y.reads x ≡ y
      go true mark reads e =
          subst (λ (z : Item K V). with_counts z.mark z.reads x ≡ z) (sym e) refl
      go false mark reads e =
          subst (λ (z : Item K V). with_counts z.mark z.reads x ≡ z) (sym e) refl

module _ {K V P W A T : Type 0} (may_count : ℕ → Type 0) (held : HeldItem K V)
    (rest : List (HeldItem K V)) (old : Contents K V W A T P) (stands : old.lists.hot ≡ held ∷ rest)
  where
    -- its touches are those of its token
    FirstTakes-true : (new : Contents K V W A T P) → AreApart old.lists
        → HasTakenTouches may_count held.token old new → FirstTakes true may_count held rest old new
    FirstTakes-true new apart taken =
        let is = IsItemOf-first_hot old.lists apart held rest taken.item stands taken.is_of in
        let counts = with_counts taken.touched.mark taken.touched.reads in
        let change = change-hot old.lists apart counts [] rest held stands in
        let takes = subst (λ x. MayTake true old.mark_cut may_count x taken.touched) is
        taken.takes
        in
        let touched = TakesTouches-counts old.mark_cut may_count held.item taken.touched takes in
        record {
          item = taken.touched;
          takes = takes;
          same = taken.same
              ∙ ap (λ (l : Lists K V P). record old { lists = l }) change
              ∙ ap (λ (x : Item K V). record old {
                lists = record old.lists { hot = record held { item = x } ∷ rest };
              }) touched;
        }

    -- where it was to take none nothing changed
    FirstTakes-false : (new : Contents K V W A T P) → new ≡ old
        → FirstTakes false may_count held rest old new
    FirstTakes-false new same = record {
      item = held.item;
      takes = refl;
      same = same ∙ ap (λ xs. record old { lists = record old.lists { hot = xs } }) stands;
    }

    -- where it was to take touches, those of its token were taken
    pub FirstTakes-taken : (takes_touches : Bool) (token : ℕ) (new taken : Contents K V W A T P)
        → takes_touches ≡ true → held.token ≡ token → AreApart old.lists
        → HasTakenTouches may_count token old taken → new ≡ taken
        → FirstTakes takes_touches may_count held rest old new
    FirstTakes-taken takes_touches token new taken is_to is apart touched same =
        subst (λ b. FirstTakes b may_count held rest old new) (sym is_to)
        (FirstTakes-true new apart
        (subst (λ n. HasTakenTouches may_count n old new) (sym is)
        (subst (λ (c : Contents K V W A T P). HasTakenTouches may_count token old c) (sym same)
        touched)))

    -- where it was to take none
    pub FirstTakes-none : (takes_touches : Bool) (new : Contents K V W A T P)
        → takes_touches ≡ false → new ≡ old → FirstTakes takes_touches may_count held rest old new
    FirstTakes-none takes_touches new is_to same =
        subst (λ b. FirstTakes b may_count held rest old new) (sym is_to)
        (FirstTakes-false new same)

module _ {K V P W A T : Type 0} (takes_touches : Bool) (may_count : ℕ → Type 0)
    (held : HeldItem K V) (rest : List (HeldItem K V)) (old mid : Contents K V W A T P) where
  -- then the token has an item
  pub FirstTakes-has : (token : ℕ) → held.token ≡ token
      → FirstTakes takes_touches may_count held rest old mid → HasItemToken mid.lists token
  FirstTakes-has token is first = (
    record held { item = first.item },
    record {
      place = InHot;
      stands = record {
        before = [];
        after = rest;
        split = ap (λ (c : Contents K V W A T P). c.lists.hot) first.same;
      };
    },
    is,
  )

module _ {K V P W A T : Type 0} (steady : Type 0) (pinned : K → V → Bool) (takes_touches : Bool)
    (may_count : ℕ → Type 0) (held : HeldItem K V) (rest : List (HeldItem K V))
    (old mid new : Contents K V W A T P) (met : Visit) where
  -- and a visit to it was a visit to the first item
  pub VisitsFirst-visited : (token : ℕ) → held.token ≡ token → old.lists.hot ≡ held ∷ rest
      → FirstTakes takes_touches may_count held rest old mid → AreApart mid.lists
      → IsVisited steady pinned token mid met new
      → VisitsFirst steady pinned takes_touches may_count old met new
  VisitsFirst-visited token named stands first apart visit =
      let visited = subst (λ n. IsVisited steady pinned n mid met new) (sym named) visit in
      let made : HeldItem K V = record held { item = first.item } in
      let here : mid.lists.hot ≡ made ∷ rest =
      ap (λ (c : Contents K V W A T P). c.lists.hot) first.same
      in
      let is = IsItemOf-first_hot mid.lists apart made rest visited.item here visited.is_of in
      let change = change-hot mid.lists apart
      (with_mark (visited.item.mark - 1)) [] rest made here in
      record {
        held = held;
        rest = rest;
        stands = stands;
        item = first.item;
        takes = first.takes;
        meets = subst (λ (x : Item K V). Meets steady pinned x met) is visited.meets;
        same = visited.same
            ∙ ap (λ (l : Lists K V P). record mid {
              lists = l;
              visits = counted_up 1 mid.visits;
            }) change
            ∙ ap (λ (x : Item K V). record mid {
              lists = record mid.lists {
                hot = record made { item = with_mark (x.mark - 1) first.item } ∷ rest;
              };
              visits = counted_up 1 mid.visits;
            }) is
            ∙ ap (λ (c : Contents K V W A T P). record c {
              lists = record c.lists { hot = record held { item = lowered 1 first.item } ∷ rest };
              visits = counted_up 1 c.visits;
            }) first.same;
      }

module _ {K V P W A T : Type 0} (steady : Type 0) (pinned : K → V → Bool) (token : ℕ)
    (old : Contents K V W A T P) (met : Visit) (item : Item K V) (lists : Lists K V P)
    (mark visits : ℕ) where
  -- a visit by its parts
  pub IsVisited-by : IsItemOf old.lists token item → Meets steady pinned item met
      → lists ≡ with_change token (with_mark mark) old.lists
      → mark ≡ item.mark - 1 → visits ≡ counted_up 1 old.visits
      → IsVisited steady pinned token old met (record old { lists = lists; visits = visits })
  IsVisited-by is_of meets changed lower counted = record {
    item = item;
    is_of = is_of;
    meets = meets;
    same = λ i. record old {
      lists = (changed ∙ ap (λ m. with_change token (with_mark m) old.lists) lower) i;
      visits = counted i;
    };
  }
