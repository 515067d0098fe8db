-- Which keys that are being loaded were asked already, and how many entries went.
use Rattle.std.proofs.Common.{◌≡◌, ◌≢◌, ℕ, ◌+◌, ◌-◌, ◌≤◌, Bool, true, false, true≢false, List, [], ◌∷◌, ◌++◌, length, length-append, Option}
use Rattle.std.proofs.Common.{None, Some, refl, ap, subst, cond, ltb, ◌<◌, ◌∙◌, arith}
use Rattle.std.specs.Int.{from_bool}
use Rattle.std.specs.List.{AllByRecursion}
use Rattle.std.proofs.lemmas.Bool.{false≢true, ltb-false, ltb-true}
use Rattle.std.proofs.lemmas.List.Sorted.{length_permutation}
use Rattle.quick_cache_model.specs.CacheState.{CacheState, Item, LoadingEntry, SameButOrder, UpToOrder, IsValid, item_count}
use Rattle.quick_cache_model.specs.Placeholders.{GivesUpPlaceholder}
use Rattle.quick_cache_model.specs.Refusals.{slots_taken}
use Rattle.quick_cache_model.proofs.EachElement.{all-middle, all-permutation, all-weaker, all-without}
use Rattle.quick_cache_shard.specs.Loading.{HasNoneWanted}
use Rattle.quick_cache_shard.specs.Predicates.{RetainsAsked, StayAsAnswered}
use Rattle.quick_cache_locked.specs.Invalidates.{GivesUpAsked, is_above, is_below, is_between}
use Rattle.quick_cache_locked.proofs.TicketLemmas.{each_of_ticket, alone}

-- how many tickets are above one, if one is named
abbrev pub tickets_above : Option ℕ → ℕ
tickets_above None = 18446744073709551617
tickets_above (Some ticket) = 18446744073709551616 - ticket

-- fewer are above a ticket that is above it
pub tickets_above-fewer : (above : Option ℕ) (ticket : ℕ) → ticket < 18446744073709551616
    → is_above above ticket ≡ true
    → tickets_above (Some ticket) < tickets_above above
tickets_above-fewer None ticket small after = omega arith
tickets_above-fewer (Some least) ticket small after =
    omega (arith, small, ltb-true least ticket after)

-- a ticket between two is above the one
pub between-above : (above below : Option ℕ) (ticket : ℕ) → is_between above below ticket ≡ true
    → is_above above ticket ≡ true
between-above above below ticket between = go (is_above above ticket) refl
  where
    go : (b : Bool) → is_above above ticket ≡ b → is_above above ticket ≡ true
    go true is = is
    go false is = absurd (false≢true
        (subst (λ b. cond b (is_below below ticket) false ≡ true) is between))

-- between equal tickets lie the same
pub between-same : (above below first second : Option ℕ) → first ≡ above → second ≡ below
    → (ticket : ℕ) → is_between first second ticket ≡ is_between above below ticket
between-same above below first second low high ticket =
    ap (λ least. is_between least second ticket) low
    ∙ ap (λ greatest. is_between above greatest ticket) high

-- and below the other
pub between-below : (above : Option ℕ) (greatest ticket : ℕ)
    → is_between above (Some greatest) ticket ≡ true → ticket < greatest
between-below above greatest ticket between =
    ltb-true ticket greatest (subst (λ b. cond b (ltb ticket greatest) false ≡ true)
    (between-above above (Some greatest) ticket between) between)

-- where no second is named, what is not between is not above
pub none-above : {K V : Type 0} (above : Option ℕ) (state : CacheState K V)
    → HasNoneWanted (is_between above None) state → HasNoneWanted (is_above above) state
none-above above state none =
    all-weaker (λ (entry : LoadingEntry _). is_between above None entry.ticket ≡ false)
    (λ entry. is_above above entry.ticket ≡ false)
    (λ entry not. go (is_above above entry.ticket) not) state.loading none
  where
    go : (b : Bool) → cond b true false ≡ false → b ≡ false
    go true is = is
    go false is = is

module _ {K : Type 0} (P : K → Type 0) where
  -- the key of an entry that is not above the ticket is such a key
  abbrev pub IsAsked : Option ℕ → LoadingEntry K → Type 0
  IsAsked above entry = is_above above entry.ticket ≡ false → P entry.key

  -- where no ticket is named, none was asked
  pub none-asked : (entries : List (LoadingEntry K)) → AllByRecursion (IsAsked None) entries
  none-asked [] = tt
  none-asked (entry ∷ entries) = (λ is. absurd (true≢false is), none-asked entries)

  module _ (above : Option ℕ) where
    -- where none is above the ticket, all were asked
    pub all-asked : (entries : List (LoadingEntry K))
        → AllByRecursion (λ entry. is_above above entry.ticket ≡ false) entries
        → AllByRecursion (IsAsked above) entries → AllByRecursion (λ entry. P entry.key) entries
    all-asked [] none asked = tt
    all-asked (entry ∷ entries) none asked = (asked.0 none.0, all-asked entries none.1 asked.1)

    module _ (ticket : ℕ) where
      -- the next ticket was asked, and none lies between
      next-asked : (entry : LoadingEntry K) → is_between above (Some ticket) entry.ticket ≡ false
          → IsAsked above entry → (entry.ticket ≡ ticket → P entry.key)
          → IsAsked (Some ticket) entry
      next-asked entry none asked own past = go (is_above above entry.ticket) refl
        where
          go : (b : Bool) → is_above above entry.ticket ≡ b → P entry.key
          go false is = asked is
          go true is =
              let not_below : ltb entry.ticket ticket ≡ false =
              subst (λ b. cond b (ltb entry.ticket ticket) false ≡ false) is none in
              let from : ticket ≤ entry.ticket = ltb-false entry.ticket ticket not_below in
              let to : entry.ticket ≤ ticket = ltb-false ticket entry.ticket past in
              own (omega (arith, from, to))

      -- so each up to it was
      pub asked-next : (entries : List (LoadingEntry K))
          → AllByRecursion (λ entry. is_between above (Some ticket) entry.ticket ≡ false) entries
          → AllByRecursion (IsAsked above) entries
          → AllByRecursion (λ entry. entry.ticket ≡ ticket → P entry.key) entries
          → AllByRecursion (IsAsked (Some ticket)) entries
      asked-next [] none asked own = tt
      asked-next (entry ∷ entries) none asked own = (
        next-asked entry none.0 asked.0 own.0,
        asked-next entries none.1 asked.1 own.1,
      )

-- keys that were answered no
abbrev pub SaysNo : {K : Type 0} → (answers : K → Bool → Type 0) → K → Type 0
SaysNo answers key = answers key false

module _ {K : Type 0} (answers : K → Bool → Type 0) (ticket : ℕ) where
  -- where none has the ticket, none has it with another answer
  no_own : (entries : List (LoadingEntry K))
      → AllByRecursion (λ (entry : LoadingEntry K). entry.ticket ≢ ticket) entries
      → AllByRecursion (λ entry. entry.ticket ≡ ticket → SaysNo answers entry.key) entries
  no_own entries other = all-weaker (λ (entry : LoadingEntry K). entry.ticket ≢ ticket)
      (λ entry. entry.ticket ≡ ticket → SaysNo answers entry.key)
      (λ entry isnt same. absurd (isnt same)) entries other

  -- so the next ticket was asked
  pub asked-turn : {V : Type 0} (equal : K → K → Bool) (above : Option ℕ) (gave : Bool) (old new : CacheState K V) → IsValid equal old
      → HasNoneWanted (is_between above (Some ticket)) old
      → AllByRecursion (IsAsked (SaysNo answers) above) old.loading
      → GivesUpAsked answers ticket old gave new
      → AllByRecursion (IsAsked (SaysNo answers) (Some ticket)) new.loading
  asked-turn equal above _ old _ valid none asked (GivesUpAsked.was_gone absent) =
      asked-next (SaysNo answers) above ticket old.loading none asked (no_own old.loading absent)
  asked-turn equal above _ old _ valid none asked (GivesUpAsked.stays key awaits says) =
      asked-next (SaysNo answers) above ticket old.loading none asked
      (each_of_ticket ticket (SaysNo answers) equal old valid key awaits says)
  asked-turn {V} equal above _ old _ valid none asked (GivesUpAsked.goes key new awaits passes gives) =
      all-permutation (IsAsked (SaysNo answers) (Some ticket)) gives.ordered.loading new.loading
      gives.same.loading (by gives.ordered gives.holds)
    where
      by : (next : CacheState K V) → GivesUpPlaceholder ticket old next
          → AllByRecursion (IsAsked (SaysNo answers) (Some ticket)) next.loading
      by _ (GivesUpPlaceholder.was_there before entry after there) =
          asked-next (SaysNo answers) above ticket (before ++ after)
          (all-without (λ (e : LoadingEntry K). is_between above (Some ticket) e.ticket ≡ false)
          before entry after (subst (λ entries. AllByRecursion
          (λ (e : LoadingEntry K). is_between above (Some ticket) e.ticket ≡ false) entries)
          there.split none))
          (all-without (IsAsked (SaysNo answers) above) before entry after
          (subst (λ entries. AllByRecursion (IsAsked (SaysNo answers) above) entries) there.split asked))
          (no_own (before ++ after) (alone ticket equal old valid before entry after there))
      by _ (GivesUpPlaceholder.was_gone absent) =
          asked-next (SaysNo answers) above ticket old.loading none asked (no_own old.loading absent)

-- what stays is no more
stay-fewer : {K V : Type 0} (answers : K → V → Bool → Type 0) (items left : List (Item K V))
    → StayAsAnswered answers items left → length left ≤ length items
stay-fewer answers _ _ StayAsAnswered.ends = omega arith
stay-fewer answers _ _ (StayAsAnswered.stays item items left says stay) =
    omega (arith, stay-fewer answers items left stay)
stay-fewer answers _ _ (StayAsAnswered.goes item items left says stay) =
    omega (arith, stay-fewer answers items left stay)

module _ {K V : Type 0} where
  -- how many there are of what has no order
  ordered-counts : (old new : CacheState K V) → SameButOrder old new
      → (item_count new ≡ item_count old) × (slots_taken new ≡ slots_taken old)
  ordered-counts old new order =
      let hot : length new.hot ≡ length old.hot = ap (λ (s : CacheState K V). length s.hot) order.same in
      let cold : length new.cold ≡ length old.cold =
      ap (λ (s : CacheState K V). length s.cold) order.same in
      let ghosts : length new.ghosts ≡ length old.ghosts =
      ap (λ (s : CacheState K V). length s.ghosts) order.same in
      let still = length_permutation old.still new.still order.still in
      let loading = length_permutation old.loading new.loading order.loading in
      (omega (arith, hot, cold, still), omega (arith, hot, cold, still, loading, ghosts))

  -- what a retain takes out is items
  pub retains-count : (answers : K → V → Bool → Type 0) (old new : CacheState K V)
      → UpToOrder (RetainsAsked answers old) new
      → (item_count old - item_count new) + slots_taken new ≡ slots_taken old
  retains-count answers old new step =
      let kept = step.holds in
      let mid = step.ordered in
      let hot = stay-fewer answers old.hot mid.hot kept.hot in
      let cold = stay-fewer answers old.cold mid.cold kept.cold in
      let still = stay-fewer answers old.still mid.still kept.still in
      let loading : length mid.loading ≡ length old.loading =
      ap (λ (s : CacheState K V). length s.loading) kept.same in
      let ghosts : length mid.ghosts ≡ length old.ghosts =
      ap (λ (s : CacheState K V). length s.ghosts) kept.same in
      let counts = ordered-counts mid new step.same in
      omega (arith, hot, cold, still, loading, ghosts, counts.0, counts.1)

  -- a placeholder that is given up is one entry
  pub turn-counts : (answers : K → Bool → Type 0) (ticket : ℕ) (gave : Bool)
      (old new : CacheState K V) → GivesUpAsked answers ticket old gave new
      → from_bool gave + slots_taken new ≡ slots_taken old
  turn-counts answers ticket _ old _ (GivesUpAsked.was_gone none) = omega arith
  turn-counts answers ticket _ old _ (GivesUpAsked.stays key awaits says) = omega arith
  turn-counts answers ticket _ old _ (GivesUpAsked.goes key new awaits passes gives) =
      omega (arith, by gives.ordered gives.holds, (ordered-counts gives.ordered new gives.same).1)
    where
      by : (next : CacheState K V) → GivesUpPlaceholder ticket old next
          → 1 + slots_taken next ≡ slots_taken old
      by _ (GivesUpPlaceholder.was_there before entry after there) =
          let was : length old.loading ≡ length (before ++ entry ∷ after) =
          ap (λ entries. length entries) there.split in
          omega (
            arith,
            was,
            length-append before (entry ∷ after),
            length-append before after,
          )
      by _ (GivesUpPlaceholder.was_gone absent) =
          absurd (all-middle (λ (entry : LoadingEntry K). entry.ticket ≢ ticket) awaits.before
          awaits.entry awaits.after
          (subst (λ entries. AllByRecursion (λ (entry : LoadingEntry K). entry.ticket ≢ ticket)
          entries) awaits.there.split absent) awaits.there.is_of_ticket)
