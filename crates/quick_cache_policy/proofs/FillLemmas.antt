-- A placeholder that leaves, and the pair that comes in its place.
use Rattle.std.proofs.Common.{◌≡◌, ◌≢◌, ℕ, ◌+◌, ◌≤◌, ◌==◌, if◌then◌else◌, Bool, true, false, List, [], ◌∷◌, ◌++◌, length, None}
use Rattle.std.proofs.Common.{IsPermutation, refl, sym, ap, subst, ◌∙◌, inl, inr, arith}
use Rattle.std.specs.Cmp.{IsEquivalence}
use Rattle.std.specs.List.{AllByRecursion}
use Rattle.std.proofs.lemmas.Bool.{eqb-true, eqb-false, eq-eqb}
use Rattle.std.proofs.lemmas.List.{map-append}
use Rattle.std.proofs.lemmas.List.Sorted.{IsPermutation-sym}
use Rattle.quick_cache_model.specs.CacheState.{CacheState, Item, LoadingEntry, SameButOrder, UpToOrder, keys_by, entered as model_entered}
use Rattle.quick_cache_model.specs.declared.queue.Queue.{Queue}
use Rattle.quick_cache_model.specs.Hooks.{Rules, HookCall, EvictCold}
use Rattle.quick_cache_model.specs.Placeholders.{IsLoadingTicket, HasNoTicket, GivesUpPlaceholder, MakesRoomFor, FillsPlaceholder}
use Rattle.quick_cache_model.specs.Touches.{first_mark}
use Rattle.quick_cache_model.specs.Writes.{new_item, queue_for}
use Rattle.quick_cache_model.proofs.EachElement.{all-middle}
use Rattle.quick_cache_model.proofs.OrderLaws.{SameButOrder-trans, UpToOrder-map, UpToOrder-exact}
use Rattle.quick_cache_model.proofs.Valid.Edits.{entered-valid, keys_by-unloaded, keys_by-taken}
use Rattle.quick_cache_model.proofs.Valid.Orders.{SameButOrder-valid}
use Rattle.quick_cache_model.specs.Fates.{residents}
use Rattle.quick_cache_model.specs.Leads.{Tells, TellsResidents}
use Rattle.quick_cache_model.proofs.Leads.{Leads-same, Leads-from, Leads-changes, Leads-leaves, Tells-append}
use Rattle.quick_cache_model.proofs.Residents.{residents-entered, residents-ordered}
use Rattle.quick_cache_store.specs.declared.slots.entry.Awaited.{Awaited}
use Rattle.quick_cache_store.specs.declared.slots.entry.Entry.{Entry}
use Rattle.quick_cache_store.specs.Lists.{HeldItem, HeldLoading, Lists, AreApart, StandsIn, IsEntry, PutsItem, entered, without_entry}
use Rattle.quick_cache_store.specs.Fills.{FillsToken, filled}
use Rattle.quick_cache_store.specs.Placeholders.{HasNoPlaceholder}
use Rattle.quick_cache_store.specs.Views.{loading_entry, loading_entries}
use Rattle.quick_cache_store.proofs.lists.StandingLemmas.{Standing, standing_of, known_standing, StandsIn-loading}
use Rattle.quick_cache_policy.specs.declared.writing.admission.Admission.{Admission}
use Rattle.quick_cache_policy.specs.declared.contents.Contents.{Contents}
use Rattle.quick_cache_policy.specs.Advances.{Evicting}
use Rattle.quick_cache_policy.specs.Contents.{AreHashed, IsSound, state_of}
use Rattle.quick_cache_policy.specs.Filling.{AreFillCalls, AwaitsKey, Fills, MakesRoomBehind}
use Rattle.quick_cache_policy.specs.Writing.{Checks}
use Rattle.quick_cache_policy.proofs.EnterLemmas.{state_with, entered-state, AreHashed-entered, AreHashed-room, entered-count}
use Rattle.quick_cache_policy.proofs.FindLemmas.{each-image}
use Rattle.quick_cache_policy.proofs.LookupLemmas.{without_loading, loading-sound}
use Rattle.quick_cache_policy.proofs.OverwriteLemmas.{evicts-from}
use Rattle.quick_cache_policy.proofs.TellLemmas.{Checks-tells}
use Rattle.quick_cache_policy.proofs.SoundLemmas.{state_of-reordered, AreHashed-reordered}

-- what has the token of a placeholder is that placeholder
pub entry-is_loading : {K V P T : Type 0} (lists : Lists K V P) → AreApart lists
    → (token hash : ℕ) (entry : Entry K V P T) → IsEntry lists token hash entry
    → (waiting : HeldLoading K P) → StandsIn lists.loading waiting → waiting.token ≡ token
    → (awaited : Awaited K P) → entry ≡ Entry.Loading awaited
    → record {
      token = token;
      hash = hash;
      key = awaited.key;
      queue = awaited.queue;
      placeholder = awaited.placeholder;
    } ≡ waiting
entry-is_loading {K = K} {V = V} {P = P} {T = T} lists apart token hash entry is waiting stands named awaited e =
    same (sym (ap (λ (x : Entry K V P T). standing_of token hash x) e)
    ∙ known_standing lists apart (Standing.OfLoading waiting)
    (StandsIn-loading lists waiting stands) token hash entry named is)
  where
    same : ◌≡◌ {A = Standing K V P} (Standing.OfLoading (record {
      token = token;
      hash = hash;
      key = awaited.key;
      queue = awaited.queue;
      placeholder = awaited.placeholder;
    })) (Standing.OfLoading waiting) → record {
      token = token;
      hash = hash;
      key = awaited.key;
      queue = awaited.queue;
      placeholder = awaited.placeholder;
    } ≡ waiting
    same s = cc s

-- and what is seen at it as a key that is being loaded
pub awaited-is_loading : {K V P : Type 0} (lists : Lists K V P) → AreApart lists
    → (token hash : ℕ) (awaited : Awaited K P) → StandsIn lists.loading (record {
      token = token;
      hash = hash;
      key = awaited.key;
      queue = awaited.queue;
      placeholder = awaited.placeholder;
    }) → (waiting : HeldLoading K P) → StandsIn lists.loading waiting → waiting.token ≡ token
    → record {
      token = token;
      hash = hash;
      key = awaited.key;
      queue = awaited.queue;
      placeholder = awaited.placeholder;
    } ≡ waiting
awaited-is_loading {P = P} lists apart token hash awaited is waiting stands named =
    entry-is_loading {T = P} lists apart token hash (Entry.Loading awaited) is waiting stands
    named awaited refl

-- two tickets are equal where the test says so
same-ticket : (first second : ℕ) → (first == second) ≡ true → second ≡ first
same-ticket first second is = sym (eqb-true first second is)

other-ticket : (first second : ℕ) → (first == second) ≡ false → second ≢ first
other-ticket first second isnt same = eqb-false first second isnt (sym same)

-- where no placeholder has the ticket, none has it in the state
pub HasNoTicket-state : {K V P W A X : Type 0} (ticket_of : P → ℕ) (contents : Contents K V W A X P)
    (ticket : ℕ) → HasNoPlaceholder (λ other. ticket == ticket_of other) contents.lists
    → HasNoTicket ticket (state_of ticket_of contents)
HasNoTicket-state {K} {V} {P} ticket_of contents ticket none =
    each-image (λ (waiting : HeldLoading K P). (ticket == ticket_of waiting.placeholder) ≡ false)
    (λ (entry : LoadingEntry K). entry.ticket ≢ ticket) (loading_entry ticket_of)
    (λ waiting isnt. other-ticket ticket (ticket_of waiting.placeholder) isnt)
    contents.lists.loading none

-- a placeholder is under the hash of its key
pub waiting-under : {K V P : Type 0} (hashed : K → ℕ) (lists : Lists K V P)
    (waiting : HeldLoading K P) → StandsIn lists.loading waiting → AreHashed hashed lists
    → waiting.hash ≡ hashed waiting.key
waiting-under {K} {V} {P} hashed lists waiting stands are =
    all-middle (λ (w : HeldLoading K P). w.hash ≡ hashed w.key) stands.before waiting stands.after
    (subst (λ (l : List (HeldLoading K P)). AllByRecursion (λ w. w.hash ≡ hashed w.key) l)
    stands.split are.loading)

-- ---- a placeholder that leaves

module _ {K V P W A X : Type 0} (ticket_of : P → ℕ) (contents : Contents K V W A X P)
    (apart : AreApart contents.lists) (token : ℕ) (waiting : HeldLoading K P)
    (stands : StandsIn contents.lists.loading waiting) (named : waiting.token ≡ token) where
  -- the state without it
  abbrev pub left : CacheState K V
  left = record (state_of ticket_of contents) {
    loading = loading_entries ticket_of stands.before ++ loading_entries ticket_of stands.after;
  }

  pub left-state : state_with ticket_of contents (without_entry false token contents.lists) ≡ left
  left-state =
      ap (state_with ticket_of contents)
      (without_loading ticket_of contents apart (λ _. true) 0 token waiting stands named)
      ∙ ap (λ (l : List (LoadingEntry K)). record (state_of ticket_of contents) { loading = l })
      (map-append (loading_entry ticket_of) stands.before stands.after)

  -- it was there
  pub left-there : (ticket : ℕ) → (ticket == ticket_of waiting.placeholder) ≡ true
      → IsLoadingTicket ticket (state_of ticket_of contents)
      (loading_entries ticket_of stands.before) (loading_entry ticket_of waiting)
      (loading_entries ticket_of stands.after)
  left-there ticket is = record {
    split = ap (loading_entries ticket_of) stands.split
        ∙ map-append (loading_entry ticket_of) stands.before (waiting ∷ stands.after);
    is_of_ticket = same-ticket ticket (ticket_of waiting.placeholder) is;
  }

  -- and for its key
  pub left-awaits : (ticket : ℕ) → (ticket == ticket_of waiting.placeholder) ≡ true → (key : K)
      → key ≡ waiting.key → AwaitsKey ticket (state_of ticket_of contents) key
  left-awaits ticket is key same = record {
    before = loading_entries ticket_of stands.before;
    entry = loading_entry ticket_of waiting;
    after = loading_entries ticket_of stands.after;
    there = left-there ticket is;
    of_key = sym same;
  }

  pub left-gives_up : (ticket : ℕ) → (ticket == ticket_of waiting.placeholder) ≡ true
      → GivesUpPlaceholder ticket (state_of ticket_of contents)
      (state_with ticket_of contents (without_entry false token contents.lists))
  left-gives_up ticket is =
      subst (λ (s : CacheState K V). GivesUpPlaceholder ticket (state_of ticket_of contents) s)
      (sym left-state)
      (GivesUpPlaceholder.was_there (loading_entries ticket_of stands.before)
      (loading_entry ticket_of waiting) (loading_entries ticket_of stands.after)
      (left-there ticket is))

  -- what is sound stays so
  pub left-sound : (equal : K → K → Bool) (hashed : K → ℕ) → IsSound ticket_of equal hashed contents
      → IsSound ticket_of equal hashed
      (record contents { lists = without_entry false token contents.lists })
  left-sound equal hashed sound =
      loading-sound ticket_of contents apart (λ _. true) 0 token waiting stands named equal refl
      hashed sound

  -- its key is nowhere then
  pub left-nowhere : (equal : K → K → Bool) → IsEquivalence equal → (hashed : K → ℕ)
      → IsSound ticket_of equal hashed contents
      → keys_by (equal waiting.key)
      (state_with ticket_of contents (without_entry false token contents.lists)) ≡ 0
  left-nowhere equal laws hashed sound =
      subst (λ (s : CacheState K V). keys_by (equal waiting.key) s ≡ 0) (sym left-state)
      (keys_by-taken equal laws waiting.key (state_of ticket_of contents) left waiting.key
      (laws.refl waiting.key)
      (keys_by-unloaded (equal waiting.key) (loading_entries ticket_of stands.before)
      (loading_entry ticket_of waiting) (loading_entries ticket_of stands.after)
      (state_of ticket_of contents) (left-there (ticket_of waiting.placeholder)
      (itself (ticket_of waiting.placeholder))).split) sound.valid)
    where
      itself : (n : ℕ) → (n == n) ≡ true
      itself n = eq-eqb n n refl

  -- the rings stay
  pub left-count : length (without_entry false token contents.lists).hot
      + length (without_entry false token contents.lists).cold
      ≡ length contents.lists.hot + length contents.lists.cold
  left-count = ap (λ (l : Lists K V P). length l.hot + length l.cold)
      (without_loading ticket_of contents apart (λ _. true) 0 token waiting stands named)

-- ---- room behind a pair

module _ {K V : Type 0} (rules : Rules K V) (weight : ℕ) (mid state : CacheState K V)
    (order : SameButOrder mid state) where
  -- it leads where it leads from the same state in another order
  makes-from : (calls : List (HookCall K V)) (ordered : CacheState K V)
      → MakesRoomBehind rules weight state calls ordered → (last : CacheState K V)
      → SameButOrder ordered last → UpToOrder (MakesRoomBehind rules weight mid calls) last
  makes-from _ _ (MakesRoomFor.takes_none light) last same = record {
    ordered = mid;
    holds = MakesRoomFor.takes_none light;
    same = SameButOrder-trans mid state last order same;
  }
  makes-from _ _ (MakesRoomFor.takes_some calls ordered heavy evicts) last same =
      UpToOrder-map _ _ last (λ now e. MakesRoomFor.takes_some calls now heavy e)
      (evicts-from rules mid state last calls order
      (record { ordered = ordered; holds = evicts; same = same }))

-- ---- a pair that is put in

module _ {K V P W A X : Type 0} (ticket_of : P → ℕ) (contents : Contents K V W A X P)
    (token hash : ℕ) (item : Item K V) (new : Lists K V P)
    (puts : PutsItem contents.lists token hash item new) where
  held : HeldItem K V
  held = record { token = token; hash = hash; item = item }

  put-same : SameButOrder (model_entered item (state_of ticket_of contents))
      (state_with ticket_of contents new)
  unfolding held
  put-same = subst (λ (s : CacheState K V). SameButOrder s (state_with ticket_of contents new))
      (entered-state ticket_of contents held contents.lists)
      (state_of-reordered ticket_of contents _ new puts.put)

  put-sound : (equal : K → K → Bool) → IsEquivalence equal → (hashed : K → ℕ)
      → keys_by (equal item.key) (state_of ticket_of contents) ≡ 0 → item.mark ≤ contents.mark_cut
      → hash ≡ hashed item.key → IsSound ticket_of equal hashed contents
      → IsSound ticket_of equal hashed (record contents { lists = new })
  unfolding held
  put-sound equal laws hashed nowhere marked under sound = record {
    valid = SameButOrder-valid equal _ (state_with ticket_of contents new) put-same
        (entered-valid equal laws item (state_of ticket_of contents) nowhere marked sound.valid);
    sized = sound.sized;
    hashed = AreHashed-reordered hashed _ new puts.put
        (AreHashed-room hashed new.next new.room (entered held contents.lists)
        (AreHashed-entered hashed held contents.lists under sound.hashed));
  }

  -- the rings have one item more at most
  put-count : length new.hot + length new.cold
      ≤ length contents.lists.hot + length contents.lists.cold + 1
  unfolding held
  put-count = omega (
    arith,
    ap (λ (l : Lists K V P). length l.hot + length l.cold) puts.put.same,
    entered-count held contents.lists,
  )

  -- room is made behind it
  put-makes : (rules : Rules K V) (weight : ℕ) (pair : Item K V) → item ≡ pair
      → (last : CacheState K V) (calls : List (HookCall K V))
      → UpToOrder (MakesRoomBehind rules weight (state_with ticket_of contents new) calls) last
      → UpToOrder (MakesRoomBehind rules weight (model_entered pair (state_of ticket_of contents))
      calls) last
  put-makes rules weight pair is last calls makes =
      makes-from rules weight (model_entered pair (state_of ticket_of contents))
      (state_with ticket_of contents new)
      (subst (λ (i : Item K V). SameButOrder (model_entered i (state_of ticket_of contents))
      (state_with ticket_of contents new)) is put-same) calls makes.ordered makes.holds last
      makes.same

-- ---- a pair that is put in where the placeholder stands

module _ {K V P W A X : Type 0} (ticket_of : P → ℕ) (contents : Contents K V W A X P)
    (apart : AreApart contents.lists) (token : ℕ) (waiting : HeldLoading K P)
    (stands : StandsIn contents.lists.loading waiting) (named : waiting.token ≡ token)
    (queue : Queue) (mark weight : ℕ) (value : V) (new : Lists K V P)
    (fills : FillsToken contents.lists token (filled queue mark weight value) new) where
  -- the cache without the placeholder
  abbrev pub without : Contents K V W A X P
  without = record contents { lists = without_entry false token contents.lists }

  filled-puts : PutsItem (without_entry false token contents.lists) token waiting.hash
      (filled queue mark weight value waiting.key) new
  filled-puts =
      subst (λ (w : HeldLoading K P). PutsItem (without_entry false token contents.lists) token
      w.hash (filled queue mark weight value w.key) new)
      (awaited-is_loading contents.lists apart token fills.hash fills.awaited fills.taken waiting
      stands named)
      fills.last

  -- what is sound stays so
  pub filled-sound : (equal : K → K → Bool) → IsEquivalence equal → (hashed : K → ℕ)
      → mark ≤ contents.mark_cut
      → IsSound ticket_of equal hashed contents
      → IsSound ticket_of equal hashed (record contents { lists = new })
  filled-sound equal laws hashed marked sound =
      put-sound ticket_of without token waiting.hash (filled queue mark weight value waiting.key)
      new filled-puts equal laws hashed
      (left-nowhere ticket_of contents apart token waiting stands named equal laws hashed sound)
      marked (waiting-under hashed contents.lists waiting stands sound.hashed)
      (left-sound ticket_of contents apart token waiting stands named equal hashed sound)

  -- the rings have one item more at most
  pub filled-count : length new.hot + length new.cold
      ≤ length contents.lists.hot + length contents.lists.cold + 1
  filled-count = omega (
    arith,
    put-count ticket_of without token waiting.hash
        (filled queue mark weight value waiting.key) new filled-puts,
    left-count ticket_of contents apart token waiting stands named,
  )

  -- room is made behind it
  pub filled-makes : (rules : Rules K V) (pair : Item K V)
      → filled queue mark weight value waiting.key ≡ pair
      → (last : CacheState K V) (calls : List (HookCall K V))
      → UpToOrder (MakesRoomBehind rules weight (state_with ticket_of contents new) calls) last
      → UpToOrder (MakesRoomBehind rules weight (model_entered pair (state_of ticket_of without))
      calls) last
  filled-makes rules pair is last calls makes =
      put-makes ticket_of without token waiting.hash (filled queue mark weight value waiting.key)
      new filled-puts rules weight pair is last calls makes

  -- what is told from there is told from where the definition puts the pair
  pub filled-tells : (pair : Item K V) → filled queue mark weight value waiting.key ≡ pair
      → (last : CacheState K V) (calls : List (HookCall K V))
      → TellsResidents (state_with ticket_of contents new) calls last
      → TellsResidents (model_entered pair (state_of ticket_of without)) calls last
  filled-tells pair is last calls tells =
      Leads-from (residents (model_entered pair (state_of ticket_of without)))
      (residents (state_with ticket_of contents new))
      (residents-ordered (model_entered pair (state_of ticket_of without))
      (state_with ticket_of contents new)
      (subst (λ (i : Item K V). SameButOrder (model_entered i (state_of ticket_of without))
      (state_with ticket_of contents new)) is
      (put-same ticket_of without token waiting.hash (filled queue mark weight value waiting.key)
      new filled-puts))) tells

-- ---- the fill

module _ {K V : Type 0} (rules : Rules K V) (weight : ℕ) (mid : CacheState K V) where
  -- whose placeholder it is does not matter to the room
  makes-room : (ticket : ℕ) (old : CacheState K V) (calls : List (HookCall K V))
      (new : CacheState K V) → MakesRoomBehind rules weight mid calls new
      → MakesRoomFor ticket old rules weight mid calls new
  makes-room ticket old _ _ (MakesRoomFor.takes_none light) = MakesRoomFor.takes_none light
  makes-room ticket old _ _ (MakesRoomFor.takes_some calls new heavy evicts) =
      MakesRoomFor.takes_some calls new heavy evicts

module _ {K V : Type 0} (steady : Type 0) (ticket : ℕ) (old : CacheState K V) (rules : Rules K V)
    (marked : Bool) (value : V) (before : List (LoadingEntry K)) (entry : LoadingEntry K)
    (after : List (LoadingEntry K)) (there : IsLoadingTicket ticket old before entry after)
    (mid : CacheState K V) (is : mid ≡ record old { loading = before ++ after }) where
  -- a pair that was admitted
  pub Fills-admitted : (new : CacheState K V) (weighed : _) (first rest : List (HookCall K V))
      → Checks steady rules old.hot_target entry.key value (Admission.Admitted weighed) first
      → Evicting steady (MakesRoomBehind rules weighed.weight)
      (model_entered (new_item rules entry.key weighed.value
      (queue_for rules mid entry.key weighed.value entry.queue)
      (if marked then first_mark old.mark_cut else 0)) mid)
      new rest
      → Fills steady ticket old rules marked value new (first ++ rest)
  Fills-admitted new weighed first rest checks makes = record {
    before = before;
    entry = entry;
    after = after;
    there = there;
    order = elim checks.2 [
      | inl nothing ↦ subst (λ l. AreFillCalls entry.key value (l ++ rest)) (sym nothing.0)
          (AreFillCalls.admits rest makes.1)
      | inr once ↦ subst (λ l. AreFillCalls entry.key value (l ++ rest)) (sym once)
          (AreFillCalls.lightens weighed.value rest makes.1)
    ];
    tells = Tells-append first rest
        (Checks-tells steady rules old.hot_target entry.key value weighed first (residents old)
        checks)
        (Leads-from ((entry.key, weighed.value) ∷ residents old) (residents (entered_in mid))
        (subst (λ ps. IsPermutation ((entry.key, weighed.value) ∷ ps) (residents (entered_in mid)))
        (ap residents is)
        (IsPermutation-sym _ _ (residents-entered (new_item rules entry.key weighed.value
        (queue_for rules mid entry.key weighed.value entry.queue)
        (if marked then first_mark old.mark_cut else 0)) mid)))
        makes.2);
    step = λ s. UpToOrder-map _ _ new
        (λ now room. FillsPlaceholder.fills before entry after weighed.value first rest now there
        (checks.0 s) room)
        (UpToOrder-map _ _ new
        (λ now room. makes-room rules (rules.weight entry.key weighed.value) _ ticket old rest now
        room)
        (subst (λ (n : ℕ). UpToOrder (MakesRoomBehind rules n (entered_in
        (record old { loading = before ++ after })) rest) new) checks.1
        (subst (λ (m : CacheState K V). UpToOrder (MakesRoomBehind rules weighed.weight
        (entered_in m) rest) new) is (makes.0 s))));
  }
    where
      entered_in : CacheState K V → CacheState K V
      entered_in m = model_entered (new_item rules entry.key weighed.value
          (queue_for rules m entry.key weighed.value entry.queue)
          (if marked then first_mark old.mark_cut else 0)) m

  -- one that is too heavy
  pub Fills-too_heavy : (heavy : V) (first : List (HookCall K V))
      → Checks steady rules old.hot_target entry.key value (Admission.TooHeavy heavy) first
      → Fills steady ticket old rules marked value mid (first ++ EvictCold entry.key heavy ∷ [])
  Fills-too_heavy heavy first checks = record {
    before = before;
    entry = entry;
    after = after;
    there = there;
    order = subst (λ l. AreFillCalls entry.key value (l ++ EvictCold entry.key heavy ∷ []))
        (sym checks.1) (AreFillCalls.turns_away heavy);
    tells = subst (λ (ps : List (K × V)). Tells ((entry.key, value) ∷ residents old)
        (first ++ EvictCold entry.key heavy ∷ []) ps) (sym (ap residents is))
        (subst (λ l. Tells ((entry.key, value) ∷ residents old)
        (l ++ EvictCold entry.key heavy ∷ []) (residents old)) (sym checks.1)
        (Leads-changes entry.key value heavy
        (Leads-leaves (entry.key, heavy) (Leads-same (residents old)))));
    step = λ s. UpToOrder-exact _ _
        (subst (λ (m : CacheState K V). FillsPlaceholder ticket old rules marked value
        (first ++ EvictCold entry.key heavy ∷ []) None m) (sym is)
        (FillsPlaceholder.too_heavy before entry after heavy first there (checks.0 s)));
  }
