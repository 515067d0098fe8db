-- One round of a hot advance: how it begins, passes by items and ends; and round after round.
use Rattle.std.proofs.Common.{◌≡◌, ℕ, ◌+◌, ◌-◌, ◌*◌, ◌<◌, ◌≤◌, Bool, true, false, List, [], ◌∷◌, ◌++◌, length, map, refl, sym, ap, subst}
use Rattle.std.proofs.Common.{◌∙◌, arith, inl, inr, length-append, append_assoc, append-nil}
use Rattle.std.proofs.lemmas.Bool.{cases_lt}
use Rattle.std.proofs.lemmas.List.{length-map, map-append}
use Rattle.std.proofs.Math.Nat.{mul-le-mul_left}
use Rattle.quick_cache_model.specs.CacheState.{Item}
use Rattle.quick_cache_model.specs.Eviction.{lowered}
use Rattle.quick_cache_policy.specs.Rounds.{IsUnpinned, HaveMarks, AreAllPinned, AreUnmarked, HaveAtMost, MayTake, MayRaise, AfterTouches}
use Rattle.quick_cache_policy.specs.Rounds.{Passed, Stopped, EndsAllPinned, EndsSomeUnpinned, EndsAtVictim, Seen, Going, Rounds, IsMet}
use Rattle.quick_cache_policy.specs.Rounds.{NoneUnpinned, HasVictimFirst, IsLowered}
use Rattle.quick_cache_model.proofs.EachElement.{all-right, all-weaker}
use Rattle.quick_cache_policy.proofs.MappedLemmas.{each-mapped, each-unmapped, map-split}
use Rattle.quick_cache_policy.proofs.SeenLemmas.{seen-begins, seen-pinned, seen-marked}
use Rattle.quick_cache_policy.proofs.MarkLemmas.{lowered-none, lowered-twice, lowered-all, MayRaise-append, MayRaise-length, MayRaise-same}
use Rattle.quick_cache_policy.proofs.MarkLemmas.{MayRaise-none, MayRaise-one}

-- the first item of a list with something behind it
module _ {X : Type 0} where
  -- the list without the item
  record Begun (rest back : List X) (x : X) (after : List X) : Type 0 where
    tail : List X
    split : rest ≡ x ∷ tail
    behind : after ≡ tail ++ back

  begun : (rest back : List X) (x : X) (after : List X) → 0 < length rest
      → rest ++ back ≡ x ∷ after → Begun rest back x after
  begun [] back x after some e = absurd (omega (arith, some))
  begun (y ∷ ys) back x after some e =
      record { tail = ys; split = (let heads : y ≡ x = cc in ap (λ z. z ∷ ys) heads); behind = cc }

  -- a list of length 0
  nothing_left : (rest : List X) → length rest ≡ 0 → rest ≡ []
  nothing_left [] e = refl
  nothing_left (x ∷ xs) e = absurd (omega (arith, e))

-- One round, as it goes.
module _ {K V : Type 0} (steady : Type 0) (pinned : K → V → Bool) (takes_touches : Bool)
    (cut : ℕ) (may_count : ℕ → Type 0) where
  -- it begins with nothing visited
  pub round-begins : (old : List (Item K V))
      → Going steady pinned takes_touches cut may_count old 0 false old
  round-begins old = record {
    done = [];
    rest = old;
    raised = [];
    split = refl;
    place = refl;
    raises = MayRaise-none K V cut may_count takes_touches;
    now_is = sym (append-nil old);
    seen = seen-begins steady pinned;
  }

  -- as many items are in the ring as when the round began
  pub Going-length : (old : List (Item K V)) (visited : ℕ) (unpinned : Bool)
      (now : List (Item K V))
      → Going steady pinned takes_touches cut may_count old visited unpinned now
      → length now ≡ length old
  Going-length old visited unpinned now g = omega (
    arith,
    ap length g.now_is,
    length-append g.rest (map (lowered 1) g.raised),
    length-map g.raised (lowered 1),
    MayRaise-length cut may_count takes_touches g.done g.raised g.raises,
    ap length g.split,
    length-append g.done g.rest,
  )

  -- the item that is visited next
  next-begun : (old : List (Item K V)) (visited : ℕ) (unpinned : Bool) (now : List (Item K V))
      (x : Item K V) (after : List (Item K V))
      → (g : Going steady pinned takes_touches cut may_count old visited unpinned now)
      → visited < length old → now ≡ x ∷ after
      → Begun g.rest (map (lowered 1) g.raised) x after
  next-begun old visited unpinned now x after g lt is =
      begun g.rest (map (lowered 1) g.raised) x after
      (omega (arith, lt, g.place, ap length g.split, length-append g.done g.rest))
      (sym g.now_is ∙ is)

  -- one more is passed, whatever was seen of it
  round-passes : (old : List (Item K V)) (visited : ℕ) (unpinned more : Bool)
      (now : List (Item K V)) (x y : Item K V) (after : List (Item K V))
      → (g : Going steady pinned takes_touches cut may_count old visited unpinned now)
      → visited < length old → now ≡ x ∷ after → MayTake takes_touches cut may_count x y
      → Seen steady pinned (g.raised ++ y ∷ []) more
      → Going steady pinned takes_touches cut may_count old (visited + 1) more
      (after ++ lowered 1 y ∷ [])
  round-passes old visited unpinned more now x y after g lt is takes seen =
      let n = next-begun old visited unpinned now x after g lt is in
      record {
        done = g.done ++ x ∷ [];
        rest = n.tail;
        raised = g.raised ++ y ∷ [];
        split = g.split ∙ ap (λ l. g.done ++ l) n.split ∙ sym (append_assoc g.done (x ∷ []) n.tail);
        place = omega (arith, g.place, length-append g.done (x ∷ []));
        raises = MayRaise-append cut may_count takes_touches g.done g.raised (x ∷ []) (y ∷ [])
            g.raises (MayRaise-one cut may_count takes_touches x y takes);
        now_is = ap (λ l. l ++ lowered 1 y ∷ []) n.behind
            ∙ append_assoc n.tail (map (lowered 1) g.raised) (lowered 1 y ∷ [])
            ∙ ap (λ l. n.tail ++ l) (sym (map-append (lowered 1) g.raised (y ∷ [])));
        seen = seen;
      }

  -- One more is passed that is pinned: `x` is the first of the ring, and `y` the same item once it
  -- took in its touches.
  pub round-passes_pinned : (old : List (Item K V)) (visited : ℕ) (unpinned : Bool)
      (now : List (Item K V)) (x y : Item K V) (after : List (Item K V))
      → Going steady pinned takes_touches cut may_count old visited unpinned now
      → visited < length old → now ≡ x ∷ after → MayTake takes_touches cut may_count x y
      → (steady → pinned y.key y.value ≡ true)
      → Going steady pinned takes_touches cut may_count old (visited + 1) unpinned
      (after ++ lowered 1 y ∷ [])
  round-passes_pinned old visited unpinned now x y after g lt is takes met =
      round-passes old visited unpinned unpinned now x y after g lt is takes
      (seen-pinned steady pinned g.raised y unpinned g.seen met)

  -- one more is passed that is unpinned and has a mark
  pub round-passes_marked : (old : List (Item K V)) (visited : ℕ) (unpinned : Bool)
      (now : List (Item K V)) (x y : Item K V) (after : List (Item K V))
      → Going steady pinned takes_touches cut may_count old visited unpinned now
      → visited < length old → now ≡ x ∷ after → MayTake takes_touches cut may_count x y
      → 0 < y.mark → (steady → IsUnpinned pinned y)
      → Going steady pinned takes_touches cut may_count old (visited + 1) true
      (after ++ lowered 1 y ∷ [])
  round-passes_marked old visited unpinned now x y after g lt is takes marked met =
      round-passes old visited unpinned true now x y after g lt is takes
      (seen-marked steady pinned g.raised y unpinned g.seen marked met)

  -- the next is the victim, and stays the first
  pub round-stops : (old : List (Item K V)) (visited : ℕ) (unpinned : Bool)
      (now : List (Item K V)) (x y : Item K V) (after : List (Item K V))
      → may_count 0
      → Going steady pinned takes_touches cut may_count old visited unpinned now
      → visited < length old → now ≡ x ∷ after → MayTake takes_touches cut may_count x y
      → y.mark ≡ 0 → (steady → IsUnpinned pinned y)
      → AfterTouches takes_touches cut may_count old
      (λ mid. EndsAtVictim steady pinned mid (y ∷ after) (visited + 1))
  round-stops old visited unpinned now x y after none_counted g lt is takes unmarked met =
      let n = next-begun old visited unpinned now x after g lt is in
      let one = MayRaise-one cut may_count takes_touches x y takes in
      let same = MayRaise-same cut may_count takes_touches none_counted n.tail in
      let behind = MayRaise-append cut may_count takes_touches (x ∷ []) (y ∷ []) n.tail n.tail
      one same in
      let all = MayRaise-append cut may_count takes_touches g.done g.raised (x ∷ n.tail)
      (y ∷ n.tail) g.raises behind in
      record {
        mid = g.raised ++ y ∷ n.tail;
        raises = subst
            (λ l. MayRaise takes_touches cut may_count l (g.raised ++ y ∷ n.tail))
            (sym (g.split ∙ ap (λ l. g.done ++ l) n.split)) all;
        holds = record {
          before = g.raised;
          item = y;
          after = n.tail;
          split = refl;
          turned = ap (λ l. y ∷ l) n.behind;
          unmarked = unmarked;
          unpinned = met;
          passes = g.seen.passes;
          counts = omega (
            arith,
            g.place,
            MayRaise-length cut may_count takes_touches g.done g.raised g.raises,
          );
        };
      }

  -- each item was visited, and passed
  record Over (old : List (Item K V)) (visited : ℕ) (now raised : List (Item K V)) : Type 0 where
    raises : MayRaise takes_touches cut may_count old raised
    passed : (steady → HaveMarks pinned 1 raised) → Passed steady pinned raised now visited

  over : (old : List (Item K V)) (visited : ℕ) (unpinned : Bool) (now : List (Item K V))
      → (g : Going steady pinned takes_touches cut may_count old visited unpinned now)
      → visited ≡ length old → Over old visited now g.raised
  over old visited unpinned now g is =
      let none = nothing_left g.rest
      (omega (arith, is, g.place, ap length g.split, length-append g.done g.rest)) in
      let whole : old ≡ g.done = g.split ∙ ap (λ l. g.done ++ l) none ∙ append-nil g.done in
      record {
        raises = subst (λ l. MayRaise takes_touches cut may_count l g.raised) (sym whole) g.raises;
        passed = λ passes. record {
          lowers = g.now_is ∙ ap (λ l. l ++ map (lowered 1) g.raised) none;
          passes = passes;
          counts = omega (
            arith,
            g.place,
            MayRaise-length cut may_count takes_touches g.done g.raised g.raises,
          );
        };
      }

  -- the round is over, and met no unpinned item
  pub round-over_pinned : (old : List (Item K V)) (visited : ℕ) (now : List (Item K V))
      → Going steady pinned takes_touches cut may_count old visited false now
      → visited ≡ length old
      → AfterTouches takes_touches cut may_count old
      (λ mid. EndsAllPinned steady pinned mid now visited)
  round-over_pinned old visited now g is =
      let o = over old visited false now g is in
      record {
        mid = g.raised;
        raises = o.raises;
        holds = (o.passed g.seen.passes, g.seen.none refl);
      }

  -- the round is over, and met an unpinned item
  pub round-over_unpinned : (old : List (Item K V)) (visited : ℕ) (now : List (Item K V))
      → Going steady pinned takes_touches cut may_count old visited true now
      → visited ≡ length old
      → AfterTouches takes_touches cut may_count old
      (λ mid. EndsSomeUnpinned steady pinned mid now visited)
  round-over_unpinned old visited now g is =
      let o = over old visited true now g is in
      record {
        mid = g.raised;
        raises = o.raises;
        holds = (o.passed g.seen.passes, (g.seen.some refl).0, (g.seen.some refl).1);
      }

-- Round after round.
module _ {K V : Type 0} (steady : Type 0) (pinned : K → V → Bool) where
  -- 0 marks are there always
  marks-none : (items : List (Item K V)) → HaveMarks pinned 0 items
  marks-none [] = tt
  marks-none (x ∷ xs) = (λ u. omega arith, marks-none xs)

  -- no round yet
  pub rounds-begin : (cut : ℕ) (old : List (Item K V)) → Rounds steady pinned cut old old 0
  rounds-begin cut old = record {
    rounds = 0;
    lowers = sym (lowered-none old);
    passes = λ s. marks-none old;
    some = λ s all. refl;
    within = omega arith;
    counts = omega arith;
  }

  -- pins do not go by marks
  still_pinned : (n : ℕ) (items : List (Item K V)) → AreAllPinned pinned items
      → AreAllPinned pinned (map (lowered n) items)
  still_pinned n = each-mapped (λ i. pinned i.key i.value ≡ true)
      (λ i. pinned i.key i.value ≡ true) (lowered n) (λ i h. h)

  were_pinned : (n : ℕ) (items : List (Item K V)) → AreAllPinned pinned (map (lowered n) items)
      → AreAllPinned pinned items
  were_pinned n = each-unmapped (λ i. pinned i.key i.value ≡ true)
      (λ i. pinned i.key i.value ≡ true) (lowered n) (λ i h. h)

  -- a mark that is left after n were taken is one more
  marks-more : (n : ℕ) (items : List (Item K V)) → HaveMarks pinned 1 (map (lowered n) items)
      → HaveMarks pinned (n + 1) items
  marks-more n = each-unmapped (λ i. IsUnpinned pinned i → 1 ≤ i.mark)
      (λ i. IsUnpinned pinned i → n + 1 ≤ i.mark) (lowered n)
      (λ i h u. let above : 1 ≤ i.mark - n = h u in omega (arith, above))

  -- one more round, which met an unpinned item and no victim
  pub rounds-go_on : (cut : ℕ) (old now new : List (Item K V)) (n k : ℕ) → HaveAtMost cut old
      → Rounds steady pinned cut old now n → EndsSomeUnpinned steady pinned now new k
      → Rounds steady pinned cut old new (n + k)
  rounds-go_on cut old now new n k marks r ends =
      let passed = ends.0 in
      let same : length now ≡ length old = ap length r.lowers
      ∙ length-map old (lowered r.rounds) in
      let below : r.rounds < cut = elim (cases_lt r.rounds cut) [
        | inl h ↦ h
        | inr h ↦
            let e : r.rounds ≡ cut = omega (arith, r.within) in
            absurd (ends.2 (subst AreUnmarked
            (sym (r.lowers ∙ ap (λ m. map (lowered m) old) e)) (lowered-all cut old marks)))
      ] in
      record {
        rounds = r.rounds + 1;
        lowers = passed.lowers ∙ ap (map (lowered 1)) r.lowers ∙ lowered-twice r.rounds old;
        passes = λ s. marks-more r.rounds old
            (subst (HaveMarks pinned 1) r.lowers (passed.passes s));
        some = λ s all. absurd (ends.1 s
            (subst (AreAllPinned pinned) (sym r.lowers) (still_pinned r.rounds old all)));
        within = omega (arith, below);
        counts = grind (arith, r.counts, passed.counts, same);
      }

  -- each item is pinned: where pinning is steady, that was the first round
  pub rounds-give_up : (cut : ℕ) (old now new : List (Item K V)) (n k : ℕ)
      → Rounds steady pinned cut old now n → EndsAllPinned steady pinned now new k → steady
      → NoneUnpinned pinned old new (n + k)
  rounds-give_up cut old now new n k r ends s =
      let passed = ends.0 in
      let same : length now ≡ length old = ap length r.lowers
      ∙ length-map old (lowered r.rounds) in
      let pins = were_pinned r.rounds old (subst (AreAllPinned pinned) r.lowers (ends.1 s)) in
      let first = r.some s pins in
      let none : n ≡ 0 = r.counts ∙ ap (λ m. m * length old) first ∙ (omega arith) in
      record {
        all_pinned = pins;
        lowers = passed.lowers
            ∙ ap (map (lowered 1))
            (r.lowers ∙ ap (λ m. map (lowered m) old) first ∙ lowered-none old);
        counts = omega (arith, passed.counts, none, same);
      }

  -- whether or not it was, each mark fell by the rounds
  pub rounds-lower : (cut : ℕ) (old now new : List (Item K V)) (n k : ℕ)
      → Rounds steady pinned cut old now n → Passed steady pinned now new k
      → IsLowered old new
  rounds-lower cut old now new n k r passed = record {
    rounds = r.rounds + 1;
    lowers = passed.lowers ∙ ap (map (lowered 1)) r.lowers ∙ lowered-twice r.rounds old;
  }

  -- the round stopped at an item that has no mark left
  pub rounds-reach : (cut : ℕ) (old now new : List (Item K V)) (n k : ℕ)
      → Rounds steady pinned cut old now n → Stopped steady pinned now new k
      → HasVictimFirst old new
  rounds-reach cut old now new n k r stopped =
      let u = map-split (lowered r.rounds) old stopped.before stopped.item stopped.after
      (sym r.lowers ∙ stopped.split) in
      record {
        rounds = r.rounds;
        before = u.before_of;
        item = u.v_of;
        after = u.after_of;
        split = u.split;
        unmarked = omega (arith, ap (λ (i : Item K V). i.mark) u.middle, stopped.unmarked);
        turned = stopped.turned
            ∙ ap (λ i. i ∷ stopped.after ++ map (lowered 1) stopped.before) u.middle
            ∙ ap (λ l. lowered r.rounds u.v_of ∷ l ++ map (lowered 1) stopped.before) u.back
            ∙ ap (λ l. lowered r.rounds u.v_of ∷ map (lowered r.rounds) u.after_of
            ++ map (lowered 1) l) u.front
            ∙ ap (λ l. lowered r.rounds u.v_of ∷ map (lowered r.rounds) u.after_of ++ l)
            (lowered-twice r.rounds u.before_of);
      }

  -- where pinning is steady, it is the victim of the definition
  pub rounds-stop : (cut : ℕ) (old now new : List (Item K V)) (n k : ℕ)
      → Rounds steady pinned cut old now n → Stopped steady pinned now new k → steady
      → IsMet pinned old new (n + k)
  unfolding rounds-reach
  rounds-stop cut old now new n k r stopped s =
      let u = map-split (lowered r.rounds) old stopped.before stopped.item stopped.after
      (sym r.lowers ∙ stopped.split) in
      let item = u.v_of in
      let unpinned : IsUnpinned pinned item =
      sym (ap (λ (i : Item K V). pinned i.key i.value) u.middle) ∙ stopped.unpinned s in
      let here = all-right (λ i. IsUnpinned pinned i → r.rounds ≤ i.mark) u.before_of
      (item ∷ u.after_of) (subst (HaveMarks pinned r.rounds) u.split (r.passes s)) in
      let is : item.mark ≡ r.rounds =
      omega (arith, ap (λ (i : Item K V). i.mark) u.middle, stopped.unmarked, here.0 unpinned) in
      let front = marks-more r.rounds u.before_of
      (subst (HaveMarks pinned 1) u.front (stopped.passes s)) in
      let many : length stopped.before ≡ length u.before_of =
      ap length u.front ∙ length-map u.before_of (lowered r.rounds) in
      let turned = (rounds-reach cut old now new n k r stopped).turned in
      record {
        before = u.before_of;
        item = item;
        after = u.after_of;
        split = u.split;
        is_victim = record {
          unpinned = unpinned;
          earlier = all-weaker (λ i. IsUnpinned pinned i → r.rounds + 1 ≤ i.mark)
              (λ i. IsUnpinned pinned i → item.mark < i.mark)
              (λ i h p. let above : r.rounds + 1 ≤ i.mark = h p in omega (arith, is, above))
              u.before_of front;
          later = all-weaker (λ i. IsUnpinned pinned i → r.rounds ≤ i.mark)
              (λ i. IsUnpinned pinned i → item.mark ≤ i.mark)
              (λ i h p. let above : r.rounds ≤ i.mark = h p in omega (arith, is, above))
              u.after_of here.1;
        };
        turned = turned
            ∙ ap (λ m. lowered m item ∷ map (lowered m) u.after_of
            ++ map (lowered (m + 1)) u.before_of) (sym is);
        counts = omega
            (arith, r.counts, stopped.counts, many, ap (λ m. m * length old) is);
      }

  -- the visits of some rounds and one more, whatever the pins answer
  pub visits-within : (cut : ℕ) (old now : List (Item K V)) (n k : ℕ)
      → Rounds steady pinned cut old now n → k ≤ length now → n + k ≤ (cut + 1) * length old
  visits-within cut old now n k r le =
      let same : length now ≡ length old = ap length r.lowers
      ∙ length-map old (lowered r.rounds) in
      let all : length old * r.rounds ≤ length old * cut =
      mul-le-mul_left (length old) r.within in
      grind (arith, r.counts, all, same, le)

  -- a round that stopped made at most as many visits as there are items
  pub stopped-within : (old new : List (Item K V)) (n : ℕ) → Stopped steady pinned old new n
      → n ≤ length old
  stopped-within old new n s = omega
      (arith, s.counts, ap length s.split, length-append s.before (s.item ∷ s.after))
