use Rattle.std.proofs.Common.{[], ◌∷◌, inl, inr, refl, subst, arith}
use Rattle.std.proofs.lemmas.Fn.{says}
use Rattle.std.specs.Int.NonZero.{non_zero_u32_get as number}
use Rattle.quick_cache_policy.specs.Predicates.{Answers, MayBeAsked}
use Rattle.quick_cache_shard.specs.PlaceWalks.{EndsAt}
use Rattle.quick_cache_shard.specs.WalksFrom.{WalkFrom, ShowsNext, number_or_zero}
use Rattle.quick_cache_shard.proofs.RetainSomeLemmas.{RetainsTo-none, RetainsTo-next, RetainsTo-ends, RetainsTo-asked, IdlesWithin-after}
use Rattle.quick_cache_shard.proofs.RetainSomeLemmas.{asked-there, token-taken}
use Rattle.quick_cache_shard.proofs.shard.CacheShard.retain_some.Goals as goal

-- nothing was passed
pub loop-init : goal.loop-init
loop-init g c = (
  (
    [],
    refl,
    RetainsTo-none (Answers g.F.Fn c.args.keep) (number_or_zero c.args.after)
        c.args.self.now,
  ),
  record { room = omega arith; same = refl; sound = c.facts.ensures },
)

-- it is asked of an item that is there, and was there before
pub keep-requires : goal.keep-requires
keep-requires g c =
    let shows = subst (λ (walk : WalkFrom g.row.K.Denot g.row.V.Denot).
    ShowsNext walk (c.in-Some.token, c.in-Some.key, c.in-Some.value) c.next.new.self)
    c.iter_from.ensures.begins c.in-Some.ensures.steps in
    asked-there (MayBeAsked g.F.Fn c.args.keep) c.loop.self.state
    (RetainsTo-asked (Answers g.F.Fn c.args.keep) (number_or_zero c.args.after) c.args.self.now
    (MayBeAsked g.F.Fn c.args.keep) c.requires.callable c.loop.invariant.0.0
    (number_or_zero c.loop.at) c.loop.self c.loop.invariant.0.2)
    shows.item shows.there c.in-Some.key c.in-Some.value shows.key shows.value

-- one more was passed, and goes
pub loop-preserved : goal.loop-preserved
loop-preserved g c =
    let to = c.loop.invariant.0 in
    let shows = subst (λ (walk : WalkFrom g.row.K.Denot g.row.V.Denot).
    ShowsNext walk (c.in-Some.token, c.in-Some.key, c.in-Some.value) c.next.new.self)
    c.iter_from.ensures.begins c.in-Some.ensures.steps in (
      (
        (number c.in-Some.token, shows.item.key) ∷ to.0,
        omega (arith, to.1),
        RetainsTo-next (Answers g.F.Fn c.args.keep) (number_or_zero c.args.after)
            c.args.self.now g.K.PartialEq.eq g.met.K.Eq.laws.refl to.0
            (number_or_zero c.loop.at) c.loop.self to.2 c.loop.invariant.1.sound
            (number c.in-Some.token) c.remove_token.new.self
            (record {
              item = shows.item;
              next = shows.next;
              there = shows.there;
              asks = inr (
                record {
                  shown_key = c.in-Some.key;
                  shown_value = c.in-Some.value;
                  shows = (shows.key, shows.value);
                  says = says g.F.Fn c.keep.ensures c.if-keep.false;
                },
                token-taken c.loop.self c.remove_token.new.self (number c.in-Some.token)
                    shows.item.key shows.next.there c.remove_token.result
                    c.remove_token.ensures.takes c.remove_token.ensures.leaves,
              );
            }),
      ),
      IdlesWithin-after g.K.PartialEq.eq c.args.self.now c.loop.self c.remove_token.new.self
          c.loop.invariant.1 c.remove_token.ensures.stays,
    )

-- one more was passed, and stays
pub loop-preserved-then-keep : goal.loop-preserved-then-keep
loop-preserved-then-keep g c =
    let to = c.loop.invariant.0 in
    let shows = subst (λ (walk : WalkFrom g.row.K.Denot g.row.V.Denot).
    ShowsNext walk (c.in-Some.token, c.in-Some.key, c.in-Some.value) c.next.new.self)
    c.iter_from.ensures.begins c.in-Some.ensures.steps in (
      (
        (number c.in-Some.token, shows.item.key) ∷ to.0,
        omega (arith, to.1),
        RetainsTo-next (Answers g.F.Fn c.args.keep) (number_or_zero c.args.after)
            c.args.self.now g.K.PartialEq.eq g.met.K.Eq.laws.refl to.0
            (number_or_zero c.loop.at) c.loop.self to.2 c.loop.invariant.1.sound
            (number c.in-Some.token) c.loop.self
            (record {
              item = shows.item;
              next = shows.next;
              there = shows.there;
              asks = inl (
                record {
                  shown_key = c.in-Some.key;
                  shown_value = c.in-Some.value;
                  shows = (shows.key, shows.value);
                  says = says g.F.Fn c.keep.ensures c.if-keep.true;
                },
                refl,
              );
            }),
      ),
      c.loop.invariant.1,
    )

-- none was left behind
pub returns-in_default-clause-retains : goal.returns-in_default-clause-retains
returns-in_default-clause-retains g c =
    let to = c.loop.invariant.0 in
    let ends = subst (λ (walk : WalkFrom g.row.K.Denot g.row.V.Denot).
    EndsAt walk.places walk.after) c.iter_from.ensures.begins c.in_default.ensures.steps.0 in
    record {
      passed = to.0;
      last = number_or_zero c.loop.at;
      retains = to.2;
      stops = inr (
        omega (arith, to.1, c.loop-test.true),
        RetainsTo-ends (Answers g.F.Fn c.args.keep) (number_or_zero c.args.after)
            c.args.self.now g.K.PartialEq.eq g.met.K.Eq.laws.refl to.0 (number_or_zero c.loop.at)
            c.loop.self to.2 ends,
        refl,
      );
      counts = omega
          (arith, c.saturating_sub.ensures, c.len-before.ensures.count, c.len.ensures.count);
    }

-- so many were passed
pub returns-clause-retains : goal.returns-clause-retains
returns-clause-retains g c =
    let to = c.loop.invariant.0 in record {
      passed = to.0;
      last = number_or_zero c.loop.at;
      retains = to.2;
      stops = inl (omega (arith, to.1, c.loop.auto.counter-end, c.loop-test.false), refl);
      counts = omega
          (arith, c.saturating_sub-2.ensures, c.len-before.ensures.count, c.len-2.ensures.count);
    }
