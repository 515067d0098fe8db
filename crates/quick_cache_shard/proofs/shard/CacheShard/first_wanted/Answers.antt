use Rattle.std.proofs.Common.{rules, ◌+◌, sym, ap, subst, arith}
use Rattle.std.proofs.lemmas.Fn.{says}
use Rattle.std.specs.List.{Contains}
use Rattle.std.specs.Int.NonZero.{non_zero_u32_get as number}
use Rattle.quick_cache_policy.specs.Predicates.{Answers, MayBeAsked}
use Rattle.quick_cache_shard.specs.PlaceWalks.{IsNextPlace, EndsAt}
use Rattle.quick_cache_shard.specs.TakesWanted.{PassesTo}
use Rattle.quick_cache_shard.specs.WalksFrom.{WalkFrom, number_or_zero}
use Rattle.quick_cache_shard.proofs.RetainSomeLemmas.{asked-there}
use Rattle.quick_cache_shard.proofs.TakesWantedLemmas.{PassesTo-none, PassesTo-next, IsFirstWanted-next, WantsNone-ends}
use Rattle.quick_cache_shard.proofs.shard.CacheShard.first_wanted.Goals as goal

-- nothing was shown
pub loop-token-init : goal.loop-token-init
loop-token-init g c =
    let begins = c.iter_from-walk.ensures.begins in
    record {
      places = ap (λ (walk : WalkFrom g.row.K.Denot g.row.V.Denot). walk.places) begins;
      residents = ap (λ (walk : WalkFrom g.row.K.Denot g.row.V.Denot). walk.residents) begins;
      behind = omega (arith, ap (λ (walk : WalkFrom g.row.K.Denot g.row.V.Denot). walk.after) begins);
      passes = subst (λ (walk : WalkFrom g.row.K.Denot g.row.V.Denot).
          PassesTo (Answers g.F.Fn c.args.wanted.now) (number_or_zero c.args.after) c.args.self.now
          (walk.after + 1)) (sym begins)
          (PassesTo-none (Answers g.F.Fn c.args.wanted.now) (number_or_zero c.args.after)
          c.args.self.now);
    }

-- it is asked of an item that is there
pub wanted-requires : goal.wanted-requires
wanted-requires g c =
    let shows = c.in-Some.ensures.steps in
    asked-there (MayBeAsked g.F.Fn c.args.wanted.now) c.args.self.now.state c.requires.callable
    shows.item
    (subst (λ items. Contains items shows.item) c.loop-token.invariant.residents shows.there)
    c.in-Some.key c.in-Some.value shows.key shows.value

-- the next one was not wanted either
pub loop-token-preserved : goal.loop-token-preserved
loop-token-preserved g c =
    let shows = c.in-Some.ensures.steps in
    let is = c.loop-token.invariant in
    let token = number c.in-Some.token in
    let goes_on = ap (λ (walk : WalkFrom g.row.K.Denot g.row.V.Denot). walk.after) shows.goes_on in
    record {
      places = search rules;
      residents = search rules;
      behind = omega (arith, goes_on, is.behind, shows.next.above);
      passes = subst (λ n. PassesTo (Answers g.F.Fn c.args.wanted.now)
          (number_or_zero c.args.after) c.args.self.now (n + 1)) (sym goes_on)
          (PassesTo-next (Answers g.F.Fn c.args.wanted.now) (number_or_zero c.args.after)
          c.args.self.now g.K.PartialEq.eq g.met.K.Eq.laws.refl c.iter_from-walk.ensures.sound
          c.loop-token.walk.after token shows.item
          (subst (λ places. IsNextPlace places c.loop-token.walk.after (token, shows.item.key))
          is.places shows.next)
          (subst (λ items. Contains items shows.item) is.residents shows.there) is.passes
          (record {
            shown_key = c.in-Some.key;
            shown_value = c.in-Some.value;
            shows = (shows.key, shows.value);
            says = says g.F.Fn c.wanted.ensures c.if-wanted.false;
          }));
    }

-- it is the first that is wanted
pub returns-then-wanted : goal.returns-then-wanted
returns-then-wanted g c =
    let shows = c.in-Some.ensures.steps in
    let is = c.loop-token.invariant in
    let token = number c.in-Some.token in record {
      finds = (
        shows.item,
        IsFirstWanted-next (Answers g.F.Fn c.args.wanted.now) (number_or_zero c.args.after)
            c.args.self.now g.K.PartialEq.eq g.met.K.Eq.laws.refl c.iter_from-walk.ensures.sound
            c.loop-token.walk.after token shows.item
            (subst (λ places. IsNextPlace places c.loop-token.walk.after (token, shows.item.key))
            is.places shows.next)
            (subst (λ items. Contains items shows.item) is.residents shows.there) is.passes
            (omega (arith, is.behind, shows.next.above))
            (record {
              shown_key = c.in-Some.key;
              shown_value = c.in-Some.value;
              shows = (shows.key, shows.value);
              says = says g.F.Fn c.wanted.ensures c.if-wanted.true;
            }),
      );
    }

-- none is left
pub returns : goal.returns
returns g c =
    let is = c.loop-token.invariant in
    record {
      finds = WantsNone-ends (Answers g.F.Fn c.args.wanted.now) (number_or_zero c.args.after)
          c.args.self.now c.loop-token.walk.after
          (subst (λ places. EndsAt places c.loop-token.walk.after) is.places
          c.in_default.ensures.steps.0) is.passes;
    }
