use Rattle.std.proofs.Common.{◌<◌, ◌≤◌, None, refl, ap, subst, inl, arith}
use Rattle.std.specs.Iterator.{size}
use Rattle.std.specs.Int.NonZero.{non_zero_u32_get as number}
use Rattle.quick_cache_shard.specs.WalksFrom.{number_or_zero}
use Rattle.quick_cache_sync.specs.Shards.{Division}
use Rattle.quick_cache_sync.specs.Walks.{ComesTo, EndsUpTo, Standing, tokens_ahead}
use Rattle.quick_cache_sync.proofs.WalkLemmas.{ComesTo-next, EndsUpTo-first, EndsUpTo-next, tokens_ahead-farther, tokens_ahead-nearer}
use Rattle.quick_cache_sync.proofs.calls.walks.DrainIterator.next.Goals as goal

pub loop-index-init : goal.loop-index-init
loop-index-init g c =
    let standing = ap (λ walk. walk.at) c.self.view_is in
    let first : Standing = (c.self.inside.shard, c.self.inside.after) in record {
      shards = ap (λ walk. walk.shards) c.self.view_is;
      at = refl;
      ahead = subst (λ at. size (tokens_ahead c.args.self.now.shards first)
          ≤ size (tokens_ahead c.args.self.now.shards at)) standing (omega arith);
      comes = subst (λ at. ComesTo at first.0 (number_or_zero first.1)) standing (inl (refl, refl));
      ends = subst (λ at. EndsUpTo g.L.Lifecycle g.K.PartialEq.eq g.row.We.Denot g.row.B.Denot at
          first.0) standing
          (EndsUpTo-first g.L.Lifecycle g.K.PartialEq.eq g.row.We.Denot g.row.B.Denot first);
    }

pub returns-in-Some-clause-steps : goal.returns-in-Some-clause-steps
returns-in-Some-clause-steps g c =
    let after = number_or_zero c.loop-index.self-inside.after in
    let invariant = c.loop-index.invariant in (
      (
        c.in-Some.token,
        after,
        subst (λ shard. ComesTo c.args.self.now.at shard after) invariant.at invariant.comes,
        refl,
        record {
          shard = c.deref_mut.result.now;
          kept = c.in-Some.ensures.kept;
          holds = (c.take_next-step.new.self, c.in-Some.ensures.takes);
        },
      ),
      c.in-Some.ensures.fits,
      subst (λ shard. EndsUpTo g.L.Lifecycle g.K.PartialEq.eq g.row.We.Denot g.row.B.Denot
          c.args.self.now.at shard) invariant.at invariant.ends,
      tt,
      invariant.shards,
    )

-- the token is above the last one
pub returns-in-Some-clause-goes : goal.returns-in-Some-clause-goes
returns-in-Some-clause-goes g c =
    let invariant = c.loop-index.invariant in
    let within : number c.in-Some.token ≤ 4294967296 = omega (arith, c.get-number.ensures) in
    record {
      on = λ finite. (
        tt,
        finite,
        tokens_ahead-nearer c.args.self.now.shards c.loop-index.self-inside.cache.now.shards
            c.args.self.now.at (c.loop-index.self-inside.shard, c.loop-index.self-inside.after)
            c.loop-index.index c.in-Some.token invariant.shards invariant.at
            c.in-Some.ensures.takes.0.above within invariant.ahead,
      );
      keeps = tt;
      rests = λ _. tt;
    }

-- the next shard begins anew, and the one before had no more
pub loop-index-preserved : goal.loop-index-preserved
loop-index-preserved g c =
    let old = c.args.self.now.at in
    let now : Standing = (c.loop-index.self-inside.shard, c.loop-index.self-inside.after) in
    let invariant = c.loop-index.invariant in
    let below : c.loop-index.index < c.args.self.now.shards =
    omega (
      arith,
      c.loop-index-test.true,
      c.len-index-end.ensures,
      ap (λ (d : Division _). d.shards) c.cache.view_is,
      ap (λ walk. walk.shards) c.self.view_is,
    ) in record {
      shards = invariant.shards;
      at = refl;
      ahead = tokens_ahead-farther c.args.self.now.shards old now c.loop-index.index invariant.at
          below invariant.ahead;
      comes = ComesTo-next old now.0 (number_or_zero now.1) c.loop-index.index invariant.at
          invariant.comes;
      ends = EndsUpTo-next g.L.Lifecycle g.K.PartialEq.eq g.row.We.Denot g.row.B.Denot old now.0
          (number_or_zero now.1) c.loop-index.index invariant.at invariant.comes
          (record {
            shard = c.deref_mut.result.now;
            kept = c.in-None.ensures.kept;
            holds = c.in-None.ensures.takes.0;
          }) invariant.ends;
    }

-- behind the last shard it ends
pub returns-clause-steps : goal.returns-clause-steps
returns-clause-steps g c = (
  tt,
  tt,
  c.loop-index.invariant.ends,
  omega (
    arith,
    c.loop-index-test.false,
    c.loop-index.invariant.at,
    c.len-index-end.ensures,
    ap (λ (d : Division _). d.shards) c.cache.view_is,
    ap (λ walk. walk.shards) c.self.view_is,
  ),
  c.loop-index.invariant.shards,
)
