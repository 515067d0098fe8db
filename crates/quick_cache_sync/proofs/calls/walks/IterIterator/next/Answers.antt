use Rattle.std.proofs.Common.{Ok, None, ap, refl, subst, inl, arith}
use Rattle.std.specs.Prelude.{IfSome}
use Rattle.quick_cache_shard.specs.WalksFrom.{number_or_zero}
use Rattle.quick_cache_locked.specs.Walks.{ShowsNext}
use Rattle.quick_cache_sync.specs.Shards.{Division}
use Rattle.quick_cache_sync.specs.Walks.{ComesTo, EndsUpTo}
use Rattle.quick_cache_sync.proofs.WalkLemmas.{ComesTo-next, EndsUpTo-first, EndsUpTo-next}
use Rattle.quick_cache_sync.proofs.calls.walks.IterIterator.next.Goals as goal

pub loop-index-init : goal.loop-index-init
loop-index-init g c =
    let standing = ap (λ walk. walk.at) c.self.view_is in record {
      shards = ap (λ walk. walk.shards) c.self.view_is;
      at = refl;
      comes = subst (λ at. ComesTo at c.self.inside.shard (number_or_zero c.self.inside.after))
          standing (inl (refl, refl));
      ends = subst (λ at. EndsUpTo g.L.Lifecycle g.K.PartialEq.eq g.row.We.Denot g.row.B.Denot at
          c.self.inside.shard) standing (EndsUpTo-first g.L.Lifecycle g.K.PartialEq.eq
          g.row.We.Denot g.row.B.Denot (c.self.inside.shard, c.self.inside.after));
    }

-- the pair is one of the shard behind the lock
pub returns-in-Ok-Some-clause-steps : goal.returns-in-Ok-Some-clause-steps
returns-in-Ok-Some-clause-steps g c =
    let after = number_or_zero c.loop-index.self-inside.after in
    let invariant = c.loop-index.invariant in (
      (
        c.in-Ok-Some.token,
        after,
        subst (λ shard. ComesTo c.args.self.now.at shard after) invariant.at invariant.comes,
        refl,
        record {
          shard = _;
          kept = c.in-Ok-Some.ensures.kept;
          holds = subst (λ f. ShowsNext c.deref-in-loop-index.result.now after g.K.Clone.is_clone
              g.V.Clone.is_clone (Ok f)) c.in-Ok-Some.field-0-is c.in-Ok-Some.ensures.shows;
        },
      ),
      λ keys clones.
          subst (λ f. IfSome f (λ shown. g.L.Lifecycle.fits shown.1 shown.2))
          c.in-Ok-Some.field-0-is (c.in-Ok-Some.ensures.fits keys clones),
      subst (λ shard. EndsUpTo g.L.Lifecycle g.K.PartialEq.eq g.row.We.Denot g.row.B.Denot
          c.args.self.now.at shard) invariant.at invariant.ends,
      tt,
      invariant.shards,
    )

-- a step that is refused is refused for memory
pub returns-in-Err-clause-steps : goal.returns-in-Err-clause-steps
returns-in-Err-clause-steps g c = (
  tt,
  λ keys clones. tt,
  c.loop-index.invariant.ends,
  c.in-Err.ensures.shows,
  c.loop-index.invariant.shards,
)

-- the next shard begins anew, and the one before had no more
pub loop-index-preserved : goal.loop-index-preserved
loop-index-preserved g c =
    let after = number_or_zero c.loop-index.self-inside.after in
    let shard = c.loop-index.self-inside.shard in
    let old = c.args.self.now.at in
    let invariant = c.loop-index.invariant in record {
      shards = invariant.shards;
      at = refl;
      comes = ComesTo-next old shard after c.loop-index.index invariant.at invariant.comes;
      ends = EndsUpTo-next g.L.Lifecycle g.K.PartialEq.eq g.row.We.Denot g.row.B.Denot old shard after
          c.loop-index.index invariant.at invariant.comes (record {
            shard = _;
            kept = c.in-Ok-None.ensures.kept;
            holds = subst (λ f. ShowsNext c.deref-in-loop-index.result.now after
                g.K.Clone.is_clone g.V.Clone.is_clone (Ok f)) c.in-Ok-None.field-0-is
                c.in-Ok-None.ensures.shows;
          }) invariant.ends;
    }

-- behind the last shard it ends
pub returns-clause-steps : goal.returns-clause-steps
returns-clause-steps g c = (
  tt,
  λ keys clones. tt,
  c.loop-index.invariant.ends,
  omega (
    arith,
    c.loop-index-test.false,
    c.loop-index.invariant.at,
    c.len-index-end.ensures,
    ap (λ (d : Division _). d.shards) c.cache.view_is,
    ap (λ walk. walk.shards) c.self.view_is,
  ),
  c.loop-index.invariant.shards,
)
