use Rattle.std.proofs.Common.{[]}
use Rattle.quick_cache_model.specs.CacheState.{InHot}
use Rattle.quick_cache_policy.proofs.HotLemmas.{FirstTakes, FirstTakes-taken, FirstTakes-none, FirstTakes-has, VisitsFirst-visited}
use Rattle.quick_cache_policy.proofs.contents.Contents.visit_first.Goals.{then-takes_touches, else-takes_touches}
use Rattle.quick_cache_policy.proofs.contents.Contents.visit_first.Goals as goal

pub take_touches-requires : goal.take_touches-requires
take_touches-requires g c =
    let f = c.in-Some.ensures in
    (f.0, record { place = InHot; stands = record { before = []; after = f.1; split = f.2 } }, f.3)

pub visit-requires : goal.visit-requires
visit-requires g c =
    let f = c.in-Some.ensures in
    let may_count = g.P.Touch.Touches.may_count in
    let first : FirstTakes c.args.takes_touches may_count f.0 f.1 c.args.self.now
    c.if-takes_touches.self = elim c.if-takes_touches.branch [
      | then-takes_touches w ↦ FirstTakes-taken may_count f.0 f.1 c.args.self.now f.2 _ _ _ _
          w.if-takes_touches.true f.3 w.facts.ensures.apart w.take_touches.ensures w.self-is
      | else-takes_touches w ↦ FirstTakes-none may_count f.0 f.1 c.args.self.now f.2 _ _
          w.if-takes_touches.false w.self-is
    ] in
    FirstTakes-has c.args.takes_touches may_count f.0 f.1 c.args.self.now c.if-takes_touches.self
    _ f.3 first

pub returns : goal.returns
returns g c =
    let f = c.in-Some.ensures in
    let may_count = g.P.Touch.Touches.may_count in
    let first : FirstTakes c.args.takes_touches may_count f.0 f.1 c.args.self.now
    c.if-takes_touches.self = elim c.if-takes_touches.branch [
      | then-takes_touches w ↦ FirstTakes-taken may_count f.0 f.1 c.args.self.now f.2 _ _ _ _
          w.if-takes_touches.true f.3 w.facts.ensures.apart w.take_touches.ensures w.self-is
      | else-takes_touches w ↦ FirstTakes-none may_count f.0 f.1 c.args.self.now f.2 _ _
          w.if-takes_touches.false w.self-is
    ] in
    VisitsFirst-visited (g.M.Policy.steady c.args.terms.now) (g.M.Policy.pinned c.args.terms.now)
    c.args.takes_touches may_count f.0 f.1 c.args.self.now c.if-takes_touches.self
    c.visit.new.self c.visit.result _ f.3 f.2 first c.facts-2.ensures.apart c.visit.ensures
