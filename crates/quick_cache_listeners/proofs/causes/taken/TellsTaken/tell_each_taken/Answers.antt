use Rattle.std.proofs.iter.Next.{on}
use Rattle.std.proofs.lemmas.Fn.{FoldsTo-push}
use Rattle.quick_cache_listeners.proofs.causes.taken.TellsTaken.tell_each_taken.Goals as goal

-- one pair more was told
pub loop-key-preserved : goal.loop-key-preserved
loop-key-preserved g c =
    let next = on _ c.in-Some.is c.next.ensures.goes c.loop-key.invariant.1 in (
      next.0,
      next.1,
      FoldsTo-push (λ before pair after. g.Self.TellsTaken.tells_taken c.args.self.now before pair.0
          pair.1 c.args.cause after) c.args.state.now c.loop-key.yielded c.loop-key.state
          (c.in-Some.key, c.in-Some.val) c.tell_taken.new.state c.loop-key.invariant.2
          c.tell_taken.ensures,
    )
