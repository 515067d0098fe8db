use Rattle.std.proofs.Common.{◌≡◌, Some, refl, sym, subst, rules}
use Rattle.quick_cache_guard.specs.Acts.{LeavesHeld}
use Rattle.quick_cache_locked.proofs.locked.acting.call_held.Goals as goal

-- the callback that is held is the one that was called
pub returns : goal.returns
returns g c =
    let is : c.args.callback.now ≡ Some c.in-Some.once = search rules in
    record {
      called = subst (λ held. LeavesHeld g.F.FnOnce held c.args.key.now c.args.value.now
          c.once.result c.once.new.arg3) (sym is)
          (record {
            shown_key = _;
            shown = _;
            shows = (refl, refl);
            left_by = _;
            called = c.once.ensures;
            leaves = refl;
          });
    }
