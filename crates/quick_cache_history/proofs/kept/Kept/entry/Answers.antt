use Rattle.quick_cache_history.specs.Loads.{Enters}
use Rattle.quick_cache_history.proofs.kept.Kept.entry.Goals.{in-Ok-insert, in-Err-insert}
use Rattle.quick_cache_history.proofs.kept.Kept.entry.Goals as goal

-- what was shown stands there at the end of what is seen then
pub returns-in-Keep-clause-enters : goal.returns-in-Keep-clause-enters
returns-in-Keep-clause-enters g c = Enters.kept c.in-Ok.found c.in-Keep.told c.in-Keep.ensures
    (record {
      longer = c.look.ensures.longer;
      seat = c.look.ensures.seat;
      shows = record {
        shard = c.look.result.now;
        stands = c.look.ensures.run;
        holds = c.in-Ok.ensures.peeks;
      };
    })

-- and the call that was chosen is the shard's next
pub returns-in-Remove-clause-enters : goal.returns-in-Remove-clause-enters
returns-in-Remove-clause-enters g c = Enters.removed c.in-Ok.found c.remove.result
    c.in-Remove.ensures (record {
      mid = c.look.new.seat;
      longer = c.look.ensures.longer;
      seat = c.look.ensures.seat;
      shard = c.look.result.now;
      stood = c.look.ensures.run;
      shows = c.in-Ok.ensures.peeks;
      left = c.remove.new.self.shard;
      makes = rw c.look.ensures.its c.remove.ensures.makes;
      stands = c.remove.ensures.run;
      extends = c.remove.ensures.extends;
      next = rw c.look.ensures.calls c.remove.ensures.next;
    })

pub returns-after-insert-clause-enters : goal.returns-after-insert-clause-enters
returns-after-insert-clause-enters g c = elim c.match-insert.branch [
  | in-Ok-insert w ↦ rw w.result-is
      (Enters.inserted c.in-Ok.found c.in-Insert.value c.in-Insert.ensures (record {
        mid = c.look.new.seat;
        longer = c.look.ensures.longer;
        seat = c.look.ensures.seat;
        shard = c.look.result.now;
        stood = c.look.ensures.run;
        shows = c.in-Ok.ensures.peeks;
        left = c.insert.new.self.shard;
        makes = rw c.look.ensures.its w.in-Ok-insert.ensures.makes;
        stands = w.in-Ok-insert.ensures.run;
        extends = w.in-Ok-insert.ensures.extends;
        next = rw c.look.ensures.calls w.in-Ok-insert.ensures.next;
      }))
  | in-Err-insert w ↦ rw w.result-is tt
]
