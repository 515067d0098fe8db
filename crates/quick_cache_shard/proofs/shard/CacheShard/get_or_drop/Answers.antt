use Rattle.std.proofs.Common.{Err, Ok, ap, refl}
use Rattle.std.specs.Fn.{FnOnceReturnsAt}
use Rattle.quick_cache_policy.specs.Contents.{work_of}
use Rattle.quick_cache_policy.specs.declared.contents.Contents.{Contents}
use Rattle.quick_cache_shard.proofs.ShownLemmas.{passed-shown}
use Rattle.quick_cache_shard.proofs.TestLemmas.{gets-or-takes}
use Rattle.quick_cache_shard.proofs.shard.CacheShard.get_or_drop.Goals as goal

pub look_up_or_take-requires-clause-callable : goal.look_up_or_take-requires-clause-callable
look_up_or_take-requires-clause-callable g c = rw (← c.self.view_is) at c.requires.callable

pub invariant_of-self : goal.invariant_of-self
invariant_of-self g c = c.look_up_or_take.ensures.sound _ c.self.invariant

-- nothing passed
pub returns-in-Err : goal.returns-in-Err
returns-in-Err g c =
    let work = ap (λ (now : Contents g.row.K.Denot g.row.V.Denot g.row.P.Denot g.row.A.Denot
    g.row.P-Touch.Denot g.row.P-Kept.Denot). work_of now) c.look_up_or_take.ensures.same in (
      (
        refl,
        (λ shard. tt),
        rw (← c.self.view_is) (
          c.in-Err.taken,
          gets-or-takes g.P.SharedPlaceholder.ticket_of c.self.inside.contents
              c.look_up_or_take.new.self (g.Q.Equivalent.equivalent c.args.query.now)
              (FnOnceReturnsAt g.F.FnOnce c.args.test) c.self.inside.terms.weigher
              c.self.inside.terms.builder c.self.inside.terms.lifecycle
              c.look_up_or_take.ensures.places c.look_up_or_take.ensures.room work (Err c.in-Err.taken)
              c.in-Err.ensures.tests c.in-Err.ensures.stays,
          c.of.ensures,
        ),
      ),
      record { looks_up = tt },
    )

-- the item that is shown is the one that passed
pub returns-in-Ok : goal.returns-in-Ok
returns-in-Ok g c =
    let test = g.Q.Equivalent.equivalent c.args.query.now in
    let answers = FnOnceReturnsAt g.F.FnOnce c.args.test in
    let work = ap (λ (now : Contents g.row.K.Denot g.row.V.Denot g.row.P.Denot g.row.A.Denot
    g.row.P-Touch.Denot g.row.P-Kept.Denot). work_of now) c.look_up_or_take.ensures.same in (
      (
        refl,
        (λ shard. tt),
        rw (← c.self.view_is)
            (gets-or-takes g.P.SharedPlaceholder.ticket_of c.self.inside.contents
            c.look_up_or_take.new.self test answers
            c.self.inside.terms.weigher c.self.inside.terms.builder c.self.inside.terms.lifecycle
            c.look_up_or_take.ensures.places c.look_up_or_take.ensures.room work (Ok _)
            (passed-shown g.P.SharedPlaceholder.ticket_of c.self.inside.contents
            c.look_up_or_take.new.self test answers _ c.in-Ok.ensures.tests
            c.facts.ensures.apart c.item.result c.item.ensures c.value.result.now
            c.value.ensures) c.in-Ok.ensures.stays),
      ),
      record { looks_up = tt },
    )

pub invariant_of-self-in-Err-1 : goal.invariant_of-self-in-Err-1
invariant_of-self-in-Err-1 g c = c.look_up_or_take.ensures.sound _ c.self.invariant
