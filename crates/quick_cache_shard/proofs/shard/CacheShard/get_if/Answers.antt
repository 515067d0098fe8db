use Rattle.std.proofs.Common.{Err, ap, refl, ◌∙◌}
use Rattle.std.proofs.lemmas.Result.{err_from_is_err_and}
use Rattle.std.specs.Fn.{FnOnceReturnsAt}
use Rattle.quick_cache_policy.specs.Contents.{work_of}
use Rattle.quick_cache_policy.specs.declared.contents.Contents.{Contents}
use Rattle.quick_cache_shard.proofs.ShownLemmas.{passed-shown, same-state}
use Rattle.quick_cache_shard.proofs.shard.CacheShard.get_if.Goals as goal

pub look_up_if-requires-clause-callable : goal.look_up_if-requires-clause-callable
look_up_if-requires-clause-callable g c = rw (← c.self.view_is) at c.requires.callable

pub invariant_of-self : goal.invariant_of-self
invariant_of-self g c = c.look_up_if.ensures.sound _ c.self.invariant

pub invariant_of-self-2 : goal.invariant_of-self-2
invariant_of-self-2 g c = c.in_ok-token.ensures.sound _ c.self.invariant

-- nothing passed
pub returns-in_err-token : goal.returns-in_err-token
returns-in_err-token g c =
    let handed = err_from_is_err_and c.from_residual.result c.from_residual.ensures.1 in
    let work = ap (λ (now : Contents g.row.K.Denot g.row.V.Denot g.row.P.Denot g.row.A.Denot
    g.row.P-Touch.Denot g.row.P-Kept.Denot). work_of now) c.look_up_if.ensures.same in (
      (
        refl,
        (λ shard. tt),
        (
          (rw (← c.self.view_is, handed.1 ∙ ap Err handed.2) c.in_err-token.ensures.tests),
          same-state g.P.SharedPlaceholder.ticket_of c.self.inside.terms.weigher
              c.self.inside.terms.builder c.self.inside.terms.lifecycle c.self.inside.contents
              c.look_up_if.new.self work _ c.self.view_is c.look_up_if.ensures.places
              c.look_up_if.ensures.room,
        ),
      ),
      record { looks_up = tt },
    )

-- the item that is shown is the one that passed
pub returns : goal.returns
returns g c =
    let work = ap (λ (now : Contents g.row.K.Denot g.row.V.Denot g.row.P.Denot g.row.A.Denot
    g.row.P-Touch.Denot g.row.P-Kept.Denot). work_of now) c.look_up_if.ensures.same in (
      (
        refl,
        (λ shard. tt),
        (
          (rw (← c.self.view_is)
              (passed-shown g.P.SharedPlaceholder.ticket_of c.self.inside.contents
              c.look_up_if.new.self (g.Q.Equivalent.equivalent c.args.query.now)
              (FnOnceReturnsAt g.F.FnOnce c.args.test) _ c.in_ok-token.ensures.tests
              c.facts.ensures.apart c.item.result c.item.ensures c.value.result.now
              c.value.ensures)),
          same-state g.P.SharedPlaceholder.ticket_of c.self.inside.terms.weigher
              c.self.inside.terms.builder c.self.inside.terms.lifecycle c.self.inside.contents
              c.look_up_if.new.self work _ c.self.view_is c.look_up_if.ensures.places
              c.look_up_if.ensures.room,
        ),
      ),
      record { looks_up = tt },
    )
