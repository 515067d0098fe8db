use Rattle.std.proofs.Common.{sym, ◌∙◌}
use Rattle.qcrun_parts.specs.Sessions.{ServesCommand}
use Rattle.qcrun_parts.proofs.EventLemmas.{TellsOf-run}
use Rattle.qcrun_parts.proofs.SessionLemmas.{ServesCommand-call}
use Rattle.qcrun_parts.proofs.serving.session.Session.serve.Goals as goal

-- a new cache was asked for
pub returns-in-Some : goal.returns-in-Some
returns-in-Some g c =
    ServesCommand.makes_cache c.in-Some.options _ _ c.args.command _ _
    (sym c.options_of.ensures ∙ c.in-Some.is) c.make_cache.ensures.makes c.new.ensures.items

-- no cache stands
pub returns-in_default-cache : goal.returns-in_default-cache
returns-in_default-cache g c =
    rw c.in_default-cache.is (ServesCommand.lacks_cache c.args.command
    (sym c.options_of.ensures ∙ c.in_default.is))

-- the cache is to be shown
pub returns-in-Show : goal.returns-in-Show
returns-in-Show g c =
    rw c.in-Some-cache.is (rw c.in-Show.is (ServesCommand.shows_cache c.in-Some-cache.cache _
    c.look.ensures.shows))

-- a call was made
pub returns : goal.returns
returns g c =
    let made = c.make_call-reply.ensures.serves in
    ServesCommand-call _ _ c.args.command c.from.result c.in-Some-cache.cache
    c.make_call-reply.new.cache c.make_call-reply.result made.calls _ c.in-Some-cache.is
    c.from.ensures c.make_call-reply.ensures.same made.holds
    (TellsOf-run made.calls _ _ c.new.ensures.items made.runs)
