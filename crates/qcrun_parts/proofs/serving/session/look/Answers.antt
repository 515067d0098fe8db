use Rattle.qcrun_parts.specs.Sessions.{ShowsCache}
use Rattle.qcrun_parts.proofs.serving.session.look.Goals as goal

pub returns-in-Ok : goal.returns-in-Ok
returns-in-Ok g c = record {
  shows = ShowsCache.shows c.in-Ok.still c.in-Ok.ensures.are_still;
}

pub returns-in-Err : goal.returns-in-Err
returns-in-Err g c = record { shows = ShowsCache.lacks_memory _ c.new.ensures.items }
