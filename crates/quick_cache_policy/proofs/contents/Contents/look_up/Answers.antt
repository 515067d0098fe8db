use Rattle.quick_cache_policy.proofs.FindLemmas.{none-found, HasNoItem-state}
use Rattle.quick_cache_policy.proofs.TestLemmas.{missed, missed-sound}
use Rattle.quick_cache_policy.proofs.contents.Contents.look_up.Goals as goal

-- nothing was found, and a miss is counted
pub returns-in_default-clause-looks_up : goal.returns-in_default-clause-looks_up
returns-in_default-clause-looks_up g c =
    let ticket_of = g.P.SharedPlaceholder.ticket_of in
    let stands_for = g.Q.Equivalent.equivalent c.args.query.now in
    missed ticket_of c.args.self.now stands_for
    (HasNoItem-state ticket_of stands_for c.args.hash c.args.self.now c.requires.under
    (none-found _ _ c.in_default.not-Some c.find_item.ensures)) c.count_miss.new.self
    c.count_miss.ensures

pub returns-in_default-clause-sound : goal.returns-in_default-clause-sound
returns-in_default-clause-sound g c = λ hashed sound.
    missed-sound g.P.SharedPlaceholder.ticket_of c.args.self.now g.K.PartialEq.eq hashed
    c.count_miss.new.self c.count_miss.ensures sound
