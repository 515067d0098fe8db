use Rattle.quick_cache_model.proofs.Valid.Orders.{SameButOrder-valid}
use Rattle.quick_cache_model.proofs.Valid.States.{empty_state-valid, SetsCapacity-valid}
use Rattle.quick_cache_model.proofs.Valid.Edits.{cleared-valid}
use Rattle.quick_cache_model.proofs.Valid.Writes.{Writes-valid}
use Rattle.quick_cache_model.proofs.Valid.Placeholders.{MakesPlaceholder-valid, MeetsPlaceholder-valid, FillsPlaceholder-valid}
use Rattle.quick_cache_model.proofs.Valid.Placeholders.{GivesUpPlaceholder-valid}
use Rattle.quick_cache_model.proofs.Valid.Lookups.{LooksUp-valid, Removes-valid, RemovesIf-valid, Retains-valid, ActsOnEntry-valid}
use Rattle.quick_cache_laws.proofs.Steps.Valid.{Steps-valid, reweighed_there-valid}
use Rattle.quick_cache_laws.proofs.laws.valid_law.Goals as goal

pub returns-clause-writes : goal.returns-clause-writes
returns-clause-writes g c = λ hash weight pinned key strategy old value new calls answer
    writes valid.
    Writes-valid _ g.met.K.Eq.laws _ key strategy old value new calls answer writes valid

pub returns-clause-makes : goal.returns-clause-makes
returns-clause-makes g c = λ stands_for hash key old new exact makes valid.
    MakesPlaceholder-valid _ g.met.K.Eq.laws stands_for hash key old new exact makes valid

pub returns-clause-fills : goal.returns-clause-fills
returns-clause-fills g c = λ hash weight pinned ticket marked old new value calls answer
    fills valid.
    FillsPlaceholder-valid _ g.met.K.Eq.laws ticket _ marked old new value calls answer fills valid

pub returns-clause-gives_up : goal.returns-clause-gives_up
returns-clause-gives_up g c = λ ticket old new gives_up valid. GivesUpPlaceholder-valid _
    g.met.K.Eq.laws ticket old new gives_up valid

pub returns-clause-looks_up : goal.returns-clause-looks_up
returns-clause-looks_up g c = λ stands_for old new shown looks valid. LooksUp-valid _ stands_for _
    old new shown looks valid

pub returns-clause-removes : goal.returns-clause-removes
returns-clause-removes g c = λ stands_for hash old new answer removes valid. Removes-valid _
    stands_for hash old new answer removes valid

pub returns-clause-retains : goal.returns-clause-retains
returns-clause-retains g c = λ keeps old new retains valid. Retains-valid _ keeps old new retains
    valid

pub returns-clause-acts : goal.returns-clause-acts
returns-clause-acts g c = λ hash weight pinned stands_for old item left choice
    outcome new acts valid.
    ActsOnEntry-valid _ g.met.K.Eq.laws _ stands_for old item left choice outcome new acts valid

pub returns-clause-sets_capacity : goal.returns-clause-sets_capacity
returns-clause-sets_capacity g c = λ hash weight pinned capacity old new calls sets valid.
    SetsCapacity-valid _ _ capacity old new calls sets valid

pub returns-clause-starts : goal.returns-clause-starts
returns-clause-starts g c = λ capacity hot_target ghost_limit. empty_state-valid _ capacity
    hot_target ghost_limit

pub returns-clause-meets : goal.returns-clause-meets
returns-clause-meets g c = λ stands_for ticket old new meets valid. MeetsPlaceholder-valid _
    g.met.K.Eq.laws stands_for ticket old new meets valid

pub returns-clause-removes_if : goal.returns-clause-removes_if
returns-clause-removes_if g c = λ stands_for passes old new answer removes valid. RemovesIf-valid _
    stands_for passes old new answer removes valid

pub returns-clause-empties : goal.returns-clause-empties
returns-clause-empties g c = λ state. cleared-valid _ state

pub returns-clause-orders : goal.returns-clause-orders
returns-clause-orders g c = λ old new order valid. SameButOrder-valid _ old new order valid

pub returns-clause-reweighs : goal.returns-clause-reweighs
returns-clause-reweighs g c = λ hash weight pinned stands_for place before item after left
    old there valid.
    reweighed_there-valid _ g.met.K.Eq.laws
    (record {
      hash = hash;
      weight = weight;
      pinned = pinned;
      may_count = g.T.Touches.may_count;
    })
    stands_for place before item after left old there valid

pub returns-clause-steps : goal.returns-clause-steps
returns-clause-steps g c = λ hash weight pinned old new steps valid.
    Steps-valid _ g.met.K.Eq.laws _ old new steps valid
