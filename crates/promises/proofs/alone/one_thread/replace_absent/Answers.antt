use Rattle.promises.proofs.OneThreadLemmas.{replaced-nothing}
use Rattle.promises.proofs.alone.one_thread.replace_absent.Goals as goal

pub returns-clause-back : goal.returns-clause-back
returns-clause-back g c =
    let replaces = c.replace.ensures.replaces in
    (replaced-nothing _ _ (λ first key value last left is. is) _ g.K.PartialEq.eq
    c.args.cache.now.state c.args.key c.args.value
    (c.peek.ensures.sound.valid.one_entry_a_key c.args.key) c.requires.absent c.args.soft
    replaces.first replaces.last c.replace.result c.replace.new.self.state tt replaces.does).0

pub returns-clause-same : goal.returns-clause-same
returns-clause-same g c =
    let replaces = c.replace.ensures.replaces in
    (replaced-nothing _ _ (λ first key value last left is. is) _ g.K.PartialEq.eq
    c.args.cache.now.state c.args.key c.args.value
    (c.peek.ensures.sound.valid.one_entry_a_key c.args.key) c.requires.absent c.args.soft
    replaces.first replaces.last c.replace.result c.replace.new.self.state tt replaces.does).1
