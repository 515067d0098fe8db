use Rattle.std.proofs.Common.{ap, ◌∙◌, length}
use Rattle.quick_cache_history.specs.Histories.{calls_of}
use Rattle.quick_cache_history.proofs.head.Head.calls.Goals as goal

pub returns-clause-count : goal.returns-clause-count
returns-clause-count g c = c.load.ensures.6.1
    ∙ ap (λ w. length (calls_of w.key c.load.new.seen.log)) c.args.self.now.word_is
