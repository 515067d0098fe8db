use Rattle.std.proofs.Common.{rules}
use Rattle.promises.proofs.TakenLemmas.{gives-one}
use Rattle.promises.proofs.alone.taken.take_one_above.Goals as goal

-- the pair that is given is one of those that were there
pub returns-clause-gone : goal.returns-clause-gone
returns-clause-gone g c = gives-one _ _ c.extract_if.result c.next.new.self c.next.result
    c.next.ensures.steps c.args.cache.now c.cache-1.given.0 c.extract_if.ensures.begins (search rules)
