use Rattle.promises.proofs.ContainerLemmas.{first-there}
use Rattle.promises.proofs.alone.containers.first_token.Goals as goal

-- the walk counts each token as often as the table has its pair
pub returns : goal.returns
returns c = first-there c.args.table.now c.args.hash c.iter_hash.result c.iter_hash.ensures
    c.next.result c.next.new.self c.next.ensures.steps
