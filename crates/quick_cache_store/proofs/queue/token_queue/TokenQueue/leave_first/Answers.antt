use Rattle.std.proofs.Common.{ap, ◌∙◌}
use Rattle.quick_cache_store.specs.Queues.{tokens_at}
use Rattle.quick_cache_store.proofs.queue.PlaceLemmas.{counted-first}
use Rattle.quick_cache_store.proofs.queue.token_queue.TokenQueue.leave_first.Goals as goal

pub drop_empty-requires : goal.drop_empty-requires
drop_empty-requires g c =
    let queue = c.args.self.now in
    rw (c.drop_place.ensures.places, c.drop_place.ensures.empty)
    (counted-first queue.places.items queue.empty c.requires.begins c.requires.counted).1

pub returns-clause-tokens : goal.returns-clause-tokens
returns-clause-tokens g c =
    let queue = c.args.self.now in
    c.drop_empty.ensures.tokens ∙ ap tokens_at c.drop_place.ensures.places
    ∙ (counted-first queue.places.items queue.empty c.requires.begins c.requires.counted).0
