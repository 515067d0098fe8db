use Rattle.std.proofs.Common.{length, ap, ◌∙◌, arith}
use Rattle.quick_cache_store.specs.Queues.{tokens_at, tokens_of}
use Rattle.quick_cache_store.proofs.queue.PlaceLemmas.{tokens_at-turned, length-turned, length-rotated}
use Rattle.quick_cache_store.proofs.queue.token_queue.TokenQueue.turn.Goals as goal

pub drop_empty-requires : goal.drop_empty-requires
drop_empty-requires g c =
    let places = c.args.self.now.places.items in
    let tokens = ap tokens_at c.turn_place.ensures.places
    ∙ tokens_at-turned places c.requires.begins in
    omega (
      arith,
      c.requires.counted,
      c.turn_place.ensures.empty,
      ap length c.turn_place.ensures.places,
      length-rotated places 1,
      ap length tokens,
      length-turned (tokens_of c.args.self.now),
    )

pub returns-clause-tokens : goal.returns-clause-tokens
returns-clause-tokens g c =
    c.drop_empty.ensures.tokens ∙ ap tokens_at c.turn_place.ensures.places
    ∙ tokens_at-turned c.args.self.now.places.items c.requires.begins
