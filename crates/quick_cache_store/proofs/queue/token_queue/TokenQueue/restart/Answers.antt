use Rattle.std.proofs.Common.{length, ap, arith}
use Rattle.std.specs.Int.NonZero.{non_zero_u32_get as number}
use Rattle.std.proofs.lemmas.List.{length-drop}
use Rattle.quick_cache_store.specs.Queues.{tokens_at}
use Rattle.quick_cache_store.proofs.queue.PlaceLemmas.{leaves_turned, length-restarted, length-rotated, stands_below}
use Rattle.quick_cache_store.proofs.queue.token_queue.TokenQueue.restart.Goals as goal

pub drop_empty-requires : goal.drop_empty-requires
drop_empty-requires g c =
    let places = c.args.self.now.places.items in
    let turned = c.turn_places.new.self.places.items in
    let place = c.place-place.result in
    let token = number c.args.token in
    omega (
      arith,
      c.requires.sound.counted,
      c.turn_places.ensures.empty,
      c.drop_place.ensures.empty,
      ap length c.turn_places.ensures.places,
      length-rotated places place,
      ap length c.drop_place.ensures.places,
      length-drop 1 turned,
      stands_below places place token c.place-place.ensures,
      ap (λ ys. length (tokens_at ys)) c.drop_place.ensures.places,
      length-restarted _ _ _ (leaves_turned places turned place token c.args.token.ok
          c.place-place.ensures c.turn_places.ensures.places),
    )

pub returns-clause-leaves : goal.returns-clause-leaves
returns-clause-leaves g c =
    rw (c.drop_empty.ensures.tokens, c.drop_place.ensures.places)
    (leaves_turned c.args.self.now.places.items c.turn_places.new.self.places.items
    c.place-place.result (number c.args.token) c.args.token.ok c.place-place.ensures
    c.turn_places.ensures.places)
