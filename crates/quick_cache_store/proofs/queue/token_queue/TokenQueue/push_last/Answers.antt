use Rattle.std.proofs.Common.{ℕ, length, ap, ◌++◌, ◌∷◌, [], ◌∙◌, arith}
use Rattle.std.specs.Int.NonZero.{non_zero_u32_get as number}
use Rattle.std.proofs.lemmas.List.{length_push}
use Rattle.quick_cache_store.specs.Queues.{tokens_at, tokens_of}
use Rattle.quick_cache_store.proofs.queue.PlaceLemmas.{tokens_at-push, begins-push}
use Rattle.quick_cache_store.proofs.queue.token_queue.TokenQueue.push_last.Goals as goal

pub returns-clause-tokens : goal.returns-clause-tokens
returns-clause-tokens g c =
    let token = number c.args.token in
    let places = c.make_place.new.self.places.items in
    ap tokens_at (c.add_place.ensures.places ∙ ap (λ (m : ℕ). places ++ m ∷ []) c.get.ensures.value)
    ∙ tokens_at-push places token c.args.token.ok
    ∙ ap (λ tokens. tokens ++ token ∷ []) c.make_place.ensures.tokens

pub returns-clause-sound : goal.returns-clause-sound
returns-clause-sound g c =
    let token = number c.args.token in
    let places = c.make_place.new.self.places.items in
    let added = c.add_place.ensures.places ∙ ap (λ (m : ℕ). places ++ m ∷ []) c.get.ensures.value in
    record {
      counted = omega (
        arith,
        c.add_place.ensures.empty,
        c.make_place.ensures.sound.counted,
        ap length (returns-clause-tokens g c),
        ap length c.make_place.ensures.tokens,
        length_push (tokens_of c.args.self.now) token,
        ap length added,
        length_push places token,
      );
      begins = rw added (begins-push places token c.args.token.ok
          c.make_place.ensures.sound.begins);
    }
