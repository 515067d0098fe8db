use Rattle.std.proofs.Common.{◌≡◌, length, take, ap, ◌∙◌, arith}
use Rattle.std.specs.VecDeque.{deque_len}
use Rattle.quick_cache_store.specs.Queues.{tokens_at}
use Rattle.quick_cache_store.proofs.queue.PlaceLemmas.{tokens_at-twice, begins-tokens_at}
use Rattle.quick_cache_store.proofs.queue.token_queue.TokenQueue.close_up.Goals as goal

pub returns : goal.returns
returns g c =
    let queue = c.args.self.now in
    let long : length c.gather-count.new.places ≡ deque_len queue.places =
    omega (arith, c.make_contiguous.ensures.len) in
    let is : c.truncate.new.self.items ≡ tokens_at queue.places.items =
    c.truncate.ensures.items
    ∙ ap (take c.gather-count.result) (c.make_contiguous.ensures.writes_back _ long)
    ∙ c.gather-count.ensures.tokens ∙ ap tokens_at c.make_contiguous.ensures.value in
    record {
      closed = ap length is;
      tokens = ap tokens_at is ∙ tokens_at-twice queue.places.items;
      sound = record {
        counted = omega (
          arith,
          ap (λ xs. length (tokens_at xs)) is,
          ap length (tokens_at-twice queue.places.items),
          ap length is,
        );
        begins = rw is (begins-tokens_at queue.places.items);
      };
      capacity = omega (arith, c.truncate.ensures.capacity);
    }
