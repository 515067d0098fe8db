-- What a contract sees of a queue: the numbers of its tokens, in their order.
use Rattle.std.specs.Prelude.{◌≡◌, ℕ, zero, suc, ◌+◌, ◌-◌, ◌<◌, ◌/◌, Bool, List, [], ◌∷◌, ◌++◌, length, drop}
use Rattle.std.specs.VecDeque.{deque_capacity}
use Rattle.quick_cache_store.specs.declared.queue.token_queue.TokenQueue.{TokenQueue}
pub use Rattle.quick_cache_model.specs.Sequences.{times, turned, joined_around}

-- the tokens at these places, of which an empty one has 0
abbrev pub tokens_at : List ℕ → List ℕ
tokens_at [] = []
tokens_at (zero ∷ places) = tokens_at places
tokens_at (suc n ∷ places) = suc n ∷ tokens_at places

-- the first place, if there is one, is not empty
abbrev pub BeginsWithToken : List ℕ → Type 0
BeginsWithToken [] = Unit {0}
BeginsWithToken (place ∷ places) = 0 < place

module _ {A : Type 0} where
  -- the tokens, the next to be visited first
  abbrev pub tokens_of : TokenQueue A → List ℕ
  tokens_of queue = tokens_at queue.places.items

  -- those at this place and farther behind
  abbrev pub tokens_from : TokenQueue A → (place : ℕ) → List ℕ
  tokens_from queue place = tokens_at (drop place queue.places.items)

  -- how many tokens there can be with no allocation: a fifth of the places is for empty ones
  abbrev pub capacity_of : TokenQueue A → ℕ
  capacity_of queue = deque_capacity queue.places - deque_capacity queue.places / 5

  -- the empty places are counted
  abbrev pub IsCounted : TokenQueue A → Type 0
  IsCounted queue = queue.empty + length (tokens_of queue) ≡ length queue.places.items

  -- what holds of a queue between calls
  pub record IsQueue (queue : TokenQueue A) : Type 0 where
    pub counted : IsCounted queue
    pub begins : BeginsWithToken queue.places.items

-- the number stands so far behind the first
pub record StandsAt (xs : List ℕ) (position token : ℕ) : Type 0 where
  pub before : List ℕ
  pub after : List ℕ
  pub split : xs ≡ before ++ token ∷ after
  pub far : length before ≡ position

-- the token left: the rest keeps its order, or begins behind it
pub record Leaves (restarts : Bool) (old : List ℕ) (token : ℕ) (new : List ℕ) : Type 0 where
  pub before : List ℕ
  pub after : List ℕ
  pub split : old ≡ before ++ token ∷ after
  pub left : new ≡ joined_around restarts before after
