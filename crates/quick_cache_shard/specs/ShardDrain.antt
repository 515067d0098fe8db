-- What a contract sees of a `Drain`: the reference that it holds, and the pairs to come.
use Rattle.std.specs.Prelude.{◌≡◌, ◌+◌, ◌≤◌, List, [], ◌∷◌, ◌++◌, Option, Some, None, map}
use Rattle.std.specs.Borrow.{MutBor}
use Rattle.std.specs.Iterator.{Yields}
use Rattle.std.specs.List.Sorted.{IsPermutation}
use Rattle.quick_cache_model.specs.Refusals.{slots_taken}
use Rattle.quick_cache_model.specs.Removal.{cleared, pair_of}
use Rattle.quick_cache_shard.specs.Shard.{Shard, residents}
use Rattle.quick_cache_shard.specs.declared.removing.drain.Drain.{Drain}

-- One of these pairs is given, and the others are left, in some order; or there was none.
abbrev pub GivesOne : {X : Type 0} → List X → Option X → List X → Type 0
GivesOne rest None left = (rest ≡ []) × (left ≡ [])
GivesOne rest (Some pair) left = IsPermutation rest (pair ∷ left)

-- once its items, placeholders and ghosts are gone, a shard has room for as many more entries
abbrev pub emptied : {K V We B L : Type 0} → Shard K V We B L → Shard K V We B L
emptied shard = record shard {
  state = cleared shard.state;
  places = [];
  room = shard.room + slots_taken shard.state;
}

-- A pair is taken out of a shard or there is none: no memory is taken, and all but the items stays
-- as it is.
pub record KeepsBesideItems {K V We B L : Type 0} (old new : Shard K V We B L) : Type 0 where
  pub cleared : cleared new.state ≡ cleared old.state
  pub room : old.room ≤ new.room
  pub same : new ≡ record old { state = new.state; places = new.places; room = new.room }

-- the pairs of all items
abbrev pub pairs_in : {K V We B L : Type 0} → Shard K V We B L → List (K × V)
pairs_in shard = map pair_of (residents shard.state)

-- Of drains of any type, by the reference that they hold.
module _ {D K V We B L : Type 0} (held : D → MutBor (Shard K V We B L)) where
  -- the pairs that are still to come, in some order
  abbrev pub drain_rest : D → List (K × V)
  drain_rest drain = pairs_in (held drain).now

  -- old and new borrow the same shard, and leave it alike but for its items
  pub record DrainKeeps (old new : D) : Type 0 where
    pub lender : (held new).ghost_name ≡ (held old).ghost_name
    pub shard : KeepsBesideItems (held old).now (held new).now

  -- `next` took old to new: it gave one of the pairs, or there was none
  abbrev pub DrainSteps : D → Option (K × V) → D → Type 0
  DrainSteps old pair new = GivesOne (drain_rest old) pair (drain_rest new) × DrainKeeps old new

  -- What calls of `next` give, and what is still to come behind them, are the pairs that were to
  -- come at first, each once. The shard stays alike but for its items.
  pub record DrainsAlong (first : D) (taken : List (K × V)) (later : D) : Type 0 where
    pub gives : IsPermutation (drain_rest first) (taken ++ drain_rest later)
    pub keeps : DrainKeeps first later

  -- so it is wherever calls of `next` lead
  abbrev pub DrainsInAll : D → Type 0
  DrainsInAll first = (taken : List (K × V)) (later : D)
      → Yields DrainSteps first taken later → DrainsAlong first taken later

-- the reference to the shard that a drain takes from
abbrev pub held : {K V We B L P A H T Kept : Type 0} → Drain K V We B L P A H T Kept
    → MutBor (Shard K V We B L)
held drain = drain.shard
