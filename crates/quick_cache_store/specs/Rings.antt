-- What a contract sees of `Rings`: three lists of tokens, and what each weighs.
use Rattle.std.specs.Prelude.{◌≡◌, ℕ, ◌+◌, ◌-◌, ◌<◌, ◌≤◌, List, [], ◌∷◌, ◌++◌, length, drop, Bool, true, false}
use Rattle.quick_cache_model.specs.declared.queue.Queue.{Queue}
use Rattle.quick_cache_store.specs.Queues.{times, turned, Leaves}
use Rattle.quick_cache_store.specs.declared.rings.ring.Order.{Order}
use Rattle.quick_cache_store.specs.declared.slots.entry.Stand.{Stand}

-- tokens, the next to be visited first, and what their entries weigh
pub record Ring : Type 0 where
  pub tokens : List ℕ
  pub weight : ℕ

-- the three rings, and how many tokens each can have with no allocation
pub record Rings : Type 0 where
  pub hot : Ring
  pub cold : Ring
  pub ghosts : Ring
  pub capacity : ℕ

-- a ring without tokens
abbrev pub no_ring : Ring
no_ring = record { tokens = []; weight = 0 }

-- rings without tokens, and no room
abbrev pub no_rings : Rings
no_rings = record { hot = no_ring; cold = no_ring; ghosts = no_ring; capacity = 0 }

-- the same room, and no tokens
abbrev pub emptied : Rings → Rings
emptied rings = record no_rings { capacity = rings.capacity }

-- the ring of a queue
abbrev pub ring_of : Queue → Rings → Ring
ring_of Queue.Hot rings = rings.hot
ring_of Queue.Cold rings = rings.cold

-- ---- a token comes

-- there is room for one more token, and for its weight
pub record CanJoin (ring : Ring) (capacity weight : ℕ) : Type 0 where
  pub few : length ring.tokens < capacity
  pub light : ring.weight + weight < 340282366920938463463374607431768211456

-- the same of the ring of that list, if it is one
abbrev pub CanEnter : Rings → (weight : ℕ) → Stand → Type 0
CanEnter rings weight Stand.AmongHot = CanJoin rings.hot rings.capacity weight
CanEnter rings weight Stand.AmongCold = CanJoin rings.cold rings.capacity weight
CanEnter rings weight Stand.AmongGhosts = CanJoin rings.ghosts rings.capacity weight
CanEnter rings weight Stand.AmongStill = Unit {0}
CanEnter rings weight Stand.AmongLoading = Unit {0}

-- the ring with the token put last
abbrev pub joined : (token weight : ℕ) → Ring → Ring
joined token weight ring =
    record { tokens = ring.tokens ++ token ∷ []; weight = ring.weight + weight }

-- the rings with the token put last in that of the list, if it is one
abbrev pub entered : (token weight : ℕ) → Stand → Rings → Rings
entered token weight Stand.AmongHot rings = record rings { hot = joined token weight rings.hot }
entered token weight Stand.AmongCold rings = record rings { cold = joined token weight rings.cold }
entered token weight Stand.AmongGhosts rings =
    record rings { ghosts = joined token weight rings.ghosts }
entered token weight Stand.AmongStill rings = rings
entered token weight Stand.AmongLoading rings = rings

-- ---- a token goes

-- the token stands in the ring, which weighs no less than its entry
pub record CanLeave (ring : Ring) (token weight : ℕ) : Type 0 where
  pub stands : 0 < times token ring.tokens
  pub weighs : weight ≤ ring.weight

-- the same of the ring of that list, if it is one
abbrev pub CanLeaveRing : Rings → (token weight : ℕ) → Stand → Type 0
CanLeaveRing rings token weight Stand.AmongHot = CanLeave rings.hot token weight
CanLeaveRing rings token weight Stand.AmongCold = CanLeave rings.cold token weight
CanLeaveRing rings token weight Stand.AmongGhosts = CanLeave rings.ghosts token weight
CanLeaveRing rings token weight Stand.AmongStill = Unit {0}
CanLeaveRing rings token weight Stand.AmongLoading = Unit {0}

-- whether the ring begins behind the token that left
abbrev pub restarts : Order → Bool
restarts Order.Kept = false
restarts Order.Restarted = true

-- the token left: the rest keeps its order, or begins behind it
pub record IsLeft (ring left : Ring) (token : ℕ) (restarts : Bool) (weight : ℕ) : Type 0 where
  pub leaves : Leaves restarts ring.tokens token left.tokens
  pub weighed : left.weight + weight ≡ ring.weight

-- the token left the ring of that list, if it is one
abbrev pub LeavesRingOf : Rings → Rings → (token : ℕ) → Bool → (weight : ℕ) → Stand → Type 0
LeavesRingOf rings left token restarts weight Stand.AmongHot =
    IsLeft rings.hot left.hot token restarts weight × (left ≡ record rings { hot = left.hot })
LeavesRingOf rings left token restarts weight Stand.AmongCold =
    IsLeft rings.cold left.cold token restarts weight × (left ≡ record rings { cold = left.cold })
LeavesRingOf rings left token restarts weight Stand.AmongGhosts =
    IsLeft rings.ghosts left.ghosts token restarts weight
    × (left ≡ record rings { ghosts = left.ghosts })
LeavesRingOf rings left token restarts weight Stand.AmongStill = left ≡ rings
LeavesRingOf rings left token restarts weight Stand.AmongLoading = left ≡ rings

-- ---- the first token goes

-- the ring without its first token, if there is one, and so much lighter
abbrev pub without_first : (weight : ℕ) → Ring → Ring
without_first weight ring =
    record { tokens = drop 1 ring.tokens; weight = ring.weight - weight }

-- the cold ring weighs no less than this, and there is room for one more ghost
pub record CanBury (rings : Rings) (weight : ℕ) : Type 0 where
  pub weighs : weight ≤ rings.cold.weight
  pub enters : CanEnter rings 0 Stand.AmongGhosts

-- the first cold token went, and the token came last among the ghosts
abbrev pub buried : (token weight : ℕ) → Rings → Rings
buried token weight rings =
    entered token 0 Stand.AmongGhosts (record rings { cold = without_first weight rings.cold })

-- the first ghost went
abbrev pub first_forgotten : Rings → Rings
first_forgotten rings = record rings { ghosts = without_first 0 rings.ghosts }

-- ---- a ring turns, or weighs something else

-- the ring begun one further on
abbrev pub one_further : Ring → Ring
one_further ring = record ring { tokens = turned ring.tokens }

-- the rings, of which that of the queue begins one further on
abbrev pub rings_turned : Queue → Rings → Rings
rings_turned Queue.Hot rings = record rings { hot = one_further rings.hot }
rings_turned Queue.Cold rings = record rings { cold = one_further rings.cold }

-- a ring can weigh so much less and more
pub record CanWeigh (ring : Ring) (from to : ℕ) : Type 0 where
  pub weighs : from ≤ ring.weight
  pub light : ring.weight + to < 340282366920938463463374607431768211456

-- the same of the ring of that list, if it is one of items
abbrev pub CanReweigh : Rings → (from to : ℕ) → Stand → Type 0
CanReweigh rings from to Stand.AmongHot = CanWeigh rings.hot from to
CanReweigh rings from to Stand.AmongCold = CanWeigh rings.cold from to
CanReweigh rings from to Stand.AmongGhosts = Unit {0}
CanReweigh rings from to Stand.AmongStill = Unit {0}
CanReweigh rings from to Stand.AmongLoading = Unit {0}

-- the ring weighs so much less and more
abbrev pub ring_reweighed : (from to : ℕ) → Ring → Ring
ring_reweighed from to ring = record ring { weight = ring.weight - from + to }

-- the rings, of which that of the list, if it is one of items, weighs so much less and more
abbrev pub reweighed : (from to : ℕ) → Stand → Rings → Rings
reweighed from to Stand.AmongHot rings = record rings { hot = ring_reweighed from to rings.hot }
reweighed from to Stand.AmongCold rings = record rings { cold = ring_reweighed from to rings.cold }
reweighed from to Stand.AmongGhosts rings = rings
reweighed from to Stand.AmongStill rings = rings
reweighed from to Stand.AmongLoading rings = rings

-- ---- copies

-- no ring has more tokens than so many
pub record AreWithin (rings : Rings) (tokens : ℕ) : Type 0 where
  pub hot_few : length rings.hot.tokens ≤ tokens
  pub cold_few : length rings.cold.tokens ≤ tokens
  pub ghosts_few : length rings.ghosts.tokens ≤ tokens
