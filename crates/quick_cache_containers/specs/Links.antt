-- How a `LinkedSlab` lays out its slots. No public clause cites this module.
use Rattle.std.specs.Prelude.{◌≡◌, ℕ, zero, suc, ◌+◌, ◌-◌, ◌<◌, ◌≤◌, min, Bool, true, false, cond, eqb, ltb, List, [], ◌∷◌, length, map}
use Rattle.std.specs.Prelude.{Option, None, is_some}
use Rattle.std.specs.List.{range_with_len}
use Rattle.quick_cache_containers.specs.LinkedSlab.{LinkedSlab, IsSlotCopy, at_token, with_token, first_or, times, without, joined}
use Rattle.quick_cache_containers.specs.Nodes.{item_of, next_link, prev_link}
use Rattle.quick_cache_containers.specs.declared.linked_slab.node.Node.{Node}

-- each token of the path leads to the next, and the last to `end`
abbrev pub Leads : (ℕ → ℕ) → List ℕ → ℕ → Type 0
Leads next [] end = Unit {0}
Leads next (x ∷ xs) end = (next x ≡ first_or end xs) × Leads next xs end

-- the links lead from the head over the rest back to the head, over occupied tokens, each once
pub record IsRing (next : ℕ → ℕ) (is_held : ℕ → Bool) (head : ℕ) (rest : List ℕ) : Type 0 where
  pub leads : Leads next (head ∷ rest) head
  pub once : (t : ℕ) → times t (head ∷ rest) ≤ 1
  pub held : (t : ℕ) → 0 < times t (head ∷ rest) → is_held t ≡ true

-- each occupied token has a ring, and `prev` leads back from the token that `next` leads to
pub record AreRings (next prev : ℕ → ℕ) (is_held : ℕ → Bool) : Type 0 where
  pub back : (t : ℕ) → is_held t ≡ true → prev (next t) ≡ t
  pub ring : (t : ℕ) → is_held t ≡ true → (rest : List ℕ) × IsRing next is_held t rest

-- the tokens that links lead over up to `stop`, at most so many
abbrev pub walk : (ℕ → ℕ) → ℕ → ℕ → ℕ → List ℕ
walk next stop zero t = []
walk next stop (suc n) t = cond (eqb t stop) [] (t ∷ walk next stop n (next t))

-- each free token leads to the next, and the last to itself
abbrev pub LeadsFree : (ℕ → ℕ) → List ℕ → Type 0
LeadsFree next [] = Unit {0}
LeadsFree next (x ∷ xs) = (next x ≡ first_or x xs) × LeadsFree next xs

-- the tokens that links lead over up to one that names itself, at most so many
abbrev pub walk_free : (ℕ → ℕ) → ℕ → ℕ → List ℕ
walk_free next zero t = []
walk_free next (suc n) t = t ∷ cond (eqb (next t) t) [] (walk_free next n (next t))

-- the link of a token
abbrev pub link_of : List ℕ → ℕ → ℕ
link_of links token = at_token links token 0

-- the free tokens, from the first on
abbrev pub free_of : List ℕ → ℕ → List ℕ
free_of nexts first =
    cond (ltb (length nexts) first) [] (walk_free (link_of nexts) (length nexts) first)

-- how many more slots fit, with memory for so many, where there are so many
abbrev pub room_of : ℕ → ℕ → ℕ
room_of capacity len = min capacity 4294967294 - len

module _ {T : Type 0} where
  -- whether a token has an item
  abbrev pub is_taken : List (Option T) → ℕ → Bool
  is_taken slots token = is_some (at_token slots token None)

  -- the ring of a token, as the list that begins with it
  abbrev pub ring_at : List (Option T) → List ℕ → ℕ → List ℕ
  ring_at slots nexts token =
      let next = link_of nexts in
      cond (is_taken slots token) (token ∷ walk next token (length slots) (next token)) []

  -- the ring of each token
  abbrev pub rings_of : List (Option T) → List ℕ → List (List ℕ)
  rings_of slots nexts = map (ring_at slots nexts) (range_with_len 1 (length slots))

  -- there are links for each slot, and they lead over the rings
  pub record AreLinked (slots : List (Option T)) (nexts prevs : List ℕ) : Type 0 where
    pub next_each : length nexts ≡ length slots
    pub prev_each : length prevs ≡ length slots
    pub rings : AreRings (link_of nexts) (link_of prevs) (is_taken slots)

  -- the links lead from the first over these tokens, which are all that are free
  pub record AreFree (slots : List (Option T)) (nexts : List ℕ) (first : ℕ) (free : List ℕ)
      : Type 0 where
    pub begins : first ≡ first_or (length slots + 1) free
    pub leads : LeadsFree (link_of nexts) free
    pub once : (t : ℕ) → times t free ≤ 1
    pub within : (t : ℕ) → 0 < times t free
        → (0 < t) × (t ≤ length slots) × (is_taken slots t ≡ false)
    pub all : (t : ℕ) → 0 < t → t ≤ length slots → is_taken slots t ≡ false → 0 < times t free

  -- so many free tokens were passed, and the links lead from the token over those that are left
  pub record IsFreeRest (slots : List (Option T)) (nexts free : List ℕ) (token passed : ℕ)
      : Type 0 where
    pub rest : List ℕ
    pub begins : token ≡ first_or (length slots + 1) rest
    pub leads : LeadsFree (link_of nexts) rest
    pub once : (t : ℕ) → times t rest ≤ 1
    pub within : (t : ℕ) → 0 < times t rest → t ≤ length slots
    pub counted : passed + length rest ≡ length free

  -- the slab that slots and links stand for, with the token of the next insert
  abbrev pub view_of : List (Option T) → List ℕ → ℕ → ℕ → LinkedSlab T
  view_of slots nexts first room =
      let rings = rings_of slots nexts in
      record { slots = slots; rings = rings; free = free_of nexts first; room = room }

  -- what always holds of the slots
  pub record IsSound (slots : List (Option T)) (nexts prevs : List ℕ) (first : ℕ) : Type 0 where
    pub few : length slots < 4294967295
    pub linked : AreLinked slots nexts prevs
    pub free : List ℕ
    pub are_free : AreFree slots nexts first free

  -- the token is a ring of its own, and is gone from the other rings
  pub record Unlinks (slots : List (Option T)) (nexts prevs : List ℕ) (a : ℕ)
      (nexts' prevs' : List ℕ) : Type 0 where
    pub linked : AreLinked slots nexts' prevs'
    pub rings : rings_of slots nexts'
        ≡ with_token (map (without a) (rings_of slots nexts)) a (a ∷ [])
    pub alone : link_of nexts' a ≡ a
    pub free_kept : (t : ℕ) → is_taken slots t ≡ false → link_of nexts' t ≡ link_of nexts t

  -- the token stands before the head in its ring, at the end of the list that begins with the head
  pub record Links (slots : List (Option T)) (nexts prevs : List ℕ) (a head : ℕ)
      (nexts' prevs' : List ℕ) : Type 0 where
    pub linked : AreLinked slots nexts' prevs'
    pub rings : rings_of slots nexts'
        ≡ with_token (map (joined a head) (rings_of slots nexts)) a (a ∷ ring_at slots nexts head)
    pub free_kept : (t : ℕ) → is_taken slots t ≡ false → link_of nexts' t ≡ link_of nexts t

-- a node with the same links, and a copy of the item if it has one
pub record IsNodeCopy {T : Type 0} (is_copy : T → T → Type 0) (node copy : Node T) : Type 0 where
  pub next : next_link copy ≡ next_link node
  pub prev : prev_link copy ≡ prev_link node
  pub item : IsSlotCopy is_copy (item_of node) (item_of copy)
