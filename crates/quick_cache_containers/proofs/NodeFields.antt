-- The fields of a list of nodes, and what a write to one node makes of them.
use Rattle.std.proofs.Common.{◌≡◌, ℕ, ◌+◌, ◌≤◌, true, List, length, map, get_or, set, Option, sym, ap, ◌∙◌, arith}
use Rattle.std.proofs.lemmas.List.{map-set, set-get_or, get_or-map, length-map}
use Rattle.quick_cache_containers.specs.LinkedSlab.{at_token, with_token}
use Rattle.quick_cache_containers.specs.Links.{link_of, is_taken, AreLinked}
use Rattle.quick_cache_containers.proofs.AllRings.{before}
use Rattle.quick_cache_containers.proofs.AtTokens.{with_token-suc, at_token-suc, at_token-with_same, get_or-map_all}
use Rattle.quick_cache_containers.proofs.SlotRings.{taken_within}

module _ {N X : Type 0} (f : N → X) (nodes : List N) where
  -- a write that leaves the field as it was
  pub map-set_kept : (i : ℕ) (node d : N) → f node ≡ f (get_or nodes i d)
      → map f (set nodes i node) ≡ map f nodes
  map-set_kept i node d same =
      map-set f nodes i node ∙ ap (set (map f nodes) i) (same ∙ sym (get_or-map_all f nodes i d))
      ∙ set-get_or (map f nodes) i (f d)

  -- a write to the node of a token
  pub map-with : (t i : ℕ) (node : N) → i + 1 ≡ t
      → map f (set nodes i node) ≡ with_token (map f nodes) t (f node)
  map-with t i node at = map-set f nodes i node ∙ sym (with_token-suc (map f nodes) t i (f node) at)

  -- the field of the node of a token
  pub field_read : (t i : ℕ) (d : N) (other : X) → i + 1 ≡ t → t ≤ length nodes
      → f (get_or nodes i d) ≡ at_token (map f nodes) t other
  field_read t i d other at within =
      sym (get_or-map f nodes i d other (omega arith)) ∙ sym (at_token-suc (map f nodes) t i other at)

-- a write to the node of a token, told by the field that is read there afterwards
pub written_field : {N : Type 0} (f : N → ℕ) (nodes : List N) (t i : ℕ) (node : N) → i + 1 ≡ t
    → t ≤ length nodes
    → map f (set nodes i node) ≡ with_token (map f nodes) t (link_of (map f (set nodes i node)) t)
written_field f nodes t i node at within =
    let written = map-with f nodes t i node at in
    let read : link_of (with_token (map f nodes) t (f node)) t ≡ f node =
    at_token-with_same (map f nodes) t (f node) 0 (omega arith) (omega (arith, length-map nodes f)) in
    written ∙ ap (with_token (map f nodes) t) (sym (ap (λ xs. link_of xs t) written ∙ read))

module _ {N T : Type 0} (item_of : N → Option T) (nodes : List N) (t : ℕ) where
  -- an occupied token and its neighbours are within the nodes
  pub taken_in_nodes : is_taken (map item_of nodes) t ≡ true → t ≤ length nodes
  taken_in_nodes taken =
      omega (arith, (taken_within (map item_of nodes) t taken).1, length-map nodes item_of)

  module _ (nexts prevs : List ℕ) (linked : AreLinked (map item_of nodes) nexts prevs)
      (taken : is_taken (map item_of nodes) t ≡ true) where
    -- the neighbours of an occupied token are occupied
    pub prev_taken : is_taken (map item_of nodes) (link_of prevs t) ≡ true
    prev_taken = (before (link_of nexts) (link_of prevs) (is_taken (map item_of nodes))
        linked.rings t taken).0
