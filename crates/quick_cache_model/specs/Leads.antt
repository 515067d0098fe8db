-- Pairs that fates lead to other pairs.
use Rattle.std.specs.Prelude.{List, [], ◌∷◌, ◌++◌, map, Option}
use Rattle.std.specs.Option.{option_to_list}
use Rattle.std.specs.List.Sorted.{IsPermutation}
use Rattle.quick_cache_model.specs.CacheState.{CacheState}
use Rattle.quick_cache_model.specs.Hooks.{HookCall}
use Rattle.quick_cache_model.specs.Fates.{Fate, Comes, Changes, Leaves, fate_of, residents}

module _ {K V : Type 0} where
  -- The pairs after these fates, one after another, in whatever order: each pair that changes or
  -- leaves was there, and no other pair comes, changes or leaves.
  pub data Leads : List (K × V) → List (Fate K V) → List (K × V) → Type 0 where
    rests : (pairs others : List (K × V)) → IsPermutation pairs others → Leads pairs [] others
    comes : (key : K) (value : V) (pairs : List (K × V)) (fates : List (Fate K V))
        (others : List (K × V)) → Leads ((key, value) ∷ pairs) fates others
        → Leads pairs (Comes key value ∷ fates) others
    changes : (key : K) (value left : V) (pairs rest : List (K × V)) (fates : List (Fate K V))
        (others : List (K × V)) → IsPermutation pairs ((key, value) ∷ rest)
        → Leads ((key, left) ∷ rest) fates others
        → Leads pairs (Changes key value left ∷ fates) others
    leaves : (key : K) (value : V) (pairs rest : List (K × V)) (fates : List (Fate K V))
        (others : List (K × V)) → IsPermutation pairs ((key, value) ∷ rest)
        → Leads rest fates others → Leads pairs (Leaves key value ∷ fates) others

  -- what hook calls lead to
  abbrev pub Tells : List (K × V) → List (HookCall K V) → List (K × V) → Type 0
  Tells pairs calls others = Leads pairs (map fate_of calls) others

  -- The hook calls tell of each resident that leaves and of each value that changes, and nothing
  -- else became of the residents.
  abbrev pub TellsResidents : (old : CacheState K V) → List (HookCall K V) → (new : CacheState K V)
      → Type 0
  TellsResidents old calls new = Tells (residents old) calls (residents new)

  -- The same of the residents and of a pair that is handed in beside them, where a pair may be given
  -- back.
  abbrev pub TellsBeside : K → V → (old : CacheState K V) → List (HookCall K V) → Option (K × V)
      → (new : CacheState K V) → Type 0
  TellsBeside key value old calls back new =
      Tells ((key, value) ∷ residents old) calls (option_to_list back ++ residents new)
