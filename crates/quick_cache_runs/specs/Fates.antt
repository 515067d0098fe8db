-- What becomes of the pairs that a cache is handed, call by call.
use Rattle.std.specs.Prelude.{◌≡◌, Bool, true, false, not, List, [], ◌∷◌, ◌++◌, map, Option, Some, None, if◌then◌else◌}
use Rattle.std.specs.List.{filter}
use Rattle.quick_cache_model.specs.CacheState.{CacheState}
use Rattle.quick_cache_model.specs.Hooks.{HookCall}
use Rattle.quick_cache_model.specs.Removal.{pair_of}
use Rattle.quick_cache_model.specs.Fates.{Fate, Comes, Changes, Leaves, coming, leaving, fate_of, residents}
use Rattle.quick_cache_model.specs.declared.calls.call.Call.{Call}
use Rattle.quick_cache_model.specs.declared.calls.reply.Reply.{Reply}

-- a value that was written through a reference: the key of its item, and the value before and after
pub record Rewrite (K V : Type 0) : Type 0 where
  pub key : K
  pub value : V
  pub left : V

module _ {K V : Type 0} where
  -- a value that is written through a reference changes
  abbrev pub changing : Rewrite K V → Fate K V
  changing rewrite = Changes rewrite.key rewrite.value rewrite.left

  -- The value last written under the keys that pass a test, once these fates befell pairs, and
  -- where this was the last one before them: a pair that comes writes its value, and so does a
  -- change.
  abbrev pub last_written : (K → Bool) → Option V → List (Fate K V) → Option V
  last_written test last [] = last
  last_written test last (Comes key value ∷ fates) =
      last_written test (if test key then Some value else last) fates
  last_written test last (Changes key value left ∷ fates) =
      last_written test (if test key then Some left else last) fates
  last_written test last (Leaves key value ∷ fates) = last_written test last fates

-- whether a reply tells that a placeholder was filled
abbrev pub tells_fill : {K V M : Type 0} → Reply K V M → Bool
tells_fill (Reply.Loaded there) = true
tells_fill Reply.Filled = true
tells_fill _ = false

-- whether a reply tells that a reference was given
abbrev pub tells_reference : {K V M : Type 0} → Reply K V M → Bool
tells_reference (Reply.Flag there) = there
tells_reference (Reply.Found value) = true
tells_reference (Reply.Loaded there) = there
tells_reference _ = false

-- the pair that a reply gives out, be it a resident's or one that was not taken; what a look or a
-- walk shows is a clone
abbrev pub pair_back : {K V M : Type 0} → Reply K V M → List (K × V)
pair_back (Reply.RefusedPair key value refusal) = (key, value) ∷ []
pair_back (Reply.NotAdmitted key value) = (key, value) ∷ []
pair_back (Reply.Pair (Some pair)) = pair ∷ []
pair_back _ = []

-- the pairs of a drain
abbrev pub pairs_drained : {K V M : Type 0} → Reply K V M → List (K × V)
pairs_drained (Reply.Pairs pairs) = pairs.items
pairs_drained _ = []

module _ {K V : Type 0} (equal : K → K → Bool) where
  -- the pair of a fill: the value that was given, under the placeholder's key, which is equal to
  -- the call's
  abbrev pub IsPairOfFill : K → Bool → Option V → List (K × V) → Type 0
  IsPairOfFill key false given begun = begun ≡ []
  IsPairOfFill key true None begun = ⊥
  IsPairOfFill key true (Some value) begun =
      (own : K) × (equal key own ≡ true) × (begun ≡ (own, value) ∷ [])

  -- a value that is written through a reference, where one was given: to an item of an equal key
  abbrev pub IsRewrite : K → V → Bool → List (Rewrite K V) → Type 0
  IsRewrite key left true written = (own : K) × (value : V) × (equal key own ≡ true)
      × (written ≡ record { key = own; value = value; left = left } ∷ [])
  IsRewrite key left false written = written ≡ []

module _ {K V F M : Type 0} (equal : K → K → Bool) where
  -- The pairs that a call hands in: that of an insert or a replace, and that of a value which a
  -- loader or a guard gave to a fill.
  abbrev pub HandsIn : Call K V F → Reply K V M → List (K × V) → Type 0
  HandsIn (Call.Insert key value) reply begun = begun ≡ (key, value) ∷ []
  HandsIn (Call.Replace key value soft) reply begun = begun ≡ (key, value) ∷ []
  HandsIn (Call.Load key given) reply begun = IsPairOfFill equal key (tells_fill reply) given begun
  HandsIn (Call.LoadMut key given left) reply begun =
      IsPairOfFill equal key (tells_fill reply) given begun
  HandsIn (Call.Guarded key given) reply begun =
      IsPairOfFill equal key (tells_fill reply) given begun
  HandsIn (Call.GuardedMut key given left) reply begun =
      IsPairOfFill equal key (tells_fill reply) given begun
  HandsIn _ reply begun = begun ≡ []

  -- the values that a call writes through a reference
  abbrev pub WritesThrough : Call K V F → Reply K V M → List (Rewrite K V) → Type 0
  WritesThrough (Call.GetMut key left) reply written =
      IsRewrite equal key left (tells_reference reply) written
  WritesThrough (Call.PeekMut key left) reply written =
      IsRewrite equal key left (tells_reference reply) written
  WritesThrough (Call.LoadMut key given left) reply written =
      IsRewrite equal key left (tells_reference reply) written
  WritesThrough (Call.GuardedMut key given left) reply written =
      IsRewrite equal key left (tells_reference reply) written
  WritesThrough _ reply written = written ≡ []

module _ {K V F M : Type 0} (answers : F → K → V → Bool) (old : CacheState K V) where
  -- the pairs that leave by the call itself: what it gives out, and what a retain, a clear or a
  -- drain takes out
  abbrev pub pairs_out : Call K V F → Reply K V M → List (K × V)
  pairs_out (Call.Retain keep) reply = map pair_of
      (filter (λ item. not (answers keep item.key item.value)) (old.hot ++ (old.cold ++ old.still)))
  pairs_out Call.Clear reply = residents old
  pairs_out Call.Drain reply = pairs_drained reply
  pairs_out _ reply = pair_back reply

module _ {K V F M : Type 0} (equal : K → K → Bool) (answers : F → K → V → Bool) where
  -- What befalls pairs in a call, in this order: one is handed in, hooks are told of some, one is
  -- written through a reference, and some leave by the call itself.
  pub record Befalls (old : CacheState K V) (call : Call K V F) (reply : Reply K V M)
      (hook_calls : List (HookCall K V)) (fates : List (Fate K V)) : Type 0 where
    pub begun : List (K × V)
    pub written : List (Rewrite K V)
    pub hands_in : HandsIn equal call reply begun
    pub writes : WritesThrough equal call reply written
    pub parts : fates ≡ map coming begun ++ (map fate_of hook_calls ++ (map changing written
        ++ map leaving (pairs_out answers old call reply)))
