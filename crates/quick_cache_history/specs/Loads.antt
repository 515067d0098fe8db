-- What stands under a key is looked at, and a call is made by what was shown.
use Rattle.std.specs.Prelude.{◌≡◌, ℕ, Bool, [], ◌∷◌, ◌++◌, Option, Some, None, Ok}
use Rattle.std.specs.declared.alloc.Global.{Global}
use mathlib.Core.List.{IsPrefix}
use Rattle.quick_cache_model.specs.declared.calls.call.Call.{Call}
use Rattle.quick_cache_model.specs.declared.calls.reply.Reply.{Reply}
use Rattle.quick_cache_model.specs.declared.refusal.Refusal.{Refusal}
use Rattle.quick_cache_locked.specs.Peeks.{Peeks, ShowsFitting}
use Rattle.quick_cache_shard.specs.Shard.{Shard}
use Rattle.quick_cache_shard.specs.Steps.{Goes}
use Rattle.quick_cache_history.specs.declared.choice.Choice.{Choice}
use Rattle.quick_cache_history.specs.declared.choice.Entered.{Entered}
use Rattle.quick_cache_history.specs.declared.entry.Entry.{Entry}
use Rattle.quick_cache_history.specs.Histories.{calls_of}
use Rattle.quick_cache_history.specs.KeptShards.{AtEnd, Makes, StandsAtEnd}
use Rattle.quick_cache_history.specs.Seats.{Caller, Extends}

-- what a look may show: where clones fit as their values do, a value that fits an equal key, or none
abbrev pub MayShow : {K V : Type 0} → (fits : K → V → Type 0) → (stands_for : K → Bool)
    → (is_clone : V → V → Type 0) → Option V → Type 0
MayShow fits stands_for is_clone found =
    ShowsFitting {E = Refusal} fits stands_for is_clone (Ok found)

module _ {K V We B L S : Type 0} (goes : Goes K V We B L S) (is_default : S → Type 0)
    (equal : K → K → Bool) (is_clone : V → V → Type 0) (number : ℕ) (key : K) where
  -- The seat made no call. At the end of what it has then seen, the shard shows this under the key.
  pub record Looks (found : Option V) (old new : Caller K V) : Type 0 where
    pub longer : IsPrefix old.seen new.seen
    pub seat : new ≡ record old { seen = new.seen }
    pub shows : AtEnd goes is_default equal number new.seen
        (λ shard. Peeks (equal key) is_clone shard.state (Ok found))

  -- It looked first, and the very shard that showed this then made this call, the shard's next.
  pub record CallsNext (found : Option V) (call : Call K V Bool) (reply : Reply K V Global)
      (old new : Caller K V) : Type 0 where
    pub mid : Caller K V
    pub longer : IsPrefix old.seen mid.seen
    pub seat : mid ≡ record old { seen = mid.seen }
    pub shard : Shard K V We B L
    pub stood : StandsAtEnd goes is_default equal number mid.seen shard
    pub shows : Peeks (equal key) is_clone shard.state (Ok found)
    pub left : Shard K V We B L
    pub makes : Makes goes is_default equal shard call reply left
    pub stands : StandsAtEnd goes is_default equal number new.seen left
    pub extends : Extends mid (Entry.Made mid.turn new.turn number call reply) new
    pub next : calls_of number new.seen
        ≡ calls_of number mid.seen ++ Entry.Made mid.turn new.turn number call reply ∷ []

  -- It looked, and a callback chose what happened: nothing, or a removal or an insert by the shard's
  -- next call.
  pub data Enters {T : Type 0} (chooses : Option V → Choice V T → Type 0) (old new : Caller K V)
      : Entered K V T → Type 0 where
    kept : (found : Option V) (told : T) → chooses found (Choice.Keep told) → Looks found old new
        → Enters chooses old new (Entered.Kept told)
    removed : (found : Option V) (pair : Option (K × V)) → chooses found Choice.Remove
        → CallsNext found (Call.Remove key) (Reply.Pair pair) old new
        → Enters chooses old new (Entered.Removed pair)
    inserted : (found : Option V) (value : V) → chooses found (Choice.Insert value)
        → CallsNext found (Call.Insert key value) Reply.Done old new
        → Enters chooses old new Entered.Inserted

  -- What is given stands there, or it is a clone of what was loaded, and inserted where a look
  -- showed nothing.
  pub data Gives (loads : V → Type 0) (value : V) (old new : Caller K V) : Type 0 where
    stood : Looks (Some value) old new → Gives loads value old new
    put : (own : V) → loads own → is_clone own value
        → CallsNext None (Call.Insert key own) Reply.Done old new → Gives loads value old new

-- a callback that keeps what it is shown, and else puts this in
abbrev pub KeepsOrInserts : {V : Type 0} → V → Option V → Choice V V → Type 0
KeepsOrInserts own (Some found) choice = choice ≡ Choice.Keep found
KeepsOrInserts own None choice = choice ≡ Choice.Insert own
