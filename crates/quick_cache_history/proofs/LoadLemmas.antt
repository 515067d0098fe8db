-- A seat that looked before it looked again or wrote.
use Rattle.std.proofs.Common.{◌≡◌, ℕ, Bool, Option, Some, None, refl, ap, subst, ◌∙◌}
use Rattle.std.specs.declared.alloc.Global.{Global}
use mathlib.Core.List.{IsPrefix}
use Rattle.quick_cache_model.specs.declared.calls.call.Call.{Call}
use Rattle.quick_cache_model.specs.declared.calls.reply.Reply.{Reply}
use Rattle.quick_cache_shard.specs.Steps.{Goes}
use Rattle.quick_cache_history.specs.declared.choice.Choice.{Choice}
use Rattle.quick_cache_history.specs.declared.choice.Entered.{Entered}
use Rattle.quick_cache_history.specs.Loads.{CallsNext, Enters, Gives, KeepsOrInserts, Looks}
use Rattle.quick_cache_history.specs.Seats.{Caller}
use Rattle.quick_cache_history.proofs.PrefixLemmas.{prefix-trans}

-- it made no call by both looks
pub same-after : {K V : Type 0} (old mid new : Caller K V) → mid ≡ record old { seen = mid.seen }
    → new ≡ record mid { seen = new.seen } → new ≡ record old { seen = new.seen }
same-after old mid new same again =
    again ∙ ap (λ (c : Caller _ _). record c { seen = new.seen }) same

module _ {K V We B L S : Type 0} (goes : Goes K V We B L S) (is_default : S → Type 0)
    (equal : K → K → Bool) (is_clone : V → V → Type 0) (number : ℕ) (key : K) (old mid : Caller K V)
    (longer : IsPrefix old.seen mid.seen) (same : mid ≡ record old { seen = mid.seen }) where
  pub Looks-after : (found : Option V) (new : Caller K V)
      → Looks goes is_default equal is_clone number key found mid new
      → Looks goes is_default equal is_clone number key found old new
  Looks-after found new looks = record {
    longer = prefix-trans old.seen mid.seen new.seen longer looks.longer;
    seat = same-after old mid new same looks.seat;
    shows = looks.shows;
  }

  pub CallsNext-after : (found : Option V) (call : Call K V Bool) (reply : Reply K V Global)
      (new : Caller K V)
      → CallsNext goes is_default equal is_clone number key found call reply mid new
      → CallsNext goes is_default equal is_clone number key found call reply old new
  CallsNext-after found call reply new calls = record {
    mid = calls.mid;
    longer = prefix-trans old.seen mid.seen calls.mid.seen longer calls.longer;
    seat = same-after old mid calls.mid same calls.seat;
    shard = calls.shard;
    stood = calls.stood;
    shows = calls.shows;
    left = calls.left;
    makes = calls.makes;
    stands = calls.stands;
    extends = calls.extends;
    next = calls.next;
  }

  -- A callback that keeps what it is shown, and else puts in what was loaded: what it kept is given,
  -- or a clone of what it put in.
  module _ (loads : V → Type 0) (own copy : V) (loaded : loads own) (clones : is_clone own copy)
      (chooses : Option V → Choice V V → Type 0) (new : Caller K V) where
    kept_is : (found : Option V) (told : V) → KeepsOrInserts own found (Choice.Keep told)
        → found ≡ Some told
    kept_is (Some first) told is = cc is
    kept_is None told is = absurd (cc is)

    none_is : (found : Option V) (value : V) → KeepsOrInserts own found (Choice.Insert value)
        → (found ≡ None) × (value ≡ own)
    none_is (Some first) value is = absurd (cc is)
    none_is None value is = (refl, cc is)

    pub kept-gives : (told : V)
        → Enters goes is_default equal is_clone number key chooses mid new (Entered.Kept told)
        → ((found : Option V) (chosen : Choice V V) → chooses found chosen
        → KeepsOrInserts own found chosen)
        → Gives goes is_default equal is_clone number key loads told old new
    kept-gives told (Enters.kept found _ chose looks) keeps = Gives.stood
        (subst (λ found. Looks goes is_default equal is_clone number key found old new)
        (kept_is found told (keeps found (Choice.Keep told) chose)) (Looks-after found new looks))

    pub inserted-gives : Enters goes is_default equal is_clone number key chooses mid new
        Entered.Inserted
        → ((found : Option V) (chosen : Choice V V) → chooses found chosen
        → KeepsOrInserts own found chosen)
        → Gives goes is_default equal is_clone number key loads copy old new
    inserted-gives (Enters.inserted found value chose calls) keeps =
        let is = none_is found value (keeps found (Choice.Insert value) chose) in
        Gives.put own loaded clones
        (subst (λ (x : Option V × V). CallsNext goes is_default equal is_clone number key x.0
        (Call.Insert key x.1) Reply.Done old new) (λ i. (is.0 i, is.1 i))
        (CallsNext-after found (Call.Insert key value) Reply.Done new calls))
