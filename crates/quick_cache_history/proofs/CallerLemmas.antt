-- For callers: calls that stand in a history, and in what goes on from it.
use Rattle.std.proofs.Common.{◌≡◌, ℕ, ◌+◌, Bool, List, [], ◌∷◌, length, refl, ap, ◌∙◌, sym, subst, arith, length-append}
use Rattle.std.proofs.lemmas.List.{append-nil}
use Rattle.std.specs.List.{Contains}
use Rattle.std.proofs.lemmas.List.Elements.{Contains-append_left, Contains-append_right}
use mathlib.Core.List.{IsPrefix}
use Rattle.quick_cache_model.specs.declared.calls.call.Call.{Call}
use Rattle.quick_cache_model.specs.declared.calls.reply.Reply.{Reply}
use Rattle.quick_cache_history.specs.declared.entry.Entry.{Entry}
use Rattle.quick_cache_history.specs.Rows.{Clears, Counts, OnEach}
use Rattle.quick_cache_history.specs.Seats.{Caller, Extends, HasCall}
use Rattle.quick_cache_history.proofs.PrefixLemmas.{prefix-trans}
use Rattle.quick_cache_shard.specs.Steps.{Goes}

module _ {K V : Type 0} where
  -- what stands in a beginning of a history stands in the history
  pub HasCall-longer : (call : Call K V Bool) (reply : Reply K V _) (old new : List (Entry K V))
      → IsPrefix old new → HasCall call reply old → HasCall call reply new
  HasCall-longer call reply old new p made = record {
    turn = made.turn;
    next = made.next;
    shard = made.shard;
    stands = subst (λ log. Contains log (Entry.Made made.turn made.next made.shard call reply)) p.1
        (Contains-append_left old p.0 (Entry.Made made.turn made.next made.shard call reply)
        made.stands);
  }

  -- and a call that ends a history stands in it
  pub Extends-made : (turn next shard : ℕ) (call : Call K V Bool) (reply : Reply K V _)
      (old new : Caller K V) → Extends old (Entry.Made turn next shard call reply) new
      → HasCall call reply new.seen
  Extends-made turn next shard call reply old new extends =
      let entry = Entry.Made turn next shard call reply in
      record {
        turn = turn;
        next = next;
        shard = shard;
        stands = subst (λ log. Contains log entry) (sym extends.ends)
            (Contains-append_right extends.before (entry ∷ []) entry (0, omega arith, refl));
      }

  -- what a call adds goes on from what was seen, and is one more of the seat's own
  pub Extends-longer : (entry : Entry K V) (old new : Caller K V) → Extends old entry new
      → IsPrefix old.seen new.seen
  Extends-longer entry old new extends = prefix-trans old.seen extends.before new.seen
      extends.longer (entry ∷ [], sym extends.ends)

  pub Extends-mine : (entry : Entry K V) (old new : Caller K V) → Extends old entry new
      → length new.mine ≡ length old.mine + 1
  Extends-mine entry old new extends =
      omega (arith, ap length extends.one_more, length-append old.mine (entry ∷ []))

-- Calls on each shard of a row.
module _ {K V We B L S : Type 0} (goes : Goes K V We B L S) (is_default : S → Type 0)
    (equal : K → K → Bool) where
  -- a seat that cleared each shard made so many calls, and has seen no less
  pub Clears-longer : (old : Caller K V) (number : ℕ) (new : Caller K V)
      → OnEach (Clears goes is_default equal) old number new → IsPrefix old.seen new.seen
  Clears-longer old number new OnEach.none = ([], append-nil old.seen)
  Clears-longer old number new (OnEach.more before mid last row step) =
      prefix-trans old.seen mid.seen last.seen (Clears-longer old before mid row)
      (Extends-longer _ mid last step.extends)

  pub Clears-mine : (old : Caller K V) (number : ℕ) (new : Caller K V)
      → OnEach (Clears goes is_default equal) old number new
      → length new.mine ≡ length old.mine + number
  Clears-mine old number new OnEach.none = omega arith
  Clears-mine old number new (OnEach.more before mid last row step) = omega (
    arith,
    Clears-mine old before mid row,
    Extends-mine _ mid last step.extends,
  )

  -- who counted made no call
  pub Counts-longer : (old : Caller K V × ℕ) (number : ℕ) (new : Caller K V × ℕ)
      → OnEach (Counts goes is_default equal) old number new → IsPrefix old.0.seen new.0.seen
  Counts-longer old number new OnEach.none = ([], append-nil old.0.seen)
  Counts-longer old number new (OnEach.more before mid last row step) =
      prefix-trans old.0.seen mid.0.seen last.0.seen (Counts-longer old before mid row) step.longer

  pub Counts-mine : (old : Caller K V × ℕ) (number : ℕ) (new : Caller K V × ℕ)
      → OnEach (Counts goes is_default equal) old number new → new.0.mine ≡ old.0.mine
  Counts-mine old number new OnEach.none = refl
  Counts-mine old number new (OnEach.more before mid last row step) =
      ap (λ (c : Caller K V). c.mine) step.seat ∙ Counts-mine old before mid row
