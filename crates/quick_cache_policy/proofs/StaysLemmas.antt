-- What calls leave, one after another.
use Rattle.std.proofs.Common.{◌≡◌, ℕ, ◌+◌, ◌^◌, ◌<◌, Bool, refl, sym, ap, ◌∙◌, arith}
use Rattle.quick_cache_model.specs.declared.queue.Queue.{Queue}
use Rattle.quick_cache_store.specs.Lists.{Lists}
use Rattle.quick_cache_policy.specs.declared.contents.Contents.{Contents}
use Rattle.quick_cache_policy.specs.Contents.{IsSound, KeepsNumbers, ring_count, work_of}
use Rattle.quick_cache_policy.specs.Stays.{MakesRoom}
use Rattle.quick_cache_policy.proofs.WorkLemmas.{PaysFor-none, PaysFor-then}

-- only the lists and the work became others
pub KeepsNumbers-from : {K V P W A T : Type 0} (old new : Contents K V W A T P)
    (lists : Lists K V P)
    (advances visits : ℕ)
    → new ≡ record old { lists = lists; advances = advances; visits = visits }
    → KeepsNumbers old new
KeepsNumbers-from old new lists advances visits is = is ∙ (λ i. record old {
  lists = ap (λ (r : Contents _ _ _ _ _ _). r.lists) (sym is) i;
  advances = ap (λ (r : Contents _ _ _ _ _ _). r.advances) (sym is) i;
  visits = ap (λ (r : Contents _ _ _ _ _ _). r.visits) (sym is) i;
})

module _ {K V P W A T : Type 0} (ticket_of : P → ℕ) (equal : K → K → Bool) (hash : K → ℕ) where
  -- nothing happened
  pub MakesRoom-none : (old : Contents K V W A T P) → IsSound ticket_of equal hash old
      → old.advances < 2 ^ 64 → old.visits < 2 ^ 64 → MakesRoom ticket_of equal hash 0 old old
  MakesRoom-none old sound few less = record {
    sound = sound;
    keys = λ test. omega arith;
    places = λ place there. there;
    room = omega arith;
    work = PaysFor-none old.mark_cut (ring_count Queue.Hot old) (ring_count Queue.Cold old)
        (work_of old) few
        less;
    same = refl;
  }

  -- room was made, and then more
  pub MakesRoom-then : (unpaid : ℕ) (old mid new : Contents K V W A T P)
      → MakesRoom ticket_of equal hash 0 old mid → MakesRoom ticket_of equal hash unpaid mid new
      → MakesRoom ticket_of equal hash (0 + unpaid) old new
  MakesRoom-then unpaid old mid new first then = record {
    sound = then.sound;
    keys = λ test. omega (arith, first.keys test, then.keys test);
    places = λ place there. first.places place (then.places place there);
    room = omega (arith, first.room, then.room);
    work = PaysFor-then old.mark_cut mid.mark_cut 0 unpaid (ring_count Queue.Hot old)
        (ring_count Queue.Cold old) (ring_count Queue.Hot mid) (ring_count Queue.Cold mid)
        (ring_count Queue.Hot new)
        (ring_count Queue.Cold new) (work_of old) (work_of mid) (work_of new)
        (ap (λ (r : Contents K V W A T P). r.mark_cut) first.same) first.work then.work;
    same = then.same ∙ ap (λ (r : Contents K V W A T P). record r {
      lists = new.lists;
      advances = new.advances;
      visits = new.visits;
    }) first.same;
  }

  -- and items paid for all of it
  pub MakesRoom-paid : (old new : Contents K V W A T P) → MakesRoom ticket_of equal hash 0 old new
      → MakesRoom ticket_of equal hash 1 old new
  MakesRoom-paid old new made = record {
    sound = made.sound;
    keys = made.keys;
    places = made.places;
    room = made.room;
    work = record {
      advances = made.work.advances;
      visits = made.work.visits;
      does = made.work.does;
      members = made.work.members;
      paid = omega (arith, made.work.paid);
      visited = made.work.visited;
    };
    same = made.same;
  }
