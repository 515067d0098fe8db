use Rattle.std.proofs.Common.{ℕ, [], Option, refl, sym, subst}
use Rattle.std.specs.Prelude.{nat_eq}
use Rattle.quick_cache_model.specs.CacheState.{Item, UpToOrder}
use Rattle.quick_cache_model.specs.Lookups.{Sees, LooksUp}
use Rattle.quick_cache_model.specs.CacheStep.{CacheStep}
use Rattle.quick_cache_model.specs.declared.calls.call.Call.{Call}
use Rattle.quick_cache_model.proofs.ShownLemmas.{IsShown-itself}
use Rattle.qcrun_parts.proofs.calls.make_call.Goals as goal

-- the reply is a copy of what the look-up shows
pub returns-in-Get-clause-serves : goal.returns-in-Get-clause-serves
returns-in-Get-clause-serves g c =
    let of : Item ℕ ℕ → ℕ = λ item. item.value in
    let looks = subst (λ (answer : Option ℕ).
    UpToOrder (LooksUp (nat_eq c.in-Get.key) c.args.cache.now.state of answer)
    c.get.follows.lender-at-none.state)
    (sym c.copied.ensures) c.get.follows.holds-at-none.0 in
    record {
      calls = [];
      holds = rw c.in-Get.is (
        Call.Get c.in-Get.key,
        refl,
        (
          CacheStep.gets c.in-Get.key c.copied.result c.copied.result _ looks
              (IsShown-itself c.copied.result),
          tt,
        ),
      );
      runs = refl;
    }

-- and so is that of a look that changes nothing
pub returns-in-Peek-clause-serves : goal.returns-in-Peek-clause-serves
returns-in-Peek-clause-serves g c =
    let of : Item ℕ ℕ → ℕ = λ item. item.value in
    let found = c.copied-in-Peek.result in
    let sees = subst (λ (answer : Option ℕ). Sees (nat_eq c.in-Peek.key) c.args.cache.now.state
    of answer) (sym c.copied-in-Peek.ensures) c.peek.ensures.sees in
    record {
      calls = [];
      holds = rw c.in-Peek.is (
        Call.Peek c.in-Peek.key,
        refl,
        (CacheStep.peeks c.in-Peek.key found found sees (IsShown-itself found), tt),
      );
      runs = refl;
    }

pub returns-in-Remove-clause-serves : goal.returns-in-Remove-clause-serves
returns-in-Remove-clause-serves g c = record {
  calls = [];
  holds = rw c.in-Remove.is (
    Call.Remove c.in-Remove.key,
    refl,
    (CacheStep.removes c.in-Remove.key c.remove.result _ c.remove.ensures.removes, tt),
  );
  runs = refl;
}

pub returns-in-RemoveIf-clause-serves : goal.returns-in-RemoveIf-clause-serves
returns-in-RemoveIf-clause-serves g c = record {
  calls = [];
  holds = rw c.in-RemoveIf.is (
    Call.RemoveIf c.in-RemoveIf.key c.in-RemoveIf.value,
    refl,
    (
      CacheStep.removes_if c.in-RemoveIf.key c.in-RemoveIf.value c.remove_value.result _
          c.remove_value.ensures.removes,
      tt,
    ),
  );
  runs = refl;
}

-- the value is written through a reference that counts as a look-up
pub returns-in-Set-clause-serves : goal.returns-in-Set-clause-serves
returns-in-Set-clause-serves g c =
    let sets = c.set.ensures.sets in
    record {
      calls = [];
      holds = rw c.in-Set.is (
        Call.GetMut c.in-Set.key c.in-Set.value,
        refl,
        (
          CacheStep.gets_mut c.in-Set.key c.in-Set.value sets.found c.set.result sets.mid _
              sets.looks sets.writes,
          tt,
        ),
      );
      runs = refl;
    }

pub returns-in-Poke-clause-serves : goal.returns-in-Poke-clause-serves
returns-in-Poke-clause-serves g c = record {
  calls = [];
  holds = rw c.in-Poke.is (
    Call.PeekMut c.in-Poke.key c.in-Poke.value,
    refl,
    (
      CacheStep.peeks_mut c.in-Poke.key c.in-Poke.value c.poke.result _ c.poke.ensures.writes,
      tt,
    ),
  );
  runs = refl;
}

pub returns-in-Stats-clause-serves : goal.returns-in-Stats-clause-serves
returns-in-Stats-clause-serves g c = record {
  calls = [];
  holds = rw c.in-Stats.is (
    Call.Stats c.in-Stats.key,
    refl,
    (CacheStep.tells_reads c.in-Stats.key c.reads.result c.reads.ensures.sees, tt),
  );
  runs = refl;
}

pub returns-in-Clear-clause-serves : goal.returns-in-Clear-clause-serves
returns-in-Clear-clause-serves g c = record {
  calls = [];
  holds = rw c.in-Clear.is (rw c.clear.ensures.clears (Call.Clear, refl, (CacheStep.clears, tt)));
  runs = refl;
}

-- what is too much is evicted
pub returns-in-Capacity-clause-serves : goal.returns-in-Capacity-clause-serves
returns-in-Capacity-clause-serves g c =
    let set = c.set_capacity_with_lifecycle.ensures.sets in
    record {
      calls = set.calls;
      holds = rw c.in-Capacity.is (
        Call.SetCapacity c.in-Capacity.weight,
        refl,
        (CacheStep.sets_capacity c.in-Capacity.weight set.calls _ (set.holds.0 tt), tt),
      );
      runs = set.runs;
    }

pub returns-in-Hits-clause-serves : goal.returns-in-Hits-clause-serves
returns-in-Hits-clause-serves g c = record {
  calls = [];
  holds = rw c.in-Hits.is (rw c.count.ensures (Call.Counts, refl, (CacheStep.counts, tt)));
  runs = refl;
}
