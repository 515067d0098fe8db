-- How much work was done: the counts of advances and of visits, one step after another.
use Rattle.std.proofs.Common.{◌≡◌, ℕ, ◌+◌, ◌*◌, ◌^◌, ◌<◌, ◌≤◌, arith, ap, subst}
use Rattle.std.proofs.Math.Nat.{mul-le-mul_left, mul-le-mul_right}
use Rattle.quick_cache_policy.specs.Work.{Work, DoesMore, PaysFor}

-- nothing more was done
pub DoesMore-none : (work : Work) → work.advances < 2 ^ 64
    → work.visits < 2 ^ 64 → DoesMore 0 0 work work
DoesMore-none work few less = record {
  advances_are = omega (arith, few);
  visits_are = omega (arith, less);
}

-- so much more, and then so much
pub DoesMore-then : (advances visits more still : ℕ) (old mid new : Work)
    → DoesMore advances visits old mid → DoesMore more still mid new
    → DoesMore (advances + more) (visits + still) old new
DoesMore-then advances visits more still old mid new first second = record {
  advances_are = omega (arith, first.advances_are, second.advances_are);
  visits_are = omega (arith, first.visits_are, second.visits_are);
}

-- nothing is to be paid for
pub PaysFor-none : (cut hot cold : ℕ) (work : Work) → work.advances < 2 ^ 64
    → work.visits < 2 ^ 64 → PaysFor cut 0 hot cold hot cold work work
PaysFor-none cut hot cold work few less = record {
  advances = 0;
  visits = 0;
  does = DoesMore-none work few less;
  members = omega arith;
  paid = omega arith;
  visited = omega arith;
}

-- each of two steps is paid for, so both are
pub PaysFor-then : (cut cut1 extra more hot cold hot1 cold1 hot2 cold2 : ℕ) (old mid new : Work)
    → cut1 ≡ cut → PaysFor cut extra hot cold hot1 cold1 old mid
    → PaysFor cut1 more hot1 cold1 hot2 cold2 mid new
    → PaysFor cut (extra + more) hot cold hot2 cold2 old new
PaysFor-then cut cut1 extra more hot cold hot1 cold1 hot2 cold2 old mid new same first then =
    let second = subst (λ c. PaysFor c more hot1 cold1 hot2 cold2 mid new) same then in
    let fewer : (cut + 1) * (hot1 + cold1) ≤ (cut + 1) * (hot + cold) =
    mul-le-mul_left (cut + 1) first.members in
    let each : (cut + 1) * (hot1 + cold1) * second.advances
    ≤ (cut + 1) * (hot + cold) * second.advances = mul-le-mul_right second.advances fewer in
    let both : (cut + 1) * (hot + cold) * (first.advances + second.advances)
    ≡ (cut + 1) * (hot + cold) * first.advances + (cut + 1) * (hot + cold) * second.advances =
    omega arith in
    record {
      advances = first.advances + second.advances;
      visits = first.visits + second.visits;
      does = DoesMore-then first.advances first.visits second.advances second.visits old mid new
          first.does second.does;
      members = omega (arith, first.members, second.members);
      paid = omega (arith, first.paid, second.paid);
      visited = omega (arith, each, both, first.visited, second.visited);
    }

-- a cold item that left is no work
pub PaysFor-evicted : (cut hot cold hot1 cold1 : ℕ) (old new : Work) → hot1 ≡ hot → cold1 + 1 ≡ cold
    → new ≡ old → old.advances < 2 ^ 64 → old.visits < 2 ^ 64
    → PaysFor cut 0 hot cold hot1 cold1 old new
PaysFor-evicted cut hot cold hot1 cold1 old new same fewer work few less = record {
  advances = 0;
  visits = 0;
  does = record {
    advances_are = omega (arith, few, ap (λ (w : Work). w.advances) work);
    visits_are = omega (arith, less, ap (λ (w : Work). w.visits) work);
  };
  members = omega (arith, same, fewer);
  paid = omega (arith, same, fewer);
  visited = omega arith;
}
