-- The work of a write, by what its eviction pays for.
use Rattle.std.proofs.Common.{ℕ, ◌+◌, ◌*◌, ◌≤◌, arith}
use Rattle.std.proofs.Math.Nat.{mul-le-mul_left}
use Rattle.std.proofs.lemmas.Nat.{mul-le}
use Rattle.quick_cache_policy.specs.Work.{Work, PaysFor, WorksWithin}

-- from at most n items, one advance is not paid for
pub PaysFor-within : (cut n old_hot old_cold new_hot new_cold : ℕ) (old new : Work)
    → old_hot + old_cold ≤ n → PaysFor cut 1 old_hot old_cold new_hot new_cold old new
    → WorksWithin cut n old new
PaysFor-within cut n old_hot old_cold new_hot new_cold old new few pays =
    let advances : pays.advances ≤ 2 * n + 1 = omega (arith, pays.paid, few) in
    let most : (cut + 1) * (old_hot + old_cold) ≤ (cut + 1) * n = mul-le-mul_left (cut + 1) few in
    record {
      advances = pays.advances;
      visits = pays.visits;
      does = pays.does;
      few_advances = advances;
      few_visits = omega (
        arith,
        pays.visited,
        mul-le ((cut + 1) * (old_hot + old_cold)) pays.advances ((cut + 1) * n) (2 * n + 1) most
            advances,
      );
    }
