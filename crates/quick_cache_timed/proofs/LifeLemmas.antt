-- How much a jitter leaves of a life.
use Rattle.std.proofs.Common.{◌≡◌, ◌≤◌, ℕ, ◌+◌, ◌-◌, ◌*◌, ◌/◌, ◌%◌, arith}
use Rattle.std.proofs.Math.Nat.{div-mul-le_self, mod-lt, mul-le-mul_left, mul-sub, sub-le-sub_left}
use Rattle.quick_cache_timed.specs.Lives.{shortened}
use Rattle.quick_cache_timed.specs.declared.life.Life.{Life}

-- at least all but the parts per million of the jitter
pub shortened-least : (life : Life) (hash : ℕ)
    → life.millis * (1_000_000 - life.jitter) ≤ shortened life hash * 1_000_000
shortened-least life hash =
    let parts : ℕ = hash % (life.jitter + 1) in
    let few : parts ≤ life.jitter = omega (arith, mod-lt hash {m = life.jitter + 1} (omega arith)) in
    omega (
      arith,
      div-mul-le_self (life.millis * parts) 1_000_000,
      mul-le-mul_left life.millis (sub-le-sub_left few 1_000_000),
      mul-sub life.millis 1_000_000 parts,
    )
