use Rattle.std.proofs.Common.{◌≡◌, ◌+◌, ◌*◌, ◌%◌, ◌^◌, take, fold}
use Rattle.test_parts.proofs.upper.UpperHalfHasher.write.Given as goal

-- the bytes so far were taken in
abbrev pub invariant-loop-b : goal.invariant-loop-b
invariant-loop-b l = l.self ≡ fold
    (λ h b. record {
      sum = (h.sum + b * h.place % 2 ^ 64) % 2 ^ 64;
      place = (h.place * 256) % 2 ^ 64;
    })
    l.initial.self (take l.b-index l.bytes)
