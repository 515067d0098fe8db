use Rattle.std.proofs.Common.{◌≡◌, vec_len}
use Rattle.test_read_through.proofs.loader.hundreds.all_hundreds.Given as goal

-- there is a value for each key so far
abbrev pub invariant-loop-key : goal.invariant-loop-key
invariant-loop-key l = vec_len l.values ≡ l.key-index
