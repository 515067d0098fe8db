use Rattle.std.proofs.Common.{rules, IsPermutation, subst}
use Rattle.std.proofs.lemmas.List.Sorted.{IsNonDecreasingBy-from_sort_by_key}
use Rattle.qcrun_parts.proofs.numbers.still.still.Goals as goal

-- the pairs that were found are put in order
pub returns : goal.returns
returns g c = record {
  are_still = record {
    items = c.iter.result;
    all = rw c.shard.ensures at c.iter.ensures;
    weightless = subst
        (λ found. IsPermutation found c.sort_unstable_by_key.new.self.items)
        c.in_ok-still.ensures.filters c.sort_unstable_by_key.ensures.permutation;
    by_key = IsNonDecreasingBy-from_sort_by_key (λ pair. pair.0) _
        c.sort_unstable_by_key.ensures.sorted (λ a r q k. search rules);
  };
}
