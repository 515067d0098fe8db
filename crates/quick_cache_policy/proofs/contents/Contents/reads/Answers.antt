use Rattle.std.proofs.Common.{rules, arith}
use Rattle.quick_cache_policy.proofs.contents.Contents.reads.Goals as goal

-- what readers counted since comes to the reads
pub returns : goal.returns
returns g c =
    record {
      item = c.in_ok-item.item;
      there = c.in_ok-item.ensures;
      within = search rules;
      shows = (
        c.seen.result,
        c.seen.ensures,
        omega (arith, c.saturating_add.ensures, c.reads.ensures),
      );
    }
