use Rattle.std.proofs.Common.{rules}
use Rattle.quick_cache_listeners.proofs.Sums.{bytes_in-one}
use Rattle.quick_cache_listeners.proofs.bytes.numbers.U8HasBytes.byte_count_of_all.Goals as goal

pub returns : goal.returns
returns c = let sum = bytes_in-one c.args.items.now in search rules
