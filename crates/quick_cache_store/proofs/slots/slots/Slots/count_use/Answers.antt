use Rattle.std.specs.Int.NonZero.{non_zero_u32_get as number}
use Rattle.quick_cache_store.specs.Items.{read_once, with_mark}
use Rattle.quick_cache_store.proofs.slots.WrittenLemmas.{HasItem-written, Writes-twice}
use Rattle.quick_cache_store.proofs.slots.slots.Slots.count_use.Goals as goal

pub set_mark-requires : goal.set_mark-requires
set_mark-requires g c = HasItem-written c.args.self.now c.count_read.new.self (number c.args.token)
    read_once c.requires c.count_read.ensures

pub returns : goal.returns
returns g c = Writes-twice c.args.self.now c.count_read.new.self (number c.args.token) read_once
    c.requires c.count_read.ensures c.set_mark.new.self (with_mark c.args.mark) c.set_mark.ensures
