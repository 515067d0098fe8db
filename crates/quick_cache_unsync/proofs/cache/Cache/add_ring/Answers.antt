use Rattle.std.proofs.Common.{◌++◌, map}
use Rattle.quick_cache_shard.specs.Shard.{shown}
use Rattle.quick_cache_unsync.specs.Hottest.{pairs_shown, ring_of, with_mark}
use Rattle.quick_cache_unsync.proofs.ManyLemmas.{adds-more}
use Rattle.quick_cache_unsync.proofs.cache.Cache.add_ring.Goals as goal

-- what four steps added
pub returns-clause-adds : goal.returns-clause-adds
returns-clause-adds g c =
    let n = c.args.count in
    let ring = map shown (ring_of c.args.self.now.state c.args.queue) in
    let old = pairs_shown c.args.list.now.items in
    let a = with_mark 3 ring in
    let b = with_mark 2 ring in
    let d = with_mark 1 ring in
    let second = pairs_shown c.add_marked-2.new.list.items in
    let third = pairs_shown c.add_marked-3.new.list.items in
    adds-more n old (a ++ b ++ d) (with_mark 0 ring) third _
    (adds-more n old (a ++ b) d second third
    (adds-more n old a b _ second (rw c.ring.ensures at c.in_ok-add_marked.ensures.adds)
    (rw c.ring-2.ensures at c.in_ok-add_marked-2.ensures.adds))
    (rw c.ring-3.ensures at c.in_ok-add_marked-3.ensures.adds))
    (rw c.ring-4.ensures at c.in_ok-add_marked-4.ensures.adds)
