use Rattle.std.proofs.Common.{rules, ◌-◌, IsOk, is_ok, ap, arith}
use Rattle.quick_cache_containers.proofs.PairedLists.{are_shown, filled_up, places_of-filled}
use Rattle.quick_cache_containers.proofs.table.places.Places.fill_up.Goals as goal

pub overflow_sub-more : goal.overflow_sub-more
overflow_sub-more g c =
    let inside = c.self.inside in
    let at =
    are_shown inside.hashes.items inside.tokens.items c.args.self.now.items 0
    (ap (λ p. p.items) c.self.view_is) c.self.invariant in
    omega (arith, c.requires, at.many, c.self.invariant, inside.tokens.ok.0, c.len.ensures)

-- both lists were filled up with zeros
pub returns-clause-filled : goal.returns-clause-filled
returns-clause-filled g c =
    let inside = c.self.inside in
    let at =
    are_shown inside.hashes.items inside.tokens.items c.args.self.now.items 0
    (ap (λ p. p.items) c.self.view_is) c.self.invariant in
    let hashes_ok : IsOk c.resize.result = c.resize.ensures.succeeds (search rules) in
    let tokens_ok : IsOk c.resize-2.result = c.resize-2.ensures.succeeds (search rules) in
    let kept_hashes = c.reserve_exact.new.self in
    let kept_tokens = c.reserve_exact-else-is_err.new.self in
    let hashes =
    filled_up inside.hashes.items kept_hashes.items c.resize.new.self.items
    (is_ok c.resize.result) c.args.count (c.args.count - kept_hashes.len)
    c.reserve_exact.ensures.items (omega (arith, c.requires, at.many))
    (omega (arith, c.reserve_exact.ensures.len, inside.hashes.ok.0)) hashes_ok
    c.resize.ensures.items in
    let tokens =
    filled_up inside.tokens.items kept_tokens.items c.resize-2.new.self.items
    (is_ok c.resize-2.result) c.args.count (c.args.count - kept_tokens.len)
    c.reserve_exact-else-is_err.ensures.items
    (omega (arith, c.requires, at.many, c.self.invariant))
    (omega (arith, c.reserve_exact-else-is_err.ensures.len, inside.tokens.ok.0)) tokens_ok
    c.resize-2.ensures.items in
    places_of-filled inside.hashes.items inside.tokens.items c.resize.new.self.items
    c.resize-2.new.self.items c.args.self.now.items c.args.count c.self.invariant
    (ap (λ p. p.items) c.self.view_is) hashes tokens
