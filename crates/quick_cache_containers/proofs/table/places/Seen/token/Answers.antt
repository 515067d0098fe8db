use Rattle.std.proofs.Common.{arith}
use Rattle.quick_cache_containers.proofs.PairedLists.{are_shown}
use Rattle.quick_cache_containers.proofs.table.places.Seen.token.Goals as goal

pub offset_bounds-tokens-position : goal.offset_bounds-tokens-position
offset_bounds-tokens-position c =
    let at =
    are_shown c.self.inside.hashes.now c.self.inside.tokens.now c.args.self.now c.args.position
    c.self.view_is c.self.invariant.0 in
    omega (arith, c.requires, at.many, c.self.invariant.0, c.self.invariant.1)

pub bounds-tokens-position : goal.bounds-tokens-position
bounds-tokens-position c =
    let at =
    are_shown c.self.inside.hashes.now c.self.inside.tokens.now c.args.self.now c.args.position
    c.self.view_is c.self.invariant.0 in
    omega (arith, c.requires, at.many, c.self.invariant.0)

pub returns : goal.returns
returns c =
    (are_shown c.self.inside.hashes.now c.self.inside.tokens.now c.args.self.now c.args.position
    c.self.view_is c.self.invariant.0).token
