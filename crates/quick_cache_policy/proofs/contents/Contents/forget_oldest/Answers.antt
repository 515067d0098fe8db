use Rattle.std.proofs.Common.{◌≡◌, ℕ, ◌-◌, drop, length, ap, ◌∙◌, arith}
use Rattle.quick_cache_store.specs.Views.{hashes_of}
use Rattle.quick_cache_policy.proofs.contents.Contents.forget_oldest.Goals as goal

-- it is one above the limit
pub returns-clause-ghosts : goal.returns-clause-ghosts
returns-clause-ghosts g c =
    let ghosts = c.args.self.now.lists.ghosts in
    let one : 1 ≡ length ghosts - c.args.self.now.ghost_limit =
    omega (arith, c.requires.one, c.if-ghost_count-self.false, c.ghost_count.ensures) in
    c.forget_ghost.ensures.ghosts ∙ ap (λ (n : ℕ). drop n (hashes_of ghosts)) one
