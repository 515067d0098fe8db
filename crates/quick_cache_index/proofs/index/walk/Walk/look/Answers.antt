use Rattle.std.proofs.Common.{ℕ, List, ◌∷◌, arith, ap, sym, ◌∙◌}
use Rattle.quick_cache_index.specs.declared.index.walk.Walk.{Walk}
use Rattle.quick_cache_index.specs.IndexGroups.{candidates_left}
use Rattle.quick_cache_index.proofs.WalkedTokens.{looks_at_lane, behind_lane}
use Rattle.quick_cache_index.proofs.index.walk.Walk.look.Goals as goal

pub bounds-tokens-position : goal.bounds-tokens-position
bounds-tokens-position c = (looks_at_lane c.args.self.now c.requires (omega arith)).inside

pub new_unchecked-requires : goal.new_unchecked-requires
new_unchecked-requires c = (looks_at_lane c.args.self.now c.requires (omega arith)).taken

-- the token of the lowest lane is the first of what is left
pub returns : goal.returns
returns c =
    let walk : Walk = c.args.self.now in
    let looks = looks_at_lane walk c.requires (omega arith) in
    let rest : List ℕ = candidates_left (behind_lane walk) in
    (rest, looks.candidate ∙ ap (λ (t : ℕ). t ∷ rest) (sym c.new_unchecked.ensures))
