use Rattle.std.proofs.Common.{◌∙◌, sym}
use Rattle.std.specs.Int.NonZero.{non_zero_u32_get as number}
use Rattle.std.proofs.lemmas.Bool.{eq-eqb}
use Rattle.promises.proofs.TurnLemmas.{next-token, not-at_end, number-before}
use Rattle.promises.proofs.behind_a_lock.walks.meet_in_turn.Goals as goal

-- the item of the token is the next
pub returns-in-Some-next : goal.returns-in-Some-next
returns-in-Some-next g c =
    let under = c.in-Some.ensures.token in
    let shown = c.in-Some-next.ensures.steps in
    let before = number-before c.get.result c.get.ensures.nonzero c.new-before.result
    c.new-before.ensures in
    let same = next-token c.shard-shard.result.now.places _ _ c.iter_from.result
    c.iter_from.ensures.begins (number c.in-Some.token, under.item.key) under.stands.place
    (before ∙ c.get.ensures.value) (number c.in-Some-next.met, shown.item.key) shown.next in
    eq-eqb c.get-in-Some-next.result c.get-in-Some-next-2.result
    (c.get-in-Some-next.ensures.value ∙ same ∙ sym c.get-in-Some-next-2.ensures.value)

-- it is not the end
pub returns-in-None : goal.returns-in-None
returns-in-None g c =
    let under = c.in-Some.ensures.token in
    let before = number-before c.get.result c.get.ensures.nonzero c.new-before.result
    c.new-before.ensures in
    absurd (not-at_end c.shard-shard.result.now.places _ _ c.iter_from.result
    c.iter_from.ensures.begins (number c.in-Some.token, under.item.key) under.stands.place
    (before ∙ c.get.ensures.value) c.in-None.ensures.steps.0)
