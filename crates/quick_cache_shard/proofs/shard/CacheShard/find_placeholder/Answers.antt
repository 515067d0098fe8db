use Rattle.std.proofs.Common.{ap, ◌∙◌}
use Rattle.std.specs.Int.NonZero.{non_zero_u32_get as number}
use Rattle.quick_cache_policy.proofs.FindLemmas.{none-found}
use Rattle.quick_cache_shard.proofs.WantedLemmas.{found-wanted, none-wanted}
use Rattle.quick_cache_shard.proofs.shard.CacheShard.find_placeholder.Goals as goal

-- none is meant
pub returns-in_default : goal.returns-in_default
returns-in_default g c = record {
  finds = λ wanted by_ticket. rw (← c.self.view_is) (none-wanted g.P.SharedPlaceholder.ticket_of _
      wanted by_ticket c.self.inside.contents.lists
      (none-found _ _ c.in_default.not-Some c.find_placeholder.ensures));
}

pub awaited-awaited-requires : goal.awaited-awaited-requires
awaited-awaited-requires g c =
    let found = c.in-Some.ensures in (found.waiting, found.stands, found.named)

-- one is meant
pub returns : goal.returns
returns g c = record {
  finds = λ wanted by_ticket. ap (λ kept. wanted (g.P.SharedPlaceholder.ticket_of kept))
      c.placeholder.ensures
      ∙ found-wanted g.P.SharedPlaceholder.ticket_of _ wanted by_ticket _ c.facts.ensures.apart
      (number c.in-Some.token) c.in-Some.ensures _ c.awaited-awaited.ensures;
}
