use Rattle.std.proofs.Common.{ap, ◌∙◌, refl}
use Rattle.quick_cache_model.specs.CacheState.{Item}
use Rattle.quick_cache_model.specs.Lookups.{looked_up}
use Rattle.quick_cache_policy.specs.declared.contents.Contents.{Contents}
use Rattle.quick_cache_policy.specs.Contents.{state_of, work_of}
use Rattle.quick_cache_shard.specs.Shard.{Shard}
use Rattle.quick_cache_shard.proofs.ShownLemmas.{IsItemOf-one, LooksUp-shown}
use Rattle.quick_cache_shard.proofs.shard.CacheShard.get.Goals as goal

pub invariant_of-self : goal.invariant_of-self
invariant_of-self g c = c.look_up.ensures.sound _ c.self.invariant

pub invariant_of-self-2 : goal.invariant_of-self-2
invariant_of-self-2 g c = c.in_ok-token.ensures.sound _ c.self.invariant

-- the item that is shown is the one that was looked up
pub returns : goal.returns
returns g c =
    let looks = c.in_ok-token.ensures.looks_up in
    let shown = IsItemOf-one c.look_up.new.self.lists c.facts.ensures.apart _
    (looked_up c.self.inside.contents.mark_cut looks.item) c.item.result looks.now c.item.ensures in
    let value = c.value.ensures ∙ ap (λ (item : Item g.row.K.Denot g.row.V.Denot). item.value) shown
    in
    let work = ap (λ (now : Contents g.row.K.Denot g.row.V.Denot g.row.P.Denot g.row.A.Denot
    g.row.P-Touch.Denot g.row.P-Kept.Denot). work_of now) c.look_up.ensures.same in (
      (
        refl,
        (λ shard. tt),
        (
          rw (← c.self.view_is)
              (LooksUp-shown (g.Q.Equivalent.equivalent c.args.query.now)
              (state_of g.P.SharedPlaceholder.ticket_of c.self.inside.contents)
              (state_of g.P.SharedPlaceholder.ticket_of c.look_up.new.self) (λ item. item.value)
              looks.item.value c.value.result.now value looks.value),
          (λ i. record {
            state = state_of g.P.SharedPlaceholder.ticket_of c.look_up.new.self;
            places = c.look_up.ensures.places i;
            weigher = c.self.inside.terms.weigher;
            builder = c.self.inside.terms.builder;
            lifecycle = c.self.inside.terms.lifecycle;
            room = c.look_up.ensures.room i;
            work = work i;
          }) ∙ ap (λ (old : Shard g.row.K.Denot g.row.V.Denot g.row.We.Denot g.row.B.Denot
              g.row.L.Denot). record old {
                state = state_of g.P.SharedPlaceholder.ticket_of c.look_up.new.self;
              }) c.self.view_is,
        ),
      ),
      record { looks_up = tt },
    )
