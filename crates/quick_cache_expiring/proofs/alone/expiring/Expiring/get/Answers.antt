use Rattle.std.proofs.Common.{◌≡◌, None, Some, ap, refl, subst, sym, ◌∙◌}
use Rattle.std.specs.Int.NonZero.{non_zero_u32_get as number}
use Rattle.quick_cache_shard.specs.WalksFrom.{number_or_zero}
use Rattle.quick_cache_shard.proofs.TokenValueLemmas.{one-value}
use Rattle.quick_cache_expiring.specs.Entries.{Entries, Gets}
use Rattle.quick_cache_expiring.specs.declared.lasting.Lasting.{Lasting}
use Rattle.quick_cache_expiring.proofs.alone.expiring.Expiring.get.Goals as goal

-- none serves
pub returns-in_err-token : goal.returns-in_err-token
returns-in_err-token g c = (
  (refl, (λ entries. tt), rw (c.from_residual.ensures) c.in_err-token.ensures.finds),
  record { gets = tt },
)

-- an entry that serves has its token
pub returns-in_err-lasting : goal.returns-in_err-lasting
returns-in_err-lasting g c =
    let finds = rw (← c.self.view_is) at c.in_ok-token.ensures.finds in
    let of = one-value g.K.PartialEq.eq g.met.K.Eq.laws.refl c.shard.result.now
    c.peek_token.ensures.sound (number c.in_ok-token.token) (λ x. x.now) c.peek_token.result
    c.peek_token.ensures.shown c.self.inside.cache (number c.in_ok-token.token)
    (sym c.shard.ensures) refl finds.0 finds.2 in
    let never : None ≡ Some of.0 = sym c.in_err-lasting.was ∙ of.1 in absurd cc

-- by which it is shown
pub returns : goal.returns
returns g c =
    let finds = rw (← c.self.view_is) at c.in_ok-token.ensures.finds in
    let of = one-value g.K.PartialEq.eq g.met.K.Eq.laws.refl c.shard.result.now
    c.peek_token.ensures.sound (number c.in_ok-token.token) (λ x. x.now) c.peek_token.result
    c.peek_token.ensures.shown c.self.inside.cache (number c.in_ok-token.token)
    (sym c.shard.ensures) refl finds.0 finds.2 in
    let one : Some c.in_ok-lasting.lasting ≡ Some of.0 = sym c.in_ok-lasting.was ∙ of.1 in
    let same : c.in_ok-lasting.lasting ≡ of.0 = cc in
    let entries : Entries g.row.K.Denot g.row.V.Denot g.row.We.Denot g.row.B.Denot g.row.L.Denot =
    record {
      cache = c.self.inside.cache;
      expired = c.self.inside.expired;
      refused = c.self.inside.refused;
      from = number_or_zero c.self.inside.from;
    } in
    let is : finds.0 ≡ c.in_ok-lasting.lasting.now = sym (ap (λ x. x.now) same ∙ of.2) in (
      (
        refl,
        (λ entries. tt),
        subst (λ (l : Lasting g.row.V.Denot). Gets (g.Q.Equivalent.equivalent c.args.query.now)
            c.args.now c.args.self.now (Some l.value) entries) is finds.1,
      ),
      record { gets = tt },
    )
