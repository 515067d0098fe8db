use Rattle.std.specs.Int.NonZero.{non_zero_u32_get as number}
use Rattle.quick_cache_store.specs.Views.{items_of}
use Rattle.quick_cache_policy.proofs.FindLemmas.{IsItemAt-stands}
use Rattle.quick_cache_policy.proofs.contents.Contents.peek_from.Goals as goal

-- the item of the token has a key that the query stands for
pub returns-in-Some : goal.returns-in-Some
returns-in-Some g c =
    let stands_for = g.Q.Equivalent.equivalent c.args.query.now in
    let is = c.in-Some.ensures.0 in
    let has = is.1 in
    record {
      place = has.place;
      before = items_of has.stands.before;
      after = items_of has.stands.after;
      at = IsItemAt-stands g.P.SharedPlaceholder.ticket_of stands_for c.args.hash c.args.self.now
          has.place has.stands.before
          (record { token = number c.args.token; hash = is.0; item = c.in-Some.item })
          has.stands.after has.stands.split c.in-Some.ensures.1;
    }
