use Rattle.std.proofs.Common.{◌≡◌, true, ap, ◌∙◌, sym, subst}
use Rattle.quick_cache_history.specs.Histories.{is_of}
use Rattle.quick_cache_history.specs.Laws.{AddsBehind}
use Rattle.quick_cache_history.specs.Pasts.{Known}
use Rattle.quick_cache_history.proofs.PastLemmas.{AddsBehind-calls, AddsBehind-count, AddsBehind-shards, AddsBehind-first}
use Rattle.quick_cache_history.proofs.past.Past.add.Goals as goal

-- one more call is counted
pub invariant_of-self : goal.invariant_of-self
invariant_of-self g c =
    let past = c.self.inside in
    let entry = c.args.entry.ask in
    let turn = c.args.seat.now.turn in
    let new = c.add.new.self.seen in
    let behind : AddsBehind past.shard past.calls turn entry past.seen.log new =
    subst (λ n. AddsBehind n past.calls turn entry past.seen.log new)
    (c.requires.number ∙ ap (λ known. known.shard) (sym c.self.view_is)) c.add.ensures.behind in
    let own : is_of past.shard entry ≡ true =
    subst (λ (known : Known _ _). is_of known.shard entry ≡ true) (sym c.self.view_is)
    c.requires.own in
    rw (c.again.ensures, ap (λ seat. seat.seen) c.seat.view_is) (
      AddsBehind-count past.shard past.calls past.seen.log c.self.invariant.0 c.self.invariant.1
          turn entry own new behind,
      AddsBehind-shards past.shard past.calls past.seen.log c.self.invariant.0 c.self.invariant.1
          turn entry own new behind,
      c.seat.invariant.0,
      c.seat.invariant.1,
    )

-- with no other call of the shard since
pub returns-clause-one_more : goal.returns-clause-one_more
returns-clause-one_more g c =
    let past = c.self.inside in
    let entry = c.args.entry.ask in
    let turn = c.args.seat.now.turn in
    let new = c.add.new.self.seen in
    let behind : AddsBehind past.shard past.calls turn entry past.seen.log new =
    subst (λ n. AddsBehind n past.calls turn entry past.seen.log new)
    (c.requires.number ∙ ap (λ known. known.shard) (sym c.self.view_is)) c.add.ensures.behind in
    let own : is_of past.shard entry ≡ true =
    subst (λ (known : Known _ _). is_of known.shard entry ≡ true) (sym c.self.view_is)
    c.requires.own in
    rw (← c.self.view_is)
    (AddsBehind-calls past.shard past.calls past.seen.log c.self.invariant.0 c.self.invariant.1
    turn entry own new behind)

pub returns-clause-first : goal.returns-clause-first
returns-clause-first g c =
    let past = c.self.inside in
    let entry = c.args.entry.ask in
    let turn = c.args.seat.now.turn in
    let new = c.add.new.self.seen in
    let behind : AddsBehind past.shard past.calls turn entry past.seen.log new =
    subst (λ n. AddsBehind n past.calls turn entry past.seen.log new)
    (c.requires.number ∙ ap (λ known. known.shard) (sym c.self.view_is)) c.add.ensures.behind in
    let own : is_of past.shard entry ≡ true =
    subst (λ (known : Known _ _). is_of known.shard entry ≡ true) (sym c.self.view_is)
    c.requires.own in
    rw (← c.self.view_is)
    (AddsBehind-first past.shard past.calls past.seen.log c.self.invariant.0 c.self.invariant.1
    turn entry own new behind)
