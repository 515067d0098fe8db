use Rattle.std.proofs.Common.{◌≡◌, of_calls, sym, subst, ap, arith, length, List, [], ℕ, Some, None, refl}
use Rattle.quick_cache_containers.specs.Table.{Table, IsTokensOf, SearchesAlong}
use Rattle.std.specs.Vec.{vec_len}
use Rattle.std.proofs.lemmas.Bool.{eqb-true}
use Rattle.quick_cache_containers.proofs.ShownPairs.{IsTokensOf-none}
use Rattle.quick_cache_containers.proofs.SearchAlongTokens.{SearchesAlong-on, SearchesAlong-ends, FindsPassing-from_search}
use Rattle.quick_cache_containers.proofs.SearchAlongTokens.{FindsByAnswer-from_search, HasPair-from_search}
use Rattle.quick_cache_containers.proofs.table.Table.find.Given as given
use Rattle.quick_cache_containers.proofs.table.Table.find.Goals as goal

-- the search went on past a token
pub loop-token-preserved : goal.loop-token-preserved
loop-token-preserved g c = record {
  callable = search of_calls;
  onward = λ result later.
      c.loop-token.invariant.onward result
      (SearchesAlong-on (given.F-step g) c.loop-token.is_it c.is_it.new.self c.in-Some.token
      c.is_it.result c.loop-token.token-iterator c.next.new.self result c.in-Some.ensures.steps
      c.is_it.ensures c.if-is_it.false later);
}

-- the search ended at this token
pub returns-then-is_it-clause-searches : goal.returns-then-is_it-clause-searches
returns-then-is_it-clause-searches g c =
    let ended =
    SearchesAlong-ends (given.F-step g) c.loop-token.is_it c.is_it.new.self c.in-Some.token
    c.is_it.result c.loop-token.token-iterator c.next.new.self c.in-Some.ensures.steps
    c.is_it.ensures c.if-is_it.true in
    let all = c.loop-token.invariant.onward (Some c.in-Some.token) ended in
    let P : List ℕ → Type 0 = λ tokens. IsTokensOf c.args.self.now c.args.hash tokens in (
      c.into_iter-token-iterator.result,
      subst P
          (sym c.into_iter-token-iterator.ensures.into_iter_gives) c.iter_hash-token-items.ensures,
      all,
    )

pub returns-then-is_it-clause-found : goal.returns-then-is_it-clause-found
returns-then-is_it-clause-found g c =
    HasPair-from_search (given.F-step g) c.args.self.now c.args.hash c.args.is_it c.in-Some.token
    (returns-then-is_it-clause-searches g c)

pub returns-then-is_it-clause-decides : goal.returns-then-is_it-clause-decides
returns-then-is_it-clause-decides g c = λ passes tests.
    FindsPassing-from_search (given.F-step g) c.args.self.now c.args.hash c.args.is_it passes
    (Some c.in-Some.token) tests (returns-then-is_it-clause-searches g c)

-- the search met all the tokens
pub returns-clause-searches : goal.returns-clause-searches
returns-clause-searches g c =
    let P : List ℕ → Type 0 = λ tokens. IsTokensOf c.args.self.now c.args.hash tokens in
    let Q : List ℕ → Type 0 =
    λ tokens. SearchesAlong (given.F-step g) c.loop-token.is_it tokens None in
    let all = c.loop-token.invariant.onward None (subst Q (sym c.in-None.ensures.steps.0) refl) in (
      c.into_iter-token-iterator.result,
      subst P
          (sym c.into_iter-token-iterator.ensures.into_iter_gives) c.iter_hash-token-items.ensures,
      all,
    )

pub returns-clause-decides : goal.returns-clause-decides
returns-clause-decides g c = λ passes tests.
    FindsPassing-from_search (given.F-step g) c.args.self.now c.args.hash c.args.is_it passes None
    tests (returns-clause-searches g c)

-- a table without a group has nothing to show
pub returns-then-is_empty-clause-searches : goal.returns-then-is_empty-clause-searches
returns-then-is_empty-clause-searches g c =
    let shows = sym (ap (λ (t : Table). t.pairs) c.self.view_is) in
    let empty = eqb-true (vec_len c.self.inside.reaches) 0 (sym c.if-is_empty.ensures) in
    let none : length c.self.inside.reaches.items ≡ 0 = omega (arith, empty) in (
      [],
      IsTokensOf-none c.args.self.now c.self.inside.tags.items c.self.inside.places.items
          c.self.inside.reaches.items c.self.inside.mask c.args.hash shows c.self.invariant.whole
          none,
      refl,
    )

pub returns-then-is_empty-clause-decides : goal.returns-then-is_empty-clause-decides
returns-then-is_empty-clause-decides g c = λ passes tests.
    FindsPassing-from_search (given.F-step g) c.args.self.now c.args.hash c.args.is_it passes None
    tests (returns-then-is_empty-clause-searches g c)

pub returns-then-is_it-clause-answers : goal.returns-then-is_it-clause-answers
returns-then-is_it-clause-answers g c = λ keeps.
    FindsByAnswer-from_search (given.F-step g) c.args.self.now c.args.hash c.args.is_it
    (Some c.in-Some.token) keeps (returns-then-is_it-clause-searches g c)

pub returns-clause-answers : goal.returns-clause-answers
returns-clause-answers g c = λ keeps.
    FindsByAnswer-from_search (given.F-step g) c.args.self.now c.args.hash c.args.is_it None
    keeps (returns-clause-searches g c)

pub returns-then-is_empty-clause-answers : goal.returns-then-is_empty-clause-answers
returns-then-is_empty-clause-answers g c = λ keeps.
    FindsByAnswer-from_search (given.F-step g) c.args.self.now c.args.hash c.args.is_it None
    keeps (returns-then-is_empty-clause-searches g c)
