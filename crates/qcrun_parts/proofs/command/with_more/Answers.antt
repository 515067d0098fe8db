use Rattle.std.proofs.Common.{ℕ, List, [], ◌∷◌, None, Some, refl, sym, ap, subst, ◌∙◌, arith}
use Rattle.std.proofs.lemmas.Str.Pattern.{split_parts}
use Rattle.qcrun_parts.specs.Commands.{HasGhosts, HasMore, HasNumbers}
use Rattle.qcrun_parts.proofs.CommandLemmas.{IsOkExactly-as, IsOkExactly-err, AreNumbers-one, AreNumbers-of_one, HasMore-second}
use Rattle.qcrun_parts.proofs.CommandLemmas.{HasMore-not_two, HasMore-shares, HasMore-of_shares}
use Rattle.qcrun_parts.proofs.command.with_more.Goals as goal

-- one word more is no number
pub returns-in_err-number : goal.returns-in_err-number
returns-in_err-number c =
    let lacks = split_parts 32 c.args.words.now None c.in_default.ensures.cases (omega arith) in
    IsOkExactly-err (HasMore c.args.name.now c.args.first c.args.words.now)
    c.from_residual.result c.from_residual.ensures.0
    (λ command more.
    let one = AreNumbers-one _ lacks more.0 more.2 in c.in_err-number.ensures one.1.0)

-- it is one
pub returns-in_default : goal.returns-in_default
returns-in_default c =
    let lacks = split_parts 32 c.args.words.now None c.in_default.ensures.cases (omega arith) in
    let number = c.in_ok-number.ensures in
    let n = c.in_ok-number.field-0 in
    IsOkExactly-as c.with_numbers.result (HasNumbers c.args.name.now (c.args.first ∷ n ∷ []))
    (HasMore c.args.name.now c.args.first c.args.words.now)
    (λ command has.
    (n ∷ [], has, AreNumbers-of_one c.args.words.now n (number.0, sym number.1)))
    (λ command more.
    let one = AreNumbers-one _ lacks more.0 more.2 in
    let same = one.2 ∙ ap (λ (m : ℕ). m ∷ []) (sym (number.1 ∙ one.1.1)) in
    subst (λ (ns : List ℕ). HasNumbers c.args.name.now (c.args.first ∷ ns) command) same more.1)
    c.with_numbers.ensures

-- two words more are no command's
pub returns-in_default-split_once : goal.returns-in_default-split_once
returns-in_default-split_once c =
    let parts = split_parts 32 c.args.words.now
    (Some (c.in-Some.second, c.in-Some.shares)) c.in-Some.ensures.cases (omega arith) in
    let lacks = split_parts 32 c.in-Some.shares.now None c.in_default-split_once.ensures.cases
    (omega arith) in
    IsOkExactly-err (HasMore c.args.name.now c.args.first c.args.words.now) _ refl
    (HasMore-not_two _ _ _ _ _ parts.0 parts.1 lacks)

-- of three words more the first is no number
pub returns-in_err-number-2 : goal.returns-in_err-number-2
returns-in_err-number-2 c =
    let parts = split_parts 32 c.args.words.now
    (Some (c.in-Some.second, c.in-Some.shares)) c.in-Some.ensures.cases (omega arith) in
    IsOkExactly-err (HasMore c.args.name.now c.args.first c.args.words.now)
    c.from_residual-in_err-number-2.result c.from_residual-in_err-number-2.ensures.0
    (λ command more.
    let second = HasMore-second _ _ _ _ _ parts.0 parts.1 command more in
    c.in_err-number-2.ensures second.1.0)

-- or the second is none
pub returns-in_err-number-3 : goal.returns-in_err-number-3
returns-in_err-number-3 c =
    let parts = split_parts 32 c.args.words.now
    (Some (c.in-Some.second, c.in-Some.shares)) c.in-Some.ensures.cases (omega arith) in
    let shares = split_parts 32 c.in-Some.shares.now
    (Some (c.in-Some-split_once.hot, c.in-Some-split_once.ghosts))
    c.in-Some-split_once.ensures.cases (omega arith) in
    IsOkExactly-err (HasMore c.args.name.now c.args.first c.args.words.now)
    c.from_residual-in_err-number-3.result c.from_residual-in_err-number-3.ensures.0
    (λ command more.
    let three = HasMore-shares _ _ _ _ _ parts.0 parts.1 _ _ shares.0 shares.1 command more in
    c.in_err-number-3.ensures three.3.0)

-- both are numbers, and more stands behind them
pub returns : goal.returns
returns c =
    let parts = split_parts 32 c.args.words.now
    (Some (c.in-Some.second, c.in-Some.shares)) c.in-Some.ensures.cases (omega arith) in
    let shares = split_parts 32 c.in-Some.shares.now
    (Some (c.in-Some-split_once.hot, c.in-Some-split_once.ghosts))
    c.in-Some-split_once.ensures.cases (omega arith) in
    let second = c.in_ok-number-2.ensures in
    let third = c.in_ok-number-3.ensures in
    let a = c.in_ok-number-2.field-0 in
    let b = c.in_ok-number-3.field-0 in
    let ghosts = c.in-Some-split_once.ghosts.now in
    IsOkExactly-as c.with_ghosts.result
    (HasGhosts c.args.name.now c.args.first a b ghosts)
    (HasMore c.args.name.now c.args.first c.args.words.now)
    (HasMore-of_shares _ _ _ _ _ parts.0 parts.1 _ _ shares.0 shares.1 a b
    (second.0, sym second.1) (third.0, sym third.1))
    (λ command more.
    let two = HasMore-shares _ _ _ _ _ parts.0 parts.1 _ _ shares.0 shares.1 command more in
    subst (λ (n : ℕ). HasGhosts c.args.name.now c.args.first a n ghosts command)
    (sym (third.1 ∙ two.3.1))
    (subst (λ (n : ℕ). HasGhosts c.args.name.now c.args.first n two.1 ghosts command)
    (sym (second.1 ∙ two.2.1)) two.4))
    c.with_ghosts.ensures
