use Rattle.std.proofs.Common.{ℕ, List, [], ◌∷◌, None, Some, sym, ap, subst, ◌∙◌, arith}
use Rattle.std.proofs.lemmas.Str.Pattern.{split_parts}
use Rattle.qcrun_parts.specs.Commands.{HasGhosts, HasNumbers}
use Rattle.qcrun_parts.proofs.CommandLemmas.{IsOkExactly-as, IsOkExactly-err, AreNumbers-one, AreNumbers-of_one, HasGhosts-mark}
use Rattle.qcrun_parts.proofs.CommandLemmas.{HasGhosts-of_mark}
use Rattle.qcrun_parts.proofs.command.with_ghosts.Goals as goal

-- one word more is no number
pub returns-in_err-number : goal.returns-in_err-number
returns-in_err-number c =
    let lacks = split_parts 32 c.args.words.now None c.in_default.ensures.cases (omega arith) in
    IsOkExactly-err
    (HasGhosts c.args.name.now c.args.items c.args.weight c.args.hot c.args.words.now)
    c.from_residual.result c.from_residual.ensures.0
    (λ command more.
    let one = AreNumbers-one _ lacks more.0 more.2 in c.in_err-number.ensures one.1.0)

-- it is one
pub returns-in_default : goal.returns-in_default
returns-in_default c =
    let lacks = split_parts 32 c.args.words.now None c.in_default.ensures.cases (omega arith) in
    let number = c.in_ok-number.ensures in
    let n = c.in_ok-number.field-0 in
    let front = c.args.items ∷ c.args.weight ∷ c.args.hot ∷ n ∷ [] in
    IsOkExactly-as c.with_shares.result (HasNumbers c.args.name.now front)
    (HasGhosts c.args.name.now c.args.items c.args.weight c.args.hot c.args.words.now)
    (λ command has.
    (n ∷ [], has, AreNumbers-of_one c.args.words.now n (number.0, sym number.1)))
    (λ command more.
    let one = AreNumbers-one _ lacks more.0 more.2 in
    let same = one.2 ∙ ap (λ (m : ℕ). m ∷ []) (sym (number.1 ∙ one.1.1)) in
    subst (λ (ns : List ℕ). HasNumbers c.args.name.now
    (c.args.items ∷ c.args.weight ∷ c.args.hot ∷ ns) command) same more.1)
    c.with_shares.ensures

-- of two words more the first is no number
pub returns-in_err-number-2 : goal.returns-in_err-number-2
returns-in_err-number-2 c =
    let parts = split_parts 32 c.args.words.now
    (Some (c.in-Some.ghosts, c.in-Some.mark)) c.in-Some.ensures.cases (omega arith) in
    IsOkExactly-err
    (HasGhosts c.args.name.now c.args.items c.args.weight c.args.hot c.args.words.now)
    c.from_residual-in_err-number-2.result c.from_residual-in_err-number-2.ensures.0
    (λ command more.
    let two = HasGhosts-mark _ _ _ _ _ _ _ parts.0 parts.1 command more in
    c.in_err-number-2.ensures two.2.0)

-- or the second is none
pub returns-in_err-number-3 : goal.returns-in_err-number-3
returns-in_err-number-3 c =
    let parts = split_parts 32 c.args.words.now
    (Some (c.in-Some.ghosts, c.in-Some.mark)) c.in-Some.ensures.cases (omega arith) in
    IsOkExactly-err
    (HasGhosts c.args.name.now c.args.items c.args.weight c.args.hot c.args.words.now)
    c.from_residual-in_err-number-3.result c.from_residual-in_err-number-3.ensures.0
    (λ command more.
    let two = HasGhosts-mark _ _ _ _ _ _ _ parts.0 parts.1 command more in
    c.in_err-number-3.ensures two.3.0)

-- both are numbers
pub returns : goal.returns
returns c =
    let parts = split_parts 32 c.args.words.now
    (Some (c.in-Some.ghosts, c.in-Some.mark)) c.in-Some.ensures.cases (omega arith) in
    let first = c.in_ok-number-2.ensures in
    let second = c.in_ok-number-3.ensures in
    let a = c.in_ok-number-2.field-0 in
    let b = c.in_ok-number-3.field-0 in
    let front = c.args.items ∷ c.args.weight ∷ c.args.hot ∷ a ∷ b ∷ [] in
    IsOkExactly-as c.with_mark.result (HasNumbers c.args.name.now front)
    (HasGhosts c.args.name.now c.args.items c.args.weight c.args.hot c.args.words.now)
    (HasGhosts-of_mark _ _ _ _ _ _ _ parts.0 parts.1 a b (first.0, sym first.1)
    (second.0, sym second.1))
    (λ command more.
    let two = HasGhosts-mark _ _ _ _ _ _ _ parts.0 parts.1 command more in
    subst (λ (ns : List ℕ). HasNumbers c.args.name.now ns command)
    (λ i. c.args.items ∷ c.args.weight ∷ c.args.hot ∷ sym (first.1 ∙ two.2.1) i
    ∷ sym (second.1 ∙ two.3.1) i ∷ []) two.4)
    c.with_mark.ensures
