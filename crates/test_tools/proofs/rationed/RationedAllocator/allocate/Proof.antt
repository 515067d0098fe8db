-- `allocate` answers an error where the ration refuses, and is else the inner allocator's.
use mathlib.Core.List.{[], ◌∷◌}
use mathlib.Core.Path.{ap, refl}
use mir.MapTy.{inst_fn}
use mir.Val.{Val}
use base.Logic.{emp, ent, fst∗, guard_i, id⊢, sep}
use contract.BorrowLft.{◌⊑◌}
use contract.Monad.{fact, fact_i, fact_use}
use contract.Running.{tables}
use types.Logic.{sem}
use types.Kit.{at_ret, by, done, fjoin, fjoin3, given, join, keep, learn, move, qed, raw, show, split, use0, use1, use2, ‵, ◌⊛◌, ◌$◌, ◌∵◌, ! }
use types.Part.{agg}
use types.Run.{addr, and_then, branches, enter, exec, first, fld, lit, no_more, returns, returns_within, skips, stop}
use types.ByLocal.{alloc_all, env, free_all, get, lands_as, look_at, pass_all, sets, through}
use borrow.Table.RawPtr.{ptr_laws}
use denote.Builtin.{RawPtr}
use denote.Laws.{valss}
use denote.Param.Laws.{Laws}
use denote.RattleType.{owns}
use denote.Ref.{shr_vals}
use denote.Signature.{types_at}
use denote.Steps.{nothing, only}
use denote.Triple.Clauses.{Ended, Lasts, lasts}
use denote.Triple.Spec.{triple_of}
use Rattle.std.proofs.Common.{Err, false}
use Rattle.std.proofs.alloc.AllocError.TheLaws.{the_row_laws as error_laws}
use Rattle.std.proofs.alloc.Calls.{Answer-err, Answer-typed, answer_val}
use Rattle.std.proofs.result.Result.TheLaws.{the_row_laws as result_laws}
use Rattle.std.specs.Allocator.{HasLayout, alloc_error}
use Rattle.std.specs.contracts.alloc.AllocError.{the_row as AllocError}
use Rattle.std.specs.contracts.alloc.Allocator.allocate as passed
use Rattle.std.specs.contracts.result.Result.{the_row as result}
use Rattle.test_tools.proofs.Calling.{Owned, Promise, Tokens, calls, gives}
use Rattle.test_tools.proofs.PassedOn.{Ration, inner, lent, over, passed_on, sizes, sizes_tell, stored}
use Rattle.test_tools.proofs.rationed.Rationed.refuses.Met.{met as refuses_met}
use Rattle.test_tools.proofs.rationed.RationedAllocator.allocate.Code as code
use Rattle.test_tools.proofs.rationed.RationedAllocator.allocate.Statement.{statement}
use Rattle.test_tools.specs.contracts.rationed.Rationed.refuses as refuses

abbrev Answer-laws : Laws (result RawPtr AllocError)
Answer-laws = result_laws RawPtr AllocError ptr_laws error_laws

pub allocate_spec : {M : Type 1} → statement M
allocate_spec 𝓤 𝓛 𝓜 𝓡 wired B laws ghosts methods drops met glue =
    let S = passed.signature B in
    let c = passed.spec B ghosts methods drops 𝓛 𝓜.mem 𝓡.returns in
    let Inner = triple_of 𝓛 S c in
    let test = refuses.spec B ghosts methods drops 𝓛 𝓜.mem 𝓡.returns in
    let Test = triple_of 𝓛 (refuses.signature B) test in
    let tested = refuses_met 𝓤 𝓛 𝓜 𝓡
    (code.calls-test_tools::rationed::Rationed::refuses 𝓡.env wired) B laws ghosts methods drops met glue in
    let 𝓣 = tables 𝓤 𝓛.H 𝓜 𝓡 𝓡.env in
    let body = inst_fn (over B methods drops) code.function in
    let after_test = inst_fn (over B methods drops)
    (record code.function { body = code.Mir.t-3 }) in
    passed_on B 𝓛 sizes S.result c stored 𝓜 𝓡 body
    laws sizes_tell (code.unfolded 𝓤 𝓛.H 𝓜 𝓡 wired (B, tt) methods drops)
    (λ κs qs bounds r a are ty.
    let x : Inner.Ghost = (
      (
        κs,
        qs,
        bounds,
        (inner B r, a),
        (shr_vals (inner B r), valss (types_at sizes κs) (stored κs) a),
      ),
      ty,
    ) in
    let t : Test.Ghost = ((κs, qs, bounds, (r, tt), (shr_vals r, tt)), tt) in
    let Held = Tokens 𝓛 S c x in
    let Asked = (c κs x.0.3).requires ty in
    let Lent = lent (Ration B) κs.0 r in
    let Within = κs.1.0 ⊑ B.lives in
    -- the ration is asked by its own loan
    let asks : Within → ent 𝓤 (sep 𝓤 Held (sem 𝓛 Lent)) (Test.pre t) = λ within.
    qed 𝓛 (raw Held ∷ ‵ Lent ∷ []) ∵ nothing ! $ move ! (2 ∷ 0 ∷ []) $ fjoin ! $ move !
    (1 ∷ 0 ∷ []) $ join ! $
    nothing ! $ use0 𝓛 (raw (fact 𝓤 Within)) (fact_i 𝓤 Within (emp 𝓤) within) $ join ! $ move !
    (1 ∷ 0 ∷ []) $ done ! in
    -- with an error nothing is promised
    let error : Val = answer_val false 0 0 in
    let E : Ended = passed.ended B ghosts methods drops in
    let refused : ent 𝓤 Held (Inner.post x error) =
    qed 𝓛 (raw Held ∷ []) ∵ use0 𝓛 (raw (Promise 𝓛 S c x (Err alloc_error)))
    (qed 𝓛 [] ∵ show ! (λ (ws : Lasts E κs x.0.3). sep 𝓤 (sem 𝓛 (lasts E κs x.0.3 ws)) (emp 𝓤))
    (tt, (tt, (tt, tt))) $
    nothing ! $ nothing ! $ nothing ! $ nothing ! $ fjoin3 ! $ nothing ! $ fjoin ! $ done !) $
    use0 𝓛 (‵ (Owned 𝓛 S c x (Err alloc_error) error)) (Answer-err 𝓛) $
    move ! (2 ∷ 0 ∷ []) $ by ! (gives 𝓛 S c x (Err alloc_error) error) in
    qed 𝓛 (‵ Lent ∷ ((raw Held ⊛ ‵ (owns (types_at S.params κs) x.0.3 x.0.4)) ⊛ raw Asked) ∷ []) ∵
    move ! (1 ∷ []) $ split ! $ move ! (1 ∷ []) $
    use1 𝓛 (given Within (raw Asked))
    (fact_use 𝓤 Within (fst∗ 𝓤 (fact 𝓤 Within) (fact 𝓤 (HasLayout ty a.0 a.1.0)))
    (λ within. guard_i 𝓤 Within Asked within)) $ learn !
    (λ within. enter ! _ _ _ _ _ $ alloc_all ! (λ l.
    pass_all ! refl (
      (tt, tt),
      (
        (tt, record { fits = are.0.1 }),
        ((tt, record { fits = are.1.0.1 }), tt),
      ),
    ) $
    -- [what the inner call asks; its tokens and arguments; the ration's loan]
    move ! (1 ∷ []) $ split ! $ move ! (0 ∷ 3 ∷ []) $ use2 𝓛 (raw (Test.pre t)) (asks within) $
    calls 𝓛 (refuses.signature B) test 𝓜 𝓡 ! tested t (and_then ! (get ! refl) (no_more !))
    (λ v refusal is.
    lands_as ! (ap only is) refl (tt, tt) $ first ! $ branches ! (get ! refl)
    (λ _. sets ! (agg ! (no_more !)) refl (tt, tt) $
    sets ! (agg ! (and_then ! (lit ! tt) (and_then ! (get ! refl) (no_more !)))) refl
    (Answer-typed false 0 0) $
    returns_within ! (Inner.post x) refl (look_at ! 0 refl) $ free_all ! refl $ keep !
    (0 ∷ []) $ by ! refused)
    -- [the tokens; the test's answer and promise; the inner call's arguments; what it asks]
    (λ _. skips ! $ exec ! 𝓣.C 𝓣.Λ (env body.locals l) after_test.body
    (at_ret (env body.locals l) (Inner.post x)) $
    move ! (0 ∷ 3 ∷ []) $ join ! $ move ! (0 ∷ 3 ∷ []) $ join ! $ use1 𝓛 (raw (Inner.pre x))
    (id⊢ 𝓤 _) $
    sets ! (addr ! (through ! refl (fld ! refl (stop !)))) refl (tt, tt) $
    calls 𝓛 S c 𝓜 𝓡 ! (met.allocate drops) x
    (and_then ! (get ! refl) (and_then ! (get ! refl) (and_then ! (get ! refl) (no_more !))))
    (λ v answer is. lands_as ! refl refl ((Answer-laws.lawful 𝓛).typed answer (v ∷ []) is).0 $
    returns ! (look_at ! 0 refl) $ free_all ! refl $ keep ! (0 ∷ 1 ∷ 2 ∷ []) $ by !
    (gives 𝓛 S c x answer v)))))))
