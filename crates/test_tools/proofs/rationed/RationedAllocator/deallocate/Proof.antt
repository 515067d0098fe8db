-- `deallocate` is the inner allocator's.
use mathlib.Core.List.{[], ◌∷◌}
use mathlib.Core.Path.{ap, refl}
use mir.MapTy.{inst_fn}
use mir.Val.{Val, vunit}
use contract.Lifetimes.{Lfts}
use types.Kit.{‵, raw, ◌$◌, ◌∵◌, !, qed, by, drop, rewrite}
use types.Run.{addr, and_then, enter, fld, no_more, of_opd, returns, stop, unit_lit}
use types.ByLocal.{alloc_all, free_all, get, lands_as, look_at, pass_all, sets, through}
use denote.Builtin.{RawPtr, unit}
use denote.Laws.{Spells, valss}
use denote.RawPtr.{rawptr_Lawful, rawptr_Tells, rawptr_vals}
use denote.Ref.{shr_vals}
use denote.Signature.{plain, types_at}
use denote.Steps.{only}
use denote.Triple.Spec.{triple_of}
use Rattle.std.specs.contracts.alloc.Allocator.deallocate as passed
use Rattle.test_tools.proofs.Calling.{calls, gives}
use Rattle.test_tools.proofs.PassedOn.{Ration, inner, lent, over, passed_on, sizes, sizes_tell, stored}
use Rattle.test_tools.proofs.rationed.RationedAllocator.deallocate.Code as code
use Rattle.test_tools.proofs.rationed.RationedAllocator.deallocate.Statement.{statement}

pub deallocate_spec : {M : Type 1} → statement M
deallocate_spec 𝓤 𝓛 𝓜 𝓡 wired B laws ghosts methods drops met _ =
    let S = passed.signature B in
    let c = passed.spec B ghosts methods drops 𝓛 𝓜.mem 𝓡.returns in
    let Inner = triple_of 𝓛 S c in
    let others = plain (λ _. RawPtr) ∷ sizes in
    let told : (κs : Lfts 2) → Spells (types_at others κs) = λ κs. (rawptr_vals, stored κs) in
    passed_on B 𝓛 others S.result c told 𝓜 𝓡 (inst_fn (over B methods drops) code.function)
    laws (λ κs. (rawptr_Tells, sizes_tell κs)) (code.unfolded 𝓤 𝓛.H 𝓜 𝓡 wired (B, tt) methods drops)
    (λ κs qs bounds r a are ty.
    let x : Inner.Ghost = (
      (
        κs,
        qs,
        bounds,
        (inner B r, a),
        (shr_vals (inner B r), valss (types_at others κs) (told κs) a),
      ),
      ty,
    ) in
    let block_fits = ((rawptr_Lawful 𝓛).typed a.0 _ refl).0 in
    qed 𝓛 (‵ (lent (Ration B) κs.0 r) ∷ raw (Inner.pre x) ∷ []) ∵ drop ! $ enter ! _ _ _ _ _ $
    alloc_all ! (λ l.
    pass_all ! refl (
      (tt, tt),
      (
        block_fits,
        ((tt, record { fits = are.1.0.1 }), ((tt, record { fits = are.1.1.0.1 }), tt)),
      ),
    ) $
    sets ! (addr ! (through ! refl (fld ! refl (stop !)))) refl (tt, tt) $
    calls 𝓛 S c 𝓜 𝓡 ! (met.deallocate drops) x
    (and_then ! (get ! refl) (and_then ! (get ! refl)
    (and_then ! (get ! refl) (and_then ! (get ! refl) (no_more !)))))
    (λ v done is. rewrite ! 1 (λ (u : Val). ‵ (unit.own_val done (u ∷ []))) (ap only is) refl $
    lands_as ! (ap only is) refl (tt, tt) $ sets ! (of_opd ! (unit_lit !)) refl (tt, tt) $
    returns ! (look_at ! 0 refl) $ free_all ! refl $ by ! (gives 𝓛 S c x done vunit))))
