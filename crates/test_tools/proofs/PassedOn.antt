-- A method that a ration passes on meets the contract of the inner allocator's method at the loan
-- of the field: lifetimes, sizes, block and answer are the same, and only the `&` to the ration
-- becomes a `&` to the field.
use Prim.Native.Nat.{◌+◌}
use mathlib.Core.List.{List, [], ◌∷◌, ◌++◌}
use mathlib.Core.Path.{refl, subst}
use seplogic.Ra.Ura.{Ura}
use mir.Syntax.{Args, Callee, Dict, Fn, a_type, dcons, dnil, named, w64}
use base.Fml.{Fml, Lft, fsep}
use base.Logic.{ent, guard_i, sep}
use prog.Memory.{align, up}
use prog.Model.{Model}
use prog.Wp.{Closed, WpFn}
use contract.Lifetimes.{AllOutlive, Lfts, Shares}
use contract.Monad.{fact_use}
use contract.Running.{MachineTables, Running, tables}
use types.Logic.{Logic, sem}
use types.Kit.{prop, ‵, raw, ◌⊛◌, given, ◌$◌, ◌∵◌, !, qed, by, done, move, keep, use1, split, join, learn, rewrite, regoal, fsplit, fjoin, feq_i, feq_l}
use denote.Builtin.{usize}
use denote.Laws.{Are, Ises, Spells, Tellss, all_tell, owns_show, showss, valss}
use denote.Opens.{hide, shr_dup, unhide}
use denote.Param.{bounded, layout, param}
use denote.Param.Laws.{Laws, param_laws}
use denote.Plain.{uint_Tells, uint_vals}
use denote.RattleType.{Denots, RattleType, flat, owns}
use denote.Ref.{Bor, ShrRef, shr_vals}
use denote.Signature.{Signature, Slot, plain, shr_ref_to, types_at}
use denote.Triple.Entry.{alive}
use denote.Triple.Spec.{Meets, Spec, triple_of}
use denote.Triple.Statement.{Contract}
use denote.Triple.Table.{entered}
use Rattle.test_tools.proofs.rationed.Rationed.TheLaws.{the_row_laws}
use Rattle.test_tools.specs.contracts.rationed.Rationed as rationed

-- the type arguments of a function over an allocator
abbrev pub over : RattleType → Dict → Dict → Args
over B methods drops = bounded (a_type ∷ []) (B, tt) (dcons methods (dcons drops dnil))

-- what is owned of a `&`
abbrev pub lent : (R : RattleType) → Lft → Bor R.Denot → Fml
lent R κ r = (ShrRef (named 0) κ R).own_val r (shr_vals r)

-- a method of an allocator of this type: it takes a `&` to it, and then the others
abbrev Method : List (Slot 2) → Slot 2 → RattleType → Signature
Method others answer R = record {
  lifetimes = 2;
  outlives = record { long = 1; long_ok = tt; short = named 0; short_ok = tt } ∷ [];
  params = shr_ref_to (0 ∷ []) tt (plain (λ _. R)) ∷ others;
  result = answer;
}

-- the size and the alignment, with which each method ends, and how the machine stores them
abbrev pub sizes : List (Slot 2)
sizes = plain (λ _. usize) ∷ plain (λ _. usize) ∷ []

abbrev pub stored : (κs : Lfts 2) → Spells (types_at sizes κs)
stored κs = (uint_vals w64, (uint_vals w64, tt))

pub sizes_tell : (κs : Lfts 2) → Tellss (types_at sizes κs) (Ises (types_at sizes κs)) (stored κs)
sizes_tell κs = (uint_Tells w64, (uint_Tells w64, tt))

module _ (B : RattleType) where
  abbrev pub Ration : RattleType
  Ration = rationed.the_row (param 0 B)

  -- the `&` to the field, of a `&` to the ration
  abbrev pub inner : Bor Ration.Denot → Bor B.Denot
  inner r = record {
    ref_ptr = (r.ref_ptr.0, r.ref_ptr.1 + up (align (layout B)) 0);
    now = r.now.inner;
  }

  module _ {M : Type 1} {𝓤 : Ura M} (𝓛 : Logic 𝓤) where
    -- a loan of the ration is one of the field too
    lends : Laws B → (κ : Lft) (r : Bor Ration.Denot)
        → ent 𝓤 (sem 𝓛 (lent Ration κ r))
        (sep 𝓤 (sem 𝓛 (lent Ration κ r)) (sem 𝓛 (lent (param 0 B) κ (inner r))))
    lends laws κ r =
        qed 𝓛 (‵ (lent Ration κ r) ∷ []) ∵ fsplit ! $ move ! (1 ∷ []) $
        shr_dup ! Ration (the_row_laws (param 0 B) (param_laws 0 B laws)).shr_laws r.now r.ref_ptr.0
        r.ref_ptr.1 κ $
        unhide ! $ fsplit ! $ fsplit ! $ hide ! $ feq_i ! _ (shr_vals (inner r))
        (shr_vals (inner r)) refl $ fjoin ! $
        -- [the field's; the rest of the ration, twice; the ration's, and where it lies]
        move ! (4 ∷ 3 ∷ []) $ fjoin ! $ keep ! (0 ∷ 1 ∷ []) $ done !

    module _ (others : List (Slot 2)) (answer : Slot 2)
        (c : Spec 𝓤 (Method others answer (param 0 B))) where
      abbrev Inner : Contract 𝓤
      Inner = triple_of 𝓛 (Method others answer (param 0 B)) c

      -- the inner method's contract as one of the ration's
      abbrev at_field : Spec 𝓤 (Method others answer Ration)
      at_field κs a =
          let i = c κs (inner a.0, a.1) in
          record { ghost = i.ghost; requires = i.requires; ensures = i.ensures }

      abbrev Outer : Contract 𝓤
      Outer = triple_of 𝓛 (Method others answer Ration) at_field

      module _ (told : (κs : Lfts 2) → Spells (types_at others κs)) (𝓜 : Model 𝓤 𝓛.H)
          (𝓡 : Running 𝓤 𝓛.H 𝓜) (body : Fn) where
        abbrev 𝓣 : MachineTables 𝓤 𝓛.H 𝓜
        𝓣 = tables 𝓤 𝓛.H 𝓜 𝓡 𝓡.env

        -- the body goes from the ration's loan and the inner call's premise to what that call gives
        abbrev Walk : Type 1
        Walk = (κs : Lfts 2) (qs : Shares 2)
            (bounds : AllOutlive 2 (Method others answer Ration).outlives κs)
            → (r : Bor Ration.Denot) (a : Denots (types_at others κs))
            → let vss = valss (types_at others κs) (told κs) a in
            Are (types_at others κs) (Ises (types_at others κs)) a vss
            → (g : (c κs (inner r, a)).ghost) →
            let x : Inner.Ghost = ((κs, qs, bounds, (inner r, a), (shr_vals (inner r), vss)), g) in
            ent 𝓤 (sep 𝓤 (sem 𝓛 (lent Ration κs.0 r)) (Inner.pre x))
            (WpFn 𝓤 𝓛.H 𝓣.C 𝓣.Λ body (shr_vals r ++ flat (types_at others κs) vss) (Inner.post x))

        pub passed_on : Laws B → ((κs : Lfts 2)
            → Tellss (types_at others κs) (Ises (types_at others κs)) (told κs))
            → {name : Callee} → Closed 𝓤 𝓛.H 𝓣.C 𝓣.Λ name body
            → Walk → Meets 𝓛 (Method others answer Ration) (𝓣.C name) at_field
        passed_on laws tells {name} closed walk = entered 𝓤 𝓛.H Outer 𝓣.C 𝓣.Λ name body closed (λ y.
            let r = y.0.3.0 in
            let a = y.0.3.1 in
            let Rs = types_at others y.0.0 in
            let Self = (ShrRef (named 0) y.0.0.0 Ration).own_val r y.0.4.0 in
            let Tokens = alive 𝓛 (Method others answer Ration) y.0.0 y.0.1 in
            let Asked = (at_field y.0.0 y.0.3).requires y.1 in
            qed 𝓛 ((raw Tokens ⊛ ‵ (fsep Self (owns Rs a y.0.4.1))) ∷ raw Asked ∷ []) ∵
            -- the machine values are written out
            split ! $ move ! (1 ∷ []) $ fsplit ! $ fsplit ! $ feq_l ! (λ one. move ! (1 ∷ []) $
            use1 𝓛 (given (Are Rs (Ises Rs) a y.0.4.1) (‵ (owns Rs a y.0.4.1)))
            (fact_use 𝓤 _ (owns_show 𝓛 Rs (Ises Rs) (showss 𝓛 Rs) a y.0.4.1)
            (λ are. guard_i 𝓤 _ _ are)) $ learn ! (λ are.
            let more = all_tell Rs (Ises Rs) (told y.0.0) (tells y.0.0) a y.0.4.1 are in
            rewrite ! 0 (λ vss. ‵ (owns Rs a vss)) more refl $
            regoal ! (λ vs. prop (WpFn 𝓤 𝓛.H 𝓣.C 𝓣.Λ body vs (Outer.post y)))
            (λ i. one i ++ flat Rs (more i)) refl $
            -- the loan of the field takes the place of the ration's
            move ! (1 ∷ []) $ feq_i ! _ (shr_vals r) (shr_vals r) refl $ fjoin ! $
            use1 𝓛 (‵ (lent Ration y.0.0.0 r) ⊛ ‵ (lent (param 0 B) y.0.0.0 (inner r)))
            (lends laws y.0.0.0 r) $ split ! $
            move ! (1 ∷ 2 ∷ []) $ fjoin ! $ move ! (2 ∷ 0 ∷ []) $ join ! $ move !
            (0 ∷ 2 ∷ []) $ join ! $ move ! (1 ∷ 0 ∷ []) $
            by ! (walk y.0.0 y.0.1 y.0.2 r a (subst (Are Rs (Ises Rs) a) more are) y.1))))
