-- A call in a walk, by what it gives: the tokens, an answer of its type, and what the contract
-- promises of that.
use mathlib.Core.List.{List, [], ◌∷◌}
use seplogic.Ra.Ura.{Ura}
use mir.Syntax.{Body, Callee, Opd, Place, call, seq}
use mir.Val.{Val}
use base.Fml.{Fml}
use base.Logic.{SProp, ent, id⊢, sep}
use prog.Model.{Model}
use prog.Wp.{Env}
use contract.Running.{MachineTables, Running, tables}
use types.Logic.{Logic, sem}
use types.Kit.{Item, Post, Seq, lands, runs, ‵, raw, ◌⊛◌, some, later, ◌$◌, ◌∵◌, !, qed, done, move, use1, split, join, pick, await, updating, now, show}
use types.Run.{Opds}
use denote.Laws.{Is, shows}
use denote.RattleType.{RattleType}
use denote.Signature.{Signature, type_at}
use denote.Steps.{peeks}
use denote.Triple.Call.{calls_at}
use denote.Triple.Entry.{alive}
use denote.Triple.Spec.{Spec, triple_of}
use denote.Triple.Statement.{Contract, Triple}
use denote.Triple.Table.{framed}

module _ {M : Type 1} {𝓤 : Ura M} (𝓛 : Logic 𝓤) (S : Signature) (c : Spec 𝓤 S) where
  open 𝓛 use {H}

  abbrev Call : Contract 𝓤
  Call = triple_of 𝓛 S c

  module _ (y : Call.Ghost) where
    abbrev Answer : RattleType
    Answer = type_at S.result y.0.0

    abbrev pub Tokens : SProp 𝓤
    Tokens = alive 𝓛 S y.0.0 y.0.1

    abbrev pub Owned : Answer.Denot → Val → Fml
    Owned r v = Answer.own_val r (v ∷ [])

    abbrev pub Promise : Answer.Denot → SProp 𝓤
    Promise r = (c y.0.0 y.0.3).ensures y.1 r

    -- whoever has the three has all that the contract says
    pub gives : (r : Answer.Denot) (v : Val)
        → ent 𝓤 (sep 𝓤 Tokens (sep 𝓤 (sem 𝓛 (Owned r v)) (Promise r))) (Call.post y v)
    gives r v =
        qed 𝓛 (raw Tokens ∷ ‵ (Owned r v) ∷ raw (Promise r) ∷ []) ∵ join ! $ updating ! $ now ! $
        show ! (λ (x : Answer.Denot). sep 𝓤 (sep 𝓤 Tokens (sem 𝓛 (Owned x v))) (Promise x)) r $ done
        !

  module _ (𝓜 : Model 𝓤 H) (𝓡 : Running 𝓤 H 𝓜) where
    abbrev 𝓣 : MachineTables 𝓤 H 𝓜
    𝓣 = tables 𝓤 H 𝓜 𝓡 𝓡.env

    module _ {K : Type 0} {Γ : List (Item 𝓤)} {E : Env 𝓤 H} {q : Post 𝓤 H} {f : Callee} {d : Place}
        {xs : List Opd} {rest : Body} where
      -- after a call the three stand at the head
      pub calls : K → Triple 𝓤 (𝓣.C f) Call → (y : Call.Ghost)
          → Opds K 𝓛 (raw (Call.pre y) ∷ Γ) E xs (Call.args y)
          → ((v : Val) (r : (Answer y).Denot) → Is (Answer y) r (v ∷ [])
          → Seq K 𝓛 (raw (Tokens y) ∷ ‵ (Owned y r v) ∷ raw (Promise y r) ∷ Γ)
          (lands 𝓣.C 𝓣.Λ E d v rest q))
          → Seq K 𝓛 (raw (Call.pre y) ∷ Γ) (runs 𝓣.C 𝓣.Λ E (seq (call f xs d) rest) q)
      calls t met y operands next = calls_at t (framed 𝓤 H 𝓜 𝓣) Call met y operands (λ v.
          use1 𝓛 (later (some (λ (r : (Answer y).Denot). (raw (Tokens y) ⊛ ‵ (Owned y r v)) ⊛ raw
          (Promise y r)))) (id⊢ 𝓤 _) $
          await t tt $ pick t (λ r. split t $ split t $ move t (1 ∷ []) $
          peeks t (Answer y) (Is (Answer y)) (shows 𝓛 (Answer y)) r (v ∷ [])
          (λ is. move t (1 ∷ []) $ next v r is)))
