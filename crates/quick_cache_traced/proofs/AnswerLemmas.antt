-- Several facts of one answer, put together.
use Rattle.std.proofs.Common.{Result, Ok, Err}
use Rattle.std.specs.Prelude.{IfOk, IfErr, OnOk, OnErr}

pub IfOk-both : {X E : Type 0} (answer : Result X E) (P W : X → Type 0) (Q : Type 0)
    → IfOk answer P → OnOk answer Q → ((x : X) → P x → Q → W x) → IfOk answer W
IfOk-both (Ok x) P W Q p q both = both x p q
IfOk-both (Err e) P W Q p q both = tt

pub OnOk-three : {X E : Type 0} (answer : Result X E) (P Q R W : Type 0)
    → OnOk answer P → OnOk answer Q → OnOk answer R → (P → Q → R → W) → OnOk answer W
OnOk-three (Ok x) P Q R W p q r all = all p q r
OnOk-three (Err e) P Q R W p q r all = tt

pub IfErr-both : {X E : Type 0} (answer : Result X E) (P W : E → Type 0) (Q : Type 0)
    → IfErr answer P → OnErr answer Q → ((e : E) → P e → Q → W e) → IfErr answer W
IfErr-both (Ok x) P W Q p q both = tt
IfErr-both (Err e) P W Q p q both = both e p q
