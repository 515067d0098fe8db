-- What is kept of hook calls, one after another.
use Rattle.std.proofs.Common.{◌≡◌, ℕ, List, [], ◌∷◌, ◌++◌, length, Option, Some, None, Vec, sym, ap, ◌∙◌, append_assoc, arith}
use Rattle.std.proofs.lemmas.List.{append-nil}
use Rattle.std.specs.Prelude.{map}
use Rattle.quick_cache_model.specs.Hooks.{Hooks, HookCall, BeforeEvict, EvictHot, EvictCold, RunsHooks}
use Rattle.qcrun_parts.specs.declared.events.Event.{Event}
use Rattle.qcrun_parts.specs.Events.{event_of, Keeps, LeavesByKind, TellsOf}
use Rattle.qcrun_parts.specs.Kinds.{value_left}

module _ {A : Type 0} where
  -- hooks that keep what they are told
  abbrev pub keeping_hooks : Hooks ℕ ℕ (Option (Vec Event A))
  keeping_hooks = record {
    before_evict = λ old key value new left. Keeps old (Event.Before key value) new
        × (left ≡ value_left value);
    evict_hot = λ old key value new. Keeps old (Event.Hot key value) new;
    evict_cold = λ old key value new. Keeps old (Event.Cold key value) new;
  }

  -- the events of these calls stand behind those that were kept before, if all could be kept
  abbrev KeepsAll : Option (Vec Event A) → List (HookCall ℕ ℕ) → Option (Vec Event A) → Type 0
  KeepsAll None calls last = last ≡ None
  KeepsAll (Some first) calls None = calls ≡ [] → ⊥
  KeepsAll (Some first) calls (Some last) = last.items ≡ first.items ++ map event_of calls

  KeepsAll-nil : (first last : Option (Vec Event A)) → last ≡ first → KeepsAll first [] last
  KeepsAll-nil None last same = same
  KeepsAll-nil (Some first) last same = rw same (sym (append-nil first.items))

  KeepsAll-cons : (call : HookCall ℕ ℕ) (calls : List (HookCall ℕ ℕ))
      (first mid last : Option (Vec Event A)) → Keeps first (event_of call) mid
      → KeepsAll mid calls last
      → KeepsAll first (call ∷ calls) last
  KeepsAll-cons call calls None mid last keeps all = rw keeps at all
  KeepsAll-cons call calls (Some first) None last keeps all =
      rw all (λ none. absurd (omega (arith, ap length none)))
  KeepsAll-cons call calls (Some first) (Some mid) None keeps all =
      λ none. absurd (omega (arith, ap length none))
  KeepsAll-cons call calls (Some first) (Some mid) (Some last) keeps all =
      all ∙ ap (λ events. events ++ map event_of calls) keeps
      ∙ append_assoc first.items (event_of call ∷ []) (map event_of calls)

  KeepsAll-run : (calls : List (HookCall ℕ ℕ)) (first last : Option (Vec Event A))
      → RunsHooks keeping_hooks calls first last → LeavesByKind calls × KeepsAll first calls last
  KeepsAll-run [] first last runs = (tt, KeepsAll-nil first last runs)
  KeepsAll-run (BeforeEvict key value left ∷ calls) first last runs =
      let rest = KeepsAll-run calls runs.0 last runs.2 in (
        (runs.1.1, rest.0),
        KeepsAll-cons (BeforeEvict key value left) calls first runs.0 last runs.1.0 rest.1,
      )
  KeepsAll-run (EvictHot key value ∷ calls) first last runs =
      let rest = KeepsAll-run calls runs.0 last runs.2 in
      (rest.0, KeepsAll-cons (EvictHot key value) calls first runs.0 last runs.1 rest.1)
  KeepsAll-run (EvictCold key value ∷ calls) first last runs =
      let rest = KeepsAll-run calls runs.0 last runs.2 in
      (rest.0, KeepsAll-cons (EvictCold key value) calls first runs.0 last runs.1 rest.1)

  TellsOf-all : (calls : List (HookCall ℕ ℕ)) (first : Vec Event A) (last : Option (Vec Event A))
      → first.items ≡ [] → KeepsAll (Some first) calls last → TellsOf calls last
  TellsOf-all calls first None none all = all
  TellsOf-all calls first (Some last) none all = rw none at all

  -- from no event on, what the hooks left tells of all calls
  pub TellsOf-run : (calls : List (HookCall ℕ ℕ)) (first : Vec Event A)
      (last : Option (Vec Event A))
      → first.items ≡ [] → RunsHooks keeping_hooks calls (Some first) last
      → LeavesByKind calls × TellsOf calls last
  TellsOf-run calls first last none runs =
      let all = KeepsAll-run calls (Some first) last runs in
      (all.0, TellsOf-all calls first last none all.1)
