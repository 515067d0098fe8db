-- What whole schedules keep.
use Rattle.std.proofs.Common.{◌≡◌, ℕ, ◌+◌, Bool, true, false, List, [], ◌∷◌, ◌++◌, length, refl, arith}
use Rattle.quick_cache_loading.specs.Core.{CoreState, held_count, value_of, is_given_up, waits, waiters_of}
use Rattle.quick_cache_loading.specs.LoadingStep.{LoadingStep}
use Rattle.quick_cache_loading.specs.LoadingLaws.{waits_after}
use Rattle.quick_cache_loading.specs.LoadingRun.{LoadingRun, guards_given, guards_taken, ShowsTheFill, NoneJoinsGivenUp}
use Rattle.quick_cache_loading.specs.LoadingRun.{NoGiveUpWhileWaiting, waits_at_end}
use Rattle.quick_cache_loading.proofs.CasesToRows.{row_of_step}
use Rattle.quick_cache_loading.proofs.RowLaws.{row-guards, row-shown, row-value, row-given_up, row-joined, row-alone, row-waits}
use Rattle.quick_cache_loading.specs.declared.protocol.events.Event.{Event}
use Rattle.quick_cache_loading.specs.declared.protocol.events.Answer.{Answer}

module _ {V : Type 0} (shows : V → V → Type 0) where
  -- a schedule with one more event
  pub LoadingRun-push : (es : List (Event V)) (rs : List (Answer V)) (old mid new : CoreState V)
      (e : Event V) (a : Answer V)
      → LoadingRun shows old es rs mid → LoadingStep shows mid e a new
      → LoadingRun shows old (es ++ e ∷ []) (rs ++ a ∷ []) new
  LoadingRun-push [] [] old mid new e a run step =
      let from : LoadingStep shows old e a new = rw (← run) step in (new, from, refl)
  LoadingRun-push [] (b ∷ rs) old mid new e a run step = absurd run
  LoadingRun-push (d ∷ es) [] old mid new e a run step = absurd run
  LoadingRun-push (d ∷ es) (b ∷ rs) old mid new e a run step =
      (run.0, run.1, LoadingRun-push es rs run.0 mid new e a run.2 step)

  -- what is held afterwards and was taken back is what was held and is given
  pub LoadingRun-guards : (es : List (Event V)) (rs : List (Answer V)) (old new : CoreState V)
      → LoadingRun shows old es rs new
      → held_count new + guards_taken es rs ≡ held_count old + guards_given rs
  LoadingRun-guards [] [] old new run = rw run
  LoadingRun-guards [] (a ∷ rs) old new run = absurd run
  LoadingRun-guards (e ∷ es) [] old new run = absurd run
  LoadingRun-guards (e ∷ es) (a ∷ rs) old new run =
      let one = row-guards (row_of_step shows e old a run.0 run.1) in
      let others = LoadingRun-guards es rs run.0 new run.2 in
      omega arith

  -- each event has its own answer
  pub LoadingRun-length : (es : List (Event V)) (rs : List (Answer V)) (old new : CoreState V)
      → LoadingRun shows old es rs new → length rs ≡ length es
  LoadingRun-length [] [] old new run = refl
  LoadingRun-length [] (a ∷ rs) old new run = absurd run
  LoadingRun-length (e ∷ es) [] old new run = absurd run
  LoadingRun-length (e ∷ es) (a ∷ rs) old new run =
      let others = LoadingRun-length es rs run.0 new run.2 in cc

  -- each value that is shown is what the life's one fill gave
  pub LoadingRun-shows : (es : List (Event V)) (rs : List (Answer V)) (old new : CoreState V)
      → LoadingRun shows old es rs new
      → ShowsTheFill shows (value_of old.life) es rs
  LoadingRun-shows [] [] old new run = tt
  LoadingRun-shows [] (a ∷ rs) old new run = absurd run
  LoadingRun-shows (e ∷ es) [] old new run = absurd run
  LoadingRun-shows (e ∷ es) (a ∷ rs) old new run =
      let row = row_of_step shows e old a run.0 run.1 in
      (row-shown row, rw (← row-value row) (LoadingRun-shows es rs run.0 new run.2))

  -- none joins a life that was given up
  pub LoadingRun-none_joins : (es : List (Event V)) (rs : List (Answer V)) (old new : CoreState V)
      → LoadingRun shows old es rs new
      → NoneJoinsGivenUp (is_given_up old.life) rs
  LoadingRun-none_joins [] [] old new run = tt
  LoadingRun-none_joins [] (a ∷ rs) old new run = absurd run
  LoadingRun-none_joins (e ∷ es) [] old new run = absurd run
  LoadingRun-none_joins (e ∷ es) (a ∷ rs) old new run =
      let row = row_of_step shows e old a run.0 run.1 in (
        λ ended joined. let open_life = row-joined row joined in absurd (cc),
        rw (← row-given_up row)
            (LoadingRun-none_joins es rs run.0 new run.2),
      )

  -- who waited at the start or joined waits until some step lets it go
  pub LoadingRun-stays : (es : List (Event V)) (rs : List (Answer V)) (old new : CoreState V)
      → LoadingRun shows old es rs new
      → (n : ℕ) (before : Bool) → (before ≡ true → waits n old ≡ true)
      → waits_at_end n before es rs ≡ true → waits n new ≡ true
  LoadingRun-stays [] [] old new run n before did still = rw run (did still)
  LoadingRun-stays [] (a ∷ rs) old new run n before did still = absurd run
  LoadingRun-stays (e ∷ es) [] old new run n before did still = absurd run
  LoadingRun-stays (e ∷ es) (a ∷ rs) old new run n before did still =
      LoadingRun-stays es rs run.0 new run.2 n (waits_after n before e a)
      (row-waits (row_of_step shows e old a run.0 run.1) n before did) still

  -- no life is given up while a waiter waits
  pub LoadingRun-alone : (es : List (Event V)) (rs : List (Answer V)) (old new : CoreState V)
      → LoadingRun shows old es rs new
      → (n : ℕ) (before : Bool) → (before ≡ true → waits n old ≡ true)
      → NoGiveUpWhileWaiting n before es rs
  LoadingRun-alone [] [] old new run n before did = tt
  LoadingRun-alone [] (a ∷ rs) old new run n before did = absurd run
  LoadingRun-alone (e ∷ es) [] old new run n before did = absurd run
  LoadingRun-alone (e ∷ es) (a ∷ rs) old new run n before did =
      let row = row_of_step shows e old a run.0 run.1 in (
        λ ended. nobody before did (row-alone row ended),
        LoadingRun-alone es rs run.0 new run.2 n (waits_after n before e a)
            (row-waits row n before did),
      ) where
        nobody : (b : Bool) → (b ≡ true → waits n old ≡ true) → waiters_of old.life ≡ [] → b ≡ false
        nobody false did none = refl
        nobody true did none = let absent : false ≡ true = rw none at (did refl) in absurd (cc)
