-- Each row of the table is a step by cases, so the two say the same.
use Rattle.std.proofs.Common.{◌≡◌, ℕ, ◌==◌, Bool, true, false, ◌&&◌, ◌⊎◌, inl, inr, refl, MatchBool}
use Rattle.quick_cache_loading.specs.Waiting.{has}
use Rattle.quick_cache_loading.specs.Core.{Life, Loading, Filled, GivenUp, CoreState, is_handed_to, is_given_up, held_in, concerns}
use Rattle.quick_cache_loading.specs.LoadingStep.{LoadingStep, Shows, Creates, Joins, Fills, Abandons, Takes, TimesOut, Cancels}
use Rattle.quick_cache_loading.proofs.WhenRowsApply.{applies, can_join, applies-from_none}
use Rattle.quick_cache_loading.specs.LoadingRow.{LoadingRow, AsksForValue, by_joining, by_taking, by_timing_out, acts, no_row_applies}
use Rattle.quick_cache_loading.specs.LoadingRow.{creates, joins, lacks_room, shows_the_value, lacks_a_clone, fills, hands_on, gives_up}
use Rattle.quick_cache_loading.specs.LoadingRow.{receives, waits_on, withdraws, cancels_in_vain, leaves, abandoning, cancelling, taking}
use Rattle.quick_cache_loading.specs.LoadingRow.{timing_out, by_time, by_cancel, TablesAgree}
use Rattle.quick_cache_loading.proofs.BoolLemmas.{both-false, same-number}
use Rattle.quick_cache_loading.proofs.CasesToRows.{row_of_step}
use Rattle.quick_cache_model.specs.declared.refusal.Refusal.{Refusal}
use Rattle.quick_cache_loading.specs.declared.protocol.life.Holder.{Holder}
use Rattle.quick_cache_loading.specs.declared.protocol.events.Event.{Event}
use Rattle.quick_cache_loading.specs.declared.protocol.events.Answer.{Answer}

module _ {V : Type 0} (shows : V → V → Type 0) where
  idle_create : (l : Life V) (old : CoreState V) → is_given_up l ≡ false
      → Creates l old Answer.NotNow old
  idle_create (Loading h ws) old none = (refl, refl)
  idle_create (Filled v) old none = (refl, refl)
  idle_create GivenUp old none = absurd (cc)

  idle_join : (l : Life V) (n : ℕ) (old : CoreState V) → (old.in_shard && can_join n l) ≡ false
      → Joins shows l n old Answer.NotNow old
  idle_join (Loading h ws) n old none = rw none (refl, refl)
  idle_join (Filled v) n old none = by_flag old.in_shard none where
    by_flag : (b : Bool) → (b && true) ≡ false → MatchBool b (Shows shows v old Answer.NotNow old)
        ((◌≡◌ {A = Answer V} Answer.NotNow Answer.NotNow) × (old ≡ old))
    by_flag false e = (refl, refl)
    by_flag true e = absurd (cc)
  idle_join GivenUp n old none = (refl, refl)

  idle_fill : (l : Life V) (v : V) (old : CoreState V) → (held_in l == 1) ≡ false
      → Fills l v old Answer.NotNow old
  idle_fill (Loading Holder.Held ws) v old none = absurd (cc)
  idle_fill (Loading (Holder.HandedTo m) ws) v old none = (refl, refl)
  idle_fill (Filled w) v old none = (refl, refl)
  idle_fill GivenUp v old none = (refl, refl)

  idle_abandon : (l : Life V) (old : CoreState V) → (held_in l == 1) ≡ false
      → Abandons l old Answer.NotNow old
  idle_abandon (Loading Holder.Held ws) old none = absurd (cc)
  idle_abandon (Loading (Holder.HandedTo m) ws) old none = (refl, refl)
  idle_abandon (Filled w) old none = (refl, refl)
  idle_abandon GivenUp old none = (refl, refl)

  idle_take : (l : Life V) (n : ℕ) (old : CoreState V) → concerns n l ≡ false
      → Takes shows l n old Answer.NotNow old
  idle_take (Loading h ws) n old none =
      let parts = both-false (is_handed_to h n) (has n ws) none in
      rw (parts.0, parts.1) (refl, refl)
  idle_take (Filled v) n old none = absurd (cc)
  idle_take GivenUp n old none = (refl, refl)

  idle_time_out : (l : Life V) (n : ℕ) (old : CoreState V) → concerns n l ≡ false
      → TimesOut shows l n old Answer.NotNow old
  idle_time_out (Loading h ws) n old none =
      let parts = both-false (is_handed_to h n) (has n ws) none in
      rw (parts.0, parts.1) (refl, refl)
  idle_time_out (Filled v) n old none = absurd (cc)
  idle_time_out GivenUp n old none = (refl, refl)

  idle_cancel : (l : Life V) (n : ℕ) (old : CoreState V) → concerns n l ≡ false
      → Cancels l n old Answer.NotNow old
  idle_cancel (Loading h ws) n old none =
      let parts = both-false (is_handed_to h n) (has n ws) none in
      rw (parts.0, parts.1) (refl, refl)
  idle_cancel (Filled v) n old none = absurd (cc)
  idle_cancel GivenUp n old none = (refl, refl)

  -- where no case applies, the step by cases is idle
  idle_step : (e : Event V) (old : CoreState V) → applies e old ≡ false
      → LoadingStep shows old e Answer.NotNow old
  idle_step Event.Create old none = idle_create old.life old none
  idle_step (Event.Join n) old none = idle_join old.life n old none
  idle_step (Event.Fill v) old none = idle_fill old.life v old none
  idle_step Event.Abandon old none = idle_abandon old.life old none
  idle_step (Event.Take n) old none = idle_take old.life n old none
  idle_step (Event.TimeOut n) old none = idle_time_out old.life n old none
  idle_step (Event.Cancel n) old none = idle_cancel old.life n old none
  idle_step Event.Leave old none = rw none (refl, refl)

  shows_step : {e : Event V} {old : CoreState V} (v : V) (a : Answer V)
      → ((w : V) × shows v w × (a ≡ Answer.Value w)) ⊎ (a ≡ Answer.Refused Refusal.Memory)
      → old.life ≡ Filled v → AsksForValue e old → LoadingStep shows old e a old
  shows_step v a told is (by_joining n old inside) = rw (is, inside) (told, refl)
  shows_step v a told is (by_taking n old) = rw is (told, refl)
  shows_step v a told is (by_timing_out n old) = rw is (told, refl)

  step_of_row : {e : Event V} {old : CoreState V} {a : Answer V} {new : CoreState V}
      → LoadingRow shows e old a new → LoadingStep shows old e a new
  step_of_row (no_row_applies e old none) = idle_step e old (applies-from_none shows e old none)
  step_of_row (acts (creates old is)) = rw is (refl, refl)
  step_of_row (acts (joins old h ws n is inside other absent)) =
      rw (is, inside, other, absent) (inl (refl, refl))
  step_of_row (acts (lacks_room old h ws n is inside other absent)) =
      rw (is, inside, other, absent) (inr (refl, refl))
  step_of_row (acts (shows_the_value e old v w is asks same)) =
      shows_step v (Answer.Value w) (inl (w, same, refl)) is asks
  step_of_row (acts (lacks_a_clone e old v is asks)) =
      shows_step v (Answer.Refused Refusal.Memory) (inr refl) is asks
  step_of_row (acts (fills old ws v is)) = rw is (refl, refl)
  step_of_row (acts (hands_on _ old _ others m abandoning is)) =
      rw is (inr (others, m, refl, refl, refl))
  step_of_row (acts (hands_on _ old _ others m (cancelling n) is)) =
      rw (is, same-number n) (inr (others, m, refl, refl, refl))
  step_of_row (acts (gives_up _ old _ abandoning is)) = rw is (inl (refl, refl, refl))
  step_of_row (acts (gives_up _ old _ (cancelling n) is)) =
      rw (is, same-number n) (inl (refl, refl, refl))
  step_of_row (acts (receives _ old _ ws (taking n) is)) = rw (is, same-number n) (refl, refl)
  step_of_row (acts (receives _ old _ ws (timing_out n) is)) = rw (is, same-number n) (refl, refl)
  step_of_row (acts (waits_on old h ws n is other waiting)) = rw (is, other, waiting) (refl, refl)
  step_of_row (acts (withdraws _ old h ws _ _ (by_time n) is other waiting)) =
      rw (is, other, waiting) (refl, refl)
  step_of_row (acts (withdraws _ old h ws _ _ (by_cancel n) is other waiting)) =
      rw (is, other, waiting) (refl, refl)
  step_of_row (acts (cancels_in_vain old v n is)) = rw is (refl, refl)
  step_of_row (acts (leaves old inside)) = rw inside (refl, refl)

-- the table by rows is the table by cases
pub tables_agree : {V : Type 0} (shows : V → V → Type 0) → TablesAgree shows
tables_agree shows =
    λ e old a new. (λ row. step_of_row shows row, λ step. row_of_step shows e old a new step)
