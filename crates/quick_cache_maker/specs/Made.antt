-- What a maker makes, and why it makes none.
use Rattle.std.specs.Prelude.{◌≡◌, ℕ, List, Some, None}
use Rattle.std.specs.declared.io.ErrorKind.{ErrorKind}
use Rattle.quick_cache_model.specs.CacheState.{CacheState, empty_state}
use Rattle.quick_cache_model.specs.RefusalTexts.{refusal_text, refusal_kind}
use Rattle.quick_cache_model.specs.Sizes.{hot_target_of, ghost_limit_of}
use Rattle.quick_cache_model.specs.declared.refusal.Refusal.{Refusal}
use Rattle.quick_cache_options.specs.Options.{Choices, Settings, first_error}
use Rattle.quick_cache_maker.specs.declared.error.MakeError.{MakeError}

-- the empty state of a cache of these settings
abbrev pub made_state : {K V : Type 0} → Settings → CacheState K V
made_state settings = record
    (empty_state settings.weight_capacity
    (hot_target_of settings.weight_capacity settings.hot_allocation)
    (ghost_limit_of settings.estimated_items_capacity settings.ghost_allocation))
    { mark_cut = settings.mark_cut }

-- the choices have that fault first, or they have none and there was no memory
abbrev pub IsMakeError : Choices → MakeError → Type 0
IsMakeError choices (MakeError.Options error) = first_error choices ≡ Some error
IsMakeError choices (MakeError.Refused refusal) = (first_error choices ≡ None)
    × (refusal ≡ Refusal.Memory)

-- how it reads
abbrev pub make_error_text : MakeError → List ℕ
make_error_text (MakeError.Options error) = error
make_error_text (MakeError.Refused refusal) = refusal_text refusal

-- which kind of error of input and output it is
abbrev pub make_error_kind : MakeError → ErrorKind
make_error_kind (MakeError.Options error) = ErrorKind.InvalidInput
make_error_kind (MakeError.Refused refusal) = refusal_kind refusal
