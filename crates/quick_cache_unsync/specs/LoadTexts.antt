-- How errors of calls that load read. What is said of a loader's error reads as that error does,
-- where its type tells how it reads.
use Rattle.std.specs.Prelude.{ℕ, List, ◌++◌, Option, Some, codes}
use Rattle.std.specs.Fmt.{◌++?◌}
use Rattle.quick_cache_model.specs.RefusalTexts.{refusal_text}
use Rattle.quick_cache_unsync.specs.declared.loading.not_loaded.NotLoaded.{NotLoaded}
use Rattle.quick_cache_unsync.specs.declared.loading.not_loaded.LoadError.{LoadError}

-- of a call that gives no reference
abbrev pub not_loaded_text : {E : Type 0} → (E → Option (List ℕ)) → NotLoaded E → Option (List ℕ)
not_loaded_text output NotLoaded.NotKept = Some (codes "the loaded value did not stay")
not_loaded_text output (NotLoaded.Failed error) = Some (codes "not loaded: ") ++? output error
not_loaded_text output (NotLoaded.Refused refusal) =
    Some (codes "refused: " ++ refusal_text refusal)

-- of a call that gives no value
abbrev pub load_error_text : {E : Type 0} → (E → Option (List ℕ)) → LoadError E → Option (List ℕ)
load_error_text output (LoadError.Failed error) = Some (codes "not loaded: ") ++? output error
load_error_text output (LoadError.Refused refusal) =
    Some (codes "refused: " ++ refusal_text refusal)
