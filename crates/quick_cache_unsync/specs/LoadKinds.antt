-- What errors of calls that load become as errors of input and output.
use Rattle.std.specs.Prelude.{◌≡◌}
use Rattle.std.specs.IoError.{error_kind}
use Rattle.std.specs.declared.io.Error.{Error}
use Rattle.std.specs.declared.io.ErrorKind.{ErrorKind}
use Rattle.quick_cache_model.specs.RefusalTexts.{refusal_kind}
use Rattle.quick_cache_unsync.specs.declared.loading.not_loaded.NotLoaded.{NotLoaded}
use Rattle.quick_cache_unsync.specs.declared.loading.not_loaded.LoadError.{LoadError}

module _ {E : Type 0} (converts : E → Error → Type 0) where
  -- the loader's error becomes what its type makes of it, and a refusal one of its kind
  abbrev pub LoadErrorBecomes : LoadError E → Error → Type 0
  LoadErrorBecomes (LoadError.Failed error) told = converts error told
  LoadErrorBecomes (LoadError.Refused refusal) told = error_kind told ≡ refusal_kind refusal

  -- so it is of a call that gives no reference; that a value did not stay is of the kind `Other`
  abbrev pub NotLoadedBecomes : NotLoaded E → Error → Type 0
  NotLoadedBecomes NotLoaded.NotKept told = error_kind told ≡ ErrorKind.Other
  NotLoadedBecomes (NotLoaded.Failed error) told = converts error told
  NotLoadedBecomes (NotLoaded.Refused refusal) told = error_kind told ≡ refusal_kind refusal
