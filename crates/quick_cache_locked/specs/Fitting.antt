-- Values that fit their keys, as a lifecycle says it.
pub use Rattle.quick_cache_model.specs.Fitting.{FitsIn, AllFit}
pub use Rattle.quick_cache_loading.specs.Fitting.{ClonesFit, FitsQuery}
