pub mod Options
pub use Rattle.quick_cache_model.specs.Sizes
