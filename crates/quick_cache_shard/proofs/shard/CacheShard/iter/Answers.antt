use Rattle.std.proofs.lemmas.List.Sorted.{IsPermutation-map}
use Rattle.quick_cache_model.specs.Removal.{pair_of}
use Rattle.quick_cache_shard.proofs.shard.CacheShard.iter.Goals as goal

pub returns : goal.returns
returns g c = rw (← c.self.view_is) (IsPermutation-map pair_of _ _ c.iter_items.ensures)
