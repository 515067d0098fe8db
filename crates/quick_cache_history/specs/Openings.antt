-- A history that begins. No public clause cites this module.
use Rattle.std.specs.Prelude.{◌≡◌, ℕ, ◌<◌, List, [], ◌∷◌}
use Rattle.logbook.specs.Pages.{Book}
use Rattle.logbook.specs.declared.tokens.Pens.{Pens}
use Rattle.quick_cache_model.specs.Sizes.{IsShardCount}
use Rattle.quick_cache_options.specs.Options.{Settings}
use Rattle.quick_cache_options.specs.declared.sizes.ShardSizes.{ShardSizes}
use Rattle.quick_cache_history.specs.declared.entry.Entry.{Entry}

-- Only that a cache is made of these options and sizes stands in the history, and there are rights
-- to make the word of each shard.
pub record IsOpening {K V : Type 0} (options : Settings) (sizes : ShardSizes)
    (log : List (Entry K V)) (names : List ℕ) (book : Book) (pens : Pens) : Type 0 where
  pub begins : log ≡ Entry.Opened options sizes ∷ []
  pub nameless : names ≡ []
  pub some : 0 < sizes.shards
  pub count : IsShardCount options.shards options.estimated_items_capacity sizes.shards
  pub its : pens.book ≡ book
  pub first : pens.next ≡ 0
  pub each : pens.left ≡ sizes.shards
