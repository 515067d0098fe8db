-- What a cache is made with, and what is wrong with the numbers that were set.
use Rattle.std.specs.Prelude.{ℕ, ◌^◌, ◌≤◌, List, [], ◌∷◌, Option, None, Bool, ◌||◌, is_none, unwrap_or, nat_lt, codes, find}
use Rattle.std.specs.Option.{option_map}
use Rattle.quick_cache_model.specs.CacheState.{default_mark_cut}
use Rattle.quick_cache_model.specs.Sizes.{default_hot_share, default_ghost_share}

-- the numbers that were set on a builder
pub record Choices : Type 0 where
  pub shards : Option ℕ
  pub estimated_items_capacity : Option ℕ
  pub weight_capacity : Option ℕ
  pub hot_allocation : Option ℕ
  pub ghost_allocation : Option ℕ
  pub mark_cut : Option ℕ

-- nothing was set
abbrev pub no_choices : Choices
no_choices = record {
  shards = None;
  estimated_items_capacity = None;
  weight_capacity = None;
  hot_allocation = None;
  ghost_allocation = None;
  mark_cut = None;
}

-- the numbers that a cache is made with
pub record Settings : Type 0 where
  pub shards : ℕ
  pub estimated_items_capacity : ℕ
  pub weight_capacity : ℕ
  pub hot_allocation : ℕ
  pub ghost_allocation : ℕ
  pub mark_cut : ℕ

-- the number of shards where none is set
abbrev pub default_shards : ℕ
default_shards = 16

-- each number as it was set, or its default; the capacities have none
abbrev pub settings_of : Choices → Settings
settings_of choices = record {
  shards = unwrap_or choices.shards default_shards;
  estimated_items_capacity = unwrap_or choices.estimated_items_capacity 0;
  weight_capacity = unwrap_or choices.weight_capacity 0;
  hot_allocation = unwrap_or choices.hot_allocation default_hot_share;
  ghost_allocation = unwrap_or choices.ghost_allocation default_ghost_share;
  mark_cut = unwrap_or choices.mark_cut default_mark_cut;
}

-- the shares are parts of the whole, the shards so few that a power of two is not below them, and
-- the greatest mark is one of three
pub record IsInRange (shards hot_allocation ghost_allocation mark_cut : ℕ) : Type 0 where
  pub few_shards : shards ≤ 2 ^ 63
  pub hot_share : hot_allocation ≤ 1000000
  pub ghost_share : ghost_allocation ≤ 1000000
  pub some_mark : 1 ≤ mark_cut
  pub few_marks : mark_cut ≤ 3

-- what may be wrong with the choices, each with its text, in the order in which it is told
abbrev pub faults_of : Choices → List (Bool × List ℕ)
faults_of choices =
    let settings = settings_of choices in
    (nat_lt 1000000 settings.hot_allocation, codes "hot_allocation is out of range") ∷
    (nat_lt 1000000 settings.ghost_allocation, codes "ghost_allocation is out of range") ∷
    (nat_lt (2 ^ 63) settings.shards, codes "shards is out of range") ∷
    (is_none choices.weight_capacity, codes "weight_capacity is not set") ∷
    (is_none choices.estimated_items_capacity, codes "estimated_items_capacity is not set") ∷ (
      nat_lt settings.mark_cut 1 || nat_lt 3 settings.mark_cut,
      codes "mark_cut is out of range",
    ) ∷ []

-- the text of the first fault that the choices have
abbrev pub first_error : Choices → Option (List ℕ)
first_error choices = option_map (λ fault. fault.1) (find (λ fault. fault.0) (faults_of choices))
