-- How much room the lists make at most: a list that grows takes twice what it is asked for.
use Rattle.std.specs.Prelude.{ℕ, ◌+◌, ◌*◌}

-- the most room that there is after so much was asked for beside so many entries: that for twice as
-- many entries in all, and for one group of the index
abbrev pub most_room : (entries asked : ℕ) → ℕ
most_room entries asked = entries + 2 * asked + 14
