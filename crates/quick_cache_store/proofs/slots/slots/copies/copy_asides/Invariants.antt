use Rattle.std.proofs.Common.{◌≡◌, ◌≤◌, ◌+◌, ◌-◌, ◌++◌, length, drop}
use Rattle.quick_cache_store.specs.Asides.{besides_of, room_of, AreInStep}
use Rattle.quick_cache_store.specs.Copies.{aside_copies}
use Rattle.quick_cache_store.proofs.slots.slots.copies.copy_asides.Given as goal

abbrev pub invariant-loop-place : goal.invariant-loop-place
invariant-loop-place g l = record {
  in_step : AreInStep l.copies;
  token : l.token.0 ≡ l.place + 1;
  long : length (besides_of l.copies) ≡ l.place;
  room : length (besides_of l.asides) - l.place ≤ room_of l.copies;
  copied : besides_of l.copies ++ aside_copies (g.C.Copying.hash_of l.by) (drop l.place
      l.copy.slots)
      (drop l.place (besides_of l.asides))
      ≡ aside_copies (g.C.Copying.hash_of l.by) l.copy.slots (besides_of l.asides);
}
