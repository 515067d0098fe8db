-- An entry left its list.
use Rattle.std.proofs.Common.{◌≡◌, ℕ, ◌+◌, ◌<◌, ◌≤◌, ◌-◌, length, Bool, Some, sym, ap, ◌∙◌, arith}
use Rattle.quick_cache_store.specs.Pool.{Pool, item_at}
use Rattle.quick_cache_index.specs.Index.{Index, token_count}
use Rattle.quick_cache_store.specs.Rings.{Ring, Rings, CanLeave, CanLeaveRing, LeavesRingOf, CanWeigh, CanReweigh}
use Rattle.quick_cache_store.specs.declared.slots.entry.Slot.{Slot}
use Rattle.quick_cache_store.specs.Frames.{IsRemoved}
use Rattle.quick_cache_store.specs.Lists.{Lists, without_entry, entry_count}
use Rattle.quick_cache_store.specs.ListSlots.{Stand, AmongHot, AmongCold, AmongStill, AmongLoading, AmongGhosts, stand_of, stand_in}
use Rattle.quick_cache_store.specs.ListSlots.{weight_at, weight_in, loading_in}
use Rattle.quick_cache_store.specs.Sound.{lists_of, slot_room, IsRingOf, IsKeyed, IsStanding, IsSound}
use Rattle.quick_cache_store.proofs.lists.ApartLemmas.{apart_by}
use Rattle.quick_cache_store.proofs.lists.CountLemmas.{IsLess, IsLess-without}
use Rattle.quick_cache_store.proofs.lists.SoundLemmas.{ring_light, ring_weighs}
use Rattle.quick_cache_store.proofs.lists.TakeLemmas.{IsEntry-from, IsStanding-taken, lists-taken, capacity-taken}

module _ {K V P T : Type 0} where
  module _ (old : Pool (Slot K V P T)) (rings : Rings) (standing : IsStanding old rings)
      (t : ℕ) where
    can_leave_ring : (ring : Ring) (s : Stand) → IsRingOf old ring s
        → stand_of (item_at old t) ≡ Some s → CanLeave ring t (weight_at (item_at old t))
    can_leave_ring ring s is stands =
        record { stands = is.all t stands; weighs = ring_weighs old ring s t is stands }

    pub can_leave : (s : Stand) → stand_of (item_at old t) ≡ Some s
        → CanLeaveRing rings t (weight_at (item_at old t)) s
    can_leave AmongHot stands = can_leave_ring rings.hot AmongHot standing.hot_ring stands
    can_leave AmongCold stands = can_leave_ring rings.cold AmongCold standing.cold_ring stands
    can_leave AmongGhosts stands =
        can_leave_ring rings.ghosts AmongGhosts standing.ghost_ring stands
    can_leave AmongStill stands = tt
    can_leave AmongLoading stands = tt

  -- it can weigh more, or less
  module _ (old : Pool (Slot K V P T)) (told : Index) (rings : Rings)
      (standing : IsStanding old rings) (keyed : IsKeyed old told) (t : ℕ) (weight : ℕ)
      (light : weight < 18446744073709551616) where
    can_weigh : (ring : Ring) (s : Stand) → IsRingOf old ring s
        → stand_of (item_at old t) ≡ Some s → CanWeigh ring (weight_at (item_at old t)) weight
    can_weigh ring s is stands = record {
      weighs = ring_weighs old ring s t is stands;
      light = omega (arith, ring_light old ring s keyed.few keyed.light is, light);
    }

    pub can_reweigh : (s : Stand) → stand_of (item_at old t) ≡ Some s
        → CanReweigh rings (weight_at (item_at old t)) weight s
    can_reweigh AmongHot stands = can_weigh rings.hot AmongHot standing.hot_ring stands
    can_reweigh AmongCold stands = can_weigh rings.cold AmongCold standing.cold_ring stands
    can_reweigh AmongGhosts stands = tt
    can_reweigh AmongStill stands = tt
    can_reweigh AmongLoading stands = tt

  -- ---- and is counted no more

  module _ (old new : Pool (Slot K V P T)) (told tnew : Index) (t : ℕ) (restarts : Bool)
      (rings left : Rings) (loading : ℕ) (sound : IsSound old told rings loading)
      (removed : IsRemoved old new t) (room : slot_room new tnew ≡ slot_room old told + 1)
      (keyed : IsKeyed new tnew) (count : token_count tnew + 1 ≡ token_count told)
      (x : Slot K V P T) (at : item_at old t ≡ Some x) (s : Stand) (w : ℕ)
      (is_stand : s ≡ stand_in x.entry) (is_weight : w ≡ weight_in x.entry)
      (leaves : LeavesRingOf rings left t restarts w s) where
    stands : stand_of (item_at old t) ≡ Some s
    stands = ap stand_of at ∙ ap (λ (r : Stand). Some r) (sym is_stand)

    weighs : w ≡ weight_at (item_at old t)
    weighs = is_weight ∙ sym (ap weight_at at)

    capacity : left.capacity ≡ rings.capacity
    capacity = capacity-taken old new told tnew t restarts rings left w sound.standing removed
        weighs s stands leaves

    pub lists-left : lists_of new tnew left ≡ without_entry restarts t (lists_of old told rings)
    lists-left = lists-taken old new told tnew t restarts rings left w sound.standing removed
        weighs s stands leaves (omega (arith, room, count, capacity, sound.within))

    less : IsLess (lists_of old told rings)
        (without_entry restarts t (lists_of old told rings)) (loading_in (stand_in x.entry))
    less =
        IsLess-without (lists_of old told rings) t x.hash x.entry restarts
        (apart_by old told rings sound.standing)
        (IsEntry-from old told rings sound.standing t x at)

    pub loading-enough : loading_in s ≤ loading
    loading-enough = omega (arith, less.waiting, sound.loading_counted, ap loading_in is_stand)

    pub IsSound-left : (fewer : ℕ) → fewer ≡ loading_in s → IsSound new tnew left (loading - fewer)
    IsSound-left fewer is = record {
      standing = IsStanding-taken old new told tnew t restarts rings left w sound.standing removed
          weighs s stands leaves;
      keyed = keyed;
      loading_counted =
          let now = ap (λ (l : Lists K V P). length l.loading) lists-left in
          omega (arith, less.waiting, sound.loading_counted, ap loading_in is_stand, is, now);
      all_counted =
          let now = ap entry_count lists-left in
          omega (arith, less.all, sound.all_counted, count, now);
      within = omega (arith, sound.within, count, capacity);
      bounded = omega (arith, sound.bounded, room, count, capacity);
    }
