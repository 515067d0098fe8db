-- A whole hot advance, round after round, and that it is the one of the definitions.
use Rattle.std.proofs.Common.{◌≡◌, ℕ, ◌+◌, ◌*◌, ◌≤◌, Bool, true, false, true≢false, List, [], ◌∷◌, length, map, refl, sym, subst, ◌∙◌}
use Rattle.std.proofs.Common.{arith}
use Rattle.quick_cache_model.specs.declared.queue.Queue.{Queue}
use Rattle.quick_cache_model.specs.CacheState.{CacheState, Item, restarted_behind}
use Rattle.quick_cache_model.specs.Hooks.{Rules, HookCall}
use Rattle.quick_cache_model.specs.Touches.{RaisesMarks}
use Rattle.quick_cache_model.specs.Eviction.{lowered, IsFirstVictim, EvictsVictim, AdvancesHot}
use Rattle.quick_cache_model.proofs.TouchLaws.{RaisesMarks-same}
use Rattle.quick_cache_policy.specs.Rounds.{HaveAtMost, MayRaise, AfterTouches, Rounds, EndsAllPinned, EndsSomeUnpinned, EndsAtVictim}
use Rattle.quick_cache_policy.specs.Rounds.{Advancing, MeetsVictim, GivesUp, IsMet, NoneUnpinned}
use Rattle.quick_cache_policy.proofs.MarkLemmas.{HaveAtMost-raised, RaisesMarks-length}
use Rattle.quick_cache_policy.proofs.RoundLemmas.{rounds-begin, rounds-go_on, rounds-give_up, rounds-lower, rounds-reach, rounds-stop}
use Rattle.quick_cache_policy.proofs.RoundLemmas.{visits-within, stopped-within}

module _ {K V : Type 0} (steady : Type 0) (pinned : K → V → Bool) (cut : ℕ)
    (may_count : ℕ → Type 0) where
  -- before the first round
  pub advance-begins : may_count 0 → (old : List (Item K V))
      → Advancing steady pinned true cut may_count old old 0
  advance-begins none_counted old = record {
    mid = old;
    raises = RaisesMarks-same cut may_count none_counted old;
    rounds = rounds-begin steady pinned cut old;
    first = λ e. (refl, refl);
  }

  -- the rounds up to one that begins with `now`, told of the ring once touches were taken in
  record UpTo (old now : List (Item K V)) (visits : ℕ) : Type 0 where
    mid : List (Item K V)
    raises : RaisesMarks cut may_count old mid
    rounds : Rounds steady pinned cut mid now visits

  up_to : (takes_touches : Bool) (old now mid : List (Item K V)) (n : ℕ)
      → Advancing steady pinned takes_touches cut may_count old now n
      → MayRaise takes_touches cut may_count now mid → UpTo old mid n
  up_to true old now mid n a raises = record {
    mid = mid;
    raises = subst (λ l. RaisesMarks cut may_count l mid) (a.first refl).0 raises;
    rounds = subst (Rounds steady pinned cut mid mid) (sym (a.first refl).1)
        (rounds-begin steady pinned cut mid);
  }
  up_to false old now mid n a raises = record {
    mid = a.mid;
    raises = a.raises;
    rounds = subst (λ l. Rounds steady pinned cut a.mid l n) (sym raises) a.rounds;
  }

  -- one more round, which met an unpinned item and no victim
  pub advance-goes_on : (takes_touches : Bool) (old now new : List (Item K V)) (n k : ℕ)
      → HaveAtMost cut old → Advancing steady pinned takes_touches cut may_count old now n
      → AfterTouches takes_touches cut may_count now
      (λ mid. EndsSomeUnpinned steady pinned mid new k)
      → Advancing steady pinned false cut may_count old new (n + k)
  advance-goes_on takes_touches old now new n k marks a round =
      let u = up_to takes_touches old now round.mid n a round.raises in
      record {
        mid = u.mid;
        raises = u.raises;
        rounds = rounds-go_on steady pinned cut u.mid round.mid new n k
            (HaveAtMost-raised cut may_count old u.mid u.raises marks) u.rounds round.holds;
        first = λ e. absurd (true≢false (sym e));
      }

  -- the last round, which stopped at the victim
  pub advance-stops : (takes_touches : Bool) (old now new : List (Item K V)) (n k : ℕ)
      → Advancing steady pinned takes_touches cut may_count old now n
      → AfterTouches takes_touches cut may_count now
      (λ mid. EndsAtVictim steady pinned mid new k)
      → AfterTouches true cut may_count old
      (λ mid. MeetsVictim steady pinned cut mid new (n + k))
  advance-stops takes_touches old now new n k a round =
      let u = up_to takes_touches old now round.mid n a round.raises in
      record {
        mid = u.mid;
        raises = u.raises;
        holds = record {
          is_met = λ s. rounds-stop steady pinned cut u.mid round.mid new n k u.rounds
              round.holds s;
          victim_first = rounds-reach steady pinned cut u.mid round.mid new n k u.rounds
              round.holds;
          within = visits-within steady pinned cut u.mid round.mid n k u.rounds
              (stopped-within steady pinned round.mid new k round.holds);
        };
      }

  -- the last round, which found each item pinned
  pub advance-gives_up : (takes_touches : Bool) (old now new : List (Item K V)) (n k : ℕ)
      → Advancing steady pinned takes_touches cut may_count old now n
      → AfterTouches takes_touches cut may_count now
      (λ mid. EndsAllPinned steady pinned mid new k)
      → AfterTouches true cut may_count old
      (λ mid. GivesUp steady pinned cut mid new (n + k))
  advance-gives_up takes_touches old now new n k a round =
      let u = up_to takes_touches old now round.mid n a round.raises in
      let many : k ≤ length round.mid = omega (arith, round.holds.0.counts) in
      record {
        mid = u.mid;
        raises = u.raises;
        holds = record {
          none_unpinned = λ s. rounds-give_up steady pinned cut u.mid round.mid new n k u.rounds
              round.holds s;
          is_lowered = rounds-lower steady pinned cut u.mid round.mid new n k u.rounds
              round.holds.0;
          within = visits-within steady pinned cut u.mid round.mid n k u.rounds many;
        };
      }

  -- the visits of a whole advance that met a victim
  pub MeetsVictim-within : (old new : List (Item K V)) (visits : ℕ)
      → AfterTouches true cut may_count old
      (λ mid. MeetsVictim steady pinned cut mid new visits)
      → visits ≤ (cut + 1) * length old
  MeetsVictim-within old new visits a =
      subst (λ m. visits ≤ (cut + 1) * m) (RaisesMarks-length cut may_count old a.mid a.raises)
      a.holds.within

  -- and of one that gave up
  pub GivesUp-within : (old new : List (Item K V)) (visits : ℕ)
      → AfterTouches true cut may_count old (λ mid. GivesUp steady pinned cut mid new visits)
      → visits ≤ (cut + 1) * length old
  GivesUp-within old new visits a =
      subst (λ m. visits ≤ (cut + 1) * m) (RaisesMarks-length cut may_count old a.mid a.raises)
      a.holds.within

module _ {K V : Type 0} (rules : Rules K V) where
  -- the victim is the one of the definition
  pub IsMet-victim : (old new : List (Item K V)) (visits : ℕ)
      → (met : IsMet rules.pinned old new visits)
      → IsFirstVictim rules met.before met.item met.after
  IsMet-victim old new visits met = record {
    unpinned = met.is_victim.unpinned;
    earlier = met.is_victim.earlier;
    later = met.is_victim.later;
  }

  -- it is taken out as the definition has it
  pub IsMet-taken : (old new rest : List (Item K V)) (taken : Item K V) (visits : ℕ)
      → (met : IsMet rules.pinned old new visits) → new ≡ taken ∷ rest
      → (taken ≡ lowered met.item.mark met.item)
      × (rest ≡ restarted_behind (map (lowered (met.item.mark + 1)) met.before)
      (map (lowered met.item.mark) met.after))
  IsMet-taken old new rest taken visits met is =
      let same = sym is ∙ met.turned in
      (cc, cc)

  -- an advance that met a victim, which then was taken out of the ring and met its fate
  pub AdvancesHot-met : (old : CacheState K V) (mid left rest : List (Item K V))
      (taken : Item K V) (visits : ℕ) (calls : List (HookCall K V)) (new : CacheState K V)
      → RaisesMarks old.mark_cut rules.may_count old.hot mid
      → IsMet rules.pinned mid left visits → left ≡ taken ∷ rest
      → EvictsVictim rules Queue.Hot (record old { hot = rest }) taken calls new
      → AdvancesHot rules old true calls new
  AdvancesHot-met old mid left rest taken visits calls new raised met is evicts =
      let t = IsMet-taken mid left rest taken visits met is in
      AdvancesHot.evicts mid met.before met.item met.after calls new raised met.split
      (IsMet-victim mid left visits met)
      (subst (λ i. EvictsVictim rules Queue.Hot (record old {
        hot = restarted_behind (map (lowered (met.item.mark + 1)) met.before)
            (map (lowered met.item.mark) met.after);
      }) i calls new) t.0
      (subst (λ l. EvictsVictim rules Queue.Hot (record old { hot = l }) taken calls new) t.1
      evicts))

  -- an advance that found each item pinned
  pub AdvancesHot-none : (old : CacheState K V) (mid left : List (Item K V)) (visits : ℕ)
      → RaisesMarks old.mark_cut rules.may_count old.hot mid
      → NoneUnpinned rules.pinned mid left visits
      → AdvancesHot rules old false [] (record old { hot = left })
  AdvancesHot-none old mid left visits raised none =
      subst (λ l. AdvancesHot rules old false [] (record old { hot = l })) (sym none.lowers)
      (AdvancesHot.all_pinned mid raised none.all_pinned)
