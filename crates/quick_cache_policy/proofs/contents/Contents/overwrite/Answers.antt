use Rattle.std.proofs.Common.{◌≡◌, ◌≤◌, [], ◌∷◌, refl, sym, ap, subst, ◌∙◌, arith, inl, inr}
use Rattle.std.specs.Int.NonZero.{non_zero_u32_get as number}
use Rattle.quick_cache_model.specs.declared.queue.Queue.{Queue}
use Rattle.quick_cache_model.specs.CacheState.{Item}
use Rattle.quick_cache_model.specs.Hooks.{RunsHooks, evicted}
use Rattle.quick_cache_model.specs.Touches.{raised_by}
use Rattle.quick_cache_model.specs.Writes.{mark_after}
use Rattle.quick_cache_model.proofs.HookLaws.{RunsHooks-append}
use Rattle.quick_cache_model.proofs.Valid.Writes.{mark_after-le}
use Rattle.quick_cache_model.specs.Removal.{pair_of}
use Rattle.quick_cache_store.specs.Lists.{Finds, Rewrites, HasItemToken, IsItemOf}
use Rattle.quick_cache_store.specs.declared.lists.found.Found.{Found}
use Rattle.quick_cache_policy.specs.Contents.{state_of}
use Rattle.quick_cache_policy.specs.Policies.{rules_by}
use Rattle.quick_cache_policy.specs.Writing.{AreAdmittedCalls, IsReplacement, strategy_of}
use Rattle.quick_cache_policy.proofs.RewriteLemmas.{over_item-same, over_item-writes, over_item-tells, over_item-sound, over_item-count}
use Rattle.quick_cache_policy.proofs.EnterLemmas.{Rewrites-room}
use Rattle.quick_cache_policy.proofs.BoundLemmas.{PaysFor-within}
use Rattle.quick_cache_policy.proofs.WrittenPlaces.{rewritten-places, one-place, HasItem-place}
use Rattle.quick_cache_policy.proofs.contents.Contents.overwrite.Goals as goal

-- the touches are taken from the item that was found
pub item-item-requires : goal.item-item-requires
item-item-requires g c =
    subst (λ l. HasItemToken l (number c.args.token)) (sym c.take_touch-touches.ensures.same)
    (_, c.requires.found.stands, refl)

pub rewrite-requires : goal.rewrite-requires
rewrite-requires g c = (
  c.item-item.result,
  c.item-item.ensures,
  sym (ap (λ (i : Item _ _). i.queue) c.new-item.ensures ∙ c.queue-queue.ensures),
)

-- the lists are sound once the pair stands in the item's place
pub evict_to_capacity-requires : goal.evict_to_capacity-requires
evict_to_capacity-requires g c =
    let rules = rules_by g.M.Policy g.P.Touch.Touches.may_count c.args.terms.now in
    let key = c.args.key in
    let lists = c.args.self.now.lists in
    let token = number c.args.token in
    let strategy = strategy_of c.args.strategy in
    let item = c.item-item.result in
    let touched = c.min-touched.result in
    let was = c.rewrite.result in
    let found = subst (λ h. Finds (g.K.PartialEq.eq key) h lists (Found.Item c.args.token))
    c.requires.hash_is c.requires.found in
    let rewrites = subst (λ l. Rewrites l token c.new-item.result was c.rewrite.new.self)
    c.take_touch-touches.ensures.same c.rewrite.ensures in
    let is = subst (λ l. IsItemOf l token item) c.take_touch-touches.ensures.same
    c.item-item.ensures in
    let same = over_item-same g.P.SharedPlaceholder.ticket_of c.args.self.now
    c.facts.ensures.apart g.K.PartialEq.eq rules key token found c.new-item.result was
    c.rewrite.new.self rewrites item is in
    let few : touched ≤ c.args.self.now.mark_cut = omega (arith, c.min-touched.ensures, c.from-2.ensures) in
    record {
      sound = over_item-sound g.P.SharedPlaceholder.ticket_of c.args.self.now
          c.facts.ensures.apart g.K.PartialEq.eq rules key token found c.new-item.result was
          c.rewrite.new.self rewrites g.met.K.Eq.laws
          (ap (λ (i : Item _ _). i.key) c.new-item.ensures)
          (ap (λ (i : Item _ _). i.queue) c.new-item.ensures ∙ c.queue-queue.ensures
          ∙ ap (λ (i : Item _ _). i.queue) same)
          (subst (λ m. m ≤ c.args.self.now.mark_cut)
          (sym (ap (λ (i : Item _ _). i.mark) c.new-item.ensures ∙ c.mark_after-mark.ensures))
          (mark_after-le c.args.self.now.mark_cut strategy touched few)) c.requires.sound;
    }

pub returns-clause-writes : goal.returns-clause-writes
returns-clause-writes g c =
    let rules = rules_by g.M.Policy g.P.Touch.Touches.may_count c.args.terms.now in
    let key = c.args.key in
    let value = c.args.weighed.value in
    let lists = c.args.self.now.lists in
    let token = number c.args.token in
    let strategy = strategy_of c.args.strategy in
    let item = c.item-item.result in
    let n = c.take_touch-touches.result in
    let was = c.rewrite.result in
    let found = subst (λ h. Finds (g.K.PartialEq.eq key) h lists (Found.Item c.args.token))
    c.requires.hash_is c.requires.found in
    let rewrites = subst (λ l. Rewrites l token c.new-item.result was c.rewrite.new.self)
    c.take_touch-touches.ensures.same c.rewrite.ensures in
    let is = subst (λ l. IsItemOf l token item) c.take_touch-touches.ensures.same
    c.item-item.ensures in
    let same = over_item-same g.P.SharedPlaceholder.ticket_of c.args.self.now
    c.facts.ensures.apart g.K.PartialEq.eq rules key token found c.new-item.result was
    c.rewrite.new.self rewrites item is in
    let cut = c.args.self.now.mark_cut in
    let touched : c.min-touched.result ≡ raised_by cut n item.mark =
    omega (
      arith,
      c.min-touched.ensures,
      c.saturating_add.ensures,
      c.from.ensures,
      c.from-2.ensures,
      c.mark.ensures,
    ) in
    let mark : c.mark_after-mark.result ≡ mark_after cut strategy (raised_by cut n was.mark) =
    c.mark_after-mark.ensures
    ∙ ap (λ m. mark_after cut strategy m) touched
    ∙ ap (λ (i : Item g.row.K.Denot g.row.V.Denot). mark_after cut strategy (raised_by cut n i.mark))
    same in
    let queue : c.queue-queue.result ≡ was.queue = c.queue-queue.ensures
    ∙ ap (λ (i : Item g.row.K.Denot g.row.V.Denot). i.queue) same in
    let hooks = g.M.Policy.hooks c.args.terms.now in
    let told : RunsHooks hooks (evicted was.queue was.key was.value ∷ []) c.args.state.now
    c.report.new.state =
    subst (λ (b : Queue × (g.row.K.Denot × g.row.V.Denot)). RunsHooks hooks
    (evicted b.0 b.1.0 b.1.1 ∷ []) c.args.state.now c.report.new.state)
    (λ j. (queue j, c.into_pair-old_key.ensures j)) c.report.ensures in
    let evicts = c.evict_to_capacity.ensures.evicts in
    record {
      calls = evicted was.queue was.key was.value ∷ evicts.calls;
      holds = (
        λ steady. over_item-writes g.P.SharedPlaceholder.ticket_of c.args.self.now
            c.facts.ensures.apart g.K.PartialEq.eq rules key token found c.new-item.result was
            c.rewrite.new.self rewrites c.requires.sound value strategy n
            c.take_touch-touches.ensures.counted
            (c.new-item.ensures ∙ (λ j. record c.new-item.result {
              key = key;
              value = value;
              weight = c.requires.weight_is j;
              mark = mark j;
              reads = 0;
              queue = queue j;
            })) _ evicts.calls (evicts.holds.0 steady),
        AreAdmittedCalls.writes (evicted was.queue was.key was.value ∷ []) evicts.calls
            (IsReplacement.one was.queue was.key was.value) evicts.holds.1,
        over_item-tells g.P.SharedPlaceholder.ticket_of c.args.self.now c.facts.ensures.apart
            g.K.PartialEq.eq rules key token found c.new-item.result was c.rewrite.new.self rewrites
            value (ap pair_of c.new-item.ensures)
            (state_of g.P.SharedPlaceholder.ticket_of c.evict_to_capacity.new.self)
            evicts.calls evicts.holds.2,
      );
      runs = RunsHooks-append hooks (evicted was.queue was.key was.value ∷ []) evicts.calls
          c.args.state.now c.report.new.state c.evict_to_capacity.new.state told evicts.runs;
    }

-- the item under the key stood at the token
pub returns-clause-stays : goal.returns-clause-stays
returns-clause-stays g c =
    let rules = rules_by g.M.Policy g.P.Touch.Touches.may_count c.args.terms.now in
    let key = c.args.key in
    let lists = c.args.self.now.lists in
    let token = number c.args.token in
    let was = c.rewrite.result in
    let found = c.requires.found in
    let finds = subst (λ h. Finds (g.K.PartialEq.eq key) h lists (Found.Item c.args.token))
    c.requires.hash_is found in
    let rewrites = subst (λ l. Rewrites l token c.new-item.result was c.rewrite.new.self)
    c.take_touch-touches.ensures.same c.rewrite.ensures in
    record {
      sound = c.evict_to_capacity.ensures.stays.sound;
      places = λ place there. elim (rewritten-places lists c.rewrite.new.self token
          c.new-item.result was rewrites
          place (c.evict_to_capacity.ensures.stays.places place there)) [
            | inl stood ↦ inl stood
            | inr made ↦ inr (
              ap (λ p. p.1) made ∙ ap (λ (i : Item _ _). i.key) c.new-item.ensures,
              λ other also same. ap (λ p. p.0)
                  (one-place g.P.SharedPlaceholder.ticket_of c.args.self.now g.K.PartialEq.eq
                  c.requires.sound.valid key other (token, found.item.key) also
                  (HasItem-place lists
                  (record { token = token; hash = c.args.hash; item = found.item }) found.stands)
                  same found.passes)
                  ∙ sym (ap (λ p. p.0) made),
            )
          ];
      room = omega (
        arith,
        Rewrites-room lists c.rewrite.new.self token c.new-item.result was
            rewrites,
      );
      work = PaysFor-within _ _ _ _ _ _ _ _
          (over_item-count g.P.SharedPlaceholder.ticket_of c.args.self.now c.facts.ensures.apart
          g.K.PartialEq.eq rules key token finds c.new-item.result was c.rewrite.new.self rewrites)
          c.evict_to_capacity.ensures.stays.work;
      same = c.evict_to_capacity.ensures.stays.same;
    }
