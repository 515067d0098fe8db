use Rattle.std.proofs.Common.{◌≡◌, ℕ, ◌∙◌, sym, subst, is_some}
use Rattle.quick_cache_model.specs.CacheState.{UpToOrder}
use Rattle.quick_cache_model.specs.Hashing.{hash_of}
use Rattle.quick_cache_model.specs.Removal.{Removes}
use Rattle.promises.proofs.alone.one_thread.remove_twice.Goals as goal

-- the first removal changed no builder, so both look under one hash
pub returns : goal.returns
returns g c =
    let equal = g.K.PartialEq.eq c.args.key.now in
    let hash : g.row.B.Denot → ℕ = λ builder. hash_of g.B.BuildHasher g.B.Hasher.Hasher builder
    (g.K.Hash.hash_input c.args.key.now) in
    let built : c.remove.new.self.builder ≡ c.args.cache.now.builder =
    λ i. (c.remove.ensures.same i).builder in
    let again = subst
    (λ builder. UpToOrder (λ state. Removes equal c.remove.new.self.state (hash builder)
    c.remove-2.result state) c.remove-2.new.self.state)
    built c.remove-2.ensures.removes in
    c.is_some.ensures ∙ (λ i. is_some (c.removal_law.ensures.again equal
    (hash c.args.cache.now.builder) c.args.cache.now.state c.remove.new.self.state
    c.remove-2.new.self.state c.remove.result c.remove-2.result
    (λ first second stands also. sym (g.met.K.Eq.laws.congr c.args.key.now first second stands) ∙ also)
    c.peek.ensures.sound.valid c.remove.ensures.removes again i))
