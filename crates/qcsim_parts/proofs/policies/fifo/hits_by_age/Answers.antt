use Rattle.std.proofs.Common.{rules, ◌≡◌, false, sym, ap, ◌∙◌, nat_eq, refl}
use Rattle.std.specs.Map.{keys_of}
use Rattle.lru.specs.LruCache.{LruCache, lru_cache, put_entries}
use Rattle.qcsim_parts.specs.Policies.{by_age, holds}
use Rattle.qcsim_parts.proofs.CountLemmas.{hit, miss}
use Rattle.qcsim_parts.proofs.ListLemmas.{holds-keys_of, by_age-put_entries, by_age-held}
use Rattle.qcsim_parts.proofs.policies.fifo.hits_by_age.Goals as goal

pub loop-key-preserved-then-contains : goal.loop-key-preserved-then-contains
loop-key-preserved-then-contains c =
    let there =
    sym (holds-keys_of c.in-Some.key.now c.loop-key.cache.entries) ∙ sym c.contains.ensures
    ∙ c.if-contains.true in
    hit by_age _ _ c.loop-key.cache c.loop-key.cache _ c.in-Some.key.now c.loop-key.rest.now
    c.in-Some.tail.now (search rules) there refl (by_age-held _ _ c.in-Some.key.now there)
    c.loop-key.invariant

pub loop-key-preserved : goal.loop-key-preserved
loop-key-preserved c =
    let put : c.put.new.self
    ≡ lru_cache (put_entries nat_eq c.loop-key.cache c.in-Some.key.now tt)
    c.loop-key.cache.cap = search rules in
    let absent : holds c.in-Some.key.now (keys_of c.loop-key.cache.entries) ≡ false =
    sym (holds-keys_of c.in-Some.key.now c.loop-key.cache.entries) ∙ sym c.contains.ensures
    ∙ c.if-contains.false in
    miss by_age _ _ c.loop-key.cache c.put.new.self _ c.in-Some.key.now c.loop-key.rest.now
    c.in-Some.tail.now (search rules) absent
    (ap (λ (cache : LruCache _ _). cache.cap) put)
    (ap (λ (cache : LruCache _ _). keys_of cache.entries) put
    ∙ by_age-put_entries c.loop-key.cache c.in-Some.key.now absent
    ∙ ap (λ n. by_age n (keys_of c.loop-key.cache.entries) c.in-Some.key.now)
    c.loop-key.invariant.0)
    c.loop-key.invariant
