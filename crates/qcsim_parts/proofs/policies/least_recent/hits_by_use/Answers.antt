use Rattle.std.proofs.Common.{rules, sym, ap, ◌∙◌, is_some}
use Rattle.std.specs.Map.{keys_of}
use Rattle.lru.specs.LruCache.{LruCache}
use Rattle.qcsim_parts.specs.Policies.{by_use}
use Rattle.qcsim_parts.proofs.CountLemmas.{hit, miss}
use Rattle.qcsim_parts.proofs.ListLemmas.{holds-keys_of, by_use-put_entries}
use Rattle.qcsim_parts.proofs.policies.least_recent.hits_by_use.Goals as goal

pub loop-key-preserved-in-Ok-Some : goal.loop-key-preserved-in-Ok-Some
loop-key-preserved-in-Ok-Some c =
    let put = c.in-Ok-Some.ensures.entries in
    hit by_use _ _ c.loop-key.cache c.put.new.self _ c.in-Some.key.now c.loop-key.rest.now
    c.in-Some.tail.now (search rules)
    (sym (holds-keys_of c.in-Some.key.now c.loop-key.cache.entries)
    ∙ ap is_some (sym c.in-Ok-Some.ensures.old ∙ c.in-Ok-Some.field-0-is))
    (ap (λ (cache : LruCache _ _). cache.cap) put)
    (ap (λ (cache : LruCache _ _). keys_of cache.entries) put
    ∙ by_use-put_entries c.loop-key.cache c.in-Some.key.now
    ∙ ap (λ n. by_use n (keys_of c.loop-key.cache.entries) c.in-Some.key.now)
    c.loop-key.invariant.0)
    c.loop-key.invariant

pub loop-key-preserved : goal.loop-key-preserved
loop-key-preserved c =
    let put = c.in-Ok-None.ensures.entries in
    miss by_use _ _ c.loop-key.cache c.put.new.self _ c.in-Some.key.now c.loop-key.rest.now
    c.in-Some.tail.now (search rules)
    (sym (holds-keys_of c.in-Some.key.now c.loop-key.cache.entries)
    ∙ ap is_some (sym c.in-Ok-None.ensures.old ∙ c.in-Ok-None.field-0-is))
    (ap (λ (cache : LruCache _ _). cache.cap) put)
    (ap (λ (cache : LruCache _ _). keys_of cache.entries) put
    ∙ by_use-put_entries c.loop-key.cache c.in-Some.key.now
    ∙ ap (λ n. by_use n (keys_of c.loop-key.cache.entries) c.in-Some.key.now)
    c.loop-key.invariant.0)
    c.loop-key.invariant
