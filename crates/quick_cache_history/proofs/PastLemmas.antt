-- What a step tells of a shard whose calls are known.
use Rattle.std.proofs.Common.{◌≡◌, ◌<◌, ◌+◌, ℕ, true, List, [], ◌∷◌, ◌++◌, length, ap, sym, ◌∙◌, arith, length-append}
use mathlib.Core.List.{IsPrefix}
use Rattle.quick_cache_history.specs.declared.entry.Entry.{Entry}
use Rattle.quick_cache_history.specs.Histories.{shards_in, first_in, is_of, calls_of}
use Rattle.quick_cache_history.specs.Laws.{AddsBehind}
use Rattle.quick_cache_history.proofs.PrefixLemmas.{prefix-trans}
use Rattle.quick_cache_history.proofs.CountLemmas.{shards_in-longer, first_in-longer, calls_of-same, calls_of-push}

module _ {K V : Type 0} (shard calls : ℕ) (past : List (Entry K V))
    (count : calls ≡ length (calls_of shard past)) (within : shard < shards_in past) where
  module _ (turn : ℕ) (entry : Entry K V) (own : is_of shard entry ≡ true) (new : List (Entry K V))
      (behind : AddsBehind shard calls turn entry past new) where
    longer : IsPrefix past new
    longer = prefix-trans past behind.before new behind.longer (entry ∷ [], sym behind.ends)

    -- there is no other call of the shard since
    pub AddsBehind-calls : calls_of shard new ≡ calls_of shard past ++ entry ∷ []
    AddsBehind-calls =
        ap (calls_of shard) behind.ends ∙ calls_of-push shard behind.before entry own
        ∙ ap (λ calls. calls ++ entry ∷ [])
        (calls_of-same shard past behind.before behind.longer (omega (arith, count, behind.count)))

    -- so one more is counted
    pub AddsBehind-count : calls + 1 ≡ length (calls_of shard new)
    AddsBehind-count = omega (
      arith,
      count,
      ap length AddsBehind-calls,
      length-append (calls_of shard past) (entry ∷ []),
    )

    -- of a shard of the same cache
    pub AddsBehind-shards : shard < shards_in new
    AddsBehind-shards = omega (arith, within, shards_in-longer shard past new longer within)

    pub AddsBehind-first : first_in new ≡ first_in past
    AddsBehind-first = first_in-longer shard past new longer within

  module _ (both new : List (Entry K V)) (its : IsPrefix past both) (more : IsPrefix both new) where
    -- where as many calls are found, there are no others
    pub same-calls : calls ≡ length (calls_of shard new)
        → calls_of shard new ≡ calls_of shard past
    same-calls same = calls_of-same shard past new (prefix-trans past both new its more)
        (omega (arith, count, same))

    pub same-first : first_in new ≡ first_in past
    same-first = first_in-longer shard past new (prefix-trans past both new its more) within
