-- Placeholders that are meant by their tickets.
use Rattle.std.proofs.Common.{◌≡◌, ℕ, Bool, true, false, sym, ap, ◌∙◌}
use Rattle.std.specs.List.{AllByRecursion}
use Rattle.quick_cache_model.specs.CacheState.{LoadingEntry}
use Rattle.quick_cache_store.specs.declared.slots.entry.Awaited.{Awaited}
use Rattle.quick_cache_store.specs.declared.slots.entry.Entry.{Entry}
use Rattle.quick_cache_store.specs.Lists.{HeldLoading, Lists, AreApart, IsAwaitedOf}
use Rattle.quick_cache_store.specs.Placeholders.{FindsPlaceholder, HasNoPlaceholder}
use Rattle.quick_cache_store.specs.Views.{loading_entry, loading_entries}
use Rattle.quick_cache_policy.proofs.FindLemmas.{each-image}
use Rattle.quick_cache_shard.specs.Loading.{MeansByTicket}
use Rattle.quick_cache_store.proofs.lists.StandingLemmas.{Standing, known_standing, StandsIn-loading}

module _ {K V P : Type 0} (ticket_of : P → ℕ) (means : P → Bool) (wanted : ℕ → Bool)
    (by_ticket : MeansByTicket ticket_of means wanted) (lists : Lists K V P) where
  -- where none is meant, none is wanted
  pub none-wanted : HasNoPlaceholder means lists
      → AllByRecursion (λ (entry : LoadingEntry K). wanted entry.ticket ≡ false)
      (loading_entries ticket_of lists.loading)
  none-wanted none =
      each-image (λ (waiting : HeldLoading K P). means waiting.placeholder ≡ false)
      (λ (entry : LoadingEntry K). wanted entry.ticket ≡ false) (loading_entry ticket_of)
      (λ waiting not. sym (by_ticket waiting.placeholder) ∙ not) lists.loading none

  -- what stands at the token of one that is meant has a ticket that is wanted
  pub found-wanted : AreApart lists → (token : ℕ) → FindsPlaceholder means lists token
      → (awaited : Awaited K P) → IsAwaitedOf lists token awaited
      → wanted (ticket_of awaited.placeholder) ≡ true
  found-wanted apart token finds awaited is =
      ap (λ placeholder. wanted (ticket_of placeholder)) (same (known_standing {T = P} lists apart
      (Standing.OfLoading finds.waiting) (StandsIn-loading lists finds.waiting finds.stands) token
      is.0 (Entry.Loading awaited) finds.named is.1))
      ∙ sym (by_ticket finds.waiting.placeholder) ∙ finds.passes
    where
      same : ◌≡◌ {A = Standing K V P} (Standing.OfLoading (record {
        token = token;
        hash = is.0;
        key = awaited.key;
        queue = awaited.queue;
        placeholder = awaited.placeholder;
      })) (Standing.OfLoading finds.waiting) → awaited.placeholder ≡ finds.waiting.placeholder
      same s = cc s
