-- Of states that are the same but for the order of what has none, each is valid where one is.
use Rattle.std.proofs.Common.{◌<◌, ◌==◌, Bool, cond, sym, subst, arith}
use Rattle.std.proofs.lemmas.List.Sorted.{sum_by-IsPermutation}
use Rattle.quick_cache_model.specs.CacheState.{CacheState, Item, LoadingEntry, IsStillItem, IsValid, SameButOrder}
use Rattle.quick_cache_model.proofs.EachElement.{all-permutation}
use Rattle.quick_cache_model.proofs.Valid.States.{IsValid-parts}

module _ {K V : Type 0} where
  -- a state that is the same but for the order is valid where the other is
  pub SameButOrder-valid : (equal : K → K → Bool) (old new : CacheState K V) → SameButOrder old new
      → IsValid equal old → IsValid equal new
  SameButOrder-valid equal old new order valid =
      subst (λ (s : CacheState K V). IsValid equal s) (sym order.same)
      (IsValid-parts equal (record old { still = new.still; loading = new.loading })
      (λ k. let was = valid.one_entry_a_key k in
      omega (
        arith,
        was,
        sum_by-IsPermutation (λ (item : Item K V). cond (equal k item.key) 1 0)
            old.still new.still order.still,
        sum_by-IsPermutation (λ (entry : LoadingEntry K). cond (equal k entry.key) 1 0)
            old.loading new.loading order.loading,
      ))
      (record {
        one_entry = λ n. let was = valid.one_entry_a_ticket n in
            omega (
              arith,
              was,
              sum_by-IsPermutation
                  (λ (entry : LoadingEntry K). cond (entry.ticket == n) 1 0)
                  old.loading new.loading order.loading,
            );
        given = all-permutation (λ (entry : LoadingEntry K). entry.ticket < old.next_ticket)
            old.loading new.loading order.loading valid.tickets_given;
      })
      valid.ghosts_within
      (record {
        in_hot = valid.in_hot;
        in_cold = valid.in_cold;
        in_still =
            all-permutation (IsStillItem old.mark_cut) old.still new.still order.still
            valid.in_still;
      }))
