-- Where an item stands that a look-up found, which else makes a placeholder.
use Rattle.std.proofs.Common.{ℕ, Bool, Result, Ok, Err}
use Rattle.std.specs.Int.NonZero.{non_zero_u32_get as number}
use Rattle.std.specs.declared.num.NonZeroU32.{NonZeroU32 as Token}
use Rattle.quick_cache_model.specs.declared.refusal.Refusal.{Refusal}
use Rattle.quick_cache_model.specs.Lookups.{looked_up}
use Rattle.quick_cache_store.specs.Lists.{HeldItem}
use Rattle.quick_cache_policy.specs.declared.contents.Contents.{Contents}
use Rattle.quick_cache_policy.specs.Contents.{state_of, work_of}
use Rattle.quick_cache_policy.specs.Loading.{LooksUpOrMakes}
use Rattle.quick_cache_policy.specs.Places.{places_of}
use Rattle.quick_cache_shard.specs.Loading.{FindsToken}
use Rattle.quick_cache_shard.proofs.PlaceLemmas.{HasItem-place, HasItem-resident}

module _ {K V W P A T We B L : Type 0} (ticket_of : P → ℕ) (own_ticket : W → ℕ)
    (stands_for : K → Bool) (gives : K → Type 0) (hash : ℕ) (old new : Contents K V W A T P)
    (weigher : We) (builder : B) (lifecycle : L) where
  -- an item that was looked up stands at its token
  pub FindsToken-looked : (answer : Result (Result Token (W × Bool)) Refusal)
      → LooksUpOrMakes ticket_of own_ticket stands_for gives hash old answer new
      → FindsToken stands_for (record {
        state = state_of ticket_of new;
        places = places_of new.lists;
        weigher = weigher;
        builder = builder;
        lifecycle = lifecycle;
        room = new.lists.room;
        work = work_of new;
      }) answer
  FindsToken-looked (Ok (Ok token)) looks =
      let held : HeldItem K V = record {
        token = number token;
        hash = looks.now.0;
        item = looked_up old.mark_cut looks.item;
      } in
      record {
        item = looked_up old.mark_cut looks.item;
        stands = record {
          place = HasItem-place new.lists held looks.now.1;
          there = HasItem-resident new.lists held looks.now.1;
        };
        passes = looks.passes;
      }
  FindsToken-looked (Ok (Err begun)) made = tt
  FindsToken-looked (Err refusal) none = tt
