use Rattle.std.proofs.Common.{refl, sym, subst}
use Rattle.quick_cache_store.specs.Shown.{ShowsStored}
use Rattle.quick_cache_store.specs.declared.slots.stored.StoredEntry.{StoredEntry}
use Rattle.quick_cache_store.proofs.slots.stored.StoredEntry.show.Goals as goal

-- the item that is stored was shown
pub returns : goal.returns
returns g c =
    subst (λ stored. ShowsStored g.F.FnMut c.args.callback.now stored c.callback.result
    c.callback.new.self
    (StoredEntry.Item c.in-Item.field-0 (record c.in-Item.body { value = c.callback.new.arg3 })))
    (sym c.in-Item.is)
    (record {
      left = c.callback.new.arg3;
      called = record {
        shown_key = _;
        shown = _;
        shows = (refl, refl);
        left_by = _;
        called = c.callback.ensures;
        leaves = refl;
      };
      rest = refl;
    })
