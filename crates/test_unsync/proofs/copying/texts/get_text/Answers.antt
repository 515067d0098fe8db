use Rattle.std.proofs.Common.{◌≡◌, Some, ◌∷◌, [], ◌∙◌, ap, sym, ◌++◌, true, string_eq, option_to_list}
use Rattle.quick_cache_model.specs.declared.calls.call.Call.{Call}
use Rattle.quick_cache_model.specs.declared.calls.reply.Reply.{Reply}
use Rattle.std.specs.Vec.Iter.{into_iter_items}
use Rattle.test_unsync.proofs.ShownLemmas.{run-shows, one_look_asks}
use Rattle.test_unsync.proofs.copying.texts.get_text.Goals as goal

-- the one reply is to the look-up
pub returns-in-Some-Value : goal.returns-in-Some-Value
returns-in-Some-Value c =
    let one : c.push.new.self.items ≡ Call.Get c.args.key ∷ [] =
    c.in-Ok.ensures.items ∙ ap (λ xs. xs ++ Call.Get c.args.key ∷ []) c.new-calls.ensures.items in
    let told : c.next.result ≡ Some (Reply.Value c.in-Some-Value.text) = c.in-Some-Value.is
    ∙ ap Some c.in-Some-Value.field-0-is in
    run-shows _ string_eq _ _ _ c.args.cache.now.state
    (c.in-Ok-run.ensures.runs tt (λ asked key value. true)
    (one_look_asks _ _ c.args.key one)).steps c.args.key one
    c.in-Some-Value.text (into_iter_items c.next.new.self)
    (sym c.into_iter.ensures.rest ∙ (c.next.ensures.items
    ∙ ap (λ o. option_to_list o ++ into_iter_items c.next.new.self) told))
