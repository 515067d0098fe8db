use Rattle.std.proofs.Common.{◌≡◌, ℕ, false, Option, IfSome, refl, subst, sym}
use Rattle.quick_cache_expiring.specs.Lives.{lives}
use Rattle.quick_cache_listeners.specs.declared.causes.cause.Cause.{Cause}
use Rattle.quick_cache_listeners.specs.declared.causes.listener.Request.{Request}
use Rattle.promises.proofs.TakenLemmas.{TellsEach-over}
use Rattle.promises.proofs.alone.taken.hear_of_what_is_over.Goals as goal

-- what was told last is an entry that was over, or nothing was told
pub returns : goal.returns
returns c =
    let is_over : Option (Cause × ℕ) → Type 0 =
    λ last. IfSome last (λ told. (told.0 ≡ Cause.Expired) × (lives told.1 c.args.now ≡ false)) in
    TellsEach-over _ c.args.now _ Cause.Expired
    (λ (heard : Request (Option (Cause × ℕ))). is_over heard.state)
    (λ old new key lasting over told. subst is_over (sym told.0) (refl, over))
    c.take_over.result c.args.heard.now c.tell_each_taken.new.state c.take_over.ensures.moment
    c.tell_each_taken.ensures.tells (subst is_over (sym c.requires.none) tt)
