-- What the callbacks told that claim an entry or renew it.
use Rattle.std.proofs.Common.{◌≡◌, ℕ, Bool, true, false, IsTrue, Option, Some, None, IfSome, ap, subst, sym, ◌∙◌}
use denote.Ref.{Bor, MutBor}
use denote.Param.Members.{Once}
use Rattle.quick_cache_model.specs.declared.calls.entry.EntryAction.{EntryAction}
use Rattle.quick_cache_guard.specs.Acts.{LeavesOnce, MayTell}
use Rattle.quick_cache_expiring.specs.declared.loaded.Loaded.{Loaded}
use Rattle.read_through.specs.Answers.{GivesClones, IsOf}
use Rattle.read_through.specs.Renewals.{ChoosesToClaim, ChoosesToRenew, Claims, IsClaimed, IsDueBy, Renews}
use Rattle.read_through.specs.declared.pace.Pace.{Pace}

-- what it told to be claimed was due
pub Claims-told : {F K V : Type 0}
    (calls : Once F (Bor K × (MutBor (Loaded V) × Unit {0}))
    (EntryAction (Option ℕ) × (MutBor (Loaded V) × Unit {0})))
    (fits : K → Loaded V → Type 0) (test : K → Bool) (callback : F) (pace : Pace)
    (now : ℕ) (claimed : Option ℕ) (told : MayTell (LeavesOnce calls callback) fits test claimed)
    → ChoosesToClaim pace now told.called.shown.now (EntryAction.Retain claimed)
    told.called.left_by.now
    → IfSome claimed (Claims fits test pace now)
Claims-told calls fits test callback pace now (Some moment) told chosen = record {
  was = told.value;
  due = subst (IsDueBy pace now) told.called.shows.1 chosen.0;
  of = chosen.1 ∙ ap (λ (loaded : Loaded _). loaded.moment) told.called.shows.1;
  fits_query = record { key = told.key; stands = told.stands; fits_key = told.fits_key };
}
Claims-told calls fits test callback pace now None told chosen = tt

-- what it told to be renewed was what was claimed
pub Renews-told : {F K V : Type 0}
    (calls : Once F (Bor K × (MutBor (Loaded V) × Unit {0}))
    (EntryAction Bool × (MutBor (Loaded V) × Unit {0})))
    (fits : K → Loaded V → Type 0) (test : K → Bool) (callback : F) (is_clone : V → V → Type 0)
    (claimed now : ℕ) (value : V) (renewed : Bool)
    (told : MayTell (LeavesOnce calls callback) fits test renewed)
    → ChoosesToRenew is_clone claimed now value told.called.shown.now (EntryAction.Retain renewed)
    told.called.left_by.now
    → IsTrue renewed → Renews fits test is_clone claimed now value
Renews-told calls fits test callback is_clone claimed now value true told chosen so = record {
  was = told.value;
  left = told.called.left_by.now;
  claimed_then = subst (IsClaimed claimed now) told.called.shows.1 chosen.0;
  loaded_now = chosen.1;
  fits_query = record { key = told.key; stands = told.stands; fits_key = told.fits_key };
}
Renews-told calls fits test callback is_clone claimed now value false told chosen so =
    let never : false ≡ true = so in absurd cc

-- what a renewal leaves is the source's, as what it was shown was
pub renewed-source : {K V : Type 0} (gives : K → ℕ → V → Type 0) (equal : K → K → Bool)
    (is_clone : V → V → Type 0) (asked : K) (claimed now : ℕ) (loaded : V)
    → GivesClones gives is_clone → gives asked now loaded → (key : K) → IsTrue (equal key asked)
    → (old new : Loaded V) (action : EntryAction Bool)
    → ChoosesToRenew is_clone claimed now loaded old action new
    → IsOf gives equal key old.moment old.value → IsOf gives equal key new.moment new.value
renewed-source gives equal is_clone asked claimed now loaded clones gave key same old new
    (EntryAction.Retain true) chosen source = record {
      key = asked;
      same = same;
      gave = subst (λ moment. gives asked moment new.value) (sym chosen.1.1)
          (clones asked now loaded new.value chosen.1.0 gave);
    }
renewed-source gives equal is_clone asked claimed now loaded clones gave key same old new
    (EntryAction.Retain false) chosen source =
    subst (λ (it : Loaded _). IsOf gives equal key it.moment it.value) (sym chosen) source
renewed-source gives equal is_clone asked claimed now loaded clones gave key same old new
    EntryAction.Remove
    chosen source = absurd chosen
renewed-source gives equal is_clone asked claimed now loaded clones gave key same old new
    EntryAction.ReplaceWithGuard
    chosen source = absurd chosen
