-- Answers, from what was loaded and from what was stored.
use Rattle.std.proofs.Common.{◌≡◌, ℕ, Bool, IsTrue, Option, Some, None, IfSome, Result, Ok, Err, IfOk, IfErr, ◌∙◌, refl, sym, subst, arith}
use Rattle.std.specs.Cmp.{IsEquivalence}
use denote.Ref.{Bor}
use denote.Param.Members.{Shared}
use Rattle.quick_cache_locked.specs.Fitting.{ClonesFit, FitsQuery}
use Rattle.quick_cache_guard.specs.Futures.{GivesFor}
use Rattle.quick_cache_model.specs.declared.refusal.Refusal.{Refusal}
use Rattle.quick_cache_expiring.specs.declared.loaded.Loaded.{Loaded}
use Rattle.read_through.specs.declared.given.Given.{Given}
use Rattle.quick_cache_expiring.specs.Moments.{Serves, IsFresh, IsWithin}
use Rattle.read_through.specs.Answers.{Answers, AnswersFor, AnswersLate, IsOf, GivesClones}
use Rattle.read_through.specs.Givens.{IfFresh, IfStale}
use Rattle.read_through.specs.Loads.{Loads, LoadsSome}

-- what is loaded now is fresh
pub IsFresh-own : (life now : ℕ) → IsFresh life now now
IsFresh-own life now = record { lives = λ above. omega (arith, above); own = λ _. refl }

-- so is what was stored and serves
pub IsFresh-stored : (life moment now : ℕ) → Serves life moment now → IsFresh life moment now
IsFresh-stored life moment now serves = record {
  lives = λ _. serves.1;
  own = λ zero. omega (arith, serves.0, zero);
}

-- what serves is within any grace
pub IsWithin-serves : (life grace moment now : ℕ) → Serves life moment now
    → IsWithin life grace moment now
IsWithin-serves life grace moment now serves = omega (arith, serves.1)

module _ {V E : Type 0} where
  -- where what is answered fresh is what was loaded, what is true of that is true of it
  pub IfFresh-loaded : (P : V → Type 0) (loaded : Result V E) → IfOk loaded P
      → (given : Result (Given V E) E) → IfFresh given (λ value. loaded ≡ Ok value)
      → IfFresh given P
  IfFresh-loaded P loaded holds (Ok (Given.Fresh value)) own = subst (λ it. IfOk it P) own holds
  IfFresh-loaded P loaded holds (Ok (Given.Stale value error)) own = tt
  IfFresh-loaded P loaded holds (Ok (Given.Unasked value)) own = tt
  IfFresh-loaded P loaded holds (Err error) own = tt

  -- where an older value is this one, what is true of that is true of it
  pub IfStale-own : (P : V → Type 0) (old : V) → P old → (given : Result (Given V E) E)
      → IfStale given (λ value. value ≡ old) → IfStale given P
  IfStale-own P old holds (Ok (Given.Fresh value)) own = tt
  IfStale-own P old holds (Ok (Given.Stale value error)) own = subst P (sym own) holds
  IfStale-own P old holds (Ok (Given.Unasked value)) own = subst P (sym own) holds
  IfStale-own P old holds (Err error) own = tt

  -- what a load gives is what a call of it may give
  pub IfOk-called : (may : Result V E → Type 0) (P : V → Type 0)
      → ((value : V) → may (Ok value) → P value) → (loaded : Result V E) → may loaded
      → IfOk loaded P
  IfOk-called may P loads (Ok value) called = loads value called
  IfOk-called may P loads (Err error) called = tt

module _ {K V : Type 0} (gives : K → ℕ → V → Type 0) (equal : K → K → Bool) (stands_for : K → Bool)
    (now : ℕ) where
  -- what is stored under a key that a query stands for, and serves, is an answer for the query
  pub AnswersFor-found : (life_of : V → ℕ → ℕ) (found : Loaded V)
      → FitsQuery (λ (key : K) (loaded : Loaded V).
      IsOf gives equal key loaded.moment loaded.value) stands_for found
      → Serves (life_of found.value found.moment) found.moment now
      → AnswersFor gives equal stands_for life_of now found.value
  AnswersFor-found life_of found fits serves = record {
    key = fits.key;
    stands = fits.stands;
    answers = record {
      moment = found.moment;
      source = fits.fits_key;
      fresh = IsFresh-stored (life_of found.value found.moment) found.moment now serves;
    };
  }

  -- so is what is answered for such a key, whose values live as long
  pub AnswersFor-key : (key : K) → IsTrue (stands_for key) → (own life_of : V → ℕ → ℕ)
      → ((value : V) (moment : ℕ) → own value moment ≡ life_of value moment)
      → {E : Type 0} (answer : Result V E) → IfOk answer (Answers gives equal key own now)
      → IfOk answer (AnswersFor gives equal stands_for life_of now)
  AnswersFor-key key stands own life_of alike (Ok value) answers = record {
    key = key;
    stands = stands;
    answers = record {
      moment = answers.moment;
      source = answers.source;
      fresh = subst (λ life. IsFresh life answers.moment now) (alike value answers.moment)
          answers.fresh;
    };
  }
  AnswersFor-key key stands own life_of alike (Err error) answers = tt

  -- the same where the load may fail
  pub AnswersFor-tried : (key : K) → IsTrue (stands_for key) → (own life_of : V → ℕ → ℕ)
      → ((value : V) (moment : ℕ) → own value moment ≡ life_of value moment)
      → {E : Type 0} (answer : Result (Result V E) Refusal)
      → IfOk answer (λ loaded. IfOk loaded (Answers gives equal key own now))
      → IfOk answer (λ loaded. IfOk loaded (AnswersFor gives equal stands_for life_of now))
  AnswersFor-tried key stands own life_of alike (Ok loaded) answers =
      AnswersFor-key key stands own life_of alike loaded answers
  AnswersFor-tried key stands own life_of alike (Err refusal) answers = tt

-- an error of one of these keys is of some of them
pub LoadsSome-tried : {F K V E : Type 0} (calls : Shared F (Bor K × (ℕ × Unit {0})) (Result V E))
    (loader : F) (may : K → Type 0) (now : ℕ) (key : K) → may key
    → (answer : Result (Result V E) Refusal)
    → IfOk answer (λ loaded. IfErr loaded (λ error. Loads calls loader key now (Err error)))
    → IfOk answer (λ loaded. IfErr loaded (λ error. LoadsSome calls loader may now (Err error)))
LoadsSome-tried calls loader may now key is (Ok (Ok value)) loads = tt
LoadsSome-tried calls loader may now key is (Ok (Err error)) loads =
    record { key = key; is = is; loads = loads }
LoadsSome-tried calls loader may now key is (Err refusal) loads = tt

module _ {K V : Type 0} (gives : K → ℕ → V → Type 0) (equal : K → K → Bool)
    (laws : IsEquivalence equal) where
  -- and its value for one is its value for an equal one
  pub IsOf-same : (asked key : K) (moment : ℕ) (value : V) → IsTrue (equal asked key)
      → IsOf gives equal key moment value → IsOf gives equal asked moment value
  IsOf-same asked key moment value same source = record {
    key = source.key;
    same = laws.congr asked key source.key same ∙ source.same;
    gave = source.gave;
  }

  -- so what is found and fits a key that is equal is the source's
  pub IfSome-fits : (asked : K) (found : Option (Loaded V))
      → IfSome found (FitsQuery (λ (key : K) (loaded : Loaded V).
      IsOf gives equal key loaded.moment loaded.value) (equal asked))
      → IfSome found (λ loaded. IsOf gives equal asked loaded.moment loaded.value)
  IfSome-fits asked None fits = tt
  IfSome-fits asked (Some loaded) fits =
      IsOf-same asked fits.key loaded.moment loaded.value fits.stands fits.fits_key

  -- so a key for which another answers that is equal is answered likewise
  pub Answers-for : (asked : K) (life_of : V → ℕ → ℕ) (now : ℕ) (value : V)
      → AnswersFor gives equal (equal asked) life_of now value
      → Answers gives equal asked life_of now value
  Answers-for asked life_of now value given = record {
    moment = given.answers.moment;
    source = IsOf-same asked given.key given.answers.moment value given.stands given.answers.source;
    fresh = given.answers.fresh;
  }

  -- a clone of what the source gives is what it gives
  pub IsOf-clone : (is_clone : V → V → Type 0) → GivesClones gives is_clone → (key : K)
      (moment : ℕ) (value clone : V) → is_clone value clone → IsOf gives equal key moment value
      → IsOf gives equal key moment clone
  IsOf-clone is_clone clones key moment value clone cloned source = record {
    key = source.key;
    same = source.same;
    gave = clones source.key moment value clone cloned source.gave;
  }

  -- so a clone of what is stored fits where that does
  pub ClonesFit-loaded : (is_clone : V → V → Type 0) → GivesClones gives is_clone
      → ClonesFit (λ (key : K) (loaded : Loaded V). IsOf gives equal key loaded.moment loaded.value)
      (λ old new. is_clone old.value new.value × (new.moment ≡ old.moment)
      × (new.asked ≡ old.asked))
  ClonesFit-loaded is_clone clones = λ key old new cloned fits.
      subst (λ moment. IsOf gives equal key moment new.value) (sym cloned.1)
      (IsOf-clone is_clone clones key old.moment old.value new.value cloned.0 fits)

  -- what a future found fits an equal key, so it is the source's
  pub IsOf-found : (is_clone : V → V → Type 0) → GivesClones gives is_clone → (asked : K)
      (becomes : K → Type 0) (told : Result (Result (Loaded V) K) Refusal) (found : Loaded V)
      → told ≡ Ok (Ok found)
      → GivesFor (λ (key : K) (loaded : Loaded V). IsOf gives equal key loaded.moment loaded.value)
      (λ old new. is_clone old.value new.value × (new.moment ≡ old.moment)
      × (new.asked ≡ old.asked)) (equal asked) becomes told
      → IsOf gives equal asked found.moment found.value
  IsOf-found is_clone clones asked becomes told found is given =
      let fits = subst (GivesFor (λ (key : K) (loaded : Loaded V).
      IsOf gives equal key loaded.moment loaded.value)
      (λ old new. is_clone old.value new.value × (new.moment ≡ old.moment)
      × (new.asked ≡ old.asked)) (equal asked) becomes) is given
      (ClonesFit-loaded is_clone clones) in
      IsOf-same asked fits.key found.moment found.value fits.stands fits.fits_key

  module _ (asked : K) (life_of : V → ℕ → ℕ) where
    -- what was loaded now for the key is an answer
    pub Answers-own : (now : ℕ) (value : V) → gives asked now value
        → Answers gives equal asked life_of now value
    Answers-own now value gave = record {
      moment = now;
      source = record { key = asked; same = laws.refl asked; gave = gave };
      fresh = IsFresh-own (life_of value now) now;
    }

    -- so where a load gives a value, it is an answer, by what a call of the load may give
    pub Answers-called : {E : Type 0} (now : ℕ) (may : Result V E → Type 0)
        → ((value : V) → may (Ok value) → gives asked now value) → (loaded : Result V E)
        → may loaded → IfOk loaded (Answers gives equal asked life_of now)
    Answers-called now may loads (Ok value) called = Answers-own now value (loads value called)
    Answers-called now may loads (Err error) called = tt

    -- so is what is stored under an equal key, and serves
    pub Answers-found : (key : K) (moment now : ℕ) (value : V) → IsTrue (equal asked key)
        → IsOf gives equal key moment value → Serves (life_of value moment) moment now
        → Answers gives equal asked life_of now value
    Answers-found key moment now value same source serves = record {
      moment = moment;
      source = IsOf-same asked key moment value same source;
      fresh = IsFresh-stored (life_of value moment) moment now serves;
    }

    -- it is within any grace, too
    pub AnswersLate-found : (key : K) (grace moment now : ℕ) (value : V)
        → IsTrue (equal asked key) → IsOf gives equal key moment value
        → Serves (life_of value moment) moment now
        → AnswersLate gives equal asked life_of grace now value
    AnswersLate-found key grace moment now value same source serves = record {
      moment = moment;
      source = IsOf-same asked key moment value same source;
      within = IsWithin-serves (life_of value moment) grace moment now serves;
    }

    -- and a clone of what is stored and serves is an answer, since it lives as long
    pub Answers-stored : (is_clone : V → V → Type 0) → GivesClones gives is_clone
        → (key : K) (moment now : ℕ) (value clone : V) → IsTrue (equal asked key)
        → IsOf gives equal key moment value → Serves (life_of value moment) moment now
        → life_of clone moment ≡ life_of value moment
        → is_clone value clone → Answers gives equal asked life_of now clone
    Answers-stored is_clone clones key moment now value clone same source serves lives cloned =
        Answers-found key moment now clone same (IsOf-clone is_clone clones key moment value
        clone cloned source) (subst (λ life. Serves life moment now) (sym lives) serves)
