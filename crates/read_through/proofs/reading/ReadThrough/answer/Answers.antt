use Rattle.std.proofs.Common.{refl, subst}
use Rattle.read_through.specs.Answers.{Answers, AnswersLate}
use Rattle.quick_cache_expiring.specs.Moments.{IsWithin, Serves}
use Rattle.read_through.proofs.AnswerLemmas.{Answers-called, Answers-found, AnswersLate-found, ClonesFit-loaded, IfFresh-loaded, IfStale-own, IsOf-same}
use Rattle.read_through.proofs.reading.ReadThrough.answer.Goals as goal

-- what was found under an equal key is within the grace
pub answer_late-requires-clause-late : goal.answer_late-requires-clause-late
answer_late-requires-clause-late g c =
    let fits = c.in-Value.ensures.fits (ClonesFit-loaded g.S.Source.gives g.K.PartialEq.eq
    g.met.K.Eq.laws g.V.Clone.is_clone c.requires.clones) in
    let found = c.in-Value.found in
    record {
      moment = found.moment;
      source = IsOf-same g.S.Source.gives g.K.PartialEq.eq g.met.K.Eq.laws c.args.key.now fits.key
          found.moment found.value fits.stands fits.fits_key;
      within = rw (← c.self.view_is) (subst
          (λ life. IsWithin life c.self.inside.grace found.moment c.args.now)
          c.life-life.ensures
          (c.if-is_within.ensures.0 refl));
    }

-- it serves
pub returns-after-is_due-clause-fresh : goal.returns-after-is_due-clause-fresh
returns-after-is_due-clause-fresh g c =
    let fits = c.in-Value.ensures.fits (ClonesFit-loaded g.S.Source.gives g.K.PartialEq.eq
    g.met.K.Eq.laws g.V.Clone.is_clone c.requires.clones) in
    let found = c.in-Value.found in
    Answers-found g.S.Source.gives g.K.PartialEq.eq g.met.K.Eq.laws c.args.key.now
    (g.Li.Lives.life_of c.args.self.now.lives c.args.key.now) fits.key found.moment c.args.now
    found.value fits.stands fits.fits_key
    (rw (← c.self.view_is) (subst (λ life. Serves life found.moment c.args.now) c.life-life.ensures
    (c.if-not-serves.ensures.0 refl)))

-- what was found under an equal key and serves is answered where the load failed
pub returns-in-Some-clause-stale : goal.returns-in-Some-clause-stale
returns-in-Some-clause-stale g c =
    let fits = c.in-Value.ensures.fits (ClonesFit-loaded g.S.Source.gives g.K.PartialEq.eq
    g.met.K.Eq.laws g.V.Clone.is_clone c.requires.clones) in
    let found = c.in-Value.found in
    IfStale-own
    (AnswersLate g.S.Source.gives g.K.PartialEq.eq c.args.key.now
    (g.Li.Lives.life_of c.args.self.now.lives c.args.key.now) c.args.self.now.grace c.args.now)
    found.value
    (AnswersLate-found g.S.Source.gives g.K.PartialEq.eq g.met.K.Eq.laws c.args.key.now
    (g.Li.Lives.life_of c.args.self.now.lives c.args.key.now) fits.key c.args.self.now.grace
    found.moment c.args.now found.value fits.stands fits.fits_key
    (rw (← c.self.view_is) (subst (λ life. Serves life found.moment c.args.now) c.life-life.ensures
    (c.if-not-serves.ensures.0 refl))))
    c.renewed.result
    c.renewed.ensures.stale

-- so is what was loaded in its place
pub returns-in-Some-clause-fresh : goal.returns-in-Some-clause-fresh
returns-in-Some-clause-fresh g c =
    IfFresh-loaded
    (Answers g.S.Source.gives g.K.PartialEq.eq c.args.key.now
    (g.Li.Lives.life_of c.args.self.now.lives c.args.key.now) c.args.now)
    c.load-loaded.result
    (Answers-called g.S.Source.gives g.K.PartialEq.eq g.met.K.Eq.laws c.args.key.now
    (g.Li.Lives.life_of c.args.self.now.lives c.args.key.now) c.args.now
    (g.G.FnOnce.post c.args.load tt) c.requires.loads c.load-loaded.result c.load-loaded.ensures)
    c.renewed.result
    c.renewed.ensures.fresh

-- who has the guard loads
pub returns-in-Guard-clause-fresh : goal.returns-in-Guard-clause-fresh
returns-in-Guard-clause-fresh g c =
    IfFresh-loaded
    (Answers g.S.Source.gives g.K.PartialEq.eq c.args.key.now
    (g.Li.Lives.life_of c.args.self.now.lives c.args.key.now) c.args.now)
    c.load-loaded-in-Guard.result
    (Answers-called g.S.Source.gives g.K.PartialEq.eq g.met.K.Eq.laws c.args.key.now
    (g.Li.Lives.life_of c.args.self.now.lives c.args.key.now) c.args.now
    (g.G.FnOnce.post c.args.load tt) c.requires.loads c.load-loaded-in-Guard.result
    c.load-loaded-in-Guard.ensures)
    c.fill_with.result
    c.fill_with.ensures.fresh
