use Rattle.std.proofs.Common.{sym, subst, IfOk}
use Rattle.read_through.specs.Answers.{Answers}
use Rattle.quick_cache_expiring.specs.Moments.{Serves}
use Rattle.read_through.proofs.AnswerLemmas.{Answers-stored, IsOf-same}
use Rattle.read_through.proofs.reading.ReadThrough.look_anew.Goals as goal

-- the look told a clone of a value that is stored under an equal key and serves
pub returns-in-Retained-Ok-clause-fresh : goal.returns-in-Retained-Ok-clause-fresh
returns-in-Retained-Ok-clause-fresh g c =
    let told = c.in-Retained-Ok.ensures.told in
    let met = told.called.called in
    let shown = told.called.shown.now in
    let clone = c.in-Retained-Ok.value in
    let serves = subst
    (λ loaded. Serves (g.Li.Lives.life_of c.self.inside.lives c.args.key.now loaded.value
    loaded.moment) loaded.moment c.args.now)
    told.called.shows.1
    (met.1.0.0 tt) in
    let cloned = subst
    (λ loaded. g.V.Clone.is_clone loaded.value clone)
    told.called.shows.1
    (subst
    (λ told'. IfOk told' (g.V.Clone.is_clone shown.value))
    c.in-Retained-Ok.field-0-is
    met.1.1.0) in
    subst
    (Answers g.S.Source.gives g.K.PartialEq.eq c.args.key.now
    (g.Li.Lives.life_of c.args.self.now.lives c.args.key.now) c.args.now)
    (sym c.in-Retained-Ok.value-is)
    (Answers-stored g.S.Source.gives g.K.PartialEq.eq g.met.K.Eq.laws c.args.key.now
    (g.Li.Lives.life_of c.args.self.now.lives c.args.key.now) g.V.Clone.is_clone c.requires.clones
    told.key told.value.moment c.args.now told.value.value clone told.stands told.fits_key
    (rw (← c.self.view_is) serves)
    (g.met.Li.Lives.keeps_life c.args.self.now.lives c.args.key.now told.value.value clone
    told.value.moment cloned)
    cloned)

-- what stood there was the source's
pub returns-in-Replaced-clause-source : goal.returns-in-Replaced-clause-source
returns-in-Replaced-clause-source g c =
    let fits = c.in-Replaced.ensures.fits in
    IsOf-same g.S.Source.gives g.K.PartialEq.eq g.met.K.Eq.laws c.args.key.now fits.key
    c.in-Replaced.old.moment c.in-Replaced.old.value fits.stands fits.fits_key

pub returns-in-Removed-clause-source : goal.returns-in-Removed-clause-source
returns-in-Removed-clause-source g c =
    let fits = c.in-Removed.ensures.fits in
    IsOf-same g.S.Source.gives g.K.PartialEq.eq g.met.K.Eq.laws c.args.key.now fits.key
    c.in-Removed.old.moment c.in-Removed.old.value fits.stands fits.fits_key

-- a guard is for a key that is a copy
pub returns-in-Replaced-clause-key : goal.returns-in-Replaced-clause-key
returns-in-Replaced-clause-key g c =
    c.requires.keys c.in-Replaced.guard c.in-Replaced.ensures.key

pub returns-in-Vacant-clause-key : goal.returns-in-Vacant-clause-key
returns-in-Vacant-clause-key g c = c.requires.keys c.in-Vacant.guard c.in-Vacant.ensures.key
