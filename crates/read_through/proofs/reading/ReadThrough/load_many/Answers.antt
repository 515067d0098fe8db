use Rattle.std.proofs.Common.{Ok, Err, refl}
use Rattle.read_through.specs.Answers.{Answers}
use Rattle.read_through.proofs.AnswerLemmas.{IsFresh-own}
use Rattle.read_through.proofs.ManyLemmas.{AllZip-filled}
use Rattle.read_through.proofs.reading.ReadThrough.load_many.Goals as goal

-- what was loaded for a copy of a key is the key's
pub returns-in-Ok-clause-fresh : goal.returns-in-Ok-clause-fresh
returns-in-Ok-clause-fresh g c =
    rw c.fill.ensures.fills
    (AllZip-filled g.K.Clone.is_clone (λ key. g.S.Source.gives key c.args.now)
    (λ key. Answers g.S.Source.gives g.K.PartialEq.eq key
    (g.Li.Lives.life_of c.args.self.now.lives key) c.args.now)
    (λ key copy value cloned gave. record {
      moment = c.args.now;
      source = record { key = copy; same = c.requires.keys key copy cloned; gave = gave };
      fresh = IsFresh-own (g.Li.Lives.life_of c.args.self.now.lives key value c.args.now) c.args.now;
    })
    c.args.keys.now c.in_ok-found.found.items c.in_ok-missing.missing.items
    c.in-Ok.loaded.items c.in_ok-found.ensures.serve
    (rw c.deref.ensures.value at c.in_ok-missing.ensures.copies)
    (rw c.as_slice-asked.ensures.value at c.in-Ok.ensures.gave))

pub returns-in-Ok-clause-asks : goal.returns-in-Ok-clause-asks
returns-in-Ok-clause-asks g c = record {
  found = c.in_ok-found.found.items;
  serve = c.in_ok-found.ensures.serve;
  asked = c.in_ok-missing.missing.items;
  copies = rw c.deref.ensures.value at c.in_ok-missing.ensures.copies;
  loaded = Ok c.in-Ok.loaded;
  loads = rw c.as_slice-asked.ensures.value at c.in-Ok.ensures.loads;
  fills = c.fill.ensures.fills;
}

pub returns-in-Err-clause-asks : goal.returns-in-Err-clause-asks
returns-in-Err-clause-asks g c = record {
  found = c.in_ok-found.found.items;
  serve = c.in_ok-found.ensures.serve;
  asked = c.in_ok-missing.missing.items;
  copies = rw c.deref.ensures.value at c.in_ok-missing.ensures.copies;
  loaded = Err c.in-Err.error;
  loads = rw c.as_slice-asked.ensures.value at c.in-Err.ensures.loads;
  fills = refl;
}
