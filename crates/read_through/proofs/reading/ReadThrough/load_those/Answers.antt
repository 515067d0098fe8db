use Rattle.std.proofs.Common.{◌≡◌, length, vec_len, refl, arith}
use Rattle.std.specs.Fn.{FnOnceReturnsAt}
use Rattle.std.specs.List.{AllZip}
use Rattle.read_through.proofs.AnswerLemmas.{IfOk-called}
use Rattle.read_through.proofs.ManyLemmas.{AllZip-of}
use Rattle.read_through.proofs.reading.ReadThrough.load_those.Goals as goal

-- what a call gives has a value for each key
pub returns-clause-one_each : goal.returns-clause-one_each
returns-clause-one_each g c =
    IfOk-called (FnOnceReturnsAt g.G.FnOnce c.args.load_all c.args.asked.now)
    (λ loaded. vec_len loaded ≡ length c.args.asked.now)
    (λ loaded called. c.requires.as_many c.args.asked.now loaded called) c.load_all-loaded.result
    (c.args.asked, c.load_all-loaded.ensures, refl)

-- and that is the key's
pub returns-clause-gave : goal.returns-clause-gave
returns-clause-gave g c =
    IfOk-called (FnOnceReturnsAt g.G.FnOnce c.args.load_all c.args.asked.now)
    (λ loaded. AllZip (λ key. g.S.Source.gives key c.args.now) c.args.asked.now loaded.items)
    (λ loaded called. AllZip-of (λ key. g.S.Source.gives key c.args.now) c.args.asked.now
    loaded.items (omega (arith, loaded.ok, c.requires.as_many c.args.asked.now loaded called))
    (c.requires.loads c.args.asked.now loaded called)) c.load_all-loaded.result
    (c.args.asked, c.load_all-loaded.ensures, refl)
