use Rattle.std.proofs.Common.{◌≡◌, rules}
use Rattle.read_through.proofs.AnswerLemmas.{Answers-own}
use Rattle.read_through.proofs.future.GetFuture.load.Goals as goal

-- what is loaded for the key now is an answer
pub returns : goal.returns
returns g c =
    let key : c.args.self.now.key ≡ c.self.inside.key.now = search rules in
    let moment : c.args.self.now.moment ≡ c.self.inside.now = search rules in
    Answers-own g.S.Source.gives g.K.PartialEq.eq g.met.K.Eq.laws c.args.self.now.key
    (g.Li.Lives.life_of c.args.self.now.reading.lives c.args.self.now.key)
    c.args.self.now.moment c.store.result
    (rw (key, moment, c.store.ensures) c.load-value.ensures)
