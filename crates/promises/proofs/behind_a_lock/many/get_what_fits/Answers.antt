use Rattle.std.proofs.Common.{refl}
use Rattle.std.proofs.lemmas.Result.{IfOk-weaker}
use Rattle.promises.proofs.behind_a_lock.many.get_what_fits.Goals as goal

-- what some shard shows fits
pub returns : goal.returns
returns g c = record {
  one_each = IfOk-weaker c.get_many.result _ _ (λ values shows. shows.one_each)
      c.get_many.ensures.answers;
  fits = λ clones. IfOk-weaker c.get_many.result _ _ (λ values shows index query within is.
      ((shows.of_each index query within is).holds index query within is refl).fits clones)
      c.get_many.ensures.answers;
}
