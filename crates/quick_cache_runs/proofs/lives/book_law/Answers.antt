use Rattle.quick_cache_runs.proofs.Books.{Follows-counted}
use Rattle.quick_cache_runs.proofs.lives.book_law.Goals as goal

pub returns : goal.returns
returns g c = λ old new first last fates of_old follows of_new. Follows-counted old new first last
    fates of_old follows of_new
