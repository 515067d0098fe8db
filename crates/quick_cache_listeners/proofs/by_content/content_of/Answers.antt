use Rattle.std.specs.Prelude.{◌+◌, length}
use Rattle.std.proofs.Common.{arith, refl, ap, ◌∙◌}
use Rattle.quick_cache_listeners.specs.Bytes.{capped}
use Rattle.quick_cache_listeners.specs.declared.by_content.Written.{Written}
use Rattle.quick_cache_listeners.proofs.Sums.{counted-writes}
use Rattle.quick_cache_listeners.proofs.by_content.content_of.Goals as goal

pub returns : goal.returns
returns g c =
    ap (λ (written : Written). written.bytes) c.hash.ensures
    ∙ counted-writes (λ (written : Written). written.bytes)
    (λ (written : Written) bytes. record { bytes = capped (written.bytes + length bytes) })
    (λ written bytes. refl) (record { bytes = 0 }) (g.T.Hash.hash_input c.args.value.now)
    (omega arith)
    ∙ omega arith
