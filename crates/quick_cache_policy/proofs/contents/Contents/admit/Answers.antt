use Rattle.std.proofs.Common.{[], ◌∷◌, refl, sym, ◌∙◌, inl, inr, arith}
use Rattle.quick_cache_model.specs.Admission.{ChecksAdmission}
use Rattle.quick_cache_model.specs.Hooks.{BeforeEvict}
use Rattle.quick_cache_policy.proofs.contents.Contents.admit.Goals as goal

-- a light pair is admitted
pub returns-then-weight-self : goal.returns-then-weight-self
returns-then-weight-self g c =
    record {
      checks = record {
        calls = [];
        holds = (
          λ s. ChecksAdmission.is_light
              (omega (arith, c.weigh-weight.ensures, c.if-weight-self.true)),
          c.weigh-weight.ensures,
          inl (refl, refl),
        );
        runs = refl;
      };
    }

-- so is a pinned one
pub returns-then-is_pinned : goal.returns-then-is_pinned
returns-then-is_pinned g c =
    record {
      checks = record {
        calls = [];
        holds = (
          λ s. ChecksAdmission.is_pinned
              (omega (arith, c.weigh-weight.ensures, c.if-weight-self.false))
              (sym (c.is_pinned.ensures s) ∙ c.if-is_pinned.true),
          c.weigh-weight.ensures,
          inl (refl, refl),
        );
        runs = refl;
      };
    }

-- and one that was lightened
pub returns-then-weight-self-2 : goal.returns-then-weight-self-2
returns-then-weight-self-2 g c =
    record {
      checks = record {
        calls = BeforeEvict c.args.key.now c.args.value c.before_evict.new.value ∷ [];
        holds = (
          λ s. ChecksAdmission.was_lightened c.before_evict.new.value
              (omega (arith, c.weigh-weight.ensures, c.if-weight-self.false))
              (sym (c.is_pinned.ensures s) ∙ c.if-is_pinned.false)
              (omega (arith, c.weigh-weight-2.ensures, c.if-weight-self-2.true)),
          c.weigh-weight-2.ensures,
          inr refl,
        );
        runs = (c.before_evict.new.state, c.before_evict.ensures, refl);
      };
    }

-- one that stays too heavy is not
pub returns : goal.returns
returns g c =
    record {
      checks = record {
        calls = BeforeEvict c.args.key.now c.args.value c.before_evict.new.value ∷ [];
        holds = (
          λ s. ChecksAdmission.is_too_heavy c.before_evict.new.value
              (omega (arith, c.weigh-weight.ensures, c.if-weight-self.false))
              (sym (c.is_pinned.ensures s) ∙ c.if-is_pinned.false)
              (omega (arith, c.weigh-weight-2.ensures, c.if-weight-self-2.false)),
          refl,
        );
        runs = (c.before_evict.new.state, c.before_evict.ensures, refl);
      };
    }
