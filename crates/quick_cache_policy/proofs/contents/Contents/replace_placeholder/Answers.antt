use Rattle.std.proofs.Common.{rules, [], refl, arith}
use Rattle.quick_cache_policy.proofs.FillLemmas.{HasNoTicket-state}
use Rattle.quick_cache_policy.proofs.FindLemmas.{none-found}
use Rattle.quick_cache_policy.specs.Contents.{work_of}
use Rattle.quick_cache_policy.proofs.WorkLemmas.{DoesMore-none}
use Rattle.quick_cache_policy.specs.Places.{places_of}
use Rattle.quick_cache_policy.proofs.WrittenPlaces.{LosesOnly-keeps}
use Rattle.quick_cache_policy.proofs.contents.Contents.replace_placeholder.Goals as goal

-- it is gone
pub returns-in_default-clause-fills : goal.returns-in_default-clause-fills
returns-in_default-clause-fills g c =
    let ticket_of = g.P.SharedPlaceholder.ticket_of in
    record {
      calls = [];
      holds = record {
        gone = HasNoTicket-state ticket_of c.args.self.now
            (g.P.SharedPlaceholder.own_ticket c.args.placeholder.now)
            (none-found _ _ c.in_default.not-Some c.find_placeholder.ensures);
        value_back = refl;
        no_hook = refl;
        unchanged = refl;
      };
      runs = refl;
    }

-- and no work was done
pub returns-in_default-clause-stays : goal.returns-in_default-clause-stays
returns-in_default-clause-stays g c =
    record {
      sound = search rules;
      places = LosesOnly-keeps g.P.SharedPlaceholder.ticket_of c.args.self.now g.K.PartialEq.eq
          g.met.K.Eq.laws c.requires.sound.valid (places_of c.args.self.now.lists)
          (λ place there. there);
      room = omega arith;
      work = record {
        advances = 0;
        visits = 0;
        does = DoesMore-none (work_of c.args.self.now) (search rules) (search rules);
        few_advances = omega arith;
        few_visits = omega arith;
      };
      same = search rules;
    }
