use Rattle.std.proofs.Common.{rules, ap}
use Rattle.ebr_calls.proofs.Opening.{opens_nothing}
use Rattle.ebr_calls.specs.declared.levels.Levels.{Levels}
use Rattle.ebr_calls.proofs.levels.Levels.before_ask.Goals as goal

pub returns-in_default : goal.returns-in_default
returns-in_default c =
    let e = c.of.ensures in
    record {
      now = ap (λ (l : Levels). l.now) e;
      moves = opens_nothing _ _ c.in_default.not-PushAuto c.in_default.not-PopAuto (search rules) (search rules);
    }
