use Rattle.std.proofs.Common.{subst}
use Rattle.ebr_core.specs.Apart.{IsApart}
use Rattle.ebr_core.specs.Engine.{database_of}
use Rattle.ebr_core.specs.inside.Parts.{database, state_of}
use Rattle.ebr_core.specs.Kept.{StopsWithin}
use Rattle.ebr_core.specs.Machine.{Reply}
use Rattle.ebr_core.proofs.AnswerApart.{answer_apart}
use Rattle.ebr_core.proofs.KeptBehind.{stops_within}
use Rattle.ebr_core.proofs.engine.Engine.answer.Goals as goal

pub returns-clause-apart : goal.returns-clause-apart
returns-clause-apart g c =
    subst (λ v. IsApart (database_of v) c.args.s c.args.ask c.answer.result (database g.K.Keep.as_keeper c.answer.new.self)) c.self.view_is
    (answer_apart g.K.Keep.as_keeper (state_of g.K.Keep.as_keeper c.self.inside.parts) (state_of g.K.Keep.as_keeper c.answer.new.self) c.args.s c.args.ask c.answer.result c.answer.ensures.answers)

pub returns-clause-stops : goal.returns-clause-stops
returns-clause-stops g c =
    subst (λ v. StopsWithin (g.K.Keep.as_keeper v.keeper) (g.K.Keep.as_keeper (state_of g.K.Keep.as_keeper c.answer.new.self).keeper) (Reply (database_of v) c.args.s c.args.ask).records) c.self.view_is
    (stops_within g.K.Keep.as_keeper (state_of g.K.Keep.as_keeper c.self.inside.parts) (state_of g.K.Keep.as_keeper c.answer.new.self) c.args.s c.args.ask c.answer.result c.answer.ensures.answers)
