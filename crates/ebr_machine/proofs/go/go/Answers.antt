use Rattle.std.proofs.Common.{◌∙◌}
use Rattle.ebr_machine.proofs.go.go.Goals as goal

pub returns-clause-stands : goal.returns-clause-stands
returns-clause-stands g c asks given = c.in_ok-run_on.ensures.rest asks given ∙ c.in_ok-start.ensures (g.B.CodeBook.answers c.args.book.now c.args.edition) asks given
