use Rattle.std.proofs.Common.{rules, ◌∙◌}
use Rattle.ebr_code.proofs.Layers.{meaning_of-Do, meaning_of-Decide, meaning_of-If, meaning_of-Loop, meaning_of-Numbers, meaning_of-Guard, meaning_of-Closing}
use Rattle.ebr_machine.proofs.begin.begin.Goals as goal

pub returns-in_ok-operate-in-Do : goal.returns-in_ok-operate-in-Do
returns-in_ok-operate-in-Do g c asks given = rw c.in-Do.is (rw meaning_of-Do (c.in_ok-operate-in-Do.ensures asks given))

pub returns-in_ok-decide-in-Decide : goal.returns-in_ok-decide-in-Decide
returns-in_ok-decide-in-Decide g c asks given = rw c.in-Decide.is (rw meaning_of-Decide (c.in_ok-decide-in-Decide.ensures (g.B.CodeBook.answers c.args.book.now c.args.edition) asks given))

pub returns-in_ok-choose-in-If : goal.returns-in_ok-choose-in-If
returns-in_ok-choose-in-If g c asks given = rw c.in-If.is (rw meaning_of-If (c.in_ok-choose-in-If.ensures (g.B.CodeBook.answers c.args.book.now c.args.edition) asks given))

pub returns-in_ok-repeat-in-Loop : goal.returns-in_ok-repeat-in-Loop
returns-in_ok-repeat-in-Loop g c asks given = rw c.in-Loop.is (rw meaning_of-Loop (c.in_ok-repeat-in-Loop.ensures (g.B.CodeBook.answers c.args.book.now c.args.edition) asks given ∙ search rules))

pub returns-in_ok-guard-in-Guard : goal.returns-in_ok-guard-in-Guard
returns-in_ok-guard-in-Guard g c asks given = rw c.in-Guard.is (rw meaning_of-Guard (c.in_ok-guard-in-Guard.ensures (g.B.CodeBook.answers c.args.book.now c.args.edition) asks given))

pub returns-in_ok-closing-in-Closing : goal.returns-in_ok-closing-in-Closing
returns-in_ok-closing-in-Closing g c asks given = rw c.in-Closing.is (rw meaning_of-Closing (c.in_ok-closing-in-Closing.ensures (g.B.CodeBook.answers c.args.book.now c.args.edition) asks given))

pub returns-in_ok-numbers-in-Numbers : goal.returns-in_ok-numbers-in-Numbers
returns-in_ok-numbers-in-Numbers g c asks given = rw c.in-Numbers.is (rw meaning_of-Numbers (c.in_ok-numbers-in-Numbers.ensures (g.B.CodeBook.answers c.args.book.now c.args.edition) asks given))
