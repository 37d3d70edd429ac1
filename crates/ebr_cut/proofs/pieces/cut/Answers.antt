use Rattle.ebr_cut.proofs.Agreement.{found, only}
use Rattle.ebr_cut.proofs.Places.{cut_within, cut_ordered}
use Rattle.ebr_cut.proofs.CutOff.{cut_in_front}
use Rattle.ebr_cut.proofs.pieces.cut.Goals as goal

pub returns-clause-found : goal.returns-clause-found
returns-clause-found c = found c.args.script.now c.read.result c.read.ensures

pub returns-clause-only : goal.returns-clause-only
returns-clause-only c spans h = only c.args.script.now c.read.result spans c.read.ensures h

pub returns-clause-within : goal.returns-clause-within
returns-clause-within c = cut_within c.args.script.now c.read.result (found c.args.script.now c.read.result c.read.ensures)

pub returns-clause-ordered : goal.returns-clause-ordered
returns-clause-ordered c = cut_ordered c.args.script.now c.read.result (found c.args.script.now c.read.result c.read.ensures)

pub returns-clause-begins : goal.returns-clause-begins
returns-clause-begins c = cut_in_front c.args.script.now c.read.result (found c.args.script.now c.read.result c.read.ensures)
