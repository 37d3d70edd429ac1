use Rattle.std.proofs.Common.{All, AllPairs}
use Rattle.ebr_script.proofs.Cuts.{found, only}
use Rattle.ebr_script.specs.Pieces.{LiesWithin, Precedes, KeepsText}
use Rattle.ebr_script.proofs.PieceTexts.{held, pieces_within, pieces_ordered, pieces_stored}
use Rattle.ebr_script.proofs.script.pieces.Goals as goal

pub returns-clause-found : goal.returns-clause-found
returns-clause-found c = found c.args.script.now c.read.result c.read.ensures

pub returns-clause-only : goal.returns-clause-only
returns-clause-only c = only c.args.script.now c.read.result c.read.ensures

pub returns-clause-within : goal.returns-clause-within
returns-clause-within c = let s = c.args.script.now in held (All (LiesWithin s)) s c.read.result c.read.ensures (pieces_within s)

pub returns-clause-ordered : goal.returns-clause-ordered
returns-clause-ordered c = let s = c.args.script.now in held (AllPairs Precedes) s c.read.result c.read.ensures (pieces_ordered s)

pub returns-clause-texts : goal.returns-clause-texts
returns-clause-texts c = let s = c.args.script.now in held (All (KeepsText s)) s c.read.result c.read.ensures (pieces_stored s)
