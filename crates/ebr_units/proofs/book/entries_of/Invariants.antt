use Rattle.ebr_units.proofs.Entries.{AreMade}
use Rattle.ebr_units.proofs.book.entries_of.Given as goal

abbrev pub invariant-loop-it : goal.invariant-loop-it
invariant-loop-it g l = AreMade l.v l.it-items l.it-index l.entries l.initial.steps l.steps
