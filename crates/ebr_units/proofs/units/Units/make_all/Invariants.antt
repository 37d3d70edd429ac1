use Rattle.ebr_units.specs.Living.{ForBooks}
use Rattle.ebr_units.proofs.Made.{MadeUpTo}
use Rattle.ebr_units.proofs.units.Units.make_all.Given as goal

abbrev pub invariant-loop-before : goal.invariant-loop-before
invariant-loop-before l = ForBooks l.c l.initial.self (λ lists. MadeUpTo lists l.initial.self l.before l.self)
