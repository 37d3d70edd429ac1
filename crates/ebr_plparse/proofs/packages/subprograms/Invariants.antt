use Rattle.std.proofs.Common.{◌≡◌, ◌-◌, [], length}
use Rattle.ebr_grammar.specs.Grammar.{led}
use Rattle.ebr_grammar.specs.Reading.{repeat}
use Rattle.ebr_plparse.specs.Productions.{reads_by}
use Rattle.ebr_plparse.specs.Heads.{head_begins}
use Rattle.ebr_plparse.specs.Packages.{subprogram}
use Rattle.ebr_plparse.proofs.packages.subprograms.Given as goal

abbrev pub invariant-loop-turn : goal.invariant-loop-turn
invariant-loop-turn l = repeat head_begins (reads_by (led head_begins subprogram)) (l._turn-end - l._turn) l.found l.tokens ≡ repeat head_begins (reads_by (led head_begins subprogram)) (length l.fn.tokens) [] l.fn.tokens
