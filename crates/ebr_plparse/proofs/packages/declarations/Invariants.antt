use Rattle.std.proofs.Common.{◌≡◌, ◌-◌, [], length}
use Rattle.ebr_grammar.specs.Grammar.{led}
use Rattle.ebr_grammar.specs.Reading.{repeat}
use Rattle.ebr_stmtparse.specs.Parts.{declaration_part}
use Rattle.ebr_plparse.specs.Productions.{reads_by, part}
use Rattle.ebr_plparse.specs.Packages.{declaration_begins}
use Rattle.ebr_plparse.proofs.packages.declarations.Given as goal

abbrev pub invariant-loop-turn : goal.invariant-loop-turn
invariant-loop-turn l = repeat declaration_begins (reads_by (led declaration_begins (part declaration_part))) (l._turn-end - l._turn) l.found l.tokens ≡ repeat declaration_begins (reads_by (led declaration_begins (part declaration_part))) (length l.fn.tokens) [] l.fn.tokens
