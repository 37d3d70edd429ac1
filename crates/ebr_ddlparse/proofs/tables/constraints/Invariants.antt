use Rattle.std.proofs.Common.{◌≡◌, ◌-◌, [], length}
use Rattle.ebr_grammar.specs.Grammar.{led}
use Rattle.ebr_grammar.specs.Reading.{repeat}
use Rattle.ebr_ddlparse.specs.Base.{reading}
use Rattle.ebr_ddlparse.specs.Tables.{constraint_begins, constraint}
use Rattle.ebr_ddlparse.proofs.tables.constraints.Given as goal

abbrev pub invariant-loop-turn : goal.invariant-loop-turn
invariant-loop-turn l = repeat constraint_begins (reading (led constraint_begins constraint)) (l._turn-end - l._turn) l.found l.tokens ≡ repeat constraint_begins (reading (led constraint_begins constraint)) (length l.fn.tokens) [] l.fn.tokens
