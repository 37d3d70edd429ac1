use Rattle.std.proofs.Common.{◌≡◌, ◌-◌, [], ◌∷◌, length}
use Rattle.ebr_grammar.specs.Reading.{repeat}
use Rattle.ebr_grammar.specs.Grammar.{led}
use Rattle.ebr_stmtparse.specs.Statements.{reads_at, statement_begins, statement}
use Rattle.ebr_stmtparse.proofs.grammar.Grammar.more_statements.Given as goal

abbrev pub invariant-loop-turn : goal.invariant-loop-turn
invariant-loop-turn g l = repeat statement_begins (reads_at l.self.depth (led statement_begins statement)) (l._turn-end - l._turn) l.found l.tokens ≡ repeat statement_begins (reads_at l.self.depth (led statement_begins statement)) (length l.fn.tokens) (l.fn.first ∷ []) l.fn.tokens
