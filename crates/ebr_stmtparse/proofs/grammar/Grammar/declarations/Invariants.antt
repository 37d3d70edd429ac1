use Rattle.std.proofs.Common.{◌≡◌, ◌-◌, [], length}
use Rattle.ebr_grammar.specs.Reading.{repeat}
use Rattle.ebr_grammar.specs.Grammar.{outer}
use Rattle.ebr_simpleparse.specs.Declarations.{declaration_begins}
use Rattle.ebr_simpleparse.specs.Parts.{declaration_part}
use Rattle.ebr_stmtparse.specs.Statements.{reads_at}
use Rattle.ebr_stmtparse.proofs.grammar.Grammar.declarations.Given as goal

abbrev pub invariant-loop-turn : goal.invariant-loop-turn
invariant-loop-turn g l = repeat declaration_begins (reads_at l.self.depth (outer declaration_part (λ d. d))) (l._turn-end - l._turn) l.found l.tokens ≡ repeat declaration_begins (reads_at l.self.depth (outer declaration_part (λ d. d))) (length l.fn.tokens) [] l.fn.tokens
