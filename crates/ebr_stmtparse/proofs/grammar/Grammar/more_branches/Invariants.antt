use Rattle.std.proofs.Common.{◌≡◌, ◌-◌, [], ◌∷◌, length}
use Rattle.ebr_grammar.specs.declared.kind.Kind.TheVariants as k
use Rattle.ebr_grammar.specs.Reading.{repeat}
use Rattle.ebr_grammar.specs.Words.{◌▸◌}
use Rattle.ebr_stmtparse.specs.Statements.{reads_at, branch}
use Rattle.ebr_stmtparse.proofs.grammar.Grammar.more_branches.Given as goal

abbrev pub invariant-loop-turn : goal.invariant-loop-turn
invariant-loop-turn g l = repeat (k.Elsif ∷ []) (reads_at l.self.depth (k.Elsif ▸ branch)) (l._turn-end - l._turn) l.found l.tokens ≡ repeat (k.Elsif ∷ []) (reads_at l.self.depth (k.Elsif ▸ branch)) (length l.fn.tokens) (l.fn.first ∷ []) l.fn.tokens
