use Rattle.std.proofs.Common.{◌≡◌, ◌-◌, [], ◌∷◌, length}
use Rattle.ebr_grammar.specs.declared.kind.Kind.TheVariants as k
use Rattle.ebr_grammar.specs.Reading.{repeat}
use Rattle.ebr_grammar.specs.Words.{◌▸◌}
use Rattle.ebr_exprparse.specs.Expressions.{factor}
use Rattle.ebr_exprparse.specs.inside.Reading.{reads_at}
use Rattle.ebr_exprparse.proofs.expression.Grammar.more_factors.Given as goal

abbrev pub invariant-loop-turn : goal.invariant-loop-turn
invariant-loop-turn g l = repeat (k.Star ∷ []) (reads_at l.self.depth (k.Star ▸ factor)) (l._turn-end - l._turn) l.found l.tokens ≡ repeat (k.Star ∷ []) (reads_at l.self.depth (k.Star ▸ factor)) (length l.fn.tokens) [] l.fn.tokens
