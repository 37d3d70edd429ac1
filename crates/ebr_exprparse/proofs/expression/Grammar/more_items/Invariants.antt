use Rattle.std.proofs.Common.{◌≡◌, ◌-◌, [], ◌∷◌, length}
use Rattle.ebr_grammar.specs.declared.kind.Kind.TheVariants as k
use Rattle.ebr_grammar.specs.Reading.{repeat}
use Rattle.ebr_grammar.specs.Words.{◌▸◌}
use Rattle.ebr_exprparse.specs.Expressions.{inner}
use Rattle.ebr_exprparse.specs.inside.Reading.{reads_at}
use Rattle.ebr_exprparse.proofs.expression.Grammar.more_items.Given as goal

abbrev pub invariant-loop-turn : goal.invariant-loop-turn
invariant-loop-turn g l = repeat (k.Comma ∷ []) (reads_at l.self.depth (k.Comma ▸ inner)) (l._turn-end - l._turn) l.found l.tokens ≡ repeat (k.Comma ∷ []) (reads_at l.self.depth (k.Comma ▸ inner)) (length l.fn.tokens) (l.fn.first ∷ []) l.fn.tokens
