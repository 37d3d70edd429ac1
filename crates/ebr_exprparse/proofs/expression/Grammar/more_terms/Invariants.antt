use Rattle.std.proofs.Common.{◌≡◌, ◌-◌, [], ◌∷◌, length}
use Rattle.ebr_grammar.specs.declared.kind.Kind.TheVariants as k
use Rattle.ebr_grammar.specs.Grammar.{led}
use Rattle.ebr_grammar.specs.Reading.{repeat}
use Rattle.ebr_exprparse.specs.Expressions.{addend}
use Rattle.ebr_exprparse.specs.inside.Reading.{reads_at}
use Rattle.ebr_exprparse.proofs.expression.Grammar.more_terms.Given as goal

abbrev pub invariant-loop-turn : goal.invariant-loop-turn
invariant-loop-turn g l = repeat (k.Plus ∷ k.Minus ∷ k.Concat ∷ []) (reads_at l.self.depth (led (k.Plus ∷ k.Minus ∷ k.Concat ∷ []) addend)) (l._turn-end - l._turn) l.found l.tokens ≡ repeat (k.Plus ∷ k.Minus ∷ k.Concat ∷ []) (reads_at l.self.depth (led (k.Plus ∷ k.Minus ∷ k.Concat ∷ []) addend)) (length l.fn.tokens) [] l.fn.tokens
