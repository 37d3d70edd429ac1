use Rattle.std.proofs.Common.{◌≡◌, ◌-◌, [], ◌∷◌, length}
use Rattle.ebr_grammar.specs.declared.kind.Kind.TheVariants as k
use Rattle.ebr_grammar.specs.Reading.{repeat}
use Rattle.ebr_grammar.specs.Words.{◌▸◌}
use Rattle.ebr_plparse.specs.Productions.{reads_by}
use Rattle.ebr_plparse.specs.Heads.{parameter}
use Rattle.ebr_plparse.proofs.parameters.more_parameters.Given as goal

abbrev pub invariant-loop-turn : goal.invariant-loop-turn
invariant-loop-turn l = repeat (k.Comma ∷ []) (reads_by (k.Comma ▸ parameter)) (l._turn-end - l._turn) l.found l.tokens ≡ repeat (k.Comma ∷ []) (reads_by (k.Comma ▸ parameter)) (length l.fn.tokens) (l.fn.first ∷ []) l.fn.tokens
