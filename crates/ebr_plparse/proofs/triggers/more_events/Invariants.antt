use Rattle.std.proofs.Common.{◌≡◌, ◌-◌, [], ◌∷◌, length}
use Rattle.ebr_grammar.specs.declared.kind.Kind.TheVariants as k
use Rattle.ebr_grammar.specs.Reading.{repeat}
use Rattle.ebr_grammar.specs.Words.{◌▸◌}
use Rattle.ebr_plparse.specs.Productions.{reads_by}
use Rattle.ebr_plparse.specs.Triggers.{event}
use Rattle.ebr_plparse.proofs.triggers.more_events.Given as goal

abbrev pub invariant-loop-turn : goal.invariant-loop-turn
invariant-loop-turn l = repeat (k.Or ∷ []) (reads_by (k.Or ▸ event)) (l._turn-end - l._turn) l.found l.tokens ≡ repeat (k.Or ∷ []) (reads_by (k.Or ▸ event)) (length l.fn.tokens) (l.fn.first ∷ []) l.fn.tokens
