-- The grammar of triggers (Oracle Database PL/SQL Language Reference 19c, CREATE TRIGGER; Database Development Guide 19c,
-- Crossedition Triggers; which of their forms there are is this server's own choice):
--   TRIGGER n (BEFORE | AFTER) event {OR event} ON n FOR EACH ROW
--   [(FORWARD | REVERSE) CROSSEDITION] [ENABLE | DISABLE] block     event = INSERT | UPDATE | DELETE
use Rattle.std.specs.Prelude.{ℕ, Bool, true, false, List, ◌∷◌, Option, Some, None}
use Rattle.ebr_grammar.specs.declared.kind.Kind.TheVariants as k
use Rattle.ebr_grammar.specs.Grammar.{word, nothing, both, many}
use Rattle.ebr_grammar.specs.Words.{mark, ◌▸◌, ◌∣◌, name}
use Rattle.ebr_exprtree.specs.declared.op.Op.{Op}
use Rattle.ebr_exprtree.specs.declared.op.Op.TheVariants as op
use Rattle.ebr_ast.specs.declared.kinds.Timing.{Timing}
use Rattle.ebr_ast.specs.declared.kinds.Timing.TheVariants as timing_of
use Rattle.ebr_ast.specs.declared.statement.Block.{Block}
use Rattle.ebr_ast.specs.declared.unit.Direction.{Direction}
use Rattle.ebr_ast.specs.declared.unit.Direction.TheVariants as direction
use Rattle.ebr_ast.specs.declared.unit.Trigger.{Trigger}
use Rattle.ebr_stmtparse.specs.Parts.{block_part}
use Rattle.ebr_plparse.specs.declared.triggers.EventClause.{EventClause}
use Rattle.ebr_plparse.specs.declared.triggers.TriggerOptions.{TriggerOptions}
use Rattle.ebr_plparse.specs.Productions.{P, part}

abbrev pub event_clause_tree : Timing → List Op → List ℕ → EventClause
event_clause_tree timing events on = record { timing = timing; events = events; on = on }

abbrev pub options_tree : Option Direction → Bool → TriggerOptions
options_tree crossedition enabled = record { crossedition = crossedition; enabled = enabled }

abbrev pub trigger_tree : List ℕ → EventClause → TriggerOptions → Block → Trigger
trigger_tree name clause options body =
    record { name = name; timing = clause.timing; events = clause.events; on = clause.on; crossedition = options.crossedition; enabled = options.enabled; body = body }

unfoldable pub timing : P Timing
timing = word k.Before timing_of.Before ∣ word k.After timing_of.After

unfoldable pub event : P Op
event = word k.Insert op.Insert ∣ word k.Update op.Update ∣ word k.Delete op.Delete

-- behind the first event
unfoldable pub more_events : P (Op → List Op)
more_events = many (λ found first. first ∷ found) (k.Or ▸ event)

unfoldable pub events : P (List Op)
events = both (λ first f. f first) event more_events

-- FOR EACH ROW
unfoldable pub each_row : P (Unit {0})
each_row = k.For ▸ (k.Each ▸ mark k.Row)

-- behind ON
unfoldable pub on_rows : P (List ℕ)
on_rows = both (λ on _. on) name each_row

-- behind a trigger's name, up to FOR EACH ROW
unfoldable pub event_clause : P EventClause
event_clause = both (λ timing (f : Timing → EventClause). f timing) timing (both (λ events on timing. event_clause_tree timing events on) events (k.On ▸ on_rows))

unfoldable pub crossedition : P (Option Direction)
crossedition = k.Forward ▸ word k.Crossedition (Some direction.Forward)
    ∣ k.Reverse ▸ word k.Crossedition (Some direction.Reverse)
    ∣ nothing None

-- enabled where nothing is written
unfoldable pub enabled : P Bool
enabled = word k.Enable true ∣ word k.Disable false ∣ nothing true

unfoldable pub trigger_options : P TriggerOptions
trigger_options = both options_tree crossedition enabled

-- behind FOR EACH ROW
unfoldable pub action : P (TriggerOptions × Block)
action = both (λ options body. (options, body)) trigger_options (part block_part)

-- behind a trigger's name
unfoldable pub trigger_rest : P (List ℕ → Trigger)
trigger_rest = both (λ clause action name. trigger_tree name clause action.0 action.1) event_clause action

-- behind TRIGGER
unfoldable pub trigger : P Trigger
trigger = both (λ name f. f name) name trigger_rest
