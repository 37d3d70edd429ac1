-- The engine's history as a list of numbers and items, an engine of a run, and a session's chair.
use Rattle.std.specs.Prelude.{◌≡◌, ℕ, ◌-◌, ◌^◌, false, List, [], ◌∷◌, ◌++◌, length, map}
use Rattle.ebr_base.specs.declared.numbers.SessionId.{SessionId}
use Rattle.ebr_asks.specs.declared.ask.Ask.{Ask}
use Rattle.ebr_asks.specs.declared.answer.Answer.{Answer}
use Rattle.ebr_asks.specs.declared.entry.Entry.{Entry}
use Rattle.ebr_asks.specs.declared.entry.Exchange.{Exchange}
use Rattle.ebr_record.specs.declared.record.Record.{Record}
use Rattle.ebr_record.specs.Keeper.{Keeper}
use Rattle.ebr_core.specs.Engine.{EngineState, HasLegalHistory, database_of, first_of}
use Rattle.ebr_core.specs.History.{IsLive, Mine}
use Rattle.ebr_core.specs.History as history
use Rattle.ebr_core.specs.Kept.{Kept}
use Rattle.ebr_session.specs.Transcripts.{exchange}
use Rattle.ebr_worker.specs.Matches.{as_recorded}
use Rattle.ebr_worker.specs.Paced.{IsSession, has_ended, is_over}
use Rattle.ebr_turn.specs.declared.view.View.{View}
use Rattle.ebr_turn.specs.Chairs.{fresh, list_of, lists, opener}

abbrev pub pair_of : Entry → ℕ × Exchange
pair_of x = (x.session.0, history.exchange x)

-- what a history stands for
abbrev pub book : List Entry → List (ℕ × Exchange)
book entries = map pair_of entries

-- An engine of a run that began with these records, so many sessions and this keeper. Each session that nothing has ended lives.
pub record IsOfRun {K : Type 0} (as_keeper : K → Keeper) (recovered : List Record) (sessions : ℕ) (first : Keeper) (e : EngineState K) : Type 0 where
  pub recovered_are : e.recovered ≡ recovered
  pub sessions_are : length e.books ≡ sessions
  pub legal : HasLegalHistory e
  pub kept : Kept first (as_keeper e.keeper) (first_of e) e.history
  pub lives : (s : SessionId) → IsSession sessions s → is_over e.history s ≡ false → IsLive (database_of e) s

-- an exchange, as the history has it
abbrev pub recorded : Ask → Answer → Exchange
recorded q a = as_recorded (exchange q a)

-- the chair of a session that has had these exchanges
abbrev pub chair_of : SessionId → List Exchange → View Exchange
chair_of s before = record (fresh s.0 (opener [] 0)) { mine = map as_recorded before; left = 2 ^ 31 - length before }

-- A session that has had these exchanges, none of which ended it, sits at its chair.
pub record IsAtChair (sessions : ℕ) (s : SessionId) (before : List Exchange) (v : View Exchange) : Type 0 where
  pub is_session : IsSession sessions s
  pub goes_on : has_ended before ≡ false
  pub chair : v ≡ chair_of s before

-- the chair's view, when one more ask was answered
abbrev pub asked : View Exchange → Ask → Answer → View Exchange
asked v q a = record v { mine = v.mine ++ recorded q a ∷ []; left = v.left - 1 }

-- what each session sees of the history is the list of its chair
abbrev pub IsTold : List Entry → View Exchange → Type 0
IsTold entries v = (s : SessionId) → Mine entries s ≡ list_of s.0 (lists v)
