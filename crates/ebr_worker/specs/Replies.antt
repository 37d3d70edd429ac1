-- What an answered ask leaves of the engine.
use Rattle.std.specs.Prelude.{◌≡◌, ◌≢◌, Option}
use Rattle.ebr_base.specs.declared.numbers.SessionId.{SessionId}
use Rattle.ebr_ast.specs.declared.view.EditionView.{EditionView}
use Rattle.ebr_asks.specs.declared.ask.Ask.{Ask}
use Rattle.ebr_asks.specs.declared.ask.Ask.TheVariants.{Leave}
use Rattle.ebr_asks.specs.declared.answer.Answer.{Answer}
use Rattle.ebr_asks.specs.declared.answer.Answer.TheVariants.{Stopped}
use Rattle.ebr_record.specs.Keeper.{Keeper}
use Rattle.ebr_units.specs.Served.{served}
use Rattle.ebr_session.specs.Has.{Suits}
use Rattle.ebr_core.specs.Engine.{EngineState, HasLegalHistory, database_of, entry_of}
use Rattle.ebr_core.specs.History.{IsLive}
use Rattle.ebr_worker.specs.Ends.{AnswersLeave}
use Rattle.ebr_worker.specs.Work.{Adds}

-- The engine made one entry for a session's ask, with this answer, and handed out the book of a view. The session lives on unless it
-- left or was answered Stopped, and the history is legal.
pub record Replies {K : Type 0} (as_keeper : K → Keeper) (old new : EngineState K) (s : SessionId) (ask : Ask) (answer : Answer) (book : Option EditionView) : Type 0 where
  pub adds : Adds as_keeper s (entry_of s ask answer) old new
  pub legal : HasLegalHistory new
  pub suits : Suits (λ v e. served v) answer book
  pub leaves : ask ≡ Leave → AnswersLeave answer
  pub stays : answer ≢ Stopped → ask ≢ Leave → IsLive (database_of new) s
