-- What a run comes to.
use Rattle.std.specs.Prelude.{◌≡◌, ℕ, All, List, length, Some, slice_get}
use Rattle.std.specs.List.{AllZip}
use Rattle.ebr_asks.specs.declared.entry.Entry.{Entry}
use Rattle.ebr_record.specs.Keeper.{Keeper}
use Rattle.ebr_core.specs.Engine.{EngineState, HasLegalHistory, first_of}
use Rattle.ebr_core.specs.Kept.{Kept}
use Rattle.ebr_worker.specs.Matches.{Matches}
use Rattle.ebr_worker.specs.Rehearsal.{AllEnded, jobs_of}
use Rattle.ebr_worker.specs.Work.{Work}
use Rattle.ebr_threads.specs.Seating.{HasEnded, WentOn}

-- Each session went on to an end, and its exchanges are those that the history has of it.
pub record AllTold (history : List Entry) (old new : List Work) : Type 0 where
  pub went : AllZip WentOn old new
  pub ended : All HasEnded new
  pub matches : (i : ℕ) (w : Work) → slice_get new i ≡ Some w → Matches w.session.transcript history w.session.session

-- The engine that comes back from a run: one legal history of the same sessions over the same recovered records, by which the keeper
-- grew. Each session did its job to an end, and its exchanges are those that the history has of it.
pub record HasRun {K : Type 0} (as_keeper : K → Keeper) (engine e : EngineState K) (old new : List Work) : Type 0 where
  pub recovered : e.recovered ≡ engine.recovered
  pub sessions : length e.books ≡ length engine.books
  pub legal : HasLegalHistory e
  pub kept : Kept (as_keeper engine.keeper) (as_keeper e.keeper) (first_of e) e.history
  pub jobs : jobs_of new ≡ jobs_of old
  pub ended : AllEnded new e
