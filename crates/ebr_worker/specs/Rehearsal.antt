-- All workers over one engine.
use Rattle.std.specs.Prelude.{ℕ, ◌≡◌, ◌+◌, List, length, map, slice_get, Some}
use Rattle.ebr_report.specs.declared.ends.EndKind.{EndKind}
use Rattle.ebr_core.specs.Engine.{EngineState}
use Rattle.ebr_worker.specs.Ends.{Job}
use Rattle.ebr_worker.specs.Work.{Over, Stands, Work, job_of}

-- The workers are those of the engine's sessions, in order, and each stands over it.
pub record AllStand {K : Type 0} (ws : List Work) (e : EngineState K) : Type 0 where
  pub count : length ws ≡ length e.books
  pub number : (i : ℕ) (w : Work) → slice_get ws i ≡ Some w → w.session.session ≡ record { 0 = i + 1 }
  pub stand : (i : ℕ) (w : Work) → slice_get ws i ≡ Some w → Stands w e

-- All sessions have ended.
pub record AllEnded {K : Type 0} (ws : List Work) (e : EngineState K) : Type 0 where
  pub count : length ws ≡ length e.books
  pub number : (i : ℕ) (w : Work) → slice_get ws i ≡ Some w → w.session.session ≡ record { 0 = i + 1 }
  pub ended : (i : ℕ) (w : Work) → slice_get ws i ≡ Some w → (k : EndKind) × (w.end ≡ Some k) × Over k w e

abbrev pub jobs_of : List Work → List Job
jobs_of ws = map job_of ws
