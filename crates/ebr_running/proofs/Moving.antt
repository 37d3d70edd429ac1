-- What moves a run does what it says, whatever the run has to do later.
use Rattle.std.proofs.Common.{◌≡◌, List, [], ap}
use Rattle.ebr_asks.specs.declared.ask.Ask.{Ask}
use Rattle.ebr_asks.specs.declared.answer.Answer.{Answer}
use Rattle.ebr_run.specs.Expressions.{Calls}
use Rattle.ebr_run.specs.State.{Outcome, Runs}
use Rattle.ebr_code.specs.Books.{Book}
use Rattle.ebr_code.specs.Instructions.{Meaning}
use Rattle.ebr_running.specs.declared.running.Running.{Running}
use Rattle.ebr_running.specs.Rest.{Stand, stand, Moves, Computes, Does, Acts, later_of, resume, stands_at, state_of, calls}

abbrev resumed : Book → Stand → Outcome
resumed book s = resume book s.later.makings_left s.later.frames_left s.later.tasks s.later.saved s.here

module _ (old new : Running) where
  pub moves_does : (f : Runs) → Moves old new f → Does old new f
  unfolding stand
  moves_does f m book asks given = ap (resumed book) (m (calls book old) asks given)

  pub computes_acts : (m : Meaning) → Computes old new m → Acts old new m
  unfolding stand
  computes_acts m c book asks given = ap (resumed book) (c (calls book old) asks given)

  -- what it has to do later is the same
  pub same_later : (m : Meaning) → Computes old new m → Calls → later_of new ≡ later_of old
  unfolding stand
  same_later m c calls = ap (λ s. s.later) (c calls [] [])

  -- and it stands where it says
  pub stands_where : (m : Meaning) → Computes old new m → (calls : Calls) (asks : List Ask) (given : List Answer) → stands_at new (state_of new asks given) ≡ m calls (state_of old asks given)
  unfolding stand
  stands_where m c calls asks given = ap (λ s. s.here) (c calls asks given)
