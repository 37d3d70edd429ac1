-- What the code stands on, in the words of the definition.
use Rattle.std.specs.Prelude.{◌≡◌, ◌+◌, true, false, List, [], ◌∷◌, map, Result, Ok, Err}
use Rattle.ebr_asks.specs.declared.ask.Ask.{Ask}
use Rattle.ebr_asks.specs.declared.answer.Answer.{Answer}
use Rattle.ebr_tx.specs.Data.{Data}
use Rattle.ebr_record.specs.Keeper.{Keeper}
use Rattle.ebr_dml.specs.Steps.{DmlState}
use Rattle.ebr_dml.specs.declared.taken.Taken.{Taken}
use Rattle.ebr_database.specs.declared.failure.Halt.{Halt}
use Rattle.ebr_database.specs.Base.{Base}
use Rattle.ebr_database.specs.Outcome.{Outcome}
use Rattle.ebr_database.specs.Shows.{GaveUp, Said, base_of}
use Rattle.ebr_exec.specs.Places.{Names}
use Rattle.ebr_machine.specs.declared.next.End.{End}
use Rattle.ebr_machine.specs.declared.next.Next.TheVariants as next
use Rattle.ebr_machine.specs.Has.{Has, shown}
use Rattle.ebr_run.specs.Run.{Seen}
use Rattle.ebr_code.specs.Books.{Book}
use Rattle.ebr_statements.specs.declared.course.Course.{Course}
use Rattle.ebr_statements.specs.declared.site.Site.{Site as Standpoint}
use Rattle.ebr_statements.specs.declared.start.Work.{Work as Triggers}
use Rattle.ebr_statements.specs.declared.tally.Tally.{Tally}
use Rattle.ebr_bodies.specs.Bodies.{Doing, Site}
use Rattle.ebr_bodies.specs.Rows.{Work}
use Rattle.ebr_bodies.specs.Statements.{Stmt}
use Rattle.ebr_statements.specs.inside.Held.{ready_of}

abbrev pub site_at : Names → Standpoint → Site
site_at names w = record { view = names.view; deeper = Stmt names w.levels; tx = w.t; changing = w.changing; left = w.left }

abbrev pub doing_at : Data → Keeper → Tally → Doing
doing_at d k tally = record { base = base_of d k; steps = tally.steps; room = tally.room; lines = tally.lines }

abbrev pub work_at : DmlState → Triggers → Work
work_at s w = record { plan = s.plan; binds = s.binds; operation = w.operation; before = map ready_of w.before; after = map ready_of w.after }

-- a body's run that has begun, and has made no ask
abbrev pub IsBegun : Book → (List Answer → Seen) → Course → Type 0
IsBegun codes course r = Has codes r.machine r.packages r.left course [] []

-- A run has ended: this is the outcome of its asks, and what is seen of it is what is seen of its machine.
abbrev pub Ends : Outcome Base Seen → Base → Keeper → Keeper → Course → Result End Halt → Type 0
Ends o b old now r (Ok end) = (asks : List Ask) × Said o b old now (shown r.machine r.packages asks (next.Done end))
Ends o b old now r (Err why) = GaveUp old now o.made why

-- A row was given to its BEFORE triggers, and these are to come behind it.
pub record IsBetween (s : DmlState) (r : Taken) (rest : List Taken) : Type 0 where
  pub begun : s.begun ≡ true
  pub rest_is : s.rest ≡ Ok (r ∷ rest)

-- That row was changed.
pub record HasPassed (s : DmlState) (rest : List Taken) (s' : DmlState) : Type 0 where
  pub is : s' ≡ record s { rest = Ok rest; begun = false; count = s.count + 1 }
