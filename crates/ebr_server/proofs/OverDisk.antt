-- What sessions over a disk come to, by the result.
use Rattle.std.proofs.Common.{ℕ, ◌≡◌, ◌≤◌, ◌⊎◌, inl, true, false, List, [], ◌∷◌, ◌++◌, Option, Some, None, Result, Ok, Err, length, arith, refl, sym, ap, ◌∙◌, subst}
use Rattle.std.specs.Prelude.{All, IfErr, IfOk, IfSome, IsSome, OnOk, is_some, map}
use Rattle.ebr_outside.specs.declared.host_call.HostCall.{HostCall}
use Rattle.ebr_base.specs.declared.numbers.SessionId.{SessionId}
use Rattle.ebr_words.specs.declared.words.Command.{Command}
use Rattle.ebr_words.specs.declared.words.Command.TheVariants.{Dump, Rehearse, Run, Try}
use Rattle.ebr_worker.specs.Paced.{Paced}
use Rattle.ebr_worker.specs.Ends.{Job}
use Rattle.ebr_worker.specs.Runs.{AreEnds, IsUnwritten}
use Rattle.ebr_core.specs.History.{Legal}
use Rattle.ebr_core.specs.Machine.{Build}
use Rattle.ebr_faults.specs.Faults.{Rises}
use Rattle.ebr_outside.specs.Disk.{Medium}
use Rattle.ebr_startup.specs.Opened.{Unopened}
use Rattle.ebr_startup.specs.declared.why.OpenWhy.{OpenWhy}
use Rattle.ebr_startup.specs.declared.why.OpenWhy.TheVariants as why
use Rattle.ebr_server.specs.declared.exit.ExitCode.{ExitCode}
use Rattle.ebr_server.specs.declared.exit.ExitCode.TheVariants as code
use Rattle.ebr_server.specs.declared.opened.Stop.{Stop}
use Rattle.ebr_server.specs.declared.over.Ended.{Ended}
use Rattle.ebr_server.specs.Disks.{DiskStops, IsEntry, NeedsNone, RanOver}
use Rattle.ebr_server.specs.Program.{AllRead, AreJobs, CallsInOrder, Outside, SessionsPaced, SessionsRan, Step, Stops, fault_at, journal_bytes, opens_disk, own_fault, sinks_of}
use Rattle.ebr_server.specs.inside.Opened.{AreBack, IsPrepared, OpensNone, StopsOver, code_of_open, with_steps}
use Rattle.ebr_server.proofs.Calls.{all_called, called_same, disk_called, fault_of, open_faultless, without_own}
use Rattle.ebr_server.proofs.InTurns.{sessions_ran}
use Rattle.ebr_server.proofs.InWords.{Told, fails_since}
use Rattle.ebr_server.proofs.Staying.{unopened_none}

-- ---- a command with sessions over a journal, all that it reads being right

abbrev pub HasSessions : Command → Type 0
HasSessions Try = ⊥
HasSessions Dump = ⊥
HasSessions Run = Unit {0}
HasSessions Rehearse = Unit {0}

module _ (bytes : Told) (words : List (List ℕ)) (F : Type 0) where
  host_stops : (k : Command) → HasSessions k → AllRead k bytes words → 2 ≤ length words → F → Stops (Some k) bytes words F (code.HostFault 1)
  host_stops Try has right some f = absurd has
  host_stops Dump has right some f = absurd has
  host_stops Run has right some f = ((omega arith, omega (arith, some)), right, f)
  host_stops Rehearse has right some f = ((omega arith, omega (arith, some)), right, f)

  pub open_stops : (k : Command) → HasSessions k → AllRead k bytes words → (cause : OpenWhy) → Stops (Some k) bytes words F (code_of_open cause)
  open_stops Try has right cause = absurd has
  open_stops Dump has right cause = absurd has
  open_stops Run has right why.DiskFault = right
  open_stops Run has right (why.Damaged at) = right
  open_stops Run has right why.NoMemory = tt
  open_stops Rehearse has right why.DiskFault = right
  open_stops Rehearse has right (why.Damaged at) = right
  open_stops Rehearse has right why.NoMemory = tt

disk_stops : (bytes : Told) (words : List (List ℕ)) (k : Command) → HasSessions k → AllRead k bytes words → (P : Type 0) (old mid new : ℕ) (c : ExitCode) → 2 ≤ length words → old ≤ mid → OpensNone (Rises mid new) c → Stops (Some k) bytes words (Rises old new ⊎ P) c
disk_stops bytes words k has right P old mid new (code.HostFault w) some grown f =
    subst (λ v. Stops (Some k) bytes words (Rises old new ⊎ P) (code.HostFault v)) (sym f.0) (host_stops bytes words (Rises old new ⊎ P) k has right some (fails_since P old mid new grown (inl f.1)))
disk_stops bytes words k has right P old mid new code.NoMemory some grown f = open_stops bytes words (Rises old new ⊎ P) k has right why.NoMemory
disk_stops bytes words k has right P old mid new (code.TooLong w) some grown f = absurd f
disk_stops bytes words k has right P old mid new code.Done some grown f = absurd f
disk_stops bytes words k has right P old mid new code.Usage some grown f = absurd f
disk_stops bytes words k has right P old mid new code.DiskFault some grown f = absurd f
disk_stops bytes words k has right P old mid new code.SinkFault some grown f = absurd f
disk_stops bytes words k has right P old mid new (code.Damaged at) some grown f = absurd f
disk_stops bytes words k has right P old mid new (code.BadOrder at) some grown f = absurd f

-- ---- the disk was opened

-- what is so of what sessions came to is so of what is handed on
pub handed_on : {S D : Type 0} (P : Ended S D → Type 0) (x y : Ended S D) → x ≡ y → P y → P x
handed_on P x y is p = subst P (sym is) p

module _ {C S D : Type 0} (o : Outside S D) (words : List (List ℕ)) (jobs : List Job) (disk : D) (entry : IsEntry o.as_medium (journal_bytes o words) disk) where
  pub ran_over : (first : ℕ) → AreJobs o.bytes words first jobs → (r : Result (Ended S D) (Stop C S D)) → IfOk r (λ x. AreEnds o.sink_held o.sink_faults o.sink_word jobs x.history x.ends)
      → IfOk r (λ x. Legal (Build x.recovered (length jobs)) x.history) → IfOk r (λ x. (told : Option (List ℕ)) → IsEntry o.as_medium told disk → RanOver o.as_medium told (length jobs) x.recovered x.history x.disk)
      → IfOk r (λ x. SessionsRan o words first x.recovered x.history x.ends x.disk)
  ran_over first are (Ok x) ends legal over = record { jobs = jobs; are_jobs = are; legal = legal; are_ends = ends; disk = over (journal_bytes o words) entry }
  ran_over first are (Err stop) ends legal over = tt

  pub all_ran : (turns : List SessionId) → IsPrepared o.bytes words jobs turns → (r : Result (Ended S D) (Stop C S D)) → IfOk r (λ x. AreEnds o.sink_held o.sink_faults o.sink_word jobs x.history x.ends) → IfOk r (λ x. Paced (length jobs) turns x.history)
      → IfOk r (λ x. Legal (Build x.recovered (length jobs)) x.history) → IfOk r (λ x. (told : Option (List ℕ)) → IsEntry o.as_medium told disk → RanOver o.as_medium told (length jobs) x.recovered x.history x.disk)
      → IfOk r (λ x. SessionsPaced o words x.recovered x.history x.ends x.disk)
  all_ran turns p (Ok x) ends paced legal over = sessions_ran o words jobs turns p x.recovered x.history x.ends x.disk legal ends paced (over (journal_bytes o words) entry)
  all_ran turns p (Err stop) ends paced legal over = tt

module _ {C S D : Type 0} (o : Outside S D) (words : List (List ℕ)) (disk : D) (entry : IsEntry o.as_medium (journal_bytes o words) disk) where
  pub over_stops : (k : Command) → HasSessions k → AllRead k o.bytes words → (F : Stop C S D → Type 0) (r : Result (Ended S D) (Stop C S D))
      → IfErr r (λ stop. (told : Option (List ℕ)) → IsEntry o.as_medium told disk → StopsOver Unopened o.as_medium told stop.halt.code stop.disk) → IfErr r (λ stop. Stops (Some k) o.bytes words (F stop) stop.halt.code)
  over_stops k has right F (Ok x) over = tt
  over_stops k has right F (Err stop) over = let s = over (journal_bytes o words) entry in subst (Stops (Some k) o.bytes words (F stop)) (sym s.is_code) (open_stops o.bytes words (F stop) k has right s.cause)

  pub over_disk : (r : Result (Ended S D) (Stop C S D)) → IfErr r (λ stop. (told : Option (List ℕ)) → IsEntry o.as_medium told disk → StopsOver Unopened o.as_medium told stop.halt.code stop.disk)
      → IfErr r (λ stop. DiskStops Unopened o.as_medium (journal_bytes o words) stop.halt.code stop.disk)
  over_disk (Ok x) over = tt
  over_disk (Err stop) over = (over (journal_bytes o words) entry).stays

  pub over_called : (old new : Option (List HostCall)) (work : List Step) (made : List (List ℕ)) (r : Result (Ended S D) (Stop C S D)) → new ≡ with_steps old work → made ≡ sinks_of work → opens_disk work ≡ true → IfErr r (λ stop. stop.halt.source ≡ None)
      → IfErr r (λ stop. AreBack o.sink_word o.sink_held o.sink_faults made stop.sinks) → IfErr r (λ stop. IsSome stop.disk)
      → IfErr r (λ stop. (told : Option (List ℕ)) → IsEntry o.as_medium told disk → StopsOver Unopened o.as_medium told stop.halt.code stop.disk)
      → IfErr r (λ stop. CallsInOrder old new work (own_fault stop.halt.code stop.halt.source) (map o.sink_word stop.sinks) (is_some stop.disk))
  over_called old new work made (Ok x) opened is opens none back some over = tt
  over_called old new work made (Err stop) opened is opens none back some over =
      let s = over (journal_bytes o words) entry in
      all_called old new work (own_fault stop.halt.code stop.halt.source) (map o.sink_word stop.sinks) (is_some stop.disk) opened (fault_of stop.halt.code stop.halt.source None none (open_faultless s.cause stop.halt.code s.is_code))
      (back.words_are ∙ is) (there stop.disk some ∙ sym opens)
    where
      there : (d : Option D) → IsSome d → is_some d ≡ true
      there None some = absurd cc
      there (Some d) some = refl

pub all_unwritten : {C S D : Type 0} (word : S → List ℕ) (held : S → Option (List ℕ)) (faults : S → ℕ) (made : List (List ℕ)) (r : Result (Ended S D) (Stop C S D)) → IfErr r (λ stop. AreBack word held faults made stop.sinks) → IfErr r (λ stop. All (IsUnwritten held faults) stop.sinks)
all_unwritten word held faults made (Ok x) back = tt
all_unwritten word held faults made (Err stop) back = back.unwritten

-- no disk was opened
pub late_none : {C S D : Type 0} (stop : Stop C S D) → stop.disk ≡ None → (Left : Medium → OpenWhy → Medium → Type 0) (as_medium : D → Medium) (told : Option (List ℕ)) → NeedsNone stop.halt.code → DiskStops Left as_medium told stop.halt.code stop.disk
late_none stop no_disk Left as_medium told none = subst (DiskStops Left as_medium told stop.halt.code) (sym no_disk) none

pub no_source : {C S D : Type 0} (P : C → ExitCode → Type 0) (r : Result (Ended S D) (Stop C S D)) → IfErr r (λ stop. stop.halt.source ≡ None) → IfErr r (λ stop. IfSome stop.halt.source (λ s. P s stop.halt.code))
no_source P (Ok x) none = tt
no_source {C = C} P (Err stop) none = subst (λ (x : Option C). IfSome x (λ s. P s stop.halt.code)) (sym none) nothing
  where
    nothing : Unit {0}
    nothing = tt

pub either_opened : {A E : Type 0} (r : Result A E) (P : Type 0) → P → OnOk r P
either_opened (Ok x) P p = p
either_opened (Err e) P p = tt

-- ---- the disk wasn't opened

module _ {C S D : Type 0} (stop : Stop C S D) (c : ExitCode) (coded : stop.halt.code ≡ c) (none : stop.halt.source ≡ None) (no_disk : stop.disk ≡ None) where
  pub late_stops : (bytes : Told) (words : List (List ℕ)) (k : Command) → HasSessions k → AllRead k bytes words → (P : Type 0) (old mid new : ℕ) → 2 ≤ length words → old ≤ mid → OpensNone (Rises mid new) c
      → Stops (Some k) bytes words (Rises old new ⊎ P) stop.halt.code
  late_stops bytes words k has right P old mid new some grown fails = subst (Stops (Some k) bytes words (Rises old new ⊎ P)) (sym coded) (disk_stops bytes words k has right P old mid new c some grown fails)

  pub late_disk : (Left : Medium → OpenWhy → Medium → Type 0) (as_medium : D → Medium) (told : Option (List ℕ)) (F : Type 0) → OpensNone F c → DiskStops Left as_medium told stop.halt.code stop.disk
  late_disk Left as_medium told F fails = subst (DiskStops Left as_medium told stop.halt.code) (sym no_disk) (unopened_none F stop.halt.code c coded fails)

  pub late_called : (word : S → List ℕ) (made : List (List ℕ)) → map word stop.sinks ≡ made → (work : List Step) (opened : Step) (old mid new : Option (List HostCall)) → mid ≡ with_steps old work → made ≡ sinks_of work → opens_disk work ≡ false
      → CallsInOrder mid new (opened ∷ []) (fault_at c) [] false → CallsInOrder old new (work ++ opened ∷ []) (own_fault stop.halt.code stop.halt.source) (map word stop.sinks) (is_some stop.disk)
  late_called word made are work opened old mid new so_far is opens called =
      called_same old new (work ++ opened ∷ []) (own_fault stop.halt.code stop.halt.source) made (map word stop.sinks) false (is_some stop.disk) (sym are) (sym (ap (λ (d : Option D). is_some d) no_disk))
      (without_own old new (work ++ opened ∷ []) stop.halt.code c stop.halt.source made false none coded (disk_called work opened old mid new (fault_at c) made so_far is opens called))
