-- What comes of a script that was run alone, with the last line behind its replies.
use Rattle.std.proofs.Common.{ℕ, ◌≡◌, ◌≤◌, ◌⊎◌, inl, inr, false, ◌||◌, if◌then◌else◌, List, [], ◌∷◌, Option, Some, None, IfSome, arith, sym, ◌∙◌, ap, subst}
use Rattle.ebr_faults.specs.Faults.{one_more}
use Rattle.ebr_report.specs.declared.ends.EndKind.{EndKind}
use Rattle.ebr_report.specs.declared.ends.EndKind.TheVariants as ending
use Rattle.ebr_report.specs.declared.ends.SessionEnd.{SessionEnd}
use Rattle.ebr_asks.specs.declared.entry.Entry.{Entry}
use Rattle.ebr_record.specs.declared.record.Record.{Record}
use Rattle.ebr_worker.specs.Ends.{CameTo, Job, failed_writes}
use Rattle.ebr_worker.specs.Runs.{RanAlone, nth_session}
use Rattle.ebr_server.specs.declared.exit.ExitCode.{ExitCode}
use Rattle.ebr_server.specs.declared.exit.ExitCode.TheVariants as code
use Rattle.ebr_worker.specs.Matches.{has_fault, has_stop}
use Rattle.ebr_server.specs.Program.{Handed, IsLegal, LineFailed, Reported, ScriptRan, any_end, behind_replies, code_of_ends, sink_failed, wants_memory}
use Rattle.ebr_server.specs.inside.Opened.{RepliesFail}

-- the code of one session that came to such an end, where the disk of none has failed
abbrev code_of : EndKind → ExitCode
code_of k = if wants_memory k || false then code.NoMemory else (if (sink_failed k || false) || false then code.SinkFault else code.Done)

wanted : (new old : ℕ) → old ≡ 0 → (new ≡ old) ⊎ (new ≡ one_more old) → new ≤ 1
wanted new old none fails = elim fails [
  | inl same ↦ omega (arith, same, none)
  | inr more ↦ (let one : new ≡ 1 = more ∙ ap one_more none in omega (arith, one))
]

-- how many writes have failed then
failed_at : (k : EndKind) (c : ExitCode) (old new : ℕ) → c ≡ code_of k → old ≡ failed_writes k → RepliesFail c old new → (k ≡ ending.SinkFault → new ≡ 1) × LineFailed c new
failed_at ending.Ended c old new is was fails =
    let same : new ≡ old = subst (λ d. RepliesFail d old new) is fails in
    (λ k. absurd cc, subst (λ d. LineFailed d new) (sym is) (same ∙ was))
failed_at ending.SinkFault c old new is was fails =
    let same : new ≡ old = subst (λ d. RepliesFail d old new) is fails in
    (λ k. same ∙ was, subst (λ d. LineFailed d new) (sym is) (omega (arith, same, was)))
failed_at ending.Stopped c old new is was fails =
    (λ k. absurd cc, subst (λ d. LineFailed d new) (sym is) (wanted new old was (subst (λ d. RepliesFail d old new) is fails)))
failed_at ending.NoMemory c old new is was fails =
    (λ k. absurd cc, subst (λ d. LineFailed d new) (sym is) (wanted new old was (subst (λ d. RepliesFail d old new) is fails)))

-- no disk has failed
faultless : {S : Type 0} (h : List Entry) (ends : List (SessionEnd S)) → has_fault h ≡ false
    → code_of_ends h ends false ≡ (if any_end wants_memory ends then code.NoMemory else (if any_end sink_failed ends || false then code.SinkFault else code.Done))
faultless h ends none = ap (λ b. if b then code.DiskFault else (if any_end wants_memory ends then code.NoMemory else (if any_end sink_failed ends || false then code.SinkFault else code.Done))) none

told_so : {S R D : Type 0} (held : R → Option (List ℕ)) (faults : R → ℕ) (word : R → List ℕ) (job : Job) (words : List (List ℕ)) (h : List Entry) (e : SessionEnd R) (sink now : R) (end : SessionEnd S) (run : Handed S D)
    → RanAlone held faults word job h e → e.sink ≡ Some sink
    → end ≡ record { session = e.session; requests = e.requests; refused = e.refused; end = e.end; sink = None }
    → run.history ≡ h → run.ends ≡ end ∷ [] → run.recovered ≡ [] → run.disk ≡ None → run.faults ≡ faults now → run.held ≡ held now → run.code ≡ code_of_ends h (end ∷ []) false
    → ((replies : List ℕ) → IfSome (held sink) (λ bytes. bytes ≡ replies) → IfSome (held now) (λ bytes. Reported (faults now) bytes replies (behind_replies run.code words)))
    → RepliesFail run.code (faults sink) (faults now) → ScriptRan job.script words run
told_so {S = S} held faults word job words h e sink now end run ran there is history_is one none_recovered no_disk faults_are held_is coded told fails =
    let r = ran.is_end in
    let kind : end.end ≡ e.end = ap (λ (x : SessionEnd S). x.end) is in
    let old : faults sink ≡ failed_writes end.end = subst (λ s. IfSome s (λ x. faults x ≡ failed_writes e.end)) there r.failed ∙ ap failed_writes (sym kind) in
    let f = failed_at end.end run.code (faults sink) (faults now) (coded ∙ faultless h (end ∷ []) ran.is_history.no_fault) old fails in
    record {
      legal = subst (IsLegal [] 1) (sym history_is) ran.is_history.legal;
      no_record = none_recovered;
      no_disk = no_disk;
      no_fault = ap has_fault history_is ∙ ran.is_history.no_fault;
      end = end;
      one = one;
      stop = λ stopped. kind ∙ ran.stop (sym (ap has_stop history_is) ∙ stopped);
      no_sink = ap (λ (x : SessionEnd S). x.sink) is;
      replies = r.replies;
      came_to = subst (λ x. CameTo x job.script (nth_session 0) r.replies end) (sym history_is) (subst (λ (x : SessionEnd S). CameTo h job.script (nth_session 0) r.replies x) (sym is)
          (record { session_is = r.came_to.session_is; requests = r.came_to.requests; refused = r.came_to.refused; came = r.came_to.came }));
      is_code = coded ∙ ap (λ x. code_of_ends x (end ∷ []) false) (sym history_is) ∙ ap (λ es. code_of_ends run.history es false) (sym one);
      failed = λ by. faults_are ∙ f.0 by;
      line_failed = subst (LineFailed run.code) (sym faults_are) f.1;
      report = subst (λ n. IfSome run.held (λ b. Reported n b r.replies (behind_replies run.code words))) (sym faults_are)
          (subst (λ x. IfSome x (λ b. Reported (faults now) b r.replies (behind_replies run.code words))) (sym held_is)
          (told r.replies (subst (λ s. IfSome s (λ x. IfSome (held x) (λ bytes. bytes ≡ r.replies))) there r.holds)));
    }

pub replies_told : {S R D : Type 0} (held : R → Option (List ℕ)) (faults : R → ℕ) (word : R → List ℕ) (job : Job) (words : List (List ℕ)) (h : List Entry) (e : SessionEnd R) (sink now : R) (end : SessionEnd S)
    (c : ExitCode) (recovered : List Record) (history : List Entry) (ends : List (SessionEnd S)) (sinks : List S) (disk : Option D) (n : ℕ) (b : Option (List ℕ))
    → RanAlone held faults word job h e → e.sink ≡ Some sink
    → end ≡ record { session = e.session; requests = e.requests; refused = e.refused; end = e.end; sink = None }
    → history ≡ h → ends ≡ end ∷ [] → recovered ≡ [] → disk ≡ None → n ≡ faults now → b ≡ held now → c ≡ code_of_ends h (end ∷ []) false
    → ((replies : List ℕ) → IfSome (held sink) (λ bytes. bytes ≡ replies) → IfSome (held now) (λ bytes. Reported (faults now) bytes replies (behind_replies c words)))
    → RepliesFail c (faults sink) (faults now) → ScriptRan job.script words (record { code = c; recovered = recovered; history = history; ends = ends; sinks = sinks; disk = disk; faults = n; held = b })
replies_told held faults word job words h e sink now end c recovered history ends sinks disk n b ran there is history_is one none_recovered no_disk faults_are held_is coded told fails =
    told_so held faults word job words h e sink now end (record { code = c; recovered = recovered; history = history; ends = ends; sinks = sinks; disk = disk; faults = n; held = b }) ran there is history_is one none_recovered no_disk faults_are held_is coded told fails
