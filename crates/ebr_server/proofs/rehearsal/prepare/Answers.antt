use Rattle.std.proofs.Common.{◌<◌, ◌⊎◌, Some, sym, subst}
use Rattle.std.specs.Prelude.{All, IfSome, IsSomeAnd}
use Rattle.std.proofs.lemmas.List.Elements.{All-nil}
use Rattle.ebr_faults.specs.Faults.{Rises}
use Rattle.ebr_words.specs.declared.words.Command.TheVariants.{Rehearse}
use Rattle.ebr_worker.specs.Runs.{IsUnwritten}
use Rattle.ebr_server.specs.Disks.{NeedsNone}
use Rattle.ebr_server.specs.Program.{IsReadFault, Stops}
use Rattle.ebr_server.proofs.Calls.{behind_called, behind_opened, order_called}
use Rattle.ebr_server.proofs.InTurns.{prepared, scripts_stop}
use Rattle.ebr_server.proofs.Back.{halt_called, jobs_told}
use Rattle.ebr_server.proofs.Staying.{from_none}
use Rattle.ebr_server.proofs.rehearsal.prepare.Goals as goal

pub returns-in-Err-clause-stops : goal.returns-in-Err-clause-stops
returns-in-Err-clause-stops g c =
    subst (λ h. Stops (Some Rehearse) (g.H.Host.bytes c.args.host.now) c.args.words.now (Rises (g.H.Host.faults c.args.host.now) (g.H.Host.faults c.read_turns.new.host) ⊎ IsSomeAnd h.source (λ s. 0 < g.H.Source.Source.faults s)) h.code) (sym c.without_sinks.ensures.halt) c.in-Err.ensures.stops

pub returns-in-Err-clause-source : goal.returns-in-Err-clause-source
returns-in-Err-clause-source g c =
    subst (λ h. IfSome h.source (λ s. IsReadFault h.code c.args.words.now (g.H.Source.Source.word s) × (0 < g.H.Source.Source.faults s))) (sym c.without_sinks.ensures.halt) c.in-Err.ensures.source

pub returns-in-Err-clause-needs_none : goal.returns-in-Err-clause-needs_none
returns-in-Err-clause-needs_none g c = subst (λ h. NeedsNone h.code) (sym c.without_sinks.ensures.halt) c.in-Err.ensures.no_disk

pub returns-in-Err-clause-unwritten : goal.returns-in-Err-clause-unwritten
returns-in-Err-clause-unwritten g c = subst (All (IsUnwritten g.H.Sink.Sink.held g.H.Sink.Sink.faults)) (sym c.without_sinks.ensures.sinks) (All-nil _)

pub returns-in-Err-clause-called : goal.returns-in-Err-clause-called
returns-in-Err-clause-called g c =
    halt_called g.H.Sink.Sink.word _ _ _ _ c.without_sinks.result _ c.without_sinks.ensures.halt c.without_sinks.ensures.sinks (order_called c.args.words.now _ _ _ c.in-Err.ensures.called)

pub returns-in-Ok-begin_sessions-clause-prepared : goal.returns-in-Ok-begin_sessions-clause-prepared
returns-in-Ok-begin_sessions-clause-prepared g c =
    let are = jobs_told (g.H.Host.bytes c.args.host.now) (g.H.Host.bytes c.read_turns.new.host) c.args.words.now 3 c.in-Ok-begin_sessions.sessions c.read_turns.ensures.same c.in-Ok-begin_sessions.ensures.begun in
    prepared (g.H.Host.bytes c.args.host.now) c.args.words.now _ c.in-Ok.ensures.read _ are

pub returns-in-Ok-begin_sessions-clause-opened : goal.returns-in-Ok-begin_sessions-clause-opened
returns-in-Ok-begin_sessions-clause-opened g c = behind_opened c.args.words.now _ _ _ c.in-Ok.ensures.opened c.in-Ok-begin_sessions.ensures.opened

pub returns-in-Err-begin_sessions-clause-stops : goal.returns-in-Err-begin_sessions-clause-stops
returns-in-Err-begin_sessions-clause-stops g c =
    scripts_stop (g.H.Host.bytes c.args.host.now) c.args.words.now _ c.in-Ok.ensures.read (g.H.Host.bytes c.read_turns.new.host) c.read_turns.ensures.same _ _ _ _ _ c.read_turns.ensures.counted c.in-Err-begin_sessions.ensures.fails

pub returns-in-Err-begin_sessions-clause-needs_none : goal.returns-in-Err-begin_sessions-clause-needs_none
returns-in-Err-begin_sessions-clause-needs_none g c =
    from_none (g.H.Host.bytes c.read_turns.new.host) c.args.words.now 3
    (Rises (g.H.Host.faults c.read_turns.new.host) (g.H.Host.faults c.begin_sessions.new.host) ⊎ IsSomeAnd c.in-Err-begin_sessions.stop.halt.source (λ s. 0 < g.H.Source.Source.faults s)) c.in-Err-begin_sessions.stop.halt.code c.in-Err-begin_sessions.ensures.fails

pub returns-in-Err-begin_sessions-clause-called : goal.returns-in-Err-begin_sessions-clause-called
returns-in-Err-begin_sessions-clause-called g c = behind_called c.args.words.now _ _ _ _ _ c.in-Ok.ensures.opened c.in-Err-begin_sessions.ensures.called
