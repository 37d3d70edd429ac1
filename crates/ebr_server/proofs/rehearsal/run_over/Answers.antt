use Rattle.std.proofs.Common.{◌≡◌, length, arith, refl, subst, sym, ap, ◌∙◌}
use Rattle.std.specs.Prelude.{IsSome}
use Rattle.std.proofs.lemmas.List.{length-replicate}
use Rattle.ebr_core.specs.History.{Legal}
use Rattle.ebr_core.specs.Machine.{Build}
use Rattle.ebr_worker.specs.Paced.{Paced}
use Rattle.ebr_worker.specs.Runs.{AreEnds}
use Rattle.ebr_startup.specs.Opened.{Unopened}
use Rattle.ebr_server.specs.Disks.{RanOver}
use Rattle.ebr_server.specs.inside.Opened.{StopsOver}
use Rattle.ebr_server.proofs.Back.{back_as, over_stopped}
use Rattle.ebr_server.proofs.OverDisk.{handed_on}
use Rattle.ebr_server.proofs.Surviving.{ran_so}
use Rattle.ebr_server.proofs.rehearsal.run_over.Goals as goal

pub run_sessions-requires-clause-first : goal.run_sessions-requires-clause-first
run_sessions-requires-clause-first g c = c.in-Ok.ensures.opened.first

pub run_sessions-requires-clause-seats : goal.run_sessions-requires-clause-seats
run_sessions-requires-clause-seats g c =
    let count : length c.in-Ok.engine.books ≡ length c.args.prepared.sessions = ap length c.in-Ok.ensures.opened.books ∙ length-replicate _ _ ∙ omega (arith, c.len.ensures) in
    count

pub returns-in-Ok-clause-ends : goal.returns-in-Ok-clause-ends
returns-in-Ok-clause-ends g c = handed_on (λ x. AreEnds g.S.Sink.held g.S.Sink.faults g.S.Sink.word c.args.prepared.sessions x.history x.ends) _ _ c.ended_over.ensures c.run_sessions.ensures.ends

pub returns-in-Ok-clause-paced : goal.returns-in-Ok-clause-paced
returns-in-Ok-clause-paced g c = handed_on (λ x. Paced (length c.args.prepared.sessions) c.args.prepared.turns x.history) _ _ c.ended_over.ensures (subst (λ t. Paced (length c.args.prepared.sessions) t c.run_sessions.result.history) c.as_slice.ensures c.run_sessions.ensures.paced)

pub returns-in-Ok-clause-legal : goal.returns-in-Ok-clause-legal
returns-in-Ok-clause-legal g c =
    handed_on (λ x. Legal (Build x.recovered (length c.args.prepared.sessions)) x.history) _ _ c.ended_over.ensures
    (subst (λ l. Legal (Build l (length c.args.prepared.sessions)) c.run_sessions.result.history) (sym c.run_sessions.ensures.recovered) c.run_sessions.ensures.legal)

pub returns-in-Ok-clause-disk : goal.returns-in-Ok-clause-disk
returns-in-Ok-clause-disk g c = λ told entry.
    handed_on (λ x. RanOver g.D.Disk.as_medium told (length c.args.prepared.sessions) x.recovered x.history x.disk) _ _ c.ended_over.ensures
    (ran_so g.D.Disk.as_medium c.args.disk _ c.in-Ok.engine c.in-Ok.ensures.opened c.run_sessions.result.keeper c.run_sessions.result.history told entry (length c.args.prepared.sessions) (omega (arith, c.len.ensures)) c.run_sessions.result.recovered c.run_sessions.ensures.recovered c.run_sessions.result.keeper.disk refl c.run_sessions.ensures.kept c.run_sessions.ensures.legal c.run_sessions.ensures.fit)

pub returns-clause-back : goal.returns-clause-back
returns-clause-back g c = back_as g.S.Sink.word g.S.Sink.held g.S.Sink.faults _ _ _ _ refl c.with_disk.ensures.sinks (record { words_are = c.into_sinks.ensures.words; unwritten = c.into_sinks.ensures.unwritten })

pub returns-clause-stops : goal.returns-clause-stops
returns-clause-stops g c = λ told entry.
    over_stopped (StopsOver Unopened g.D.Disk.as_medium told) _ _ _ _ c.with_disk.ensures.code c.with_disk.ensures.disk (c.in-Err.ensures.stops told entry)

pub returns-clause-some_disk : goal.returns-clause-some_disk
returns-clause-some_disk g c = subst (λ o. IsSome o) (sym c.with_disk.ensures.disk) refl
