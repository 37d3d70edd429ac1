use Rattle.std.proofs.Common.{◌≡◌, length, arith, refl, subst, sym, ap, ◌∙◌}
use Rattle.std.specs.Prelude.{IsSome}
use Rattle.std.proofs.lemmas.List.{length-replicate}
use Rattle.ebr_core.specs.History.{Legal}
use Rattle.ebr_core.specs.Machine.{Build}
use Rattle.ebr_worker.specs.Runs.{AreEnds}
use Rattle.ebr_startup.specs.Opened.{Unopened}
use Rattle.ebr_startup.specs.declared.why.OpenWhy.TheVariants as why
use Rattle.ebr_server.specs.Disks.{RanOver}
use Rattle.ebr_server.specs.inside.Opened.{StopsOver}
use Rattle.ebr_server.proofs.Back.{back_as, over_stopped}
use Rattle.ebr_server.proofs.Staying.{stops_over, unasked}
use Rattle.ebr_server.proofs.OverDisk.{handed_on}
use Rattle.ebr_server.proofs.Surviving.{ran_so}
use Rattle.ebr_server.proofs.threads.run_over.Goals as goal

pub run_threads-requires-clause-first : goal.run_threads-requires-clause-first
run_threads-requires-clause-first g c = λ κs within. c.in-Ok.ensures.opened.first

pub run_threads-requires-clause-seats : goal.run_threads-requires-clause-seats
run_threads-requires-clause-seats g c = λ κs within.
    (let count : length c.in-Ok.engine.books ≡ length c.args.sessions = ap length c.in-Ok.ensures.opened.books ∙ length-replicate _ _ ∙ omega (arith, c.len.ensures) in
    count)

pub returns-in-Ok-run_threads-clause-ends : goal.returns-in-Ok-run_threads-clause-ends
returns-in-Ok-run_threads-clause-ends g c = handed_on (λ x. AreEnds g.S.Sink.held g.S.Sink.faults g.S.Sink.word c.args.sessions x.history x.ends) _ _ c.ended_over.ensures c.in-Ok-run_threads.ensures.ends

pub returns-in-Ok-run_threads-clause-legal : goal.returns-in-Ok-run_threads-clause-legal
returns-in-Ok-run_threads-clause-legal g c =
    handed_on (λ x. Legal (Build x.recovered (length c.args.sessions)) x.history) _ _ c.ended_over.ensures
    (subst (λ l. Legal (Build l (length c.args.sessions)) c.in-Ok-run_threads.ran.history) (sym c.in-Ok-run_threads.ensures.recovered) c.in-Ok-run_threads.ensures.legal)

pub returns-in-Ok-run_threads-clause-disk : goal.returns-in-Ok-run_threads-clause-disk
returns-in-Ok-run_threads-clause-disk g c = λ told entry.
    handed_on (λ x. RanOver g.D.Disk.as_medium told (length c.args.sessions) x.recovered x.history x.disk) _ _ c.ended_over.ensures
    (ran_so g.D.Disk.as_medium c.args.disk _ c.in-Ok.engine c.in-Ok.ensures.opened c.in-Ok-run_threads.ran.keeper c.in-Ok-run_threads.ran.history told entry (length c.args.sessions) (omega (arith, c.len.ensures)) c.in-Ok-run_threads.ran.recovered c.in-Ok-run_threads.ensures.recovered c.in-Ok-run_threads.ran.keeper.disk refl c.in-Ok-run_threads.ensures.kept c.in-Ok-run_threads.ensures.legal c.in-Ok-run_threads.ensures.fit)

pub returns-in-Err-run_threads-clause-stops : goal.returns-in-Err-run_threads-clause-stops
returns-in-Err-run_threads-clause-stops g c = λ told entry.
    stops_over g.D.Disk.as_medium told c.args.disk entry why.NoMemory c.disk_of.result _ _ c.with_disk.ensures.code c.with_disk.ensures.disk
    (subst (λ d. Unopened (g.D.Disk.as_medium c.args.disk) why.NoMemory (g.D.Disk.as_medium d)) (sym (c.disk_of.ensures ∙ ap (λ e. e.keeper.disk) c.in-Err-run_threads.ensures.unmade)) (unasked g.D.Disk.as_medium c.args.disk _ c.in-Ok.engine c.in-Ok.ensures.opened))

pub returns-in-Err-run_threads-clause-back : goal.returns-in-Err-run_threads-clause-back
returns-in-Err-run_threads-clause-back g c =
    back_as g.S.Sink.word g.S.Sink.held g.S.Sink.faults _ _ _ _ refl c.with_disk.ensures.sinks (record { words_are = c.in-Err-run_threads.ensures.words; unwritten = c.in-Err-run_threads.ensures.unwritten })

pub returns-in-Err-run_threads-clause-some_disk : goal.returns-in-Err-run_threads-clause-some_disk
returns-in-Err-run_threads-clause-some_disk g c = subst (λ o. IsSome o) (sym c.with_disk.ensures.disk) refl

pub returns-in-Err-clause-back : goal.returns-in-Err-clause-back
returns-in-Err-clause-back g c = back_as g.S.Sink.word g.S.Sink.held g.S.Sink.faults _ _ _ _ refl c.with_disk-in-Err.ensures.sinks (record { words_are = c.into_sinks.ensures.words; unwritten = c.into_sinks.ensures.unwritten })

pub returns-in-Err-clause-stops : goal.returns-in-Err-clause-stops
returns-in-Err-clause-stops g c = λ told entry.
    over_stopped (StopsOver Unopened g.D.Disk.as_medium told) _ _ _ _ c.with_disk-in-Err.ensures.code c.with_disk-in-Err.ensures.disk (c.in-Err.ensures.stops told entry)

pub returns-in-Err-clause-some_disk : goal.returns-in-Err-clause-some_disk
returns-in-Err-clause-some_disk g c = subst (λ o. IsSome o) (sym c.with_disk-in-Err.ensures.disk) refl
