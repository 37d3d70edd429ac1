use Rattle.std.proofs.Common.{◌<◌, ◌⊎◌, Option, Some, arith, sym, ap, subst, ◌∙◌}
use Rattle.std.specs.Prelude.{All, IsSomeAnd, is_some, map}
use Rattle.ebr_faults.specs.Faults.{Rises}
use Rattle.ebr_words.specs.declared.words.Command.TheVariants.{Rehearse}
use Rattle.ebr_worker.specs.Runs.{IsUnwritten}
use Rattle.ebr_startup.specs.Opened.{Unopened}
use Rattle.ebr_server.specs.Disks.{IsEntry}
use Rattle.ebr_server.specs.Program.{CallsInOrder, IsReadFault, before_rehearsal, disk_at, journal_place, order_of_work, outside, own_fault, word_at}
use Rattle.ebr_server.proofs.Calls.{before_called, both_make, both_open, disk_makes, disk_opened, disk_opens}
use Rattle.ebr_server.proofs.InTurns.{all_read, few_sessions, turns_fit}
use Rattle.ebr_server.proofs.OverDisk.{all_ran, all_unwritten, either_opened, late_called, late_disk, late_none, late_stops, no_source, over_called, over_disk, over_stops}
use Rattle.ebr_server.proofs.rehearsal.rehearsed.Goals as goal

pub run_over-requires-clause-few : goal.run_over-requires-clause-few
run_over-requires-clause-few g c = few_sessions _ _ _ _ c.in-Ok.ensures.prepared c.requires.few

pub run_over-requires-clause-turns : goal.run_over-requires-clause-turns
run_over-requires-clause-turns g c = turns_fit _ _ _ _ c.in-Ok.ensures.prepared

pub returns-in-Err-clause-called : goal.returns-in-Err-clause-called
returns-in-Err-clause-called g c =
    subst (CallsInOrder (g.H.Host.calls c.args.host.now) (g.H.Host.calls c.prepare.new.host) (order_of_work (Some Rehearse) c.args.words.now) (own_fault c.in-Err.stop.halt.code c.in-Err.stop.halt.source) (map g.H.Sink.Sink.word c.in-Err.stop.sinks))
    (sym (ap (λ (d : Option g.row.H-Disk.Denot). is_some d) c.in-Err.ensures.no_disk))
    (before_called (before_rehearsal c.args.words.now) (disk_at c.args.words.now journal_place) _ _ _ _ c.in-Err.ensures.called)

pub returns-in-Err-clause-disk : goal.returns-in-Err-clause-disk
returns-in-Err-clause-disk g c = late_none c.in-Err.stop c.in-Err.ensures.no_disk Unopened g.H.Disk.Disk.as_medium _ c.in-Err.ensures.needs_none

pub returns-in-Ok-open_disk-clause-ran : goal.returns-in-Ok-open_disk-clause-ran
returns-in-Ok-open_disk-clause-ran g c =
    let entry = subst (λ told. IsEntry g.H.Disk.Disk.as_medium told c.in-Ok-open_disk.disk) (c.prepare.ensures.same_disks (word_at c.args.words.now journal_place)) c.in-Ok-open_disk.ensures.entry in
    all_ran (outside (g.H.Host.bytes c.args.host.now) (g.H.Host.disk_bytes c.args.host.now) g.H.Sink.Sink.word g.H.Sink.Sink.held g.H.Sink.Sink.faults g.H.Disk.Disk.as_medium) c.args.words.now _ c.in-Ok-open_disk.disk entry _ c.in-Ok.ensures.prepared c.run_over.result c.run_over.ensures.ends c.run_over.ensures.paced c.run_over.ensures.legal c.run_over.ensures.disk

pub returns-in-Ok-open_disk-clause-stops : goal.returns-in-Ok-open_disk-clause-stops
returns-in-Ok-open_disk-clause-stops g c =
    let entry = subst (λ told. IsEntry g.H.Disk.Disk.as_medium told c.in-Ok-open_disk.disk) (c.prepare.ensures.same_disks (word_at c.args.words.now journal_place)) c.in-Ok-open_disk.ensures.entry in
    over_stops (outside (g.H.Host.bytes c.args.host.now) (g.H.Host.disk_bytes c.args.host.now) g.H.Sink.Sink.word g.H.Sink.Sink.held g.H.Sink.Sink.faults g.H.Disk.Disk.as_medium) c.args.words.now c.in-Ok-open_disk.disk entry Rehearse tt (all_read _ _ _ _ c.in-Ok.ensures.prepared)
    (λ stop. Rises (g.H.Host.faults c.args.host.now) (g.H.Host.faults c.open_disk.new.host) ⊎ IsSomeAnd stop.halt.source (λ s. 0 < g.H.Source.Source.faults s)) c.run_over.result c.run_over.ensures.stops

pub returns-in-Ok-open_disk-clause-source : goal.returns-in-Ok-open_disk-clause-source
returns-in-Ok-open_disk-clause-source g c = no_source (λ s code. IsReadFault code c.args.words.now (g.H.Source.Source.word s) × (0 < g.H.Source.Source.faults s)) c.run_over.result c.run_over.ensures.source

pub returns-in-Ok-open_disk-clause-disk : goal.returns-in-Ok-open_disk-clause-disk
returns-in-Ok-open_disk-clause-disk g c =
    let entry = subst (λ told. IsEntry g.H.Disk.Disk.as_medium told c.in-Ok-open_disk.disk) (c.prepare.ensures.same_disks (word_at c.args.words.now journal_place)) c.in-Ok-open_disk.ensures.entry in
    over_disk (outside (g.H.Host.bytes c.args.host.now) (g.H.Host.disk_bytes c.args.host.now) g.H.Sink.Sink.word g.H.Sink.Sink.held g.H.Sink.Sink.faults g.H.Disk.Disk.as_medium) c.args.words.now c.in-Ok-open_disk.disk entry c.run_over.result c.run_over.ensures.stops

pub returns-in-Ok-open_disk-clause-opened : goal.returns-in-Ok-open_disk-clause-opened
returns-in-Ok-open_disk-clause-opened g c = either_opened c.run_over.result _ (disk_opened (before_rehearsal c.args.words.now) (disk_at c.args.words.now journal_place) _ _ _ c.in-Ok.ensures.opened c.in-Ok-open_disk.ensures.opened)

pub returns-in-Ok-open_disk-clause-called : goal.returns-in-Ok-open_disk-clause-called
returns-in-Ok-open_disk-clause-called g c =
    let entry = subst (λ told. IsEntry g.H.Disk.Disk.as_medium told c.in-Ok-open_disk.disk) (c.prepare.ensures.same_disks (word_at c.args.words.now journal_place)) c.in-Ok-open_disk.ensures.entry in
    over_called (outside (g.H.Host.bytes c.args.host.now) (g.H.Host.disk_bytes c.args.host.now) g.H.Sink.Sink.word g.H.Sink.Sink.held g.H.Sink.Sink.faults g.H.Disk.Disk.as_medium) c.args.words.now c.in-Ok-open_disk.disk entry _ _ _ _ c.run_over.result (disk_opened (before_rehearsal c.args.words.now) (disk_at c.args.words.now journal_place) _ _ _ c.in-Ok.ensures.opened c.in-Ok-open_disk.ensures.opened)
    (c.in-Ok.ensures.prepared.are_jobs.sinks ∙ sym (disk_makes (before_rehearsal c.args.words.now) c.args.words.now journal_place ∙ both_make c.args.words.now 3)) (disk_opens (before_rehearsal c.args.words.now) c.args.words.now journal_place (both_open c.args.words.now 3))
    c.run_over.ensures.source c.run_over.ensures.back c.run_over.ensures.some_disk c.run_over.ensures.stops

pub returns-in-Ok-open_disk-clause-unwritten : goal.returns-in-Ok-open_disk-clause-unwritten
returns-in-Ok-open_disk-clause-unwritten g c = all_unwritten g.H.Sink.Sink.word g.H.Sink.Sink.held g.H.Sink.Sink.faults _ c.run_over.result c.run_over.ensures.back

pub returns-in-Err-open_disk-clause-stops : goal.returns-in-Err-open_disk-clause-stops
returns-in-Err-open_disk-clause-stops g c = late_stops c.with_sinks.result _ c.with_sinks.ensures.code c.with_sinks.ensures.source c.with_sinks.ensures.disk (g.H.Host.bytes c.args.host.now) c.args.words.now Rehearse tt (all_read _ _ _ _ c.in-Ok.ensures.prepared) _ _ _ _ (omega (arith, c.requires.some)) c.prepare.ensures.counted c.in-Err-open_disk.ensures.fails

pub returns-in-Err-open_disk-clause-disk : goal.returns-in-Err-open_disk-clause-disk
returns-in-Err-open_disk-clause-disk g c =
    late_disk c.with_sinks.result _ c.with_sinks.ensures.code c.with_sinks.ensures.source c.with_sinks.ensures.disk Unopened g.H.Disk.Disk.as_medium (g.H.Host.disk_bytes c.args.host.now (word_at c.args.words.now journal_place)) _ c.in-Err-open_disk.ensures.fails

pub returns-in-Err-open_disk-clause-called : goal.returns-in-Err-open_disk-clause-called
returns-in-Err-open_disk-clause-called g c =
    late_called c.with_sinks.result _ c.with_sinks.ensures.code c.with_sinks.ensures.source c.with_sinks.ensures.disk g.H.Sink.Sink.word _ (ap (map g.H.Sink.Sink.word) c.with_sinks.ensures.sinks ∙ c.sinks_of.ensures.words_are) (before_rehearsal c.args.words.now) (disk_at c.args.words.now journal_place) _ _ _ c.in-Ok.ensures.opened
    (c.in-Ok.ensures.prepared.are_jobs.sinks ∙ sym (both_make c.args.words.now 3)) (both_open c.args.words.now 3) c.in-Err-open_disk.ensures.called

pub returns-in-Err-open_disk-clause-unwritten : goal.returns-in-Err-open_disk-clause-unwritten
returns-in-Err-open_disk-clause-unwritten g c = subst (All (IsUnwritten g.H.Sink.Sink.held g.H.Sink.Sink.faults)) (sym c.with_sinks.ensures.sinks) c.sinks_of.ensures.unwritten
