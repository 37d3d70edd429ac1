use Rattle.std.proofs.Common.{◌≡◌, ◌<◌, Err, length, arith, subst}
use Rattle.ebr_outside.specs.HostCalls.{calls_after}
use Rattle.ebr_outside.specs.declared.host_call.HostMethod.TheVariants as method
use Rattle.ebr_server.specs.Program.{journal_place}
use Rattle.ebr_server.proofs.Opening.{disk_not, disk_so, entry_so}
use Rattle.ebr_server.proofs.opened.open_disk.Goals as goal

pub returns-in-Ok-clause-entry : goal.returns-in-Ok-clause-entry
returns-in-Ok-clause-entry g c =
    let within : journal_place < length c.args.words.now = omega (arith, c.requires.some) in
    entry_so g.H.Disk.Disk.as_medium (g.H.Host.disk_bytes c.args.host.now) c.args.words.now journal_place _ _ c.in-Ok.disk within c.index-words.is c.in-Ok.ensures.told c.in-Ok.ensures.fresh

pub returns-in-Ok-clause-opened : goal.returns-in-Ok-clause-opened
returns-in-Ok-clause-opened g c =
    let within : journal_place < length c.args.words.now = omega (arith, c.requires.some) in
    disk_so c.args.words.now journal_place _ _ _ _ within c.index-words.is c.in-Ok.ensures.called

pub returns-in-Err-Failed-clause-called : goal.returns-in-Err-Failed-clause-called
returns-in-Err-Failed-clause-called g c =
    let within : journal_place < length c.args.words.now = omega (arith, c.requires.some) in
    disk_not c.args.words.now journal_place _ _ _ _ within c.index-words.is
    (subst (λ e. g.H.Host.calls c.disk.new.self ≡ calls_after {S = g.row.H-Disk.Denot} (g.H.Host.calls c.args.host.now) method.Disk c.index-words.result (Err e)) c.in-Err-Failed.field-0-is c.in-Err-Failed.ensures.called)
