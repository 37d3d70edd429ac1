use Rattle.std.proofs.Common.{◌≡◌, ◌+◌, ◌≤◌, true, false, Ok, Err, subst, arith, rules}
use Rattle.ebr_record.specs.declared.keep.JournalFault.TheVariants as fault
use Rattle.ebr_record.specs.Keeper.{share}
use Rattle.ebr_journal.specs.Journal.{share_in}
use Rattle.ebr_journal.specs.Keeper.{as_keeper, keeper_of, Appends}
use Rattle.ebr_journal.proofs.Appending.{has_stopped, is_full, grown, is_kept, disk_failed, no_memory}
use Rattle.ebr_journal.proofs.Layouts.{share_head}
use Rattle.ebr_journal.proofs.journal.Journal.append.Goals as goal

pub returns-then-self-clause-appends : goal.returns-then-self-clause-appends
returns-then-self-clause-appends g c =
    let i = c.self.inside in
    subst (λ j. Appends (as_keeper g.D.Disk.as_medium j) (as_keeper g.D.Disk.as_medium j) c.args.r.now (Err fault.Stopped)) c.self.view_is
    (has_stopped (g.D.Disk.as_medium i.disk) i.gate i.used i.form i.stopped c.args.r.now c.self.invariant (g.met.D.Disk.read_is_left i.disk) c.if-self.true)

pub returns-then-len-gt-MAX_JOURNAL-clause-appends : goal.returns-then-len-gt-MAX_JOURNAL-clause-appends
returns-then-len-gt-MAX_JOURNAL-clause-appends g c =
    let i = c.self.inside in
    let size = c.length-size.result in
    let is : i.used + 9 + size ≡ i.used + share c.args.r.now = omega (arith, c.length-size.ensures) in
    subst (λ j. Appends (as_keeper g.D.Disk.as_medium j) (as_keeper g.D.Disk.as_medium j) c.args.r.now (Err (fault.Full (i.used + 9 + size)))) c.self.view_is
    (is_full (g.D.Disk.as_medium i.disk) i.gate i.used i.form i.stopped c.args.r.now c.self.invariant (g.met.D.Disk.read_is_left i.disk) (i.used + 9 + size) c.if-self.false is c.if-len-gt-MAX_JOURNAL.true)

pub invariant_of-self : goal.invariant_of-self
invariant_of-self g c =
    let i = c.self.inside in
    let r = c.args.r.now in
    let size = c.length-size.result in
    let is : i.used + 9 + size ≡ i.used + share r = omega (arith, c.length-size.ensures) in
    let fits : i.used + share r ≤ 536870912 = omega (arith, c.length-size.ensures, c.if-len-gt-MAX_JOURNAL.false) in
    let place : i.gate + (c.head.result + size) ≡ i.gate + share_in i.form r = omega (arith, c.length-size.ensures, c.head.ensures, share_head i.form r) in
    grown (g.D.Disk.as_medium i.disk) i.gate i.used i.form i.stopped r c.self.invariant (g.met.D.Disk.read_is_left i.disk) (g.D.Disk.as_medium c.put_record.new.disk) c.in-Ok.ensures.goes (g.met.D.Disk.read_is_left c.put_record.new.disk)
    c.if-self.false fits (i.gate + (c.head.result + size)) (i.used + 9 + size) place is c.in-Ok.ensures.puts

pub returns-in-Ok-clause-appends : goal.returns-in-Ok-clause-appends
returns-in-Ok-clause-appends g c =
    let i = c.self.inside in
    let r = c.args.r.now in
    let size = c.length-size.result in
    let is : i.used + 9 + size ≡ i.used + share r = omega (arith, c.length-size.ensures) in
    let fits : i.used + share r ≤ 536870912 = omega (arith, c.length-size.ensures, c.if-len-gt-MAX_JOURNAL.false) in
    let place : i.gate + (c.head.result + size) ≡ i.gate + share_in i.form r = omega (arith, c.length-size.ensures, c.head.ensures, share_head i.form r) in
    subst (λ j. Appends (as_keeper g.D.Disk.as_medium j) (keeper_of (g.D.Disk.as_medium c.put_record.new.disk) (i.gate + (c.head.result + size)) (i.used + 9 + size) false) r (Ok tt)) c.self.view_is
    (is_kept (g.D.Disk.as_medium i.disk) i.gate i.used i.form i.stopped r c.self.invariant (g.met.D.Disk.read_is_left i.disk) (g.D.Disk.as_medium c.put_record.new.disk) c.in-Ok.ensures.goes (g.met.D.Disk.read_is_left c.put_record.new.disk)
    c.if-self.false fits (i.gate + (c.head.result + size)) (i.used + 9 + size) place is c.in-Ok.ensures.puts)

pub returns-in-Err-Failed-clause-appends : goal.returns-in-Err-Failed-clause-appends
returns-in-Err-Failed-clause-appends g c =
    let i = c.self.inside in
    let r = c.args.r.now in
    let fits : i.used + share r ≤ 536870912 = omega (arith, c.length-size.ensures, c.if-len-gt-MAX_JOURNAL.false) in
    subst (λ j. Appends (as_keeper g.D.Disk.as_medium j) (keeper_of (g.D.Disk.as_medium c.put_record.new.disk) i.gate i.used true) r (Err fault.DiskFault)) c.self.view_is
    (disk_failed (g.D.Disk.as_medium i.disk) i.gate i.used i.form i.stopped r c.self.invariant (g.met.D.Disk.read_is_left i.disk) (g.D.Disk.as_medium c.put_record.new.disk) c.in-Err-Failed.ensures.goes (g.met.D.Disk.read_is_left c.put_record.new.disk)
    c.if-self.false fits _ c.in-Err-Failed.ensures.puts (c.in-Err-Failed.ensures.failed (search rules)))

pub returns-in-Err-NoMemory-clause-appends : goal.returns-in-Err-NoMemory-clause-appends
returns-in-Err-NoMemory-clause-appends g c =
    let i = c.self.inside in
    let r = c.args.r.now in
    let fits : i.used + share r ≤ 536870912 = omega (arith, c.length-size.ensures, c.if-len-gt-MAX_JOURNAL.false) in
    subst (λ j. Appends (as_keeper g.D.Disk.as_medium j) (keeper_of (g.D.Disk.as_medium c.put_record.new.disk) i.gate i.used true) r (Err fault.NoMemory)) c.self.view_is
    (no_memory (g.D.Disk.as_medium i.disk) i.gate i.used i.form i.stopped r c.self.invariant (g.met.D.Disk.read_is_left i.disk) (g.D.Disk.as_medium c.put_record.new.disk) c.in-Err-NoMemory.ensures.goes (g.met.D.Disk.read_is_left c.put_record.new.disk)
    c.if-self.false fits _ c.in-Err-NoMemory.ensures.puts)
