use Rattle.std.proofs.Common.{◌≡◌, ◌+◌, true, false, IsTrue, Ok, Err, refl, sym, ◌∙◌, ap, subst, rules}
use Rattle.ebr_record.specs.declared.keep.JournalFault.TheVariants as fault
use Rattle.ebr_encoding.specs.declared.form.Form.TheVariants.{Short}
use Rattle.ebr_outside.specs.Disk.{Passes}
use Rattle.ebr_journal.specs.Keeper.{as_keeper, keeper_of, HasThese, IsSound, Upgrades}
use Rattle.ebr_journal.proofs.Upgrading.{is_marked, longer, broken, disk_failed, failed_images, marked_images, no_memory}
use Rattle.ebr_journal.proofs.journal.Journal.add_mark.Goals as goal

pub invariant_of-self : goal.invariant_of-self
invariant_of-self g c =
    let i = c.self.inside in
    let m = g.D.Disk.as_medium i.disk in
    let going : i.stopped ≡ false = ap (λ j. j.stopped) c.self.view_is ∙ c.requires.running in
    let sound = subst (λ f. IsSound m i.gate i.used f i.stopped) (ap (λ j. j.form) c.self.view_is ∙ c.requires.unmarked) c.self.invariant in
    longer m i.gate i.used i.stopped (g.met.D.Disk.read_is_left i.disk) going sound (g.D.Disk.as_medium c.put.new.disk) c.in-Ok.ensures.goes (g.met.D.Disk.read_is_left c.put.new.disk) (i.gate + 7) refl c.in-Ok.ensures.puts

pub returns-in-Ok-clause-upgrades : goal.returns-in-Ok-clause-upgrades
returns-in-Ok-clause-upgrades g c =
    let i = c.self.inside in
    let m = g.D.Disk.as_medium i.disk in
    let going : i.stopped ≡ false = ap (λ j. j.stopped) c.self.view_is ∙ c.requires.running in
    let sound = subst (λ f. IsSound m i.gate i.used f i.stopped) (ap (λ j. j.form) c.self.view_is ∙ c.requires.unmarked) c.self.invariant in
    subst (λ j. Upgrades (as_keeper g.D.Disk.as_medium j) (keeper_of (g.D.Disk.as_medium c.put.new.disk) (i.gate + 7) i.used false) (Ok tt)) c.self.view_is
    (is_marked m i.gate i.used i.stopped (g.met.D.Disk.read_is_left i.disk) going sound (g.D.Disk.as_medium c.put.new.disk) c.in-Ok.ensures.goes (g.met.D.Disk.read_is_left c.put.new.disk) (i.gate + 7) refl c.in-Ok.ensures.puts)

pub returns-in-Err-Failed-clause-upgrades : goal.returns-in-Err-Failed-clause-upgrades
returns-in-Err-Failed-clause-upgrades g c =
    let i = c.self.inside in
    let m = g.D.Disk.as_medium i.disk in
    let going : i.stopped ≡ false = ap (λ j. j.stopped) c.self.view_is ∙ c.requires.running in
    let sound = subst (λ f. IsSound m i.gate i.used f i.stopped) (ap (λ j. j.form) c.self.view_is ∙ c.requires.unmarked) c.self.invariant in
    subst (λ j. Upgrades (as_keeper g.D.Disk.as_medium j) (keeper_of (g.D.Disk.as_medium c.put.new.disk) i.gate i.used true) (Err fault.DiskFault)) c.self.view_is
    (disk_failed m i.gate i.used i.stopped (g.met.D.Disk.read_is_left i.disk) going sound (g.D.Disk.as_medium c.put.new.disk) c.in-Err-Failed.ensures.goes (g.met.D.Disk.read_is_left c.put.new.disk) _ c.in-Err-Failed.ensures.puts
    (c.in-Err-Failed.ensures.failed (search rules)))

pub returns-in-Err-NoMemory-clause-upgrades : goal.returns-in-Err-NoMemory-clause-upgrades
returns-in-Err-NoMemory-clause-upgrades g c =
    let i = c.self.inside in
    let m = g.D.Disk.as_medium i.disk in
    let going : i.stopped ≡ false = ap (λ j. j.stopped) c.self.view_is ∙ c.requires.running in
    let sound = subst (λ f. IsSound m i.gate i.used f i.stopped) (ap (λ j. j.form) c.self.view_is ∙ c.requires.unmarked) c.self.invariant in
    subst (λ j. Upgrades (as_keeper g.D.Disk.as_medium j) (keeper_of (g.D.Disk.as_medium c.put.new.disk) i.gate i.used true) (Err fault.NoMemory)) c.self.view_is
    (no_memory m i.gate i.used i.stopped (g.met.D.Disk.read_is_left i.disk) going sound (g.D.Disk.as_medium c.put.new.disk) c.in-Err-NoMemory.ensures.goes (g.met.D.Disk.read_is_left c.put.new.disk) _ c.in-Err-NoMemory.ensures.puts)

pub invariant_of-self-in-Err-Failed : goal.invariant_of-self-in-Err-Failed
invariant_of-self-in-Err-Failed g c =
    let i = c.self.inside in
    let m = g.D.Disk.as_medium i.disk in
    let new = g.D.Disk.as_medium c.put.new.disk in
    let going : i.stopped ≡ false = ap (λ j. j.stopped) c.self.view_is ∙ c.requires.running in
    let unmarked : i.form ≡ Short = ap (λ j. j.form) c.self.view_is ∙ c.requires.unmarked in
    subst (λ f. IsSound new i.gate i.used f true) (sym unmarked)
    (broken m i.gate i.used i.stopped (g.met.D.Disk.read_is_left i.disk) going (subst (λ f. IsSound m i.gate i.used f i.stopped) unmarked c.self.invariant) new c.in-Err-Failed.ensures.goes (g.met.D.Disk.read_is_left c.put.new.disk) _ c.in-Err-Failed.ensures.puts)

pub invariant_of-self-in-Err-NoMemory : goal.invariant_of-self-in-Err-NoMemory
invariant_of-self-in-Err-NoMemory g c =
    let i = c.self.inside in
    let m = g.D.Disk.as_medium i.disk in
    let new = g.D.Disk.as_medium c.put.new.disk in
    let going : i.stopped ≡ false = ap (λ j. j.stopped) c.self.view_is ∙ c.requires.running in
    let unmarked : i.form ≡ Short = ap (λ j. j.form) c.self.view_is ∙ c.requires.unmarked in
    subst (λ f. IsSound new i.gate i.used f true) (sym unmarked)
    (broken m i.gate i.used i.stopped (g.met.D.Disk.read_is_left i.disk) going (subst (λ f. IsSound m i.gate i.used f i.stopped) unmarked c.self.invariant) new c.in-Err-NoMemory.ensures.goes (g.met.D.Disk.read_is_left c.put.new.disk) _ c.in-Err-NoMemory.ensures.puts)

pub returns-in-Ok-clause-images : goal.returns-in-Ok-clause-images
returns-in-Ok-clause-images g c =
    let i = c.self.inside in
    let m = g.D.Disk.as_medium i.disk in
    let new = g.D.Disk.as_medium c.put.new.disk in
    let going : i.stopped ≡ false = ap (λ j. j.stopped) c.self.view_is ∙ c.requires.running in
    let sound = subst (λ f. IsSound m i.gate i.used f i.stopped) (ap (λ j. j.form) c.self.view_is ∙ c.requires.unmarked) c.self.invariant in
    subst (λ j. IsTrue (g.D.Disk.as_medium j.disk).tells → Passes (g.D.Disk.as_medium j.disk) new (HasThese (as_keeper g.D.Disk.as_medium j).records)) c.self.view_is
    (marked_images m i.gate i.used i.stopped (g.met.D.Disk.read_is_left i.disk) going sound new c.in-Ok.ensures.goes (g.met.D.Disk.read_is_left c.put.new.disk) (i.gate + 7) refl c.in-Ok.ensures.puts)

pub returns-in-Err-Failed-clause-images : goal.returns-in-Err-Failed-clause-images
returns-in-Err-Failed-clause-images g c =
    let i = c.self.inside in
    let m = g.D.Disk.as_medium i.disk in
    let new = g.D.Disk.as_medium c.put.new.disk in
    let going : i.stopped ≡ false = ap (λ j. j.stopped) c.self.view_is ∙ c.requires.running in
    let sound = subst (λ f. IsSound m i.gate i.used f i.stopped) (ap (λ j. j.form) c.self.view_is ∙ c.requires.unmarked) c.self.invariant in
    subst (λ j. IsTrue (g.D.Disk.as_medium j.disk).tells → Passes (g.D.Disk.as_medium j.disk) new (HasThese (as_keeper g.D.Disk.as_medium j).records)) c.self.view_is
    (failed_images m i.gate i.used i.stopped (g.met.D.Disk.read_is_left i.disk) going sound new c.in-Err-Failed.ensures.goes (g.met.D.Disk.read_is_left c.put.new.disk) _ c.in-Err-Failed.ensures.puts)

pub returns-in-Err-NoMemory-clause-images : goal.returns-in-Err-NoMemory-clause-images
returns-in-Err-NoMemory-clause-images g c =
    let i = c.self.inside in
    let m = g.D.Disk.as_medium i.disk in
    let new = g.D.Disk.as_medium c.put.new.disk in
    let going : i.stopped ≡ false = ap (λ j. j.stopped) c.self.view_is ∙ c.requires.running in
    let sound = subst (λ f. IsSound m i.gate i.used f i.stopped) (ap (λ j. j.form) c.self.view_is ∙ c.requires.unmarked) c.self.invariant in
    subst (λ j. IsTrue (g.D.Disk.as_medium j.disk).tells → Passes (g.D.Disk.as_medium j.disk) new (HasThese (as_keeper g.D.Disk.as_medium j).records)) c.self.view_is
    (failed_images m i.gate i.used i.stopped (g.met.D.Disk.read_is_left i.disk) going sound new c.in-Err-NoMemory.ensures.goes (g.met.D.Disk.read_is_left c.put.new.disk) _ c.in-Err-NoMemory.ensures.puts)
