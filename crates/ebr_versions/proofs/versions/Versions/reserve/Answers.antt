use Rattle.std.proofs.Common.{◌≡◌, List, length, rules, sym, subst}
use Rattle.ebr_base.specs.declared.row.Change.{Change}
use Rattle.ebr_versions.specs.Store.{IsStored}
use Rattle.ebr_versions.proofs.Indexing.{stored_kept, keeps_twice}
use Rattle.ebr_versions.proofs.versions.Versions.reserve.Goals as goal

pub invariant_of-self-in_err-file : goal.invariant_of-self-in_err-file
invariant_of-self-in_err-file c =
    let count : c.len-list.result ≡ length c.self.inside.commits.items = search rules in
    subst (λ (cs : List (List Change)). IsStored cs c.self.inside.tables c.file.new.index) (sym c.reserve.ensures.items)
    (stored_kept c.self.inside.commits.items c.self.inside.tables c.self.inside.index c.file.new.index c.len-list.result count c.self.invariant
    (keeps_twice c.len-list.result c.self.inside.index c.withdraw.new.self c.file.new.index c.withdraw.ensures.keeps c.in_err-file.ensures.keeps))

pub invariant_of-self-2 : goal.invariant_of-self-2
invariant_of-self-2 c =
    let count : c.len-list.result ≡ length c.self.inside.commits.items = search rules in
    subst (λ (cs : List (List Change)). IsStored cs c.self.inside.tables c.file.new.index) (sym c.reserve.ensures.items)
    (stored_kept c.self.inside.commits.items c.self.inside.tables c.self.inside.index c.file.new.index c.len-list.result count c.self.invariant
    (keeps_twice c.len-list.result c.self.inside.index c.withdraw.new.self c.file.new.index c.withdraw.ensures.keeps c.in_ok-file.ensures.keeps))
