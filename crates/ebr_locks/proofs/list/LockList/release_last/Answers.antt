use Rattle.std.proofs.Common.{◌≡◌, ◌-◌, [], List, Option, Some, None, length, ap, sym, subst, ◌∙◌}
use Rattle.std.specs.Prelude.{IfNone}
use Rattle.ebr_locks.specs.Locks.{Lock, locks_of, released}
use Rattle.ebr_locks.specs.inside.Filed.{numbers_of}
use Rattle.ebr_locks.proofs.ListLemmas.{few_entries, stays_none, there, last_released, filed_less}
use Rattle.ebr_locks.proofs.list.LockList.release_last.Goals as goal

some-none : (o : Option Lock) (l : Lock) → o ≡ None → o ≡ Some l → ⊥
some-none o l e f = cc

pub returns-in_default : goal.returns-in_default
returns-in_default c =
    let none = subst (λ r. IfNone r (numbers_of c.args.tx.session.0 c.args.tx.depth c.self.inside.taken.entries ≡ [])) c.in_default.is (c.last_of.ensures.none c.self.inside.taken.entries (few_entries c.self.inside.taken.entries c.self.invariant.locks.count) c.self.invariant.owners_are) in
    sym c.self.view_is ∙ stays_none c.args.tx c.self.inside.taken.entries none ∙ ap (λ (ls : List Lock). released c.args.tx (length (locks_of c.args.tx ls) - 1) ls) c.self.view_is

pub returns-in_default-remove : goal.returns-in_default-remove
returns-in_default-remove c =
    let last = c.in-Some.ensures.some c.self.inside.taken.entries (few_entries c.self.inside.taken.entries c.self.invariant.locks.count) c.self.invariant.owners_are in
    absurd (some-none c.remove.result _ c.in_default-remove.is (c.remove.ensures.value ∙ there c.args.tx c.self.inside.taken.entries c.in-Some.last c.self.invariant.rising last))

pub invariant_of-self-2 : goal.invariant_of-self-2
invariant_of-self-2 c =
    let last = c.in-Some.ensures.some c.self.inside.taken.entries (few_entries c.self.inside.taken.entries c.self.invariant.locks.count) c.self.invariant.owners_are in
    filed_less c.args.tx c.self.inside.taken.entries c.in-Some.last c.self.invariant.rising last c.self.inside.rows c.self.inside.tables c.self.inside.owners c.remove-3.new.self c.remove-4.new.self c.remove-2.new.self c.remove.new.self.entries
    c.in-Some-remove.lock c.row_spot.result c.table_spot.result c.self.invariant c.remove.ensures.entries c.remove.ensures.ordered (sym c.in-Some-remove.is ∙ c.remove.ensures.value)
    c.row_spot.ensures.spot c.remove-3.ensures c.table_spot.ensures c.remove-4.ensures c.remove-2.ensures

pub returns : goal.returns
returns c =
    let last = c.in-Some.ensures.some c.self.inside.taken.entries (few_entries c.self.inside.taken.entries c.self.invariant.locks.count) c.self.invariant.owners_are in
    last_released c.args.tx c.self.inside.taken.entries c.in-Some.last c.self.invariant.rising last c.remove.new.self.entries c.remove.ensures.entries
    ∙ ap (λ (ls : List Lock). released c.args.tx (length (locks_of c.args.tx ls) - 1) ls) c.self.view_is
