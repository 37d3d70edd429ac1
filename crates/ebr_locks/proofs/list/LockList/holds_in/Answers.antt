use Rattle.std.proofs.Common.{ap, sym, subst, ◌∙◌}
use Rattle.std.specs.Prelude.{IfSome, IfNone}
use Rattle.std.specs.Bool.{OnTrue, OnFalse}
use Rattle.std.specs.Map.{values_of}
use Rattle.ebr_spots.specs.Spots.{IsNextNumber, IsNoNextNumber}
use Rattle.ebr_locks.specs.Locks.{is_held_in}
use Rattle.ebr_locks.specs.inside.Filed.{SomeBelow, NoneBelow}
use Rattle.ebr_locks.proofs.FiledLemmas.{held_above, held_below}
use Rattle.ebr_locks.proofs.list.LockList.holds_in.Goals as goal

pub returns-then-is_some : goal.returns-then-is_some
returns-then-is_some c =
    c.if-is_some.true
    ∙ held_above c.self.inside.tables (values_of c.self.inside.taken.entries) c.self.invariant.tables_are c.self.invariant.fit c.args.table c.args.but c.tx_number-number.ensures.fits c.next_number.result (sym c.is_some.ensures ∙ c.if-is_some.true)
    (subst (λ n. IfSome c.next_number.result (IsNextNumber c.self.inside.tables c.args.table.0 n)) c.tx_number-number.ensures.number c.next_number.ensures.some)
    ∙ ap (is_held_in c.args.table c.args.but) c.self.view_is

pub returns-else-is_some : goal.returns-else-is_some
returns-else-is_some c =
    held_below c.self.inside.tables (values_of c.self.inside.taken.entries) c.self.invariant.tables_are c.self.invariant.fit c.args.table c.args.but c.tx_number-number.ensures.fits c.next_number.result c.holds_below.result (sym c.is_some.ensures ∙ c.if-is_some.false)
    (subst (λ n. IfNone c.next_number.result (IsNoNextNumber c.self.inside.tables c.args.table.0 n)) c.tx_number-number.ensures.number c.next_number.ensures.none)
    (subst (λ n. OnTrue c.holds_below.result (SomeBelow c.self.inside.tables c.args.table.0 n)) c.tx_number-number.ensures.number c.holds_below.ensures.yes)
    (subst (λ n. OnFalse c.holds_below.result (NoneBelow c.self.inside.tables c.args.table.0 n)) c.tx_number-number.ensures.number c.holds_below.ensures.no)
    ∙ ap (is_held_in c.args.table c.args.but) c.self.view_is
