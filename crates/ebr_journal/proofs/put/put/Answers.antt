use Rattle.ebr_journal.proofs.Putting.{first_fails, second_fails, third_fails, ends_with}
use Rattle.ebr_journal.proofs.put.put.Goals as goal

pub returns-in_err-write_at-clause-puts : goal.returns-in_err-write_at-clause-puts
returns-in_err-write_at-clause-puts g c = λ tells before after settled next.
    first_fails _ before after _ next _ tells settled _ _ c.in_err-write_at.ensures.writes _ c.from_residual.ensures.0

pub returns-in_err-sync-clause-puts : goal.returns-in_err-sync-clause-puts
returns-in_err-sync-clause-puts g c = λ tells before after settled next.
    second_fails _ before after _ next _ tells settled _ _ c.in_ok-write_at.ensures.writes _ _ c.in_err-sync.ensures.syncs _ c.from_residual-in_err-sync.ensures.0

pub returns-in_err-write_at-2-clause-puts : goal.returns-in_err-write_at-2-clause-puts
returns-in_err-write_at-2-clause-puts g c = λ tells before after settled next.
    third_fails _ before after _ next _ tells settled _ _ c.in_ok-write_at.ensures.writes _ _ c.in_ok-sync.ensures.syncs _ _ c.in_err-write_at-2.ensures.writes _ c.from_residual-in_err-write_at-2.ensures.0

pub returns-clause-puts : goal.returns-clause-puts
returns-clause-puts g c = λ tells before after settled next.
    ends_with _ before after _ next _ tells settled _ _ c.in_ok-write_at.ensures.writes _ _ c.in_ok-sync.ensures.syncs _ _ c.in_ok-write_at-2.ensures.writes _ _ c.sync-2.ensures.syncs
