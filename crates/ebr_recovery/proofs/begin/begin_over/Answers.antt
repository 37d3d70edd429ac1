use Rattle.ebr_recovery.proofs.begin.begin_over.Goals as goal

pub over-requires-clause-are : goal.over-requires-clause-are
over-requires-clause-are g c = c.requires.recovers.1

pub returns-in-Ok : goal.returns-in-Ok
returns-in-Ok g c = (c.requires.recovers.0, c.in-Ok.ensures.engine)

pub returns-in-Err : goal.returns-in-Err
returns-in-Err g c = (c.in-Err.ensures.keeper, tt)
