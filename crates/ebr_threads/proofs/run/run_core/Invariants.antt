use Rattle.std.proofs.Common.{length}
use Rattle.ebr_threads.proofs.run.run_core.Given as goal

-- the run names what it is given
abbrev pub ghosts-run_named : goal.ghosts-run_named
ghosts-run_named g a = record { recovered = a.engine.recovered; sessions = length a.engine.books; keeper = g.K.Keep.as_keeper a.engine.keeper }
