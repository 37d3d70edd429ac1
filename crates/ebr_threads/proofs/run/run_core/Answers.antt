use Rattle.ebr_threads.proofs.Living.{of_run_first}
use Rattle.ebr_threads.proofs.Placing.{ready_first}
use Rattle.ebr_threads.proofs.Telling.{has_run}
use Rattle.ebr_threads.proofs.run.run_core.Goals as goal

pub run_named-requires-clause-ready : goal.run_named-requires-clause-ready
run_named-requires-clause-ready g c = λ κs within. ready_first _ c.args.engine c.requires.stand c.requires.first

pub run_named-requires-clause-run : goal.run_named-requires-clause-run
run_named-requires-clause-run g c = λ κs within. of_run_first g.K.Keep.as_keeper c.args.engine c.requires.first

pub returns-clause-ran : goal.returns-clause-ran
returns-clause-ran g c = has_run g.K.Keep.as_keeper c.args.engine c.run_named.result _ _ (ready_first _ c.args.engine c.requires.stand c.requires.first) c.run_named.ensures.run c.run_named.ensures.told
