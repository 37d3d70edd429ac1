use denote.Exit.{no}
use denote.Param.{param}
use denote.Param.Send.{arg_send, arg_sync, param_send, param_sync, sendable}
use Rattle.ebr_asks.specs.contracts.entry.Exchange as exchange
use Rattle.ebr_threads.specs.contracts.desk.DeskBooked.TheImpl.{ghosts, no_dict}
use Rattle.ebr_threads.proofs.Crossing.{lent_sync, seated_send, turn_sync}
use Rattle.ebr_threads.proofs.seated.each.Goals as goal

pub for_each_mut-requires-send-T : goal.for_each_mut-requires-send-T
for_each_mut-requires-send-T g c κs within =
    param_send 1 _ (arg_send _ no _ (seated_send (param 1 g.row.K) (param 2 g.row.N) exchange.the_row g.K.Keep g.N.Naming (ghosts (param 1 g.row.K) (param 2 g.row.N) g.K.Keep no_dict g.N.Naming no_dict no_dict)
    (search (c.type_bounds.send-K, sendable)) (search (c.type_bounds.send-N, sendable)) (param 0 g.row.S) g.S.Sink (search (c.type_bounds.send-S, sendable))))

pub for_each_mut-requires-sync-F : goal.for_each_mut-requires-sync-F
for_each_mut-requires-sync-F g c κs within =
    let t = turn_sync (param 1 g.row.K) (param 2 g.row.N) exchange.the_row g.K.Keep g.N.Naming (ghosts (param 1 g.row.K) (param 2 g.row.N) g.K.Keep no_dict g.N.Naming no_dict no_dict)
    (search (c.type_bounds.send-K, sendable)) (search (c.type_bounds.send-N, sendable)) in
    param_sync 2 _ (arg_sync _ no _ (lent_sync _ _ _ _ _ _ _ (param 4 g.row.R) _ (param 3 g.row.G) (search (c.type_bounds.sync-R, sendable)) t (search (c.type_bounds.sync-G, sendable))))
