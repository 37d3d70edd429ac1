use Rattle.std.proofs.Common.{ap, option_map}
use Rattle.ebr_versions.specs.inside.Index.{key_mark}
use Rattle.ebr_versions.proofs.Placing.{withdraws, withdraws_none, loses, loses_none}
use Rattle.ebr_versions.proofs.index.withdraw_key.Goals as goal

pub returns-in-Some-clause-last : goal.returns-in-Some-clause-last
returns-in-Some-clause-last c =
    withdraws key_mark c.args.entry c.args.entry.row.table.0 c.in-Some.print c.args.list c.args.place (ap (option_map (λ n. (c.args.entry.row.table.0, n))) c.in-Some.is)
    c.spot.result c.spot.ensures c.args.keys.now c.remove.new.self c.remove.ensures

pub returns-in-Some-clause-any : goal.returns-in-Some-clause-any
returns-in-Some-clause-any c = loses c.args.entry c.args.list c.args.place c.in-Some.print c.in-Some.is c.spot.result c.spot.ensures c.args.keys.now c.remove.new.self c.remove.ensures

pub returns-in-None-clause-last : goal.returns-in-None-clause-last
returns-in-None-clause-last c = withdraws_none key_mark c.args.entry c.args.list c.args.place (ap (option_map (λ n. (c.args.entry.row.table.0, n))) c.in-None.is) c.args.keys.now

pub returns-in-None-clause-any : goal.returns-in-None-clause-any
returns-in-None-clause-any c = loses_none c.args.entry c.args.list c.args.place c.in-None.is c.args.keys.now
