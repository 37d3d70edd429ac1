use Rattle.std.proofs.Common.{◌≡◌, [], rules}
use Rattle.ebr_database.proofs.Kept.{none_kept}
use Rattle.ebr_database.proofs.transact.keep_changes.Goals as goal

pub returns-then-is_empty : goal.returns-then-is_empty
returns-then-is_empty g c = let e : c.args.changes ≡ [] = search rules in none_kept c.args.changes (g.K.Keep.as_keeper c.args.keeper.now) e
