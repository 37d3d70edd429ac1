use Rattle.std.proofs.Common.{subst}
use Rattle.ebr_versions.specs.inside.Index.{Indexed, Keeps, AreOvertaken}
use Rattle.ebr_versions.proofs.Placing.{keeps_overtaken}
use Rattle.ebr_versions.proofs.index.Index.overtake.Goals as goal

pub returns-clause-entries : goal.returns-clause-entries
returns-clause-entries c = subst (λ (old : Indexed). AreOvertaken c.args.row old.pending c.lose_key.new.pending.items) c.self.view_is c.lose_key.ensures.entries

pub returns-clause-keeps : goal.returns-clause-keeps
returns-clause-keeps c =
    subst (λ (old : Indexed). Keeps c.args.list old (record { rows = c.self.inside.rows; keys = c.lose_key.new.keys; pending = c.lose_key.new.pending.items })) c.self.view_is
    (keeps_overtaken c.args.row c.args.list c.self.inside.rows c.self.inside.keys c.lose_key.new.keys c.self.inside.pending.items c.lose_key.new.pending.items c.lose_key.ensures.entries c.lose_key.ensures.keys)
