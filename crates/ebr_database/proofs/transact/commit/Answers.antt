use Rattle.std.proofs.Common.{List, sym, subst}
use Rattle.ebr_base.specs.declared.row.Change.{Change}
use Rattle.ebr_tx.specs.Data.{own}
use Rattle.ebr_tx.specs.Calls.{MayCommit}
use Rattle.ebr_record.specs.declared.record.Record.TheVariants.{Commit}
use Rattle.ebr_record.specs.Payload.{HasPayload}
use Rattle.ebr_database.specs.Storable.{AllStorable}
use Rattle.ebr_database.proofs.AllStays.{has_payload, settled}
use Rattle.ebr_database.proofs.Goes.{wants_memory}
use Rattle.ebr_database.proofs.transact.commit.Goals as goal

pub returns-in_err-changes-clause-exact : goal.returns-in_err-changes-clause-exact
returns-in_err-changes-clause-exact g c = wants_memory _ _ _ _ c.from_residual.ensures.1

pub keep_changes-requires : goal.keep_changes-requires
keep_changes-requires g c =
    subst (λ (cs : List Change). HasPayload (Commit cs)) (sym c.in_ok-changes.ensures.changes)
    (has_payload c.args.tx.now.contents c.args.t c.requires.storable (subst (MayCommit c.args.tx.now.contents) c.in_ok-changes.ensures.changes c.in_ok-changes.ensures.may)
    (c.commits_are_as_long_as_counted.ensures (own c.args.tx.now.contents c.args.t).changes))

pub returns-clause-storable : goal.returns-clause-storable
returns-clause-storable g c =
    subst AllStorable (sym c.settle.ensures.contents) (settled c.prepare.new.self.contents c.args.t (subst AllStorable (sym c.prepare.ensures.contents) c.requires.storable))
