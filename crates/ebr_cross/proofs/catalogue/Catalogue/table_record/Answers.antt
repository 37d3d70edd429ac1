use Rattle.std.proofs.Common.{ap, subst, sym, ◌∙◌}
use Rattle.ebr_base.specs.declared.numbers.TableId.{TableId}
use Rattle.ebr_tables.specs.Tables.{MayJoin, kept_as}
use Rattle.ebr_tables.proofs.Allowed.{allowed}
use Rattle.ebr_tables.proofs.Entries.{may-join}
use Rattle.ebr_cross.proofs.catalogue.Catalogue.table_record.Goals as goal

pub returns-clause-follows : goal.returns-clause-follows
returns-clause-follows c =
    let s = c.args.self.now.tables in
    subst (MayJoin s) (sym (c.in_ok-kept_copy.ensures ∙ ap (λ (id : TableId). kept_as id c.args.def.now) c.in_ok-id.ensures.id))
    (may-join s c.args.def.now (allowed s c.args.def.now (sym c.in_default.ensures)) c.in_ok-id.ensures.few)
