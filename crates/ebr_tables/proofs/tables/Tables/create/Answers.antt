use Rattle.std.proofs.Common.{◌≡◌, ◌<◌, ap, sym, subst, ◌∙◌}
use Rattle.ebr_base.specs.declared.numbers.TableId.{TableId}
use Rattle.ebr_base.specs.declared.table.Column.{Column}
use Rattle.ebr_base.specs.declared.table.TableDef.{TableDef}
use Rattle.std.specs.Prelude.{List}
use Rattle.ebr_tables.specs.Definitions.{with_key_not_null}
use Rattle.ebr_tables.specs.Tables.{MayJoin}
use Rattle.ebr_tables.proofs.Allowed.{allowed}
use Rattle.ebr_tables.proofs.Entries.{may-join}
use Rattle.ebr_tables.proofs.tables.Tables.create.Goals as goal

pub add-requires : goal.add-requires
add-requires c =
    let def : TableId → List Column → TableDef = λ id columns. record { id = id; name = c.args.def.name; columns = columns; key = c.args.def.key } in
    let columns : c.in_ok-columns.columns ≡ with_key_not_null c.args.def.key 0 c.args.def.columns =
    c.in_ok-columns.ensures
    ∙ ap (λ key. with_key_not_null key 0 c.as_slice.result.now) c.as_slice-2.ensures
    ∙ ap (with_key_not_null c.args.def.key 0) c.as_slice.ensures
    in
    subst (MayJoin c.args.self.now) (ap (λ id. def id (with_key_not_null c.args.def.key 0 c.args.def.columns)) (sym c.in_ok-id.ensures.id) ∙ ap (def c.in_ok-id.id) (sym columns))
    (may-join c.args.self.now c.args.def (allowed c.args.self.now c.args.def (sym c.in_default.ensures)) c.in_ok-id.ensures.few)
