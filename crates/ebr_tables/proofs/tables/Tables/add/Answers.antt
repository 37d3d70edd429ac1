use Rattle.std.proofs.Common.{ap, sym, subst, suc, ◌≡◌, ◌∙◌}
use Rattle.ebr_base.specs.declared.numbers.TableId.{TableId}
use Rattle.ebr_base.specs.Keys.{table_named}
use Rattle.ebr_tables.specs.Tables.{AllTables, MayJoin}
use Rattle.ebr_tables.specs.inside.Keyed.{Keyed}
use Rattle.ebr_tables.proofs.Entries.{lookup-keyed, pushed-keyed}
use Rattle.ebr_tables.proofs.tables.Tables.add.Goals as goal

pub put-requires : goal.put-requires
put-requires c =
    lookup-keyed c.self.inside.made c.args.def.name c.self.inside.living.entries c.self.invariant
    ∙ ap (λ (s : AllTables). table_named c.args.def.name s.living) c.self.view_is ∙ c.requires.new

pub invariant_of-self-2 : goal.invariant_of-self-2
invariant_of-self-2 c =
    let made = c.self.inside.made in
    let may = subst (λ (s : AllTables). MayJoin s c.args.def) (sym c.self.view_is) c.requires in
    let next : c.args.def.id.0 ≡ suc made = ap (λ (i : TableId). i.0) may.next in
    subst (λ m. Keyed m c.put.new.tables.entries) (sym next)
    (subst (Keyed (suc made)) (sym c.in_ok-put.ensures.ok) (pushed-keyed made c.args.def c.self.inside.living.entries c.self.invariant may))
