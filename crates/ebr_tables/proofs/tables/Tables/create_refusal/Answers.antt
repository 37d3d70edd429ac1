use Rattle.std.proofs.Common.{sym, ap, ◌∙◌}
use Rattle.std.specs.Prelude.{is_some}
use Rattle.std.proofs.lemmas.List.{length-map}
use Rattle.ebr_tables.specs.Tables.{create_refusal, refusal_of}
use Rattle.ebr_tables.proofs.Entries.{lookup-keyed}
use Rattle.ebr_tables.proofs.tables.Tables.create_refusal.Goals as goal

pub returns : goal.returns
returns c =
    c.refusal_of.ensures
    ∙ ap (λ b. refusal_of b c.args.def.now c.len.result) (c.contains_key.ensures ∙ ap is_some (lookup-keyed c.self.inside.made c.args.def.now.name c.self.inside.living.entries c.self.invariant))
    ∙ ap (refusal_of _ c.args.def.now) (c.len.ensures.len ∙ sym (length-map _ _))
    ∙ ap (λ s. create_refusal s c.args.def.now) c.self.view_is
