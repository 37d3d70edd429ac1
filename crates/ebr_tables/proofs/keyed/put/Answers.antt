use Rattle.std.proofs.Common.{ap, ◌∙◌}
use Rattle.std.specs.Str.{bytes_eq}
use Rattle.indexmap.specs.IndexMap.{insert_entry}
use Rattle.indexmap.proofs.CallerLemmas.{insert_entry-new}
use Rattle.ebr_tables.proofs.keyed.put.Goals as goal

pub returns-clause-ok : goal.returns-clause-ok
returns-clause-ok c =
    c.in_ok-insert.ensures.entries
    ∙ ap (λ n. insert_entry bytes_eq c.args.tables.now.entries n c.args.def) c.in_ok-name.ensures
    ∙ insert_entry-new bytes_eq c.args.tables.now c.args.def.name c.args.def c.requires
