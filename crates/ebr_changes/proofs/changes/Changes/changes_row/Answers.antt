use Rattle.std.proofs.Common.{sym, ap, ◌∙◌}
use Rattle.std.specs.Prelude.{is_some}
use Rattle.std.specs.Option.{option_copied}
use Rattle.ebr_versions.proofs.LawLemmas.{changes_row_is}
use Rattle.ebr_changes.proofs.changes.Changes.changes_row.Goals as goal

pub returns-in-Some : goal.returns-in-Some
returns-in-Some c = sym (changes_row_is c.args.row c.args.self.now.changes ∙ ap is_some (sym c.last.ensures ∙ ap option_copied c.in-Some.is))

pub returns-in-None : goal.returns-in-None
returns-in-None c = sym (changes_row_is c.args.row c.args.self.now.changes ∙ ap is_some (sym c.last.ensures ∙ ap option_copied c.in-None.is))
