use Rattle.std.proofs.Common.{◌∷◌, ◌++◌, [], map, ap, ◌∙◌}
use Rattle.std.proofs.lemmas.List.{map-append}
use Rattle.std.specs.Str.{bytes_eq}
use Rattle.indexmap.proofs.CallerLemmas.{insert_entry-new}
use Rattle.ebr_run.specs.Calls.{first_state}
use Rattle.ebr_run.specs.Packages.{forget}
use Rattle.ebr_memory.specs.Packages.{made_of}
use Rattle.ebr_memory.specs.inside.Views.{package_of}
use Rattle.ebr_memory.proofs.States.{once_of, removed, not_forgotten}
use Rattle.ebr_memory.proofs.package.Packages.renew.Goals as goal

pub returns-clause-renewed : goal.returns-clause-renewed
returns-clause-renewed c =
    let name = c.args.name in
    let left = c.shift_remove.new.self in
    ap (map package_of) (c.in_ok-insert.ensures.entries ∙ insert_entry-new bytes_eq left name c.first_state.result c.shift_remove.ensures.updates.1)
    ∙ map-append package_of left.entries ((name, c.first_state.result) ∷ [])
    ∙ ap (λ s. map package_of left.entries ++ package_of (name, s) ∷ []) c.first_state.ensures
    ∙ ap (λ ss. ss ++ first_state name (made_of c.args.made) c.args.stateful ∷ [])
    (ap (map package_of) c.shift_remove.ensures.entries
    ∙ removed name c.self.inside.states.entries (once_of name c.self.inside.states.entries left.entries c.shift_remove.ensures.entries c.shift_remove.ensures.updates.1)
    ∙ ap (forget name) c.self.view_is)

pub returns-clause-added : goal.returns-clause-added
returns-clause-added c absent =
    returns-clause-renewed c ∙ ap (λ ss. ss ++ first_state c.args.name (made_of c.args.made) c.args.stateful ∷ []) (not_forgotten c.args.name c.args.self.now absent)
