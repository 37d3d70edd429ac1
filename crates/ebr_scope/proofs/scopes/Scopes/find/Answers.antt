use Rattle.std.proofs.Common.{◌≡◌, Some, None, reverse, slice_get, ap, sym, ◌∙◌, rules}
use Rattle.std.specs.Prelude.{find, option_map, option_and_then}
use Rattle.std.specs.Str.{bytes_eq}
use Rattle.ebr_scope.specs.Meanings.{Entry}
use Rattle.ebr_scope.specs.inside.Kept.{named}
use Rattle.ebr_scope.proofs.Entries.{found}
use Rattle.ebr_scope.proofs.Innermost.{at_entry}
use Rattle.ebr_scope.proofs.Shown.{shown}
use Rattle.ebr_scope.proofs.scopes.Scopes.find.Goals as goal

pub returns-in-Some : goal.returns-in-Some
returns-in-Some c =
    let l : c.as_slice.result.now ≡ c.self.inside.entries.items = search rules in
    let f : Some c.in-Some.entry.now ≡ find (λ e. bytes_eq c.args.name.now e.name.now) (reverse c.self.inside.entries.items) =
    c.in-Some.ensures
    ∙ ap (λ es. option_and_then (slice_get es) c.find.result) l
    ∙ at_entry named c.args.name.now c.self.inside.entries.items c.find.result c.self.inside.places c.find.ensures c.self.invariant.every
    in
    ap (λ o. option_map (λ (e : Entry). e.meaning) (option_map shown o)) f
    ∙ (ap (option_map (λ (e : Entry). e.meaning)) (sym (found shown (λ (e : Entry). bytes_eq c.args.name.now e.name) (reverse c.self.inside.entries.items)))
    ∙ search rules)

pub returns-in-None : goal.returns-in-None
returns-in-None c =
    let l : c.as_slice.result.now ≡ c.self.inside.entries.items = search rules in
    let f : None ≡ find (λ e. bytes_eq c.args.name.now e.name.now) (reverse c.self.inside.entries.items) =
    c.in-None.ensures
    ∙ ap (λ es. option_and_then (slice_get es) c.find.result) l
    ∙ at_entry named c.args.name.now c.self.inside.entries.items c.find.result c.self.inside.places c.find.ensures c.self.invariant.every
    in
    ap (λ o. option_map (λ (e : Entry). e.meaning) (option_map shown o)) f
    ∙ (ap (option_map (λ (e : Entry). e.meaning)) (sym (found shown (λ (e : Entry). bytes_eq c.args.name.now e.name) (reverse c.self.inside.entries.items)))
    ∙ search rules)
