use Rattle.std.proofs.Common.{◌≡◌, ◌&&◌, Some, None, reverse, slice_get, ap, sym, ◌∙◌, rules}
use Rattle.std.specs.Prelude.{find, option_map, option_and_then}
use Rattle.std.specs.Option.{is_some, option_copied}
use Rattle.std.specs.Str.{bytes_eq}
use Rattle.ebr_scope.specs.Meanings.{Entry, head_in, is_subprogram}
use Rattle.ebr_scope.specs.Lent.{lent}
use Rattle.ebr_scope.specs.inside.Kept.{callable}
use Rattle.ebr_scope.proofs.Entries.{found, by_same, other_order}
use Rattle.ebr_scope.proofs.Innermost.{at_entry}
use Rattle.ebr_scope.proofs.Shown.{shown}
use Rattle.ebr_scope.proofs.scopes.Scopes.subprogram.Goals as goal

pub returns-in-Some : goal.returns-in-Some
returns-in-Some c =
    let l : c.as_slice.result.now ≡ c.self.inside.entries.items = search rules in
    let f : Some c.in-Some.entry.now ≡ find (λ e. bytes_eq c.args.name.now e.name.now && is_some (head_in (lent e.meaning))) (reverse c.self.inside.entries.items) =
    c.in-Some.ensures
    ∙ ap (λ es. option_and_then (slice_get es) c.find.result) l
    ∙ at_entry callable c.args.name.now c.self.inside.entries.items c.find.result c.self.inside.subprograms c.find.ensures c.self.invariant.some
    ∙ by_same _ (λ e. bytes_eq c.args.name.now e.name.now && is_some (head_in (lent e.meaning))) (λ e. other_order (is_some (head_in (lent e.meaning))) (bytes_eq c.args.name.now e.name.now)) (reverse c.self.inside.entries.items)
    in
    let p : option_copied c.head_in.result ≡ head_in (lent c.in-Some.entry.now.meaning) = search rules in
    p ∙ (ap (λ o. option_and_then (λ (e : Entry). head_in e.meaning) (option_map shown o)) f
    ∙ (ap (option_and_then (λ (e : Entry). head_in e.meaning)) (sym (found shown (is_subprogram c.args.name.now) (reverse c.self.inside.entries.items)))
    ∙ search rules))

pub returns-in-None : goal.returns-in-None
returns-in-None c =
    let l : c.as_slice.result.now ≡ c.self.inside.entries.items = search rules in
    let f : None ≡ find (λ e. bytes_eq c.args.name.now e.name.now && is_some (head_in (lent e.meaning))) (reverse c.self.inside.entries.items) =
    c.in-None.ensures
    ∙ ap (λ es. option_and_then (slice_get es) c.find.result) l
    ∙ at_entry callable c.args.name.now c.self.inside.entries.items c.find.result c.self.inside.subprograms c.find.ensures c.self.invariant.some
    ∙ by_same _ (λ e. bytes_eq c.args.name.now e.name.now && is_some (head_in (lent e.meaning))) (λ e. other_order (is_some (head_in (lent e.meaning))) (bytes_eq c.args.name.now e.name.now)) (reverse c.self.inside.entries.items)
    in
    ap (λ o. option_and_then (λ (e : Entry). head_in e.meaning) (option_map shown o)) f
    ∙ (ap (option_and_then (λ (e : Entry). head_in e.meaning)) (sym (found shown (is_subprogram c.args.name.now) (reverse c.self.inside.entries.items)))
    ∙ search rules)
