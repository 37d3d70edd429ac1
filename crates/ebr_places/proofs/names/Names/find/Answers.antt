use Rattle.std.proofs.Common.{◌≡◌, Some, None, map, reverse, slice_get, option_and_then, ap, sym, ◌∙◌, rules}
use Rattle.std.specs.Prelude.{find, option_map}
use Rattle.std.specs.Str.{bytes_eq}
use Rattle.ebr_run.specs.Scope.{Named, denoted_of}
use Rattle.ebr_places.specs.inside.Kept.{named}
use Rattle.ebr_scope.proofs.Entries.{found}
use Rattle.ebr_scope.proofs.Innermost.{at_entry}
use Rattle.ebr_places.proofs.Shown.{shown}
use Rattle.ebr_places.proofs.names.Names.find.Goals as goal

pub returns-in-Some : goal.returns-in-Some
returns-in-Some c =
    let l : c.as_slice.result.now ≡ c.self.inside.entries.items = search rules in
    let v : map shown (reverse c.self.inside.entries.items) ≡ c.args.self.now = search rules in
    let f : Some c.in-Some.entry.now ≡ find (λ e. bytes_eq c.args.name.now e.name.now) (reverse c.self.inside.entries.items) =
    c.in-Some.ensures
    ∙ ap (λ es. option_and_then (slice_get es) c.find.result) l
    ∙ at_entry named c.args.name.now c.self.inside.entries.items c.find.result c.self.inside.places c.find.ensures c.self.invariant.every
    in
    ap (λ o. option_map denoted_of (option_map shown o)) f
    ∙ ap (option_map denoted_of) (sym (found shown (λ (x : Named). bytes_eq c.args.name.now x.entry.name) (reverse c.self.inside.entries.items)))
    ∙ ap (λ es. option_map denoted_of (find (λ (x : Named). bytes_eq c.args.name.now x.entry.name) es)) v

pub returns-in-None : goal.returns-in-None
returns-in-None c =
    let l : c.as_slice.result.now ≡ c.self.inside.entries.items = search rules in
    let v : map shown (reverse c.self.inside.entries.items) ≡ c.args.self.now = search rules in
    let f : None ≡ find (λ e. bytes_eq c.args.name.now e.name.now) (reverse c.self.inside.entries.items) =
    c.in-None.ensures
    ∙ ap (λ es. option_and_then (slice_get es) c.find.result) l
    ∙ at_entry named c.args.name.now c.self.inside.entries.items c.find.result c.self.inside.places c.find.ensures c.self.invariant.every
    in
    ap (λ o. option_map denoted_of (option_map shown o)) f
    ∙ ap (option_map denoted_of) (sym (found shown (λ (x : Named). bytes_eq c.args.name.now x.entry.name) (reverse c.self.inside.entries.items)))
    ∙ ap (λ es. option_map denoted_of (find (λ (x : Named). bytes_eq c.args.name.now x.entry.name) es)) v
