use Rattle.std.proofs.Common.{◌≡◌, ◌∷◌, ◌++◌, [], length, reverse, ap, sym, subst, ◌∙◌, rules}
use Rattle.std.proofs.lemmas.List.{length-reverse, reverse-append}
use Rattle.ebr_scope.specs.declared.nest.Nested as inside
use Rattle.ebr_scope.specs.inside.Nests.{IsNest, Notes}
use Rattle.ebr_scope.proofs.Innermost.{added}
use Rattle.ebr_scope.proofs.nest.Nest.add.Goals as goal

pub invariant_of-self : goal.invariant_of-self
invariant_of-self c =
    let e : inside.Nested = record { name = c.args.name; counts = c.args.counts; hides = c.place_in-hides.result } in
    let pushed : c.is_pushed.new.items.items ≡ c.self.inside.nested.items ++ e ∷ [] = c.is_pushed.ensures c.if-is_pushed.true in
    let at : c.len.result ≡ length c.self.inside.nested.items = search rules in
    let notes : Notes c.args.name.now c.args.counts c.len.result c.self.inside.places.entries c.note-noted.new.places.entries = search rules in
    subst (IsNest c.note-noted.new.places.entries) (sym (ap reverse pushed ∙ reverse-append c.self.inside.nested.items (e ∷ [])))
    (added c.self.inside.places.entries c.note-noted.new.places.entries e (reverse c.self.inside.nested.items) c.len.result c.self.invariant
    (at ∙ sym (length-reverse c.self.inside.nested.items)) notes c.place_in-hides.ensures)
