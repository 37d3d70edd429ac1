use Rattle.std.proofs.Common.{◌≡◌, ◌∷◌, ◌++◌, [], reverse, ap, sym, subst, ◌∙◌}
use Rattle.std.proofs.lemmas.List.{reverse-append}
use Rattle.ebr_scope.specs.inside.Nests.{IsNest}
use Rattle.ebr_scope.proofs.Innermost.{popped}
use Rattle.ebr_scope.proofs.nest.Nest.pop.Goals as goal

pub invariant_of-self : goal.invariant_of-self
invariant_of-self c =
    let split : c.self.inside.nested.items ≡ c.pop.new.self.items ++ c.in-Some.last ∷ [] = c.in-Some.ensures.items in
    let was : IsNest c.self.inside.places.entries (c.in-Some.last ∷ reverse c.pop.new.self.items) =
    subst (IsNest c.self.inside.places.entries) (ap reverse split ∙ reverse-append c.pop.new.self.items (c.in-Some.last ∷ [])) c.self.invariant
    in
    subst (λ ps. IsNest ps (reverse c.pop.new.self.items)) (sym c.restore.ensures)
    (popped c.self.inside.places.entries c.in-Some.last (reverse c.pop.new.self.items) was)
