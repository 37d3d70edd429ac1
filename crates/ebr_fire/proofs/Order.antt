-- The order that stamped triggers derive is that of the definitions.
use Rattle.std.proofs.Common.{◌≡◌, ℕ, List, true, cond, refl, sym, ap, ◌∙◌}
use Rattle.std.specs.BTreeSet.{insert_key}
use Rattle.std.specs.Ordering.{ordering_then}
use Rattle.ebr_base.specs.contracts.object.ObjectKeyOrd.TheImpl.{ghosts as key_ghosts}
use Rattle.ebr_ast.specs.declared.view.Object.{Object}
use Rattle.ebr_cross.proofs.InOrder.{derived as derived_key}
use Rattle.ebr_fire.specs.declared.firing.Stamped.{Stamped}
use Rattle.ebr_fire.specs.declared.kind.Kind.{Kind}
use Rattle.ebr_fire.specs.contracts.firing.StampedOrd.TheImpl.{ghosts}
use Rattle.ebr_fire.specs.Fires.{is_fired, stamped, stamp_order, firing_order}
use Rattle.ebr_fire.specs.inside.Groups.{with_object}

by-key : (a b : Stamped) → ghosts.cmp a b ≡ ordering_then (stamp_order a.stamp b.stamp) (key_ghosts.cmp a.key b.key)
by-key a b = refl

by-both : (a b : Stamped) → ghosts.cmp a b ≡ firing_order a b
by-both a b = by-key a b ∙ ap (λ cmp. ordering_then (stamp_order a.stamp b.stamp) (cmp a.key b.key)) derived_key

pub derived : ghosts.cmp ≡ firing_order
derived = λ i a b. by-both a b i

-- one trigger more
pub inserted : (k : Kind) (on : List ℕ) (group new : List Stamped) (o : Object) (x : Stamped) → is_fired k on o ≡ true → x ≡ stamped o → new ≡ insert_key ghosts.cmp group x → new ≡ with_object k on group o
inserted k on group new o x fires same put =
    put
    ∙ (ap (λ cmp. insert_key cmp group x) derived
    ∙ (ap (insert_key firing_order group) same ∙ sym (ap (λ b. cond b (insert_key firing_order group (stamped o)) group) fires)))
