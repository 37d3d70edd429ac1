-- The entries of a book stand as the objects do.
use Rattle.std.proofs.Common.{◌≡◌, ℕ, ◌+◌, Bool, true, false, cond, List, [], ◌∷◌, map, find, take, drop, Some, option_map, refl, ap, subst, sym, ◌∙◌}
use Rattle.std.specs.List.Sorted.{IsStrictlySortedBy}
use Rattle.ebr_base.specs.declared.object.ObjectKey.{ObjectKey}
use Rattle.ebr_base.specs.Keys.{same_key, key_order}
use Rattle.ebr_ast.specs.declared.view.EditionView.{EditionView}
use Rattle.ebr_ast.specs.declared.view.Object.{Object}
use Rattle.ebr_ast.specs.Views.{IsInOrder, key_of, object_of}
use Rattle.ebr_units.specs.declared.book.Entry.{Entry}
use Rattle.ebr_units.specs.Served.{valid_among}
use Rattle.ebr_units.specs.inside.Entries.{entry, key_in}

-- what a book keeps
abbrev pub Holds : EditionView → List Entry → Type 0
Holds v es = IsInOrder v × (es ≡ map (entry v) v.objects)

keys-in : (v : EditionView) (os : List Object) → map key_in (map (entry v) os) ≡ map key_of os
keys-in v [] = refl
keys-in v (o ∷ os) = ap (λ ks. key_of o ∷ ks) (keys-in v os)

pub sorted-in : (v : EditionView) (es : List Entry) → es ≡ map (entry v) v.objects → IsInOrder v → IsStrictlySortedBy key_order (map key_in es)
sorted-in v es is order = subst (IsStrictlySortedBy key_order) (sym (ap (map key_in) is ∙ keys-in v v.objects)) order.objects

found-first : (v : EditionView) (key : ObjectKey) (o : Object) (os : List Object) (b : Bool) → find (λ (e : Entry). same_key key (key_in e)) (map (entry v) os) ≡ option_map (entry v) (object_of key os) → cond b (Some (entry v o)) (find (λ (e : Entry). same_key key (key_in e)) (map (entry v) os)) ≡ option_map (entry v) (cond b (Some o) (object_of key os))
found-first v key o os true found = refl
found-first v key o os false found = found

pub found-in : (v : EditionView) (key : ObjectKey) (os : List Object) → find (λ (e : Entry). same_key key (key_in e)) (map (entry v) os) ≡ option_map (entry v) (object_of key os)
found-in v key [] = refl
found-in v key (o ∷ os) = found-first v key o os (same_key key o.key) (found-in v key os)

-- how far the entries are made, and how many steps are counted
pub record AreMade (v : EditionView) (objects : List Object) (at : ℕ) (es : List Entry) (first now : ℕ) : Type 0 where
  pub entries : es ≡ map (entry v) (take at objects)
  pub steps : now + valid_among v (drop at objects) ≡ first + valid_among v objects
