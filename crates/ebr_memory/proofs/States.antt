-- What the calls on the map do to the list of states.
use Rattle.std.proofs.Common.{◌≡◌, ℕ, Bool, true, false, not, cond, List, [], ◌∷◌, map, Some, None, refl, sym, ap, ◌∙◌, true≢false, is_some}
use Rattle.std.specs.Map.{lookup, remove_entry, set_value, keys_of}
use Rattle.std.specs.Str.{bytes_eq}
use Rattle.std.proofs.lemmas.Bool.{cond-false}
use Rattle.std.proofs.lemmas.Cmp.{nat_list_eq_equiv}
use Rattle.std.proofs.lemmas.Map.{lookup-remove_entry}
use Rattle.std.proofs.lemmas.Option.{same_Some}
use Rattle.std.specs.List.{IsDistinct}
use Rattle.ebr_run.specs.Packages as run
use Rattle.ebr_run.specs.Packages.{change, changed, forget, state_of, is_of}
use Rattle.ebr_memory.specs.declared.package.PackageState.{PackageState}
use Rattle.ebr_memory.specs.inside.Views.{package_of}

abbrev Entries : Type 0
Entries = List (List ℕ × PackageState)

-- the state that the map finds, under some name
pub found_at : (n : List ℕ) (es : Entries) (s : PackageState) → lookup (bytes_eq n) es ≡ Some s → (m : List ℕ) × (state_of n (map package_of es) ≡ Some (package_of (m, s)))
found_at n [] s h = absurd (true≢false (sym (ap is_some h)))
found_at n (e ∷ es) s h = by (bytes_eq n e.0) h (found_at n es s)
  where
    by : (b : Bool) → cond b (Some e.1) (lookup (bytes_eq n) es) ≡ Some s → (lookup (bytes_eq n) es ≡ Some s → (m : List ℕ) × (state_of n (map package_of es) ≡ Some (package_of (m, s))))
        → (m : List ℕ) × (cond b (Some (package_of e)) (state_of n (map package_of es)) ≡ Some (package_of (m, s)))
    by true at rest = (e.0, ap (λ s. Some (package_of (e.0, s))) (same_Some _ _ at))
    by false at rest = rest at

pub found_none : (n : List ℕ) (es : Entries) → lookup (bytes_eq n) es ≡ None → state_of n (map package_of es) ≡ None
found_none n [] h = refl
found_none n (e ∷ es) h = by (bytes_eq n e.0) h (found_none n es)
  where
    by : (b : Bool) → cond b (Some e.1) (lookup (bytes_eq n) es) ≡ None → (lookup (bytes_eq n) es ≡ None → state_of n (map package_of es) ≡ None)
        → cond b (Some (package_of e)) (state_of n (map package_of es)) ≡ None
    by true at rest = absurd (true≢false (ap is_some at))
    by false at rest = rest at

-- where there is no state of a name, nothing of it is changed or forgotten
pub unchanged : (n : List ℕ) (g : run.PackageState → run.PackageState) (ss : List run.PackageState) → state_of n ss ≡ None → change n g ss ≡ ss
unchanged n g [] h = refl
unchanged n g (s ∷ ss) h = by (is_of n s) h (unchanged n g ss)
  where
    by : (b : Bool) → cond b (Some s) (state_of n ss) ≡ None → (state_of n ss ≡ None → change n g ss ≡ ss) → cond b (g s) s ∷ change n g ss ≡ s ∷ ss
    by true at rest = absurd (true≢false (ap is_some at))
    by false at rest = ap (λ l. s ∷ l) (rest at)

pub not_forgotten : (n : List ℕ) (ss : List run.PackageState) → state_of n ss ≡ None → forget n ss ≡ ss
not_forgotten n [] h = refl
not_forgotten n (s ∷ ss) h = by (is_of n s) h (not_forgotten n ss)
  where
    by : (b : Bool) → cond b (Some s) (state_of n ss) ≡ None → (state_of n ss ≡ None → forget n ss ≡ ss) → cond (not b) (s ∷ forget n ss) (forget n ss) ≡ s ∷ ss
    by true at rest = absurd (true≢false (ap is_some at))
    by false at rest = ap (λ l. s ∷ l) (rest at)

-- at most one entry has the name
abbrev pub IsOnce : List ℕ → Entries → Type 0
IsOnce n es = lookup (bytes_eq n) (remove_entry (bytes_eq n) es) ≡ None

-- where an entry doesn't have the name, at most one of the others has it
once_behind : (n : List ℕ) (e : List ℕ × PackageState) (es : Entries) → bytes_eq n e.0 ≡ false → lookup (bytes_eq n) (e ∷ es) ≡ None → lookup (bytes_eq n) es ≡ None
once_behind n e es other h = sym (cond-false (bytes_eq n e.0) (Some e.1) (lookup (bytes_eq n) es) other) ∙ h

pub removed : (n : List ℕ) (es : Entries) → IsOnce n es → map package_of (remove_entry (bytes_eq n) es) ≡ forget n (map package_of es)
removed n [] once = refl
removed n (e ∷ es) once = by (bytes_eq n e.0) refl once (removed n es)
  where
    by : (b : Bool) → bytes_eq n e.0 ≡ b → lookup (bytes_eq n) (cond b es (e ∷ remove_entry (bytes_eq n) es)) ≡ None → (IsOnce n es → map package_of (remove_entry (bytes_eq n) es) ≡ forget n (map package_of es))
        → map package_of (cond b es (e ∷ remove_entry (bytes_eq n) es)) ≡ cond (not b) (package_of e ∷ forget n (map package_of es)) (forget n (map package_of es))
    by true is none rest = sym (not_forgotten n (map package_of es) (found_none n es none))
    by false is none rest = ap (λ l. package_of e ∷ l) (rest (once_behind n e (remove_entry (bytes_eq n) es) is none))

pub changed_at : (n : List ℕ) (g : run.PackageState → run.PackageState) (s w : PackageState) (es : Entries) → lookup (bytes_eq n) es ≡ Some s → IsOnce n es
    → ((m : List ℕ) → package_of (m, w) ≡ g (package_of (m, s))) → map package_of (set_value (bytes_eq n) es w) ≡ change n g (map package_of es)
changed_at n g s w [] at once same = refl
changed_at n g s w (e ∷ es) at once same = by (bytes_eq n e.0) refl at once (λ a o. changed_at n g s w es a o same)
  where
    by : (b : Bool) → bytes_eq n e.0 ≡ b → cond b (Some e.1) (lookup (bytes_eq n) es) ≡ Some s → lookup (bytes_eq n) (cond b es (e ∷ remove_entry (bytes_eq n) es)) ≡ None
        → (lookup (bytes_eq n) es ≡ Some s → IsOnce n es → map package_of (set_value (bytes_eq n) es w) ≡ change n g (map package_of es))
        → map package_of (cond b ((e.0, w) ∷ es) (e ∷ set_value (bytes_eq n) es w)) ≡ cond b (g (package_of e)) (package_of e) ∷ change n g (map package_of es)
    by true is at none rest =
        ap (λ x. x ∷ map package_of es) (same e.0 ∙ ap (λ s. g (package_of (e.0, s))) (sym (same_Some _ _ at)))
        ∙ ap (λ l. g (package_of e) ∷ l) (sym (unchanged n g (map package_of es) (found_none n es none)))
    by false is at none rest = ap (λ l. package_of e ∷ l) (rest at (once_behind n e (remove_entry (bytes_eq n) es) is none))

-- keys of which no two are equal
pub once_from : (n : List ℕ) (es : Entries) → IsDistinct bytes_eq (keys_of es) → IsOnce n es
once_from n es d = lookup-remove_entry nat_list_eq_equiv (bytes_eq n) (nat_list_eq_equiv.congr n) n es d ∙ ap (λ b. cond b None (lookup (bytes_eq n) es)) (nat_list_eq_equiv.refl n)

pub once_of : (n : List ℕ) (es left : Entries) → left ≡ remove_entry (bytes_eq n) es → lookup (bytes_eq n) left ≡ None → IsOnce n es
once_of n es left is none = ap (lookup (bytes_eq n)) (sym is) ∙ none
