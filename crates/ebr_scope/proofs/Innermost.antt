-- A map that follows a nest: what it finds as names come and go.
use Rattle.std.proofs.Common.{◌≡◌, ℕ, suc, ◌<◌, Bool, true, false, ◌&&◌, cond, List, [], ◌∷◌, ◌++◌, map, length, reverse, slice_get, get_or, Option, Some, None, option_and_then, find, IsSome, refl, sym, ap, ◌∙◌, arith, true≢false, is_some}
use Rattle.std.specs.Map.{lookup, set_value}
use Rattle.std.specs.Str.{bytes_eq}
use Rattle.std.proofs.lemmas.Cmp.{nat_list_eq_equiv}
use Rattle.std.proofs.lemmas.Map.{lookup-set_value}
use Rattle.std.proofs.lemmas.List.{length-map, length-reverse, reverse-append, reverse-reverse, get_or_append_left}
use Rattle.std.proofs.lemmas.Option.{slice_get_read, slice_get-get_or}
use Rattle.std.proofs.lemmas.Option.{same_Some}
use Rattle.std.proofs.lemmas.Slice.Eq.{bytes_eq-Decides}
use Rattle.std.proofs.Math.Seq.{get_or-append_seam}
use Rattle.ebr_scope.specs.declared.nest.Nested as inside
use Rattle.ebr_scope.specs.inside.Nests.{key, Places, joined, place_in, IsNest, Notes, restored}
use Rattle.ebr_scope.specs.Nests.{Key, place}

-- a name that isn't there is in vain given a value
pub set-absent : (n : List ℕ) (to : Option ℕ) (es : Places) → lookup (bytes_eq n) es ≡ None → set_value (bytes_eq n) es to ≡ es
set-absent n to [] none = refl
set-absent n to (e ∷ es) none = by (bytes_eq n e.0) none (set-absent n to es)
  where
    by : (b : Bool) → cond b (Some e.1) (lookup (bytes_eq n) es) ≡ None → (lookup (bytes_eq n) es ≡ None → set_value (bytes_eq n) es to ≡ es)
        → cond b ((e.0, to) ∷ es) (e ∷ set_value (bytes_eq n) es to) ≡ e ∷ es
    by true at rest = absurd (true≢false (ap is_some at))
    by false at rest = ap (λ l. e ∷ l) (rest at)

pub no_nest : IsNest [] []
no_nest = record { found = λ n. refl; hidden = tt }

-- one more
pub added : (ps qs : Places) (e : inside.Nested) (es : List inside.Nested) (at : ℕ) → IsNest ps es → at ≡ length es → Notes e.name.now e.counts at ps qs → e.hides ≡ place_in ps e.name.now
    → IsNest qs (e ∷ es)
added ps qs e es at was here notes hides = record { found = now; hidden = (hides ∙ was.found e.name.now, was.hidden) }
  where
    by : (n : List ℕ) (b : Bool) → joined (cond b (Some (Some at)) (lookup (bytes_eq n) ps)) ≡ cond b (Some (length (map key es))) (place n (map key es))
    by n true = ap (λ i. Some i) (here ∙ sym (length-map es key))
    by n false = was.found n

    now : (n : List ℕ) → place_in qs n ≡ place n (map key (e ∷ es))
    now n =
        ap joined (notes n)
        ∙ by n (e.counts && bytes_eq e.name.now n)
        ∙ ap (λ b. cond (e.counts && b) (Some (length (map key es))) (place n (map key es))) (nat_list_eq_equiv.symm e.name.now n)

-- the innermost one goes
module _ (ps : Places) (e : inside.Nested) (es : List inside.Nested) (was : IsNest ps (e ∷ es)) where
  -- what the map has of a name, by whether the innermost one counts
  seen : (c : Bool) → e.counts ≡ c → (n : List ℕ) → place_in ps n ≡ cond (c && bytes_eq n e.name.now) (Some (length (map key es))) (place n (map key es))
  seen c is n = was.found n ∙ ap (λ b. cond (b && bytes_eq n e.name.now) (Some (length (map key es))) (place n (map key es))) is

  some_in : (o : Option (Option ℕ)) (i : ℕ) → joined o ≡ Some i → IsSome o
  some_in None i at = ap is_some at
  some_in (Some x) i at = refl

  there : e.counts ≡ true → IsSome (lookup (bytes_eq e.name.now) ps)
  there is =
      some_in (lookup (bytes_eq e.name.now) ps) (length (map key es))
      (seen true is e.name.now ∙ ap (λ b. cond b (Some (length (map key es))) (place e.name.now (map key es))) (nat_list_eq_equiv.refl e.name.now))

  back : (n : List ℕ) (b : Bool) → bytes_eq e.name.now n ≡ b → place_in ps n ≡ cond b (Some (length (map key es))) (place n (map key es))
      → joined (cond b (Some e.hides) (lookup (bytes_eq n) ps)) ≡ place n (map key es)
  back n true same at = was.hidden.0 ∙ ap (λ m. place m (map key es)) ((bytes_eq-Decides e.name.now n).0 same)
  back n false other at = at

  now : (c : Bool) → e.counts ≡ c → (n : List ℕ) → place_in (cond c (set_value (bytes_eq e.name.now) ps e.hides) ps) n ≡ place n (map key es)
  now false is n = seen false is n
  now true is n =
      ap joined (lookup-set_value nat_list_eq_equiv (bytes_eq e.name.now) (nat_list_eq_equiv.congr e.name.now) n e.hides ps (there is))
      ∙ back n (bytes_eq e.name.now n) refl (seen true is n ∙ ap (λ b. cond b (Some (length (map key es))) (place n (map key es))) (nat_list_eq_equiv.symm n e.name.now))

  pub popped : IsNest (restored e ps) es
  popped = record { found = now e.counts refl; hidden = was.hidden.1 }

-- the place of the innermost one of a name is where a search from the innermost one outward ends
module _ {E : Type 0} (f : E → Key) (n : List ℕ) where
  within : (es : List E) (i : ℕ) → place n (map f es) ≡ Some i → i < length es
  within [] i at = absurd (true≢false (sym (ap is_some at)))
  within (e ∷ es) i at = by ((f e).1 && bytes_eq n (f e).0) at (within es i)
    where
      by : (b : Bool) → cond b (Some (length (map f es))) (place n (map f es)) ≡ Some i → (place n (map f es) ≡ Some i → i < length es) → i < suc (length es)
      by true h more = let s : length (map f es) ≡ i = same_Some _ _ h in omega (arith, length-map es f, s)
      by false h more = let m : i < length es = more h in omega (arith, m)

  last : (e : E) (es : List E) → slice_get (reverse (e ∷ es)) (length (map f es)) ≡ Some e
  last e es =
      slice_get_read (reverse (e ∷ es)) (length (reverse (e ∷ es))) (length (map f es)) e refl (omega (arith, length-map es f, length-reverse (e ∷ es)))
      (sym
      (ap (λ l. get_or l (length (map f es)) e) (reverse-append (e ∷ []) es)
      ∙ ap (λ i. get_or (reverse es ++ e ∷ []) i e) (length-map es f ∙ sym (length-reverse es))
      ∙ get_or-append_seam (reverse es) e [] e))

  before : (e : E) (es : List E) (o : Option ℕ) → ((i : ℕ) → o ≡ Some i → i < length es) → option_and_then (slice_get (reverse (e ∷ es))) o ≡ option_and_then (slice_get (reverse es)) o
  before e es None below = refl
  before e es (Some i) below =
      let b : i < length es = below i refl in
      slice_get-get_or (reverse (e ∷ es)) i e (omega (arith, length-reverse (e ∷ es), b))
      ∙ ap (λ l. Some (get_or l i e)) (reverse-append (e ∷ []) es)
      ∙ ap Some (get_or_append_left (reverse es) (e ∷ []) e i (omega (arith, length-reverse es, b)))
      ∙ sym (slice_get-get_or (reverse es) i e (omega (arith, length-reverse es, b)))

  pub at_place : (es : List E) → option_and_then (slice_get (reverse es)) (place n (map f es)) ≡ find (λ e. (f e).1 && bytes_eq n (f e).0) es
  at_place [] = refl
  at_place (e ∷ es) = by ((f e).1 && bytes_eq n (f e).0) (at_place es)
    where
      by : (b : Bool) → option_and_then (slice_get (reverse es)) (place n (map f es)) ≡ find (λ x. (f x).1 && bytes_eq n (f x).0) es
          → option_and_then (slice_get (reverse (e ∷ es))) (cond b (Some (length (map f es))) (place n (map f es))) ≡ cond b (Some e) (find (λ x. (f x).1 && bytes_eq n (f x).0) es)
      by true more = last e es
      by false more = before e es (place n (map f es)) (within es) ∙ more

  pub at_entry : (xs : List E) (at : Option ℕ) (keys : List Key) → at ≡ place n keys → keys ≡ map f (reverse xs) → option_and_then (slice_get xs) at ≡ find (λ e. (f e).1 && bytes_eq n (f e).0) (reverse xs)
  at_entry xs at keys here same =
      ap (option_and_then (slice_get xs)) (here ∙ ap (place n) same)
      ∙ ap (λ l. option_and_then (slice_get l) (place n (map f (reverse xs)))) (sym (reverse-reverse xs))
      ∙ at_place (reverse xs)
