-- Reading values one after the other, as a loop does.
use Rattle.std.proofs.Common.{◌≡◌, ℕ, suc, ◌-◌, ◌+◌, ◌≤◌, ◌<◌, List, [], ◌∷◌, ◌++◌, Option, Some, None, refl, sym, ap, ◌∙◌, append_assoc, arith}
use Rattle.std.proofs.lemmas.List.{append-nil}
use Rattle.ebr_encoding.specs.declared.fault.DecodeErr.{DecodeErr}
use Rattle.ebr_encoding.specs.declared.fault.DecodeErr.TheVariants.{Bad, NoMemory}
use Rattle.ebr_encoding.specs.Reading.{◌>>=◌, Reader, many}
use Rattle.ebr_encoding.specs.inside.Gives.{Fails}

-- what was read before, and what is still read
abbrev pub with_front : {X : Type 0} → List X → Option (List X × List ℕ) → Option (List X × List ℕ)
with_front front read = read >>= λ x. Some (front ++ x.0, x.1)

module _ {X : Type 0} (read : Reader X) where
  regroup : (front : List X) (x : X) (found : Option (List X × List ℕ)) → with_front front (found >>= λ y. Some (x ∷ y.0, y.1)) ≡ with_front (front ++ x ∷ []) found
  regroup front x (Some y) = ap (λ (xs : List X). Some (xs, y.1)) (simp append_assoc)
  regroup front x None = refl

  pub goes_on : (front : List X) (count i : ℕ) (bytes : List ℕ) (x : X) (after : List ℕ) (total : Option (List X × List ℕ)) → i < count → read bytes ≡ Some (x, after)
      → with_front front (many read (count - i) bytes) ≡ total → with_front (front ++ x ∷ []) (many read (count - (i + 1)) after) ≡ total
  unfolding many
  goes_on front count i bytes x after total lt h so_far =
      let k : count - i ≡ suc (count - (i + 1)) = omega arith in
      let one : with_front front (many read (count - i) bytes) ≡ with_front (front ++ x ∷ []) (many read (count - (i + 1)) after) = rw (k, h) (regroup front x (many read (count - (i + 1)) after)) in
      sym one ∙ so_far

  pub ends : (e : DecodeErr) (front : List X) (count i : ℕ) (bytes : List ℕ) (total : Option (List X × List ℕ)) → i < count → Fails e (read bytes)
      → with_front front (many read (count - i) bytes) ≡ total → Fails e total
  unfolding many
  ends NoMemory front count i bytes total lt h so_far = tt
  ends Bad front count i bytes total lt h so_far =
      let k : count - i ≡ suc (count - (i + 1)) = omega arith in
      let one : with_front front (many read (count - i) bytes) ≡ None = rw (k, h) refl in
      sym so_far ∙ one

  pub is_done : (front : List X) (count i : ℕ) (bytes : List ℕ) (total : Option (List X × List ℕ)) → count ≤ i → with_front front (many read (count - i) bytes) ≡ total → total ≡ Some (front, bytes)
  unfolding many
  is_done front count i bytes total le so_far =
      let k : count - i ≡ 0 = omega arith in
      let one : with_front front (many read (count - i) bytes) ≡ Some (front, bytes) = rw k (ap (λ (xs : List X). Some (xs, bytes)) (append-nil front)) in
      sym so_far ∙ one
