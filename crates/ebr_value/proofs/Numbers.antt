-- Quotients and remainders.
use Rattle.std.proofs.Common.{zero, suc, ◌≡◌, ℤ, pos, negsuc, ◌+ℤ◌, ◌-ℤ◌, ◌*ℤ◌, int_div, int_rem, SomeIff, FitsSigned, refl, ap, arith}
use Rattle.std.proofs.Common.{Option, Some, None}
use Rattle.std.specs.Int.{w64, CanDivide}
use Rattle.std.proofs.Common.{of_z}
use Rattle.std.proofs.lemmas.Int.{ints, quot-rem}
use Rattle.ebr_value.specs.Outcomes.{whole}
use Rattle.ebr_value.specs.Numbers as spec

rest : (m n q r : ℤ) → q *ℤ n +ℤ r ≡ m → m -ℤ (n *ℤ q) ≡ r
rest m n q r h = omega (arith, ints, h)

pub quotient_is : (m n : ℤ) → (of_z w64 n ≡ 0 → ⊥) → spec.quotient_of m n ≡ whole (int_div m n)
quotient_is m (pos zero) h = absurd (h refl)
quotient_is m (pos (suc n)) h = refl
quotient_is m (negsuc n) h = refl

pub remainder_is : (m n : ℤ) → (of_z w64 n ≡ 0 → ⊥) → spec.remainder_of m n ≡ whole (int_rem m n)
remainder_is m (pos zero) h = absurd (h refl)
remainder_is m (pos (suc n)) h = ap whole (rest m (pos (suc n)) (int_div m (pos (suc n))) (int_rem m (pos (suc n))) (quot-rem m (pos (suc n))))
remainder_is m (negsuc n) h = ap whole (rest m (negsuc n) (int_div m (negsuc n)) (int_rem m (negsuc n)) (quot-rem m (negsuc n)))

-- what is known of `checked_div`, where the divisor isn't 0
pub divides : (m n : ℤ) (r : Option ℤ) → (of_z w64 n ≡ 0 → ⊥) → SomeIff r (CanDivide w64 m n) (int_div m n) → SomeIff r (FitsSigned w64 (int_div m n)) (int_div m n)
divides m n None z h = λ f. h (omega (arith, z), f)
divides m n (Some x) z h = (h.0.1, h.1)
