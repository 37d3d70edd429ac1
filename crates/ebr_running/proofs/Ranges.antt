-- A turn of a loop over numbers, and the turns behind it.
use Rattle.std.proofs.Common.{◌≡◌, ℕ, suc, Bool, true, false, if◌then◌else◌, ℤ, pos, ◌+ℤ◌, ◌-ℤ◌, refl, sym, ap, rules, arith}
use Rattle.std.specs.Prelude.{int_lt, unsigned_abs}
use Rattle.ebr_base.specs.declared.value.Value.TheVariants as value
use Rattle.ebr_run.specs.State.{State, Outcome, Runs, step, after_turn, counting}
use Rattle.ebr_run.specs.Values.{with_variable}
use Rattle.ebr_run.specs.Statements.{between, in_turn, number_of_turn}
use Rattle.ebr_running.specs.inside.Ranges.{ends_of, others_of}

chosen : (b : Bool) (x y z : Outcome) → b ≡ false → y ≡ z → (if b then x else y) ≡ z
chosen true x y z h e = cc
chosen false x y z h e = e

behind : (b : Bool) (place : ℕ) (reversed : Bool) (low high : ℤ) (body : Runs) (σ : State) → int_lt low high ≡ b → int_lt high low ≡ false
    → (let o = if b then ends_of reversed low high else (pos 1, pos 0) in between place reversed o.0 o.1 body σ) ≡ counting (unsigned_abs (high -ℤ low)) (in_turn place reversed low high body) σ
behind false place reversed low high body σ h k = let n : unsigned_abs (high -ℤ low) ≡ 0 = search (rules, arith, h, k) in ap (λ n. counting n (in_turn place reversed low high body) σ) (sym n)
behind true place true low high body σ h k =
    let n : suc (unsigned_abs ((high -ℤ pos 1) -ℤ low)) ≡ unsigned_abs (high -ℤ low) = search (rules, arith, h, k) in
    let l : int_lt (high -ℤ pos 1) low ≡ false = search (rules, arith, h, k) in
    chosen (int_lt (high -ℤ pos 1) low) _ _ _ l (ap (λ n. counting n (in_turn place true low high body) σ) n)
behind true place false low high body σ h k =
    let n : suc (unsigned_abs (high -ℤ (low +ℤ pos 1))) ≡ unsigned_abs (high -ℤ low) = search (rules, arith, h, k) in
    let l : int_lt high (low +ℤ pos 1) ≡ false = search (rules, arith, h, k) in
    chosen (int_lt high (low +ℤ pos 1)) _ _ _ l (ap (λ n. counting n (in_turn place false low high body) σ) n)

-- the first number's turn, and then those between the others
pub numbers_turn : (place : ℕ) (reversed : Bool) (low high : ℤ) (body : Runs) (σ : State) → int_lt high low ≡ false
    → between place reversed low high body σ ≡ step σ (λ τ. after_turn (body (with_variable place (value.Num (number_of_turn reversed low high (unsigned_abs (high -ℤ low)))) τ)) (between place reversed (others_of reversed low high).0 (others_of reversed low high).1 body))
numbers_turn place reversed low high body σ k = chosen (int_lt high low) _ _ _ k (λ i. step σ (λ τ. after_turn (body (with_variable place (value.Num (number_of_turn reversed low high (unsigned_abs (high -ℤ low)))) τ)) (λ υ. sym (behind (int_lt low high) place reversed low high body υ refl k) i)))
