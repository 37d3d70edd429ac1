-- The stack of a session.
use Rattle.std.proofs.Common.{◌≡◌, ℕ, zero, suc, ◌+◌, List, [], ◌∷◌, ◌++◌, length, refl, ap, ◌∙◌, length-append, arith}
use Rattle.std.specs.Prelude.{unwrap_or, Option, Some, None}
use Rattle.std.specs.List.{last_or}
use Rattle.ebr_base.specs.declared.numbers.SessionId.{SessionId}
use Rattle.ebr_base.specs.declared.row.TxId.{TxId}
use Rattle.ebr_tx.specs.Data.{Data, names_of, stack_of, named_at}
use Rattle.ebr_tx.specs.Calls.{levels, top}
use Rattle.ebr_seats.specs.Seats.{stack_to}

pub stack_length : (s : SessionId) (n : ℕ) → length (stack_to s n) ≡ n + 1
stack_length s zero = refl
stack_length s (suc n) = let e : length (stack_to s n) ≡ n + 1 = stack_length s n in
    let f : length (stack_to s n ++ named_at s (suc n) ∷ []) ≡ length (stack_to s n) + 1 = length-append (stack_to s n) (named_at s (suc n) ∷ []) in omega arith

last_push : (o : Option TxId) (xs : List TxId) (t : TxId) → last_or o (xs ++ t ∷ []) ≡ Some t
last_push o [] t = refl
last_push o (x ∷ xs) t = last_push (Some x) xs t

pub stack_top : (s : SessionId) (n : ℕ) → last_or None (stack_to s n) ≡ Some (named_at s n)
stack_top s zero = refl
stack_top s (suc n) = last_push None (stack_to s n) (named_at s (suc n))

module _ (d : Data) (s : SessionId) (n : ℕ) (is : stack_of (names_of d.live) s ≡ stack_to s n) where
  pub levels_are : levels d s ≡ n
  levels_are = let e : length (stack_of (names_of d.live) s) ≡ n + 1 = ap (λ (xs : List TxId). length xs) is ∙ stack_length s n in omega arith

  pub top_is : top d s ≡ named_at s n
  top_is = ap (λ xs. unwrap_or (last_or None xs) (named_at s 0)) is ∙ ap (λ o. unwrap_or o (named_at s 0)) (stack_top s n)
