-- How far an order is read.
use Rattle.std.proofs.Common.{ℕ, suc, ◌≡◌, ◌+◌, ◌<◌, Bool, true, false, ◌||◌, ◌&&◌, nat_le, List, [], ◌∷◌, ◌++◌, length, drop, get_or, Option, Some, None, if◌then◌else◌, arith, refl, sym, ◌∙◌, ap, append_assoc}
use Rattle.std.specs.Option.{option_map, is_none}
use Rattle.std.proofs.lemmas.List.{at_drop_more}
use Rattle.ebr_base.specs.declared.numbers.SessionId.{SessionId}
use Rattle.ebr_base.specs.Word.{is_digit}
use Rattle.ebr_order.specs.Order.{begins_number, is_unreadable, is_wrong, number_in_front, session_of, turns_from, turns_of, wrong_at, wrong_from}

-- The bytes up to a place are right: the first wrong byte is one behind it, and these are the turns before.
pub record UpTo (sessions : ℕ) (bytes : List ℕ) (at : ℕ) (inside : Bool) (turns : List SessionId) : Type 0 where
  pub wrong : wrong_at sessions bytes ≡ option_map (λ k. at + k) (wrong_from sessions inside (drop at bytes))
  pub turns_are : turns_of bytes ≡ turns ++ turns_from inside (drop at bytes)

behind_none : (o : Option ℕ) → o ≡ option_map (λ k. 0 + k) o
behind_none None = refl
behind_none (Some k) = ap Some (omega arith)

behind_one : (at : ℕ) (o : Option ℕ) → option_map (λ k. at + k) (option_map suc o) ≡ option_map (λ k. at + 1 + k) o
behind_one at None = refl
behind_one at (Some k) = ap Some (omega arith)

pub at_first : (sessions : ℕ) (bytes : List ℕ) → UpTo sessions bytes 0 false []
at_first sessions bytes = record { wrong = behind_none (wrong_from sessions false bytes); turns_are = refl }

-- the session of a number has that number
named : (sessions : ℕ) (s : SessionId) (n : ℕ) → Some s ≡ session_of sessions n → s ≡ record { 0 = n }
named sessions s n found = by (nat_le 1 n && nat_le n sessions) found
  where
    by : (q : Bool) → Some s ≡ (if q then Some (record { 0 = n }) else None) → s ≡ record { 0 = n }
    by true same = cc
    by false same = cc

-- One byte more, with what stands from it on.
module _ (sessions at b : ℕ) (bytes : List ℕ) (inside : Bool) (turns : List SessionId) (within : at < length bytes) (is : get_or bytes at 0 ≡ b) (so_far : UpTo sessions bytes at inside turns) where
  abbrev rest : List ℕ
  rest = drop (at + 1) bytes

  front : drop at bytes ≡ b ∷ rest
  front = at_drop_more (λ xs. xs) bytes at 0 within ∙ ap (λ x. x ∷ rest) is

  wrong_here : wrong_at sessions bytes ≡ option_map (λ k. at + k) (if is_wrong sessions inside b rest then Some 0 else option_map suc (wrong_from sessions (is_digit b) rest))
  wrong_here = so_far.wrong ∙ ap (λ xs. option_map (λ k. at + k) (wrong_from sessions inside xs)) front

  turns_here : turns_of bytes ≡ turns ++ (if begins_number inside b then record { 0 = number_in_front (b ∷ rest) } ∷ turns_from (is_digit b) rest else turns_from (is_digit b) rest)
  turns_here = so_far.turns_are ∙ ap (λ xs. turns ++ turns_from inside xs) front

  at_wrong : is_wrong sessions inside b rest ≡ true → wrong_at sessions bytes ≡ Some at
  at_wrong wrong = wrong_here ∙ ap (λ q. option_map (λ k. at + k) (if q then Some 0 else option_map suc (wrong_from sessions (is_digit b) rest))) wrong ∙ ap Some (omega arith)

  pub unreadable : is_unreadable b ≡ true → wrong_at sessions bytes ≡ Some at
  unreadable un = at_wrong (ap (λ q. q || (begins_number inside b && is_none (session_of sessions (number_in_front (b ∷ rest))))) un)

  pub no_session : is_unreadable b ≡ false → begins_number inside b ≡ true → None ≡ session_of sessions (number_in_front (drop at bytes)) → wrong_at sessions bytes ≡ Some at
  no_session readable begins none =
      at_wrong (ap (λ q. q || (begins_number inside b && is_none (session_of sessions (number_in_front (b ∷ rest))))) readable
      ∙ ap (λ q. q && is_none (session_of sessions (number_in_front (b ∷ rest)))) begins
      ∙ ap is_none (ap (λ xs. session_of sessions (number_in_front xs)) (sym front) ∙ sym none))

  right_here : is_wrong sessions inside b rest ≡ false → wrong_at sessions bytes ≡ option_map (λ k. at + 1 + k) (wrong_from sessions (is_digit b) rest)
  right_here right = wrong_here ∙ ap (λ q. option_map (λ k. at + k) (if q then Some 0 else option_map suc (wrong_from sessions (is_digit b) rest))) right ∙ behind_one at (wrong_from sessions (is_digit b) rest)

  pub goes_on : is_unreadable b ≡ false → begins_number inside b ≡ false → UpTo sessions bytes (at + 1) (is_digit b) turns
  goes_on readable inner = record {
    wrong = right_here (ap (λ q. q || (begins_number inside b && is_none (session_of sessions (number_in_front (b ∷ rest))))) readable
        ∙ ap (λ q. q && is_none (session_of sessions (number_in_front (b ∷ rest)))) inner);
    turns_are = turns_here ∙ ap (λ q. turns ++ (if q then record { 0 = number_in_front (b ∷ rest) } ∷ turns_from (is_digit b) rest else turns_from (is_digit b) rest)) inner;
  }

  pub one_more : (s : SessionId) → is_unreadable b ≡ false → begins_number inside b ≡ true → Some s ≡ session_of sessions (number_in_front (drop at bytes)) → UpTo sessions bytes (at + 1) (is_digit b) (turns ++ s ∷ [])
  one_more s readable begins found =
      let here : Some s ≡ session_of sessions (number_in_front (b ∷ rest)) = found ∙ ap (λ xs. session_of sessions (number_in_front xs)) front in
      record {
        wrong = right_here (ap (λ q. q || (begins_number inside b && is_none (session_of sessions (number_in_front (b ∷ rest))))) readable
            ∙ ap (λ q. q && is_none (session_of sessions (number_in_front (b ∷ rest)))) begins ∙ ap is_none (sym here));
        turns_are = turns_here
            ∙ ap (λ q. turns ++ (if q then record { 0 = number_in_front (b ∷ rest) } ∷ turns_from (is_digit b) rest else turns_from (is_digit b) rest)) begins
            ∙ ap (λ x. turns ++ x ∷ turns_from (is_digit b) rest) (sym (named sessions s (number_in_front (b ∷ rest)) here))
            ∙ sym (append_assoc turns (s ∷ []) (turns_from (is_digit b) rest));
      }
