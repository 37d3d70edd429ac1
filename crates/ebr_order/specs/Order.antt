-- The written order of a rehearsal (own). It holds the numbers of sessions, counted from 1, each a run of digits that may begin with
-- zeros. Spaces and line ends part them, and no other byte can be read.
use Rattle.std.specs.Prelude.{ℕ, suc, ◌≡◌, ◌+◌, ◌-◌, ◌*◌, Bool, false, not, ◌||◌, ◌&&◌, if◌then◌else◌, ◌==◌, nat_le, List, [], ◌∷◌, Option, Some, None, Result, Ok, Err}
use Rattle.std.specs.Option.{option_map, is_none}
use Rattle.ebr_base.specs.declared.numbers.SessionId.{SessionId}
use Rattle.ebr_base.specs.Word.{is_digit}
use Rattle.ebr_order.specs.declared.order.OrderErr.{OrderErr}
use Rattle.ebr_order.specs.declared.order.OrderErr.TheVariants as order_err

-- a space, or a byte of a line's end
abbrev pub is_gap : ℕ → Bool
is_gap b = b == 32 || b == 10 || b == 13

abbrev pub is_unreadable : ℕ → Bool
is_unreadable b = not (is_digit b || is_gap b)

-- The byte is the first digit of a number. `inside` tells that the byte before it is a digit.
abbrev pub begins_number : Bool → ℕ → Bool
begins_number inside b = is_digit b && not inside

-- the number that the digits in front spell, behind those that have made n
abbrev pub number_after : ℕ → List ℕ → ℕ
number_after n [] = n
number_after n (b ∷ bytes) = if is_digit b then number_after (n * 10 + (b - 48)) bytes else n

abbrev pub number_in_front : List ℕ → ℕ
number_in_front bytes = number_after 0 bytes

-- the session of a number, of so many; none has the number 0
abbrev pub session_of : ℕ → ℕ → Option SessionId
session_of sessions n = if nat_le 1 n && nat_le n sessions then Some (record { 0 = n }) else None

-- The first byte is wrong: it can't be read, or it begins a number that no session has.
abbrev pub is_wrong : ℕ → Bool → ℕ → List ℕ → Bool
is_wrong sessions inside b bytes = is_unreadable b || (begins_number inside b && is_none (session_of sessions (number_in_front (b ∷ bytes))))

-- the place of the first byte that is wrong
abbrev pub wrong_from : ℕ → Bool → List ℕ → Option ℕ
wrong_from sessions inside [] = None
wrong_from sessions inside (b ∷ bytes) = if is_wrong sessions inside b bytes then Some 0 else option_map suc (wrong_from sessions (is_digit b) bytes)

abbrev pub wrong_at : ℕ → List ℕ → Option ℕ
wrong_at sessions bytes = wrong_from sessions false bytes

-- the sessions of the numbers, in order
abbrev pub turns_from : Bool → List ℕ → List SessionId
turns_from inside [] = []
turns_from inside (b ∷ bytes) =
    let turns = turns_from (is_digit b) bytes in
    if begins_number inside b then record { 0 = number_in_front (b ∷ bytes) } ∷ turns else turns

abbrev pub turns_of : List ℕ → List SessionId
turns_of bytes = turns_from false bytes

-- The bytes are an order of so many sessions, and these are the turns.
pub record Order (sessions : ℕ) (bytes : List ℕ) (turns : List SessionId) : Type 0 where
  pub right : wrong_at sessions bytes ≡ None
  pub turns_are : turns ≡ turns_of bytes

-- what reading gives
abbrev pub IsRead : Result (List SessionId) OrderErr → ℕ → List ℕ → Type 0
IsRead (Ok turns) sessions bytes = Order sessions bytes turns
IsRead (Err (order_err.Bad at)) sessions bytes = wrong_at sessions bytes ≡ Some at
IsRead (Err order_err.NoMemory) sessions bytes = Unit {0}
