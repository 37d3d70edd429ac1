-- TO_NUMBER (Oracle Database SQL Language Reference 19c, TO_NUMBER; that a number is written by spaces, a sign, at most 18
-- digits and spaces is own).
use Rattle.std.specs.Prelude.{◌≡◌, ℕ, ℤ, pos, neg_ℤ, ◌+◌, ◌-◌, ◌*◌, ◌≤◌, Bool, true, ◌&&◌, if◌then◌else◌, ◌==◌, nat_le, List, [], ◌∷◌, ◌++◌, length, take, drop, Option, Some, None, Ok, Err}
use Rattle.std.specs.Option.{option_map}
use Rattle.std.specs.List.{list_all, prefix_len}
use Rattle.ebr_base.specs.declared.code.Code.{Code}
use Rattle.ebr_base.specs.declared.code.Code.TheVariants.{Ora}
use Rattle.ebr_base.specs.declared.value.Value.{Value}
use Rattle.ebr_base.specs.declared.value.Value.TheVariants as value
use Rattle.ebr_base.specs.Word.{is_digit}
use Rattle.ebr_value.specs.declared.form.Place.{Place}
use Rattle.ebr_value.specs.declared.form.Place.TheVariants as place
use Rattle.ebr_value.specs.Outcomes.{Outcome}
use Rattle.ebr_value.specs.Texts.{fits_text, null_if}

abbrev pub is_space : ℕ → Bool
is_space b = b == 32

pub data Sign : Type 0 where
  Unsigned : Sign
  Plus : Sign
  Minus : Sign

-- a sign as it is written
abbrev pub sign_text : Sign → List ℕ
sign_text Unsigned = []
sign_text Plus = 43 ∷ []
sign_text Minus = 45 ∷ []

abbrev pub signed : Sign → ℕ → ℤ
signed Unsigned n = pos n
signed Plus n = pos n
signed Minus n = neg_ℤ (pos n)

-- the number that digits spell, behind those that have made n
abbrev pub decimal_after : ℕ → List ℕ → ℕ
decimal_after n [] = n
decimal_after n (b ∷ bs) = decimal_after (n * 10 + (b - 48)) bs

abbrev pub decimal : List ℕ → ℕ
decimal digits = decimal_after 0 digits

-- The text writes the number: spaces, a sign or none, 1 to 18 digits, spaces.
pub record IsNumeral (text : List ℕ) (n : ℤ) : Type 0 where
  pub before : List ℕ
  pub sign : Sign
  pub digits : List ℕ
  pub after : List ℕ
  pub spelled : text ≡ before ++ (sign_text sign ++ (digits ++ after))
  pub spaces_before : list_all is_space before ≡ true
  pub spaces_after : list_all is_space after ≡ true
  pub all_digits : list_all is_digit digits ≡ true
  pub some : 1 ≤ length digits
  pub few : length digits ≤ 18
  pub value : n ≡ signed sign (decimal digits)

-- The number that digits in front spell, where they are 1 to 18 and only spaces follow.
abbrev pub read_digits : List ℕ → Option ℕ
read_digits text =
    let n = prefix_len is_digit text in
    if nat_le 1 n && nat_le n 18 && list_all is_space (drop n text) then Some (decimal (take n text)) else None

-- the number behind the spaces in front
abbrev pub read_signed : List ℕ → Option ℤ
read_signed [] = None
read_signed (b ∷ bs) =
    if b == 43 then option_map (signed Plus) (read_digits bs)
    else if b == 45 then option_map (signed Minus) (read_digits bs)
    else option_map (signed Unsigned) (read_digits (b ∷ bs))

-- The number that a text writes, if it writes one.
abbrev pub read_number : List ℕ → Option ℤ
read_number text = read_signed (drop (prefix_len is_space text) text)

-- the code of a text that writes no number
abbrev pub no_number : Place → Code
no_number place.Sql = Ora 1722
no_number place.Code = Ora 6502

-- that number, or the code of a text that writes none
abbrev pub number_or_fault : Place → Option ℤ → Outcome
number_or_fault at (Some n) = Ok (value.Num n)
number_or_fault at None = Err (no_number at)

-- TO_NUMBER(x)
abbrev pub to_number : Place → Value → Outcome
to_number at (value.Text t) = number_or_fault at (read_number t)
to_number at v = null_if (fits_text v)
