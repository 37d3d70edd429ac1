-- Texts (Oracle Database SQL Language Reference 19c, Concatenation Operator and Character Functions; the codes of what is
-- too long, and that a character is a byte, are own).
use Rattle.std.specs.Prelude.{ℕ, ℤ, pos, ◌+◌, ◌-◌, unsigned_abs, int_le, Bool, true, false, ◌&&◌, ◌||◌, if◌then◌else◌, nat_le, List, [], ◌++◌, map, length, take, drop, codes, Ok, Err}
use Rattle.std.specs.Fmt.{signed_decimal}
use Rattle.ebr_base.specs.declared.code.Code.{Code}
use Rattle.ebr_base.specs.declared.code.Code.TheVariants.{Ora}
use Rattle.ebr_base.specs.declared.value.Value.{Value}
use Rattle.ebr_base.specs.declared.value.Value.TheVariants as value
use Rattle.ebr_base.specs.Values.{text_value}
use Rattle.ebr_base.specs.Word.{upper, is_upper_case}
use Rattle.ebr_value.specs.declared.form.Place.{Place}
use Rattle.ebr_value.specs.declared.form.Place.TheVariants as place
use Rattle.ebr_value.specs.Outcomes.{Outcome, wrong_operands, whole}
use Rattle.ebr_value.specs.Numbers.{fits_number}
use Rattle.ebr_value.specs.Logic.{is_boolean}
use Rattle.ebr_value.specs.Places.{start, is_place, place_of}

-- The printed text of a value: none of NULL, a number in decimal with `-` before a negative one (TO_CHAR's), TRUE or FALSE.
abbrev pub printed : Value → List ℕ
printed value.Null = []
printed (value.Num n) = signed_decimal n
printed (value.Text t) = t
printed (value.Bool true) = codes "TRUE"
printed (value.Bool false) = codes "FALSE"

-- the most bytes of a joined text, and the code of one that has more
abbrev pub longest : Place → ℕ
longest place.Sql = 4000
longest place.Code = 32767

abbrev pub too_long : Place → Code
too_long place.Sql = Ora 1489
too_long place.Code = Ora 6502

abbrev pub joined : Place → List ℕ → Outcome
joined at text = if nat_le (length text) (longest at) then Ok (text_value text) else Err (too_long at)

-- x || y: NULL is the empty text, and a number is its decimal text
abbrev pub concatenation : Place → Value → Value → Outcome
concatenation at a b = if is_boolean a || is_boolean b then wrong_operands else joined at (printed a ++ printed b)

-- a text, or NULL, which fits every type
abbrev pub fits_text : Value → Bool
fits_text value.Null = true
fits_text (value.Text t) = true
fits_text v = false

-- What a form gives where an operand is NULL or isn't of its type.
abbrev pub null_if : Bool → Outcome
null_if true = Ok value.Null
null_if false = wrong_operands

-- the byte, an ASCII letter in lower case
abbrev pub lower : ℕ → ℕ
lower b = if is_upper_case b then b + 32 else b

-- UPPER(x)
abbrev pub upper_case : Value → Outcome
upper_case (value.Text t) = Ok (text_value (map upper t))
upper_case v = null_if (fits_text v)

-- LOWER(x)
abbrev pub lower_case : Value → Outcome
lower_case (value.Text t) = Ok (text_value (map lower t))
lower_case v = null_if (fits_text v)

-- LENGTH(x), in bytes
abbrev pub length_of : Value → Outcome
length_of (value.Text t) = whole (pos (length t))
length_of v = null_if (fits_text v)

-- TO_CHAR(a)
abbrev pub to_char : Value → Outcome
to_char (value.Num n) = Ok (text_value (signed_decimal n))
to_char v = null_if (fits_number v)

-- The part from place s on of at most c bytes; there is none where s lies outside the text or c is less than 1.
abbrev pub part : List ℕ → ℤ → ℤ → Value
part t s c =
    if is_place (length t) s && int_le (pos 1) c then text_value (take (unsigned_abs c) (drop (unsigned_abs s - 1) t))
    else value.Null

-- SUBSTR(x, p, c)
abbrev pub substr : Value → Value → Value → Outcome
substr (value.Text t) (value.Num p) (value.Num c) = Ok (part t (start (length t) p) c)
substr x p c = null_if (fits_text x && fits_number p && fits_number c)

-- SUBSTR(x, p): all that follows
abbrev pub substr_rest : Value → Value → Outcome
substr_rest (value.Text t) (value.Num p) = Ok (part t (start (length t) p) (pos (length t)))
substr_rest x p = null_if (fits_text x && fits_number p)

-- INSTR(x, y): the first place of y in x, and 0 where there is none
abbrev pub instr : Value → Value → Outcome
instr (value.Text t) (value.Text y) = whole (pos (place_of t y))
instr x y = null_if (fits_text x && fits_text y)
