-- Numbers by which keys are filed. What is found needs only that they are functions of the keys; that few keys share one
-- rests on SHA-256 (FIPS 180-4), of whose digest of the whole key they are the last eight bytes.
use Rattle.std.specs.Prelude.{ℕ, ◌+◌, ◌*◌, ◌%◌, ◌^◌, List, [], ◌∷◌, ◌++◌, length, Option, Some, None, unwrap_or, if◌then◌else◌}
use Rattle.std.specs.List.{flat_map}
use Rattle.std.specs.Int.{w64, cast_unsigned, to_be_bytes}
use Rattle.sha2.specs.Sha256.{sha256}
use Rattle.ebr_base.specs.declared.value.Value.{Value}
use Rattle.ebr_base.specs.declared.value.Value.TheVariants.{Null, Num, Text, Bool as Boolean}

-- the number so far with one more byte
unfoldable pub with_byte : ℕ → ℕ → ℕ
with_byte number byte = (number * 256 % 2 ^ 64 + byte) % 2 ^ 64

-- the number that bytes spell, behind those of a number so far; of more than eight the last ones count
abbrev pub spelled : ℕ → List ℕ → ℕ
spelled number [] = number
spelled number (b ∷ bytes) = spelled (with_byte number b) bytes

-- the number of some bytes
unfoldable pub digest_number : List ℕ → ℕ
digest_number bytes = spelled 0 (sha256 bytes)

-- a text has its length in front, so that two keys of one table don't have the same bytes
abbrev pub text_bytes : List ℕ → List ℕ
text_bytes bytes = (2 ∷ to_be_bytes w64 (length bytes)) ++ bytes

-- the bytes of a value
abbrev pub value_bytes : Value → List ℕ
value_bytes Null = 0 ∷ []
value_bytes (Num n) = 1 ∷ to_be_bytes w64 (cast_unsigned w64 n)
value_bytes (Text bytes) = text_bytes bytes
value_bytes (Boolean b) = 3 ∷ (if b then 1 else 0) ∷ []

abbrev pub key_bytes : List Value → List ℕ
key_bytes key = flat_map value_bytes key

abbrev pub number_in : Value → Option ℕ
number_in Null = None
number_in (Num n) = Some (cast_unsigned w64 n)
number_in (Text bytes) = None
number_in (Boolean b) = None

-- the number of a key of one number
abbrev pub one_number : List Value → Option ℕ
one_number [] = None
one_number (v ∷ []) = number_in v
one_number (v ∷ w ∷ vs) = None

-- the number under which a key is filed: its own, where it is one number, or that of its bytes
abbrev pub key_number : List Value → ℕ
key_number key = unwrap_or (one_number key) (digest_number (key_bytes key))
