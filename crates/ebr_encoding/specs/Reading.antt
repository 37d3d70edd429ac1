-- Reading a record from its bytes (own format). A reader gives the value at the front and the bytes behind it, or nothing where
-- no value of its kind stands there.
use Rattle.std.specs.Prelude.{ℕ, zero, suc, Bool, true, false, if◌then◌else◌, ◌==◌, nat_lt, List, [], ◌∷◌, length, take, drop, Option, Some, None}
use Rattle.std.specs.Int.{Width, w16, w32, w64, byte_len, from_be_bytes, cast_signed}
use Rattle.std.specs.Str.{bytes_eq}
use Rattle.ebr_base.specs.Word.{name_of}
use Rattle.ebr_base.specs.declared.row.Change.{Change}
use Rattle.ebr_base.specs.declared.table.Column as table
use Rattle.ebr_base.specs.declared.value.ColType.{ColType}
use Rattle.ebr_base.specs.declared.value.ColType.TheVariants as type
use Rattle.ebr_base.specs.declared.value.Value.{Value}
use Rattle.ebr_base.specs.declared.value.Value.TheVariants as value
use Rattle.ebr_record.specs.declared.record.DroppedClass.{DroppedClass}
use Rattle.ebr_record.specs.declared.record.DroppedClass.TheVariants as class
use Rattle.ebr_record.specs.declared.record.Record.{Record}
use Rattle.ebr_record.specs.declared.record.Record.TheVariants as made

abbrev pub Reader : Type 0 → Type 0
Reader X = List ℕ → Option (X × List ℕ)

infixl 10 ◌>>=◌
abbrev pub ◌>>=◌ : {A B : Type 0} → Option A → (A → Option B) → Option B
(Some x) >>= f = f x
None >>= f = None

-- a value, and behind it another one
abbrev pub both : {A B : Type 0} → Reader A → Reader B → Reader (A × B)
both p q bytes = p bytes >>= λ a. q a.1 >>= λ b. Some ((a.0, b.0), b.1)

-- what a value stands for
abbrev pub mapped : {A B : Type 0} → (A → B) → Reader A → Reader B
mapped f p bytes = p bytes >>= λ a. Some (f a.0, a.1)

-- so many values
unfoldable pub many : {X : Type 0} → Reader X → ℕ → Reader (List X)
many p zero bytes = Some ([], bytes)
many p (suc n) bytes = p bytes >>= λ first. many p n first.1 >>= λ others. Some (first.0 ∷ others.0, others.1)

-- as many values as the number before them says
unfoldable pub counted : {X : Type 0} → Reader ℕ → Reader X → Reader (List X)
counted number p bytes = number bytes >>= λ n. many p n.0 n.1

-- the value, where no byte is left behind it
abbrev pub at_end : {X : Type 0} → X → List ℕ → Option X
at_end x [] = Some x
at_end x (b ∷ rest) = None

abbrev pub only : {X : Type 0} → Option (X × List ℕ) → Option X
only found = found >>= λ x. at_end x.0 x.1

-- so many bytes
unfoldable pub piece : ℕ → Reader (List ℕ)
piece n bytes = if nat_lt (length bytes) n then None else Some (take n bytes, drop n bytes)

unfoldable pub byte_at : Reader ℕ
byte_at [] = None
byte_at (b ∷ rest) = Some (b, rest)

-- a number, with its highest byte first
unfoldable pub number : Width → Reader ℕ
number w bytes = piece (byte_len w) bytes >>= λ p. Some (from_be_bytes w p.0, p.1)

-- The name that the bytes are, where they are one as names are kept: in upper case.
abbrev pub kept_name : List ℕ → Option (List ℕ)
kept_name word = name_of word >>= λ name. if bytes_eq name word then Some name else None

-- a name: one byte of length, and its bytes
unfoldable pub name_at : Reader (List ℕ)
name_at bytes = byte_at bytes >>= λ n. piece n.0 n.1 >>= λ word. kept_name word.0 >>= λ name. Some (name, word.1)

-- a text: four bytes of length, and its bytes
unfoldable pub text_at : Reader (List ℕ)
text_at bytes = number w32 bytes >>= λ n. piece n.0 n.1

-- a value's text, which isn't empty
abbrev pub some_text : List ℕ → List ℕ → Option (Value × List ℕ)
some_text [] rest = None
some_text (b ∷ bs) rest = Some (value.Text (b ∷ bs), rest)

-- a value: 0 for NULL; 1 and a number of eight bytes; 2 and a text
unfoldable pub value_at : Reader Value
value_at [] = None
value_at (zero ∷ rest) = Some (value.Null, rest)
value_at (suc zero ∷ rest) = mapped (λ n. value.Num (cast_signed w64 n)) (number w64) rest
value_at (suc (suc zero) ∷ rest) = text_at rest >>= λ t. some_text t.0 t.1
value_at (suc (suc (suc kind)) ∷ rest) = None

-- what a row becomes: 0 where it is removed; 1 and its values
unfoldable pub values_at : Reader (Option (List Value))
values_at [] = None
values_at (zero ∷ rest) = Some (None, rest)
values_at (suc zero ∷ rest) = mapped Some (counted (number w16) value_at) rest
values_at (suc (suc kind) ∷ rest) = None

unfoldable pub change_at : Reader Change
change_at = mapped (λ c. record { row = record { table = record { 0 = c.0.0 }; row = record { 0 = c.0.1 } }; values = c.1 }) (both (both (number w32) (number w64)) values_at)

-- a type: 1 and a number of digits; 2 and a number of bytes
unfoldable pub type_at : Reader ColType
type_at [] = None
type_at (zero ∷ rest) = None
type_at (suc zero ∷ rest) = mapped type.Num byte_at rest
type_at (suc (suc zero) ∷ rest) = mapped type.Text (number w16) rest
type_at (suc (suc (suc kind)) ∷ rest) = None

unfoldable pub flag_at : Reader Bool
flag_at [] = None
flag_at (zero ∷ rest) = Some (false, rest)
flag_at (suc zero ∷ rest) = Some (true, rest)
flag_at (suc (suc b) ∷ rest) = None

unfoldable pub column_at : Reader table.Column
column_at = mapped (λ c. record { name = c.0.0; ty = c.0.1; not_null = c.1 }) (both (both name_at type_at) flag_at)

unfoldable pub class_at : Reader DroppedClass
class_at [] = None
class_at (zero ∷ rest) = None
class_at (suc zero ∷ rest) = Some (class.Unit, rest)
class_at (suc (suc zero) ∷ rest) = Some (class.Body, rest)
class_at (suc (suc (suc zero)) ∷ rest) = Some (class.Trigger, rest)
class_at (suc (suc (suc (suc zero))) ∷ rest) = Some (class.Package, rest)
class_at (suc (suc (suc (suc (suc kind)))) ∷ rest) = None

-- ---- the records, behind their kind

unfoldable pub commit_at : Reader Record
commit_at = mapped made.Commit (counted (number w32) change_at)

unfoldable pub edition_at : Reader Record
edition_at = mapped (λ r. made.Edition r.0 (record { 0 = r.1 })) (both name_at (number w32))

unfoldable pub edition_gone_at : Reader Record
edition_gone_at = mapped (λ e. made.EditionGone (record { 0 = e })) (number w32)

unfoldable pub default_at : Reader Record
default_at = mapped (λ e. made.Default (record { 0 = e })) (number w32)

unfoldable pub object_at : Reader Record
object_at = mapped (λ r. made.Object (record { 0 = r.0.0 }) r.0.1 r.1) (both (both (number w32) flag_at) text_at)

unfoldable pub gone_at : Reader Record
gone_at = mapped (λ r. made.Gone (record { 0 = r.0.0 }) r.0.1 r.1) (both (both (number w32) class_at) name_at)

unfoldable pub table_at : Reader Record
table_at = mapped (λ r. made.Table r.0.0 r.0.1 r.1) (both (both name_at (counted (number w16) column_at)) (counted byte_at (number w16)))

unfoldable pub column_record_at : Reader Record
column_record_at = mapped (λ r. made.Column (record { 0 = r.0 }) r.1) (both (number w32) column_at)

unfoldable pub table_gone_at : Reader Record
table_gone_at = mapped (λ t. made.TableGone (record { 0 = t })) (number w32)

abbrev pub record_at : ℕ → Reader Record
record_at kind fields =
    if kind == 1 then commit_at fields
    else if kind == 2 then edition_at fields
    else if kind == 3 then edition_gone_at fields
    else if kind == 4 then default_at fields
    else if kind == 5 then object_at fields
    else if kind == 6 then gone_at fields
    else if kind == 7 then table_at fields
    else if kind == 8 then column_record_at fields
    else if kind == 9 then table_gone_at fields
    else None

-- The record that bytes are read as, all of them: a kind, and its fields.
unfoldable pub decoded : List ℕ → Option Record
decoded [] = None
decoded (kind ∷ fields) = only (record_at kind fields)
