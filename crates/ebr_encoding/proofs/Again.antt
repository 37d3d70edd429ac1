-- What is spelled so is read again: the fields of records.
use Rattle.std.proofs.Common.{◌≡◌, ◌≢◌, ℕ, ℤ, ◌^◌, ◌<◌, Bool, true, false, cond, ltb, List, [], ◌∷◌, ◌++◌, length, Option, Some, None, refl, ap, ◌∙◌, append_assoc, arith}
use Rattle.std.specs.Int.{Width, w16, w32, w64, byte_len, cast_signed, cast_unsigned, from_be_bytes, to_be_bytes}
use Rattle.std.specs.List.{AllByRecursion}
use Rattle.std.specs.Str.{bytes_eq}
use Rattle.std.proofs.lemmas.Bool.{le-ltb}
use Rattle.std.proofs.lemmas.List.{drop_at, length-append, take_at}
use Rattle.std.proofs.lemmas.Nat.{from_be_bytes-to_be_bytes_2, from_be_bytes-to_be_bytes_4, from_be_bytes-to_be_bytes_8}
use Rattle.std.proofs.lemmas.Slice.Eq.{bytes_eq-Decides}
use Rattle.ebr_base.specs.Word.{IsName}
use Rattle.ebr_base.specs.declared.row.Change.{Change}
use Rattle.ebr_base.specs.declared.table.Column as table
use Rattle.ebr_base.specs.declared.value.ColType.TheVariants as type
use Rattle.ebr_base.specs.declared.value.Value.{Value}
use Rattle.ebr_base.specs.declared.value.Value.TheVariants as value
use Rattle.ebr_record.specs.declared.record.DroppedClass.{DroppedClass}
use Rattle.ebr_record.specs.declared.record.DroppedClass.TheVariants as class
use Rattle.ebr_record.specs.Payload.{change_bytes, column_bytes, name_bytes, text_bytes, type_bytes, value_bytes, values_bytes}
use Rattle.ebr_encoding.specs.Reading.{◌>>=◌, both, byte_at, change_at, class_at, column_at, counted, flag_at, kept_name, name_at, number, piece, some_text, text_at, type_at, value_at, values_at}
use Rattle.ebr_encoding.specs.inside.Written.{IsReadAgain}
use Rattle.ebr_encoding.proofs.Fields.{class_bytes, counted_bytes, flag_bytes}
use Rattle.ebr_encoding.proofs.Laws.{both_again, counted_again, many_again, mapped_again}

pub piece_again : (s : List ℕ) (n : ℕ) → length s ≡ n → IsReadAgain (piece n) s s
unfolding piece
piece_again s n is rest =
    let long : ltb (length (s ++ rest)) n ≡ false = le-ltb _ _ (omega (arith, length-append s rest, is)) in
    rw (long, take_at s rest n is, drop_at s rest n is) refl

pub byte_again : (b : ℕ) → IsReadAgain byte_at (b ∷ []) b
unfolding byte_at
byte_again b rest = refl

-- ---- numbers

pub record IsKept (w : Width) (limit : ℕ) : Type 0 where
  pub len : (n : ℕ) → length (to_be_bytes w n) ≡ byte_len w
  pub again : (n : ℕ) → n < limit → from_be_bytes w (to_be_bytes w n) ≡ n

kept16 : IsKept w16 (2 ^ 16)
kept16 = record { len = λ n. refl; again = from_be_bytes-to_be_bytes_2 }

kept32 : IsKept w32 (2 ^ 32)
kept32 = record { len = λ n. refl; again = from_be_bytes-to_be_bytes_4 }

kept64 : IsKept w64 (2 ^ 64)
kept64 = record { len = λ n. refl; again = from_be_bytes-to_be_bytes_8 }

number_again : (w : Width) (limit : ℕ) → IsKept w limit → (n : ℕ) → n < limit → IsReadAgain (number w) (to_be_bytes w n) n
unfolding number
number_again w limit kept n small rest = rw (piece_again (to_be_bytes w n) (byte_len w) (kept.len n) rest, kept.again n small) refl

pub again16 : (n : ℕ) → n < 2 ^ 16 → IsReadAgain (number w16) (to_be_bytes w16 n) n
again16 = number_again w16 (2 ^ 16) kept16

pub again32 : (n : ℕ) → n < 2 ^ 32 → IsReadAgain (number w32) (to_be_bytes w32 n) n
again32 = number_again w32 (2 ^ 32) kept32

pub again64 : (n : ℕ) → n < 2 ^ 64 → IsReadAgain (number w64) (to_be_bytes w64 n) n
again64 = number_again w64 (2 ^ 64) kept64

-- ---- names and texts

kept_again : (name : List ℕ) → IsName name → kept_name name ≡ Some name
kept_again name is =
    let same : bytes_eq name name ≡ true = (bytes_eq-Decides name name).1 refl in
    ap (λ (found : Option (List ℕ)). found >>= λ n. cond (bytes_eq n name) (Some n) None) is ∙ ap (λ (b : Bool). cond b (Some name) None) same

pub name_again : (name : List ℕ) → IsName name → IsReadAgain name_at (name_bytes name) name
unfolding name_at byte_at
name_again name is rest =
    ap (λ (found : Option (List ℕ × List ℕ)). found >>= λ word. kept_name word.0 >>= λ n. Some (n, word.1)) (piece_again name (length name) refl rest)
    ∙ ap (λ (found : Option (List ℕ)). found >>= λ n. Some (n, rest)) (kept_again name is)

pub text_again : (text : List ℕ) → length text < 2 ^ 32 → IsReadAgain text_at (text_bytes text) text
unfolding text_at
text_again text short rest =
    let size : IsReadAgain (number w32) (to_be_bytes w32 (length text)) (length text) = again32 (length text) short in
    ap text_at (append_assoc (to_be_bytes w32 (length text)) text rest)
    ∙ ap (λ (found : Option (ℕ × List ℕ)). found >>= λ n. piece n.0 n.1) (size (text ++ rest))
    ∙ piece_again text (length text) refl rest

-- ---- values and changes

pub null_again : IsReadAgain value_at (value_bytes value.Null) value.Null
unfolding value_at
null_again rest = refl

pub num_again : (n : ℤ) → cast_unsigned w64 n < 2 ^ 64 → cast_signed w64 (cast_unsigned w64 n) ≡ n → IsReadAgain value_at (value_bytes (value.Num n)) (value.Num n)
unfolding value_at
num_again n small same rest =
    mapped_again (number w64) (to_be_bytes w64 (cast_unsigned w64 n)) (λ k. value.Num (cast_signed w64 k)) (cast_unsigned w64 n) (again64 (cast_unsigned w64 n) small) rest
    ∙ ap (λ (z : ℤ). Some (value.Num z, rest)) same

pub value_text_again : (text : List ℕ) → text ≢ [] → IsReadAgain text_at (text_bytes text) text → IsReadAgain value_at (value_bytes (value.Text text)) (value.Text text)
unfolding value_at
value_text_again text some read rest = ap (λ (found : Option (List ℕ × List ℕ)). found >>= λ t. some_text t.0 t.1) (read rest) ∙ by text some
  where
    by : (t : List ℕ) → t ≢ [] → some_text t rest ≡ Some (value.Text t, rest)
    by [] h = absurd (h refl)
    by (b ∷ bs) h = refl

pub removed_again : IsReadAgain values_at (values_bytes None) None
unfolding values_at
removed_again rest = refl

pub values_again : (vs : List Value) → length vs < 2 ^ 16 → AllByRecursion (λ v. IsReadAgain value_at (value_bytes v) v) vs → IsReadAgain values_at (values_bytes (Some vs)) (Some vs)
unfolding values_at
values_again vs few all =
    mapped_again (counted (number w16) value_at) (counted_bytes (to_be_bytes w16) value_bytes vs) (λ (x : List Value). Some x) vs
    (counted_again value_at value_bytes (number w16) (to_be_bytes w16 (length vs)) vs (again16 (length vs) few) (many_again value_at value_bytes vs all))

pub change_again : (c : Change) → c.row.table.0 < 2 ^ 32 → c.row.row.0 < 2 ^ 64 → IsReadAgain values_at (values_bytes c.values) c.values → IsReadAgain change_at (change_bytes c) c
unfolding change_at
change_again c table row values =
    let place : List ℕ = to_be_bytes w32 c.row.table.0 ++ to_be_bytes w64 c.row.row.0 in
    mapped_again (both (both (number w32) (number w64)) values_at) (place ++ values_bytes c.values)
    (λ x. record { row = record { table = record { 0 = x.0.0 }; row = record { 0 = x.0.1 } }; values = x.1 }) ((c.row.table.0, c.row.row.0), c.values)
    (both_again (both (number w32) (number w64)) values_at place (values_bytes c.values) (c.row.table.0, c.row.row.0) c.values
    (both_again (number w32) (number w64) (to_be_bytes w32 c.row.table.0) (to_be_bytes w64 c.row.row.0) c.row.table.0 c.row.row.0 (again32 c.row.table.0 table) (again64 c.row.row.0 row)) values)

-- ---- columns

pub digits_again : (digits : ℕ) → IsReadAgain type_at (type_bytes (type.Num digits)) (type.Num digits)
unfolding type_at byte_at
digits_again digits rest = refl

pub size_again : (size : ℕ) → size < 2 ^ 16 → IsReadAgain type_at (type_bytes (type.Text size)) (type.Text size)
unfolding type_at
size_again size small = mapped_again (number w16) (to_be_bytes w16 size) type.Text size (again16 size small)

pub flag_again : (b : Bool) → IsReadAgain flag_at (flag_bytes b) b
unfolding flag_at
flag_again true rest = refl
flag_again false rest = refl

pub column_again : (c : table.Column) → IsReadAgain name_at (name_bytes c.name) c.name → IsReadAgain type_at (type_bytes c.ty) c.ty → IsReadAgain column_at (column_bytes c) c
unfolding column_at
column_again c name ty =
    let front : List ℕ = name_bytes c.name ++ type_bytes c.ty in
    mapped_again (both (both name_at type_at) flag_at) (front ++ flag_bytes c.not_null) (λ x. record { name = x.0.0; ty = x.0.1; not_null = x.1 }) ((c.name, c.ty), c.not_null)
    (both_again (both name_at type_at) flag_at front (flag_bytes c.not_null) (c.name, c.ty) c.not_null
    (both_again name_at type_at (name_bytes c.name) (type_bytes c.ty) c.name c.ty name ty) (flag_again c.not_null))

pub class_again : (c : DroppedClass) → IsReadAgain class_at (class_bytes c) c
unfolding class_at
class_again class.Unit rest = refl
class_again class.Body rest = refl
class_again class.Trigger rest = refl
class_again class.Package rest = refl
