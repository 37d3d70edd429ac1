-- What is read is spelled so: of the fields of records, and of records.
use Rattle.std.proofs.Common.{◌≡◌, ℕ, zero, suc, ◌^◌, ◌<◌, ◌≤◌, Bool, true, false, cond, ltb, List, [], ◌∷◌, ◌++◌, length, take, drop, Option, Some, None, refl, sym, ap, subst, ◌∙◌, append_assoc, arith}
use Rattle.std.specs.Int.{Width, w16, w32, w64, byte_len, cast_signed, from_be_bytes, to_be_bytes}
use Rattle.std.specs.List.{flat_map}
use Rattle.std.specs.Str.{bytes_eq}
use Rattle.std.proofs.lemmas.Bool.{ltb-false}
use Rattle.std.proofs.lemmas.Int.{of_z-to_z}
use Rattle.std.proofs.lemmas.List.{length-take-le, take-append-drop}
use Rattle.std.proofs.lemmas.Nat.{be_bytes_2, be_bytes_4, be_bytes_8}
use Rattle.std.proofs.lemmas.Slice.Eq.{bytes_eq-Decides}
use Rattle.ebr_base.specs.Word.{name_of}
use Rattle.ebr_base.specs.declared.value.ColType.TheVariants as type
use Rattle.ebr_base.specs.declared.value.Value.{Value}
use Rattle.ebr_base.specs.declared.value.Value.TheVariants as value
use Rattle.ebr_record.specs.declared.record.DroppedClass.{DroppedClass}
use Rattle.ebr_record.specs.declared.record.DroppedClass.TheVariants as class
use Rattle.ebr_record.specs.Payload.{change_bytes, class_number, column_bytes, flag, name_bytes, text_bytes, type_bytes, value_bytes, values_bytes}
use Rattle.ebr_encoding.specs.Reading.{◌>>=◌, byte_at, change_at, class_at, column_at, counted, flag_at, kept_name, name_at, number, piece, some_text, text_at, type_at, value_at, values_at}
use Rattle.ebr_encoding.proofs.Laws.{IsBytes, Takes, bind_some, both_takes, counted_takes, mapped_takes, met, not_met, some_is}

-- values behind their number
abbrev pub counted_bytes : {X : Type 0} → (ℕ → List ℕ) → (X → List ℕ) → List X → List ℕ
counted_bytes number f xs = number (length xs) ++ flat_map f xs

front : (s rest : List ℕ) → IsBytes (s ++ rest) → IsBytes s
front [] rest h i = omega arith
front (b ∷ s) rest h zero = h 0
front (b ∷ s) rest h (suc i) = front s rest (λ k. h (suc k)) i

later : (b : ℕ) (bytes : List ℕ) → IsBytes (b ∷ bytes) → IsBytes bytes
later b bytes h i = h (suc i)

pub piece_takes : (n : ℕ) (bytes s rest : List ℕ) → piece n bytes ≡ Some (s, rest) → (bytes ≡ s ++ rest) × (length s ≡ n)
unfolding piece
piece_takes n bytes s rest e =
    let made : List ℕ × List ℕ = (take n bytes, drop n bytes) in
    let g = not_met (ltb (length bytes) n) made (s, rest) e in
    let long : n ≤ length bytes = ltb-false _ _ g.0 in
    subst (λ (y : List ℕ × List ℕ). (bytes ≡ y.0 ++ y.1) × (length y.0 ≡ n)) g.1 (sym (take-append-drop n bytes), length-take-le n bytes long)

pub byte_takes : Takes byte_at (λ b. b ∷ [])
unfolding byte_at
byte_takes [] x rest fits e = absurd cc
byte_takes (b ∷ bytes) x rest fits e = subst (λ (y : ℕ × List ℕ). b ∷ bytes ≡ (y.0 ∷ []) ++ y.1) (some_is (b, bytes) (x, rest) e) refl

-- ---- numbers

pub record IsWide (w : Width) (limit : ℕ) : Type 0 where
  pub back : (bytes : List ℕ) → length bytes ≡ byte_len w → IsBytes bytes → to_be_bytes w (from_be_bytes w bytes) ≡ bytes
  pub below : (bytes : List ℕ) → IsBytes bytes → from_be_bytes w bytes < limit

pub wide16 : IsWide w16 (2 ^ 16)
wide16 = record { back = λ bytes len fits. be_bytes_2 bytes _ len fits refl; below = λ bytes fits. omega (arith, fits 0, fits 1) }

pub wide32 : IsWide w32 (2 ^ 32)
wide32 = record { back = λ bytes len fits. be_bytes_4 bytes _ len fits refl; below = λ bytes fits. omega (arith, fits 0, fits 1, fits 2, fits 3) }

pub wide64 : IsWide w64 (2 ^ 64)
wide64 = record {
  back = λ bytes len fits. be_bytes_8 bytes _ len fits refl;
  below = λ bytes fits. omega (arith, fits 0, fits 1, fits 2, fits 3, fits 4, fits 5, fits 6, fits 7);
}

module _ (w : Width) (limit : ℕ) (wide : IsWide w limit) where
  pub number_takes_below : (bytes : List ℕ) (n : ℕ) (rest : List ℕ) → IsBytes bytes → number w bytes ≡ Some (n, rest) → (bytes ≡ to_be_bytes w n ++ rest) × (n < limit)
  unfolding number
  number_takes_below bytes n rest fits e =
      let p = bind_some (piece (byte_len w) bytes) (λ p. Some (from_be_bytes w p.0, p.1)) (n, rest) e in
      let first = piece_takes (byte_len w) bytes p.0.0 p.0.1 p.1 in
      let few : IsBytes p.0.0 = front p.0.0 p.0.1 (subst IsBytes first.0 fits) in
      let whole : bytes ≡ to_be_bytes w (from_be_bytes w p.0.0) ++ p.0.1 = first.0 ∙ ap (λ (s : List ℕ). s ++ p.0.1) (sym (wide.back p.0.0 first.1 few)) in
      let read : ℕ × List ℕ = (from_be_bytes w p.0.0, p.0.1) in
      subst (λ (y : ℕ × List ℕ). (bytes ≡ to_be_bytes w y.0 ++ y.1) × (y.0 < limit)) (some_is read (n, rest) p.2) (whole, wide.below p.0.0 few)

  pub number_takes : Takes (number w) (to_be_bytes w)
  number_takes bytes n rest fits e = (number_takes_below bytes n rest fits e).0

-- ---- names and texts

kept_is : (word name : List ℕ) → kept_name word ≡ Some name → name ≡ word
kept_is word name e =
    let n = bind_some (name_of word) (λ found. cond (bytes_eq found word) (Some found) None) name e in
    let g = met (bytes_eq n.0 word) n.0 name n.2 in
    sym g.1 ∙ (bytes_eq-Decides n.0 word).0 g.0

pub name_takes : Takes name_at name_bytes
unfolding name_at
name_takes bytes x rest fits e =
    let n = bind_some (byte_at bytes) (λ n. piece n.0 n.1 >>= λ word. kept_name word.0 >>= λ name. Some (name, word.1)) (x, rest) e in
    let word = bind_some (piece n.0.0 n.0.1) (λ word. kept_name word.0 >>= λ name. Some (name, word.1)) (x, rest) n.2 in
    let name = bind_some (kept_name word.0.0) (λ name. Some (name, word.0.1)) (x, rest) word.2 in
    let first : bytes ≡ n.0.0 ∷ n.0.1 = byte_takes bytes n.0.0 n.0.1 fits n.1 in
    let second = piece_takes n.0.0 n.0.1 word.0.0 word.0.1 word.1 in
    let same : word.0.0 ≡ name.0 = sym (kept_is word.0.0 name.0 name.1) in
    let whole : bytes ≡ name_bytes word.0.0 ++ word.0.1 = first ∙ ap (λ (t : List ℕ). n.0.0 ∷ t) second.0 ∙ ap (λ (k : ℕ). k ∷ (word.0.0 ++ word.0.1)) (sym second.1) in
    let made : List ℕ × List ℕ = (name.0, word.0.1) in
    subst (λ (y : List ℕ × List ℕ). bytes ≡ name_bytes y.0 ++ y.1) (some_is made (x, rest) name.2) (subst (λ (s : List ℕ). bytes ≡ name_bytes s ++ word.0.1) same whole)

pub text_takes : Takes text_at text_bytes
unfolding text_at
text_takes bytes x rest fits e =
    let n = bind_some (number w32 bytes) (λ n. piece n.0 n.1) (x, rest) e in
    let first : bytes ≡ to_be_bytes w32 n.0.0 ++ n.0.1 = number_takes w32 (2 ^ 32) wide32 bytes n.0.0 n.0.1 fits n.1 in
    let second = piece_takes n.0.0 n.0.1 x rest n.2 in
    let counts : bytes ≡ to_be_bytes w32 (length x) ++ n.0.1 = first ∙ ap (λ (k : ℕ). to_be_bytes w32 k ++ n.0.1) (sym second.1) in
    counts ∙ ap (λ (t : List ℕ). to_be_bytes w32 (length x) ++ t) second.0 ∙ sym (append_assoc (to_be_bytes w32 (length x)) x rest)

-- ---- values and changes

pub value_takes : Takes value_at value_bytes
unfolding value_at
value_takes [] x rest fits e = absurd cc
value_takes (zero ∷ bytes) x rest fits e =
    let made : Value × List ℕ = (value.Null, bytes) in
    subst (λ (y : Value × List ℕ). 0 ∷ bytes ≡ value_bytes y.0 ++ y.1) (some_is made (x, rest) e) refl
value_takes (suc zero ∷ bytes) x rest fits e =
    let n = bind_some (number w64 bytes) (λ n. Some (value.Num (cast_signed w64 n.0), n.1)) (x, rest) e in
    let first = number_takes_below w64 (2 ^ 64) wide64 bytes n.0.0 n.0.1 (later 1 bytes fits) n.1 in
    let made : Value × List ℕ = (value.Num (cast_signed w64 n.0.0), n.0.1) in
    let whole : 1 ∷ bytes ≡ value_bytes made.0 ++ n.0.1 = ap (λ (t : List ℕ). 1 ∷ t) (first.0 ∙ ap (λ (k : ℕ). to_be_bytes w64 k ++ n.0.1) (sym (of_z-to_z w64 n.0.0 first.1))) in
    subst (λ (y : Value × List ℕ). 1 ∷ bytes ≡ value_bytes y.0 ++ y.1) (some_is made (x, rest) n.2) whole
value_takes (suc (suc zero) ∷ bytes) x rest fits e =
    let t = bind_some (text_at bytes) (λ t. some_text t.0 t.1) (x, rest) e in
    by t.0.0 t.0.1 (text_takes bytes t.0.0 t.0.1 (later 2 bytes fits) t.1) t.2
  where
    by : (text after : List ℕ) → bytes ≡ text_bytes text ++ after → some_text text after ≡ Some (x, rest) → 2 ∷ bytes ≡ value_bytes x ++ rest
    by [] after h k = absurd cc
    by (b ∷ bs) after h k =
        let made : Value × List ℕ = (value.Text (b ∷ bs), after) in
        subst (λ (y : Value × List ℕ). 2 ∷ bytes ≡ value_bytes y.0 ++ y.1) (some_is made (x, rest) k) (ap (λ (t : List ℕ). 2 ∷ t) h)
value_takes (suc (suc (suc kind)) ∷ bytes) x rest fits e = absurd cc

pub values_takes : Takes values_at values_bytes
unfolding values_at
values_takes [] x rest fits e = absurd cc
values_takes (zero ∷ bytes) x rest fits e =
    let made : Option (List Value) × List ℕ = (None, bytes) in
    subst (λ (y : Option (List Value) × List ℕ). 0 ∷ bytes ≡ values_bytes y.0 ++ y.1) (some_is made (x, rest) e) refl
values_takes (suc zero ∷ bytes) x rest fits e =
    mapped_takes (counted (number w16) value_at) (counted_bytes (to_be_bytes w16) value_bytes) Some values_bytes (1 ∷ []) (λ a. refl)
    (counted_takes value_at value_bytes (number w16) (to_be_bytes w16) (number_takes w16 (2 ^ 16) wide16) value_takes) bytes x rest (later 1 bytes fits) e
values_takes (suc (suc kind) ∷ bytes) x rest fits e = absurd cc

pub change_takes : Takes change_at change_bytes
unfolding change_at
change_takes = mapped_takes _ (λ x. (to_be_bytes w32 x.0.0 ++ to_be_bytes w64 x.0.1) ++ values_bytes x.1) _ change_bytes [] (λ a. refl)
    (both_takes _ _ (λ x. to_be_bytes w32 x.0 ++ to_be_bytes w64 x.1) values_bytes (both_takes _ _ (to_be_bytes w32) (to_be_bytes w64) (number_takes w32 (2 ^ 32) wide32) (number_takes w64 (2 ^ 64) wide64)) values_takes)

-- ---- columns

pub type_takes : Takes type_at type_bytes
unfolding type_at
type_takes [] x rest fits e = absurd cc
type_takes (zero ∷ bytes) x rest fits e = absurd cc
type_takes (suc zero ∷ bytes) x rest fits e = mapped_takes byte_at (λ b. b ∷ []) type.Num type_bytes (1 ∷ []) (λ a. refl) byte_takes bytes x rest (later 1 bytes fits) e
type_takes (suc (suc zero) ∷ bytes) x rest fits e = mapped_takes (number w16) (to_be_bytes w16) type.Text type_bytes (2 ∷ []) (λ a. refl) (number_takes w16 (2 ^ 16) wide16) bytes x rest (later 2 bytes fits) e
type_takes (suc (suc (suc kind)) ∷ bytes) x rest fits e = absurd cc

abbrev pub flag_bytes : Bool → List ℕ
flag_bytes b = flag b ∷ []

pub flag_takes : Takes flag_at flag_bytes
unfolding flag_at
flag_takes [] x rest fits e = absurd cc
flag_takes (zero ∷ bytes) x rest fits e =
    let made : Bool × List ℕ = (false, bytes) in
    subst (λ (y : Bool × List ℕ). 0 ∷ bytes ≡ flag_bytes y.0 ++ y.1) (some_is made (x, rest) e) refl
flag_takes (suc zero ∷ bytes) x rest fits e =
    let made : Bool × List ℕ = (true, bytes) in
    subst (λ (y : Bool × List ℕ). 1 ∷ bytes ≡ flag_bytes y.0 ++ y.1) (some_is made (x, rest) e) refl
flag_takes (suc (suc b) ∷ bytes) x rest fits e = absurd cc

pub column_takes : Takes column_at column_bytes
unfolding column_at
column_takes = mapped_takes _ (λ x. (name_bytes x.0.0 ++ type_bytes x.0.1) ++ flag_bytes x.1) _ column_bytes [] (λ a. refl)
    (both_takes _ _ (λ x. name_bytes x.0 ++ type_bytes x.1) flag_bytes (both_takes _ _ name_bytes type_bytes name_takes type_takes) flag_takes)

abbrev pub class_bytes : DroppedClass → List ℕ
class_bytes c = class_number c ∷ []

pub class_takes : Takes class_at class_bytes
unfolding class_at
class_takes [] x rest fits e = absurd cc
class_takes (zero ∷ bytes) x rest fits e = absurd cc
class_takes (suc zero ∷ bytes) x rest fits e =
    let made : DroppedClass × List ℕ = (class.Unit, bytes) in
    subst (λ (y : DroppedClass × List ℕ). 1 ∷ bytes ≡ class_bytes y.0 ++ y.1) (some_is made (x, rest) e) refl
class_takes (suc (suc zero) ∷ bytes) x rest fits e =
    let made : DroppedClass × List ℕ = (class.Body, bytes) in
    subst (λ (y : DroppedClass × List ℕ). 2 ∷ bytes ≡ class_bytes y.0 ++ y.1) (some_is made (x, rest) e) refl
class_takes (suc (suc (suc zero)) ∷ bytes) x rest fits e =
    let made : DroppedClass × List ℕ = (class.Trigger, bytes) in
    subst (λ (y : DroppedClass × List ℕ). 3 ∷ bytes ≡ class_bytes y.0 ++ y.1) (some_is made (x, rest) e) refl
class_takes (suc (suc (suc (suc zero))) ∷ bytes) x rest fits e =
    let made : DroppedClass × List ℕ = (class.Package, bytes) in
    subst (λ (y : DroppedClass × List ℕ). 4 ∷ bytes ≡ class_bytes y.0 ++ y.1) (some_is made (x, rest) e) refl
class_takes (suc (suc (suc (suc (suc kind)))) ∷ bytes) x rest fits e = absurd cc
