-- Records that were read have lists that can be spelled.
use Rattle.std.proofs.Common.{◌≡◌, ℕ, zero, suc, ◌^◌, ◌<◌, List, [], ◌∷◌, ◌++◌, length, All, Option, Some, None, ap, subst, ◌∙◌, arith}
use Rattle.std.specs.Prelude.{IfSome}
use Rattle.std.specs.Int.{Width, cast_signed, w16, w32, w64, to_be_bytes}
use Rattle.std.specs.List.{AllByRecursion}
use Rattle.std.proofs.lemmas.List.Elements.{All-from_recursion}
use Rattle.ebr_base.specs.declared.row.Change.{Change}
use Rattle.ebr_base.specs.declared.table.Column as table
use Rattle.ebr_base.specs.declared.value.Value.{Value}
use Rattle.ebr_base.specs.declared.value.Value.TheVariants as value
use Rattle.ebr_record.specs.Payload.{AreValues, IsStored, change_bytes, column_bytes, name_bytes, value_bytes}
use Rattle.ebr_encoding.specs.Reading.{◌>>=◌, Reader, both, byte_at, change_at, column_at, counted, many, name_at, number, some_text, text_at, value_at, values_at}
use Rattle.ebr_encoding.proofs.Fields.{IsWide, change_takes, column_takes, counted_bytes, name_takes, number_takes, number_takes_below, value_takes, wide16, wide32, wide64}
use Rattle.ebr_encoding.proofs.Laws.{IsBytes, Takes, behind, bind_some, both_takes, counted_takes, many_takes, mapped_is, some_is}

-- each value that is read is so
abbrev pub Holds : {X : Type 0} → Reader X → (X → Type 0) → Type 0
Holds {X} read P = (bytes : List ℕ) (x : X) (rest : List ℕ) → IsBytes bytes → read bytes ≡ Some (x, rest) → P x

pub both_is : {A B : Type 0} (p : Reader A) (q : Reader B) (bytes : List ℕ) (x : A × B) (rest : List ℕ) → both p q bytes ≡ Some (x, rest) → (mid : List ℕ) × (p bytes ≡ Some (x.0, mid)) × (q mid ≡ Some (x.1, rest))
both_is {A} {B} p q bytes x rest e =
    let a = bind_some (p bytes) (λ a. q a.1 >>= λ b. Some ((a.0, b.0), b.1)) (x, rest) e in
    let b = bind_some (q a.0.1) (λ b. Some ((a.0.0, b.0), b.1)) (x, rest) a.2 in
    let made : (A × B) × List ℕ = ((a.0.0, b.0.0), b.0.1) in
    let same = some_is made (x, rest) b.2 in
    (a.0.1, a.1 ∙ ap (λ (y : (A × B) × List ℕ). Some (y.0.0, a.0.1)) same, b.1 ∙ ap (λ (y : (A × B) × List ℕ). Some (y.0.1, y.1)) same)

module _ {X : Type 0} (p : Reader X) (f : X → List ℕ) (P : X → Type 0) (takes : Takes p f) (holds : Holds p P) where
  pub many_hold : (n : ℕ) (bytes : List ℕ) (xs : List X) (rest : List ℕ) → IsBytes bytes → many p n bytes ≡ Some (xs, rest) → AllByRecursion P xs
  unfolding many
  many_hold zero bytes xs rest fits e =
      let made : List X × List ℕ = ([], bytes) in
      subst (λ (y : List X × List ℕ). AllByRecursion P y.0) (some_is made (xs, rest) e) tt
  many_hold (suc n) bytes xs rest fits e =
      let a = bind_some (p bytes) (λ first. many p n first.1 >>= λ others. Some (first.0 ∷ others.0, others.1)) (xs, rest) e in
      let b = bind_some (many p n a.0.1) (λ others. Some (a.0.0 ∷ others.0, others.1)) (xs, rest) a.2 in
      let first : bytes ≡ f a.0.0 ++ a.0.1 = takes bytes a.0.0 a.0.1 fits a.1 in
      let made : List X × List ℕ = (a.0.0 ∷ b.0.0, b.0.1) in
      subst (λ (y : List X × List ℕ). AllByRecursion P y.0) (some_is made (xs, rest) b.2)
      (holds bytes a.0.0 a.0.1 fits a.1, many_hold n a.0.1 b.0.0 b.0.1 (behind (f a.0.0) a.0.1 (subst IsBytes first fits)) b.1)

  pub counted_hold : (w : Width) (limit : ℕ) → IsWide w limit → Holds (counted (number w) p) (λ xs. (length xs < limit) × All P xs)
  unfolding counted
  counted_hold w limit wide bytes xs rest fits e =
      let n = bind_some (number w bytes) (λ n. many p n.0 n.1) (xs, rest) e in
      let first = number_takes_below w limit wide bytes n.0.0 n.0.1 fits n.1 in
      let later = behind (to_be_bytes w n.0.0) n.0.1 (subst IsBytes first.0 fits) in
      let few : length xs < limit = omega (arith, first.1, (many_takes p f takes n.0.0 n.0.1 xs rest later n.2).1) in
      (few, All-from_recursion P xs (many_hold n.0.0 n.0.1 xs rest later n.2))

value_holds : Holds value_at IsStored
unfolding value_at
value_holds [] x rest fits e = absurd cc
value_holds (zero ∷ bytes) x rest fits e =
    let made : Value × List ℕ = (value.Null, bytes) in
    subst (λ (y : Value × List ℕ). IsStored y.0) (some_is made (x, rest) e) tt
value_holds (suc zero ∷ bytes) x rest fits e =
    let n = mapped_is (number w64) (λ n. value.Num (cast_signed w64 n)) bytes x rest e in
    subst IsStored n.2 tt
value_holds (suc (suc zero) ∷ bytes) x rest fits e =
    let t = bind_some (text_at bytes) (λ t. some_text t.0 t.1) (x, rest) e in
    by t.0.0 t.0.1 t.2
  where
    by : (text after : List ℕ) → some_text text after ≡ Some (x, rest) → IsStored x
    by [] after k = absurd cc
    by (b ∷ bs) after k =
        let made : Value × List ℕ = (value.Text (b ∷ bs), after) in
        subst (λ (y : Value × List ℕ). IsStored y.0) (some_is made (x, rest) k) tt
value_holds (suc (suc (suc kind)) ∷ bytes) x rest fits e = absurd cc

values_hold : Holds values_at (λ o. IfSome o AreValues)
unfolding values_at
values_hold [] x rest fits e = absurd cc
values_hold (zero ∷ bytes) x rest fits e =
    let made : Option (List Value) × List ℕ = (None, bytes) in
    subst (λ (y : Option (List Value) × List ℕ). IfSome y.0 AreValues) (some_is made (x, rest) e) tt
values_hold (suc zero ∷ bytes) x rest fits e =
    let v = mapped_is (counted (number w16) value_at) (λ (vs : List Value). Some vs) bytes x rest e in
    subst (λ (o : Option (List Value)). IfSome o AreValues) v.2
    (counted_hold value_at value_bytes IsStored value_takes value_holds w16 (2 ^ 16) wide16 bytes v.0 rest (λ i. fits (suc i)) v.1)
values_hold (suc (suc kind) ∷ bytes) x rest fits e = absurd cc

abbrev AreStored : Change → Type 0
AreStored c = IfSome c.values AreValues

change_holds : Holds change_at AreStored
unfolding change_at
change_holds bytes x rest fits e =
    let a = mapped_is (both (both (number w32) (number w64)) values_at) _ bytes x rest e in
    let b = both_is (both (number w32) (number w64)) values_at bytes a.0 rest a.1 in
    let row : List ℕ = to_be_bytes w32 a.0.0.0 ++ to_be_bytes w64 a.0.0.1 in
    let first : bytes ≡ row ++ b.0 =
    both_takes (number w32) (number w64) (to_be_bytes w32) (to_be_bytes w64) (number_takes w32 (2 ^ 32) wide32) (number_takes w64 (2 ^ 64) wide64) bytes a.0.0 b.0 fits b.1 in
    subst AreStored a.2 (values_hold b.0 a.0.1 rest (behind row b.0 (subst IsBytes first fits)) b.2)

pub changes_hold : Holds (counted (number w32) change_at) (λ changes. (length changes < 2 ^ 32) × All AreStored changes)
changes_hold = counted_hold change_at change_bytes AreStored change_takes change_holds w32 (2 ^ 32) wide32

anything : {X : Type 0} (read : Reader X) → Holds read (λ x. Unit {0})
anything read bytes x rest fits e = tt

columns_hold : (bytes : List ℕ) (xs : List table.Column) (rest : List ℕ) → IsBytes bytes → counted (number w16) column_at bytes ≡ Some (xs, rest) → length xs < 2 ^ 16
columns_hold bytes xs rest fits e = (counted_hold column_at column_bytes (λ c. Unit {0}) column_takes (anything column_at) w16 (2 ^ 16) wide16 bytes xs rest fits e).0

key_holds : (bytes key rest : List ℕ) → IsBytes bytes → counted byte_at (number w16) bytes ≡ Some (key, rest) → length key < 2 ^ 8
unfolding counted byte_at
key_holds [] key rest fits e = absurd cc
key_holds (n ∷ bytes) key rest fits e =
    let counts : length key ≡ n = (many_takes (number w16) (to_be_bytes w16) (number_takes w16 (2 ^ 16) wide16) n bytes key rest (λ i. fits (suc i)) e).1 in
    omega (arith, counts, fits 0)

pub table_holds : (bytes : List ℕ) (x : (List ℕ × List table.Column) × List ℕ) (rest : List ℕ) → IsBytes bytes → both (both name_at (counted (number w16) column_at)) (counted byte_at (number w16)) bytes ≡ Some (x, rest)
    → (length x.0.1 < 2 ^ 16) × (length x.1 < 2 ^ 8)
table_holds bytes x rest fits e =
    let a = both_is (both name_at (counted (number w16) column_at)) (counted byte_at (number w16)) bytes x rest e in
    let b = both_is name_at (counted (number w16) column_at) bytes x.0 a.0 a.1 in
    let named : bytes ≡ name_bytes x.0.0 ++ b.0 = name_takes bytes x.0.0 b.0 fits b.1 in
    let after : IsBytes b.0 = behind (name_bytes x.0.0) b.0 (subst IsBytes named fits) in
    let columns : b.0 ≡ counted_bytes (to_be_bytes w16) column_bytes x.0.1 ++ a.0 =
    counted_takes column_at column_bytes (number w16) (to_be_bytes w16) (number_takes w16 (2 ^ 16) wide16) column_takes b.0 x.0.1 a.0 after b.2 in
    (columns_hold b.0 x.0.1 a.0 after b.2, key_holds a.0 x.1 rest (behind (counted_bytes (to_be_bytes w16) column_bytes x.0.1) a.0 (subst IsBytes columns after)) a.2)
