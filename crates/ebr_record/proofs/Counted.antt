-- How long the payload of a commit is.
use Rattle.std.proofs.Common.{◌≡◌, ◌≤◌, ◌∙◌, ℕ, ◌+◌, ◌*◌, List, [], ◌∷◌, ◌++◌, length, refl, ap, arith, length-append, Option, Some, None}
use Rattle.std.specs.Prelude.{sum_by}
use Rattle.std.specs.Int.{w16, w32, w64, to_be_bytes}
use Rattle.std.specs.List.{flat_map}
use Rattle.std.proofs.lemmas.List.Concat.{length-flat_map}
use Rattle.std.proofs.lemmas.List.Sums.{sum_by-cons}
use Rattle.ebr_base.specs.declared.row.Change.{Change}
use Rattle.ebr_base.specs.declared.table.Column.{Column}
use Rattle.ebr_base.specs.declared.value.Value.{Value}
use Rattle.ebr_base.specs.declared.value.Value.TheVariants as value
use Rattle.ebr_tx.specs.Limits.{value_length, values_length, change_length, record_length}
use Rattle.ebr_record.specs.declared.record.Record.{Record}
use Rattle.ebr_record.specs.declared.record.Record.TheVariants as made
use Rattle.ebr_record.specs.Payload.{value_bytes, values_bytes, change_bytes, column_bytes, max_payload, name_bytes, payload}

-- what stands behind a number of two or four bytes, or of twelve
behind_short : (n : ℕ) (bytes : List ℕ) → length (to_be_bytes w16 n ++ bytes) ≡ 2 + length bytes
behind_short n bytes = omega (arith, length-append (to_be_bytes w16 n) bytes)

behind_word : (n : ℕ) (bytes : List ℕ) → length (to_be_bytes w32 n ++ bytes) ≡ 4 + length bytes
behind_word n bytes = omega (arith, length-append (to_be_bytes w32 n) bytes)

value_counted : (v : Value) → length (value_bytes v) ≡ value_length v
value_counted value.Null = refl
value_counted (value.Num n) = refl
value_counted (value.Text text) = omega (arith, behind_word (length text) text)
value_counted (value.Bool b) = refl

-- the elements of a list, where each is so long
each_counted : {X : Type 0} (f : X → List ℕ) (g : X → ℕ) → ((x : X) → length (f x) ≡ g x) → (xs : List X) → length (flat_map f xs) ≡ sum_by g xs
each_counted f g h xs = length-flat_map f xs ∙ ap (λ k. sum_by k xs) (λ i x. h x i)

values_counted : (vs : Option (List Value)) → length (values_bytes vs) ≡ 1 + values_length vs
values_counted None = refl
values_counted (Some vs) =
    let each : length (flat_map value_bytes vs) ≡ sum_by value_length vs = each_counted value_bytes value_length value_counted vs in
    omega (arith, each, behind_short (length vs) (flat_map value_bytes vs))

change_counted : (c : Change) → length (change_bytes c) ≡ change_length c
change_counted c =
    omega (arith, length-append (to_be_bytes w32 c.row.table.0 ++ to_be_bytes w64 c.row.row.0) (values_bytes c.values), values_counted c.values)

pub commit_counted : (changes : List Change) → length (payload (made.Commit changes)) ≡ record_length changes
commit_counted changes =
    let each : length (flat_map change_bytes changes) ≡ sum_by change_length changes = each_counted change_bytes change_length change_counted changes in
    omega (arith, each, behind_word (length changes) (flat_map change_bytes changes))

short_twice : (xs : List ℕ) → length (flat_map (to_be_bytes w16) xs) ≡ 2 * length xs
short_twice xs = each_counted (to_be_bytes w16) (λ x. 2) (λ x. refl) xs ∙ twos xs
  where
    twos : (xs : List ℕ) → sum_by (λ x. 2) xs ≡ 2 * length xs
    twos [] = refl
    twos (x ∷ xs) = omega (arith, sum_by-cons (λ (y : ℕ). 2) x xs, twos xs)

abbrev pub columns_counted : List Column → ℕ
columns_counted columns = sum_by (λ c. length (column_bytes c)) columns

table_counted : (name : List ℕ) (columns : List Column) (key : List ℕ)
    → length (payload (made.Table name columns key)) ≡ length (name_bytes name) + columns_counted columns + 2 * length key + 4
table_counted name columns key =
    let size : List ℕ = to_be_bytes w16 (length columns) in
    let spelled : List ℕ = flat_map column_bytes columns in
    let places : List ℕ = flat_map (to_be_bytes w16) key in
    omega (
      arith,
      length-append ((7 ∷ name_bytes name ++ size) ++ spelled) (length key ∷ places),
      length-append (7 ∷ name_bytes name ++ size) spelled,
      length-append (7 ∷ name_bytes name) size,
      length-flat_map column_bytes columns,
      short_twice key,
    )

-- What the cases of `length` want: they know a record as it was matched, and its lists as they were lent.
module _ (r : Record) (short : length (payload r) ≤ max_payload) where
  module _ (changes lent : List Change) (is : r ≡ made.Commit changes) (same : lent ≡ changes) where
    pub commit_whole : length (payload r) ≡ sum_by change_length lent + 5
    commit_whole =
        let whole : length (payload r) ≡ record_length changes = ap (λ x. length (payload x)) is ∙ commit_counted changes in
        let lent_whole : sum_by change_length lent ≡ sum_by change_length changes = ap (sum_by change_length) same in
        omega (arith, whole, lent_whole)

    pub commit_short : sum_by change_length lent ≤ max_payload
    commit_short = omega (arith, commit_whole, short)

  module _ (name : List ℕ) (columns lent : List Column) (key : List ℕ) (is : r ≡ made.Table name columns key) (same : lent ≡ columns) where
    pub table_whole : length (payload r) ≡ length (name_bytes name) + columns_counted lent + 2 * length key + 4
    table_whole =
        let whole : length (payload r) ≡ length (name_bytes name) + columns_counted columns + 2 * length key + 4 =
        ap (λ x. length (payload x)) is ∙ table_counted name columns key in
        let lent_whole : columns_counted lent ≡ columns_counted columns = ap columns_counted same in
        omega (arith, whole, lent_whole)

    pub columns_short : columns_counted lent ≤ max_payload
    columns_short = omega (arith, table_whole, short)
