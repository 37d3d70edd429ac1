-- The number of a new row is that of no row which a live transaction changes.
use Rattle.std.proofs.Common.{◌≡◌, ℕ, ◌≤◌, Bool, true, false, cond, ◌||◌, List, [], ◌∷◌, ◌++◌, Some, refl, sym, subst, max, arith}
use Rattle.std.specs.Prelude.{◌==◌, filter, find, map, unwrap_or}
use Rattle.std.specs.List.{flat_map}
use Rattle.std.proofs.lemmas.Bool.{both_ways, and_parts, eqb-true}
use Rattle.ebr_base.specs.declared.numbers.TableId.{TableId}
use Rattle.ebr_base.specs.declared.row.Change.{Change}
use Rattle.ebr_base.specs.declared.row.TxId.{TxId}
use Rattle.ebr_versions.specs.Data.{changes_in, changes_row, greatest, greatest_number_in, is_in, is_of, is_table, row_numbers}
use Rattle.ebr_versions.proofs.NumberLemmas.{greatest_number_in-append}
use Rattle.ebr_tx.specs.Data.{Transaction, Data, changes_by, is_named, not_begun}
use Rattle.ebr_tx.specs.Reads.{row_at}
use Rattle.ebr_tx.specs.Calls.{new_number, new_row}
use Rattle.ebr_integrity.specs.Integrity.{changes_of}

abbrev with_it : TableId → Change → List Change → Bool → ℕ
with_it table c cs q = greatest (map (λ (x : Change). x.row.row.0) (cond q (c ∷ filter (is_in table) cs) (filter (is_in table) cs)))

-- no row of the table among the changes has a greater number than the greatest
below_greatest : (table : TableId) (n : ℕ) (cs : List Change) → changes_row (row_at table n) cs ≡ true → n ≤ greatest_number_in cs table
below_greatest table n [] e = absurd (both_ways false refl e)
below_greatest table n (c ∷ cs) e = by (is_of (row_at table n) c) refl e (below_greatest table n cs)
  where
    this : is_of (row_at table n) c ≡ true → n ≤ with_it table c cs (is_table c.row.table table)
    this is =
        let parts = and_parts (is_table c.row.table table) (c.row.row.0 == n) is in
        let same : c.row.row.0 ≡ n = eqb-true c.row.row.0 n parts.1 in
        let least : n ≤ max c.row.row.0 (greatest (row_numbers table cs)) = omega arith in
        subst (λ q. n ≤ with_it table c cs q) (sym parts.0) least

    more : n ≤ greatest (row_numbers table cs) → (q : Bool) → n ≤ with_it table c cs q
    more h true = let least : n ≤ max c.row.row.0 (greatest (row_numbers table cs)) = omega arith in least
    more h false = h

    by : (b : Bool) → is_of (row_at table n) c ≡ b → (b || changes_row (row_at table n) cs) ≡ true → (changes_row (row_at table n) cs ≡ true → n ≤ greatest_number_in cs table) → n ≤ greatest_number_in (c ∷ cs) table
    by true is h rest = this is
    by false is h rest = more (rest h) (is_table c.row.table table)

-- what one transaction changes is among what all change
one_of_all : (table : TableId) (u : TxId) (live : List Transaction) → greatest_number_in (changes_of live u) table ≤ greatest_number_in (flat_map changes_by live) table
one_of_all table u [] = omega arith
one_of_all table u (x ∷ xs) = by (is_named u x) (one_of_all table u xs)
  where
    joined : greatest_number_in (flat_map changes_by (x ∷ xs)) table ≡ max (greatest_number_in x.changes table) (greatest_number_in (flat_map changes_by xs) table)
    joined = greatest_number_in-append x.changes (flat_map changes_by xs) table

    by : (b : Bool) → greatest_number_in (changes_of xs u) table ≤ greatest_number_in (flat_map changes_by xs) table
        → greatest_number_in (unwrap_or (cond b (Some x) (find (is_named u) xs)) (not_begun u)).changes table ≤ greatest_number_in (flat_map changes_by (x ∷ xs)) table
    by true rest = omega (arith, joined)
    by false rest = omega (arith, joined, rest)

pub new_row_apart : (d : Data) (table : TableId) (u : TxId) → changes_row (new_row d table) (changes_of d.live u) ≡ false
new_row_apart d table u = by (changes_row (row_at table (new_number d table)) (changes_of d.live u)) refl
  where
    by : (b : Bool) → changes_row (row_at table (new_number d table)) (changes_of d.live u) ≡ b → b ≡ false
    by false e = refl
    by true e =
        let low : new_number d table ≤ greatest_number_in (changes_of d.live u) table = below_greatest table (new_number d table) (changes_of d.live u) e in
        let one : greatest_number_in (changes_of d.live u) table ≤ greatest_number_in (flat_map changes_by d.live) table = one_of_all table u d.live in
        let all : greatest_number_in (changes_in d.commits ++ flat_map changes_by d.live) table ≡ max (greatest_number_in (changes_in d.commits) table) (greatest_number_in (flat_map changes_by d.live) table) = greatest_number_in-append (changes_in d.commits) (flat_map changes_by d.live) table in
        absurd (omega (arith, low, one, all))
