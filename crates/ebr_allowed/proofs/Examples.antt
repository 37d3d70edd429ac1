-- The definitions computed: what is allowed in an empty database and in one with a table, and what isn't.
use Rattle.std.proofs.Common.{ap, arith}
use Rattle.std.specs.Prelude.{◌≡◌, ◌==◌, ℕ, pos, true, false, List, [], ◌∷◌, Some, None, codes, refl}
use Rattle.std.proofs.lemmas.Bool.{both_ways, eq-eqb}
use Rattle.ebr_base.specs.declared.numbers.EditionNo.{EditionNo}
use Rattle.ebr_base.specs.declared.numbers.RowNo.{RowNo}
use Rattle.ebr_base.specs.declared.numbers.TableId.{TableId}
use Rattle.ebr_base.specs.declared.row.Change.{Change}
use Rattle.ebr_base.specs.declared.table.Column.{Column}
use Rattle.ebr_base.specs.declared.value.ColType.TheVariants as type
use Rattle.ebr_base.specs.declared.value.Value.{Value}
use Rattle.ebr_base.specs.declared.value.Value.TheVariants as value
use Rattle.ebr_cross.specs.Catalogue.{Lists, first_lists}
use Rattle.ebr_record.specs.declared.record.DroppedClass.TheVariants as dropped
use Rattle.ebr_record.specs.declared.record.Record.{Record}
use Rattle.ebr_record.specs.declared.record.Record.TheVariants as left
use Rattle.ebr_tx.specs.Commits.{AreThere}
use Rattle.ebr_integrity.specs.Commits.{is_suitable}
use Rattle.ebr_core.specs.Records.{after_record}
use Rattle.ebr_allowed.specs.Allowed.{Allowed, AreAllowed, allows}

abbrev edition : ℕ → EditionNo
edition n = record { 0 = n }

abbrev first : TableId
first = record { 0 = 1 }

-- ---- editions

a_child : allows first_lists (left.Edition (codes "V2") (edition 1)) ≡ true
a_child = refl

no_such_parent : allows first_lists (left.Edition (codes "V2") (edition 2)) ≡ false
no_such_parent = refl

name_taken : allows first_lists (left.Edition (codes "ORA$BASE") (edition 1)) ≡ false
name_taken = refl

abbrev two_editions : Lists
two_editions = after_record first_lists (left.Edition (codes "V2") (edition 1))

second_child : allows two_editions (left.Edition (codes "V3") (edition 1)) ≡ false
second_child = refl

the_leaf : allows two_editions (left.EditionGone (edition 2)) ≡ true
the_leaf = refl

no_leaf : allows two_editions (left.EditionGone (edition 1)) ≡ false
no_leaf = refl

the_default : allows (after_record two_editions (left.Default (edition 2))) (left.EditionGone (edition 2)) ≡ false
the_default = refl

no_such_default : allows first_lists (left.Default (edition 2)) ≡ false
no_such_default = refl

nothing_to_drop : allows first_lists (left.Gone (edition 1) dropped.Unit (codes "P")) ≡ false
nothing_to_drop = refl

-- ---- tables: t (id NUMBER(9) PRIMARY KEY, v VARCHAR2(10) NOT NULL, n NUMBER(9))

abbrev id_column : Column
id_column = record { name = codes "ID"; ty = type.Num 9; not_null = true }

abbrev v_column : Column
v_column = record { name = codes "V"; ty = type.Text 10; not_null = true }

abbrev n_column : Column
n_column = record { name = codes "N"; ty = type.Num 9; not_null = false }

abbrev made : Record
made = left.Table (codes "T") (id_column ∷ v_column ∷ n_column ∷ []) (0 ∷ [])

a_table : allows first_lists made ≡ true
a_table = refl

key_may_be_null : allows first_lists (left.Table (codes "T") (n_column ∷ []) (0 ∷ [])) ≡ false
key_may_be_null = refl

abbrev with_table : Lists
with_table = after_record first_lists made

same_name : allows with_table made ≡ false
same_name = refl

one_column_more : allows with_table (left.Column first (record { name = codes "X"; ty = type.Num 1; not_null = false })) ≡ true
one_column_more = refl

column_there : allows with_table (left.Column first n_column) ≡ false
column_there = refl

no_such_table : allows first_lists (left.TableGone first) ≡ false
no_such_table = refl

-- ---- changes

abbrev change : ℕ → List Value → Change
change n values = record { row = record { table = first; row = record { 0 = n } }; values = Some values }

abbrev fine : Change → Type 0
fine c = is_suitable with_table.tables.living c ≡ true

abbrev wrong : Change → Type 0
wrong c = is_suitable with_table.tables.living c ≡ false

a_row : fine (change 1 (value.Num (pos 1) ∷ value.Text (codes "a") ∷ value.Null ∷ []))
a_row = refl

no_row_0 : wrong (change 0 (value.Num (pos 1) ∷ value.Text (codes "a") ∷ value.Null ∷ []))
no_row_0 = refl

null_in_not_null : wrong (change 1 (value.Num (pos 1) ∷ value.Null ∷ value.Null ∷ []))
null_in_not_null = refl

too_long : wrong (change 1 (value.Num (pos 1) ∷ value.Text (codes "elevenbytes") ∷ value.Null ∷ []))
too_long = refl

too_many_digits : wrong (change 1 (value.Num (pos 1) ∷ value.Text (codes "a") ∷ value.Num (pos 1234567890) ∷ []))
too_many_digits = refl

too_few : wrong (change 1 (value.Num (pos 1) ∷ value.Text (codes "a") ∷ []))
too_few = refl

abbrev gone : ℕ → Change
gone n = record { row = record { table = first; row = record { 0 = n } }; values = None }

removed : fine (gone 1)
removed = refl

-- a row that was made is there, and another isn't
made_and_removed : AreThere [] [] (change 1 (value.Num (pos 1) ∷ value.Text (codes "a") ∷ value.Null ∷ []) ∷ gone 1 ∷ [])
made_and_removed = ((λ e. absurd cc), ((λ e. refl), tt))

not_there : AreThere [] [] (change 1 (value.Num (pos 1) ∷ value.Text (codes "a") ∷ value.Null ∷ []) ∷ gone 2 ∷ []) → ⊥
not_there h = both_ways false refl (h.1.0 refl)

-- ---- records behind records

three_records : AreAllowed (left.Edition (codes "V2") (edition 1) ∷ made ∷ left.TableGone first ∷ [])
three_records = (refl, (refl, (refl, tt)))

gone_twice : AreAllowed (made ∷ left.TableGone first ∷ left.TableGone first ∷ []) → ⊥
gone_twice h = both_ways false refl h.1.1.0

abbrev numbered : ℕ → RowNo
numbered n = record { 0 = n }

two_rows : numbered 1 ≡ numbered 2 → ⊥
two_rows is = both_ways (1 == 2) refl (eq-eqb 1 2 (ap (λ (r : RowNo). r.0) is))

abbrev row : ℕ → Change
row n = change n (value.Num (pos 7) ∷ value.Text (codes "a") ∷ value.Null ∷ [])

of_gone_table : Allowed (made ∷ left.TableGone first ∷ []) (left.Commit (row 1 ∷ [])) → ⊥
of_gone_table h = both_ways false refl h.each.0

no_change : Allowed (made ∷ []) (left.Commit []) → ⊥
no_change h = omega (arith, h.some)

-- two rows with the key 7, also where one of them was committed before
one_key : Allowed (made ∷ []) (left.Commit (row 1 ∷ row 2 ∷ [])) → ⊥
one_key h = two_rows (h.keys first (numbered 1) (numbered 2) (value.Num (pos 7) ∷ []) (omega arith) refl refl)

one_key_later : Allowed (made ∷ left.Commit (row 1 ∷ []) ∷ []) (left.Commit (row 2 ∷ [])) → ⊥
one_key_later h = two_rows (h.keys first (numbered 1) (numbered 2) (value.Num (pos 7) ∷ []) (omega arith) refl refl)
