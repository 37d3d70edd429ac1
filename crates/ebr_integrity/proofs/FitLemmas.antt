-- A row that passed the tests of its columns fits them.
use Rattle.std.proofs.Common.{◌≡◌, suc, Bool, true, false, cond, List, [], ◌∷◌, ◌++◌, Option, Some, None, length, refl, sym, ap, ◌∙◌, append_assoc, length-append, arith}
use Rattle.std.specs.Prelude.{◌&&◌, not, is_some}
use Rattle.std.specs.Option.{option_or}
use Rattle.std.proofs.lemmas.Bool.{and_from}
use Rattle.ebr_base.specs.declared.code.Code.{Code}
use Rattle.ebr_base.specs.declared.table.Column.{Column}
use Rattle.ebr_base.specs.declared.table.TableDef.{TableDef}
use Rattle.ebr_base.specs.declared.value.Value.{Value}
use Rattle.ebr_value.specs.declared.form.Place.TheVariants.{Sql}
use Rattle.ebr_value.specs.Forms.{fits}
use Rattle.ebr_versions.specs.Keys.{value_at}
use Rattle.ebr_dml.specs.Tests.{column_refusal, columns_from, columns_refusal, first_code, is_null, null_refusal}
use Rattle.ebr_integrity.specs.Commits.{fit_columns, fits_column}

pub none_both : (a b : Option Code) → option_or a b ≡ None → (a ≡ None) × (b ≡ None)
none_both None b e = (refl, e)
none_both (Some code) b e = cc

not_taken : (b : Bool) (code : Code) → cond b (Some code) None ≡ None → not b ≡ true
not_taken true code e = cc
not_taken false code e = refl

not_some : (o : Option Code) → o ≡ None → not (is_some o) ≡ true
not_some None e = refl
not_some (Some code) e = cc

column_fits : (missing : Code) (c : Column) (v : Value) → column_refusal missing c v ≡ None → fits_column c v ≡ true
column_fits missing c v e =
    let both = none_both (null_refusal missing c v) (option_or (fits v c.ty Sql) None) e in
    let fit = none_both (fits v c.ty Sql) None both.1 in
    and_from (not (c.not_null && is_null v)) (not (is_some (fits v c.ty Sql))) (not_taken (c.not_null && is_null v) missing both.0) (not_some (fits v c.ty Sql) fit.0)

-- the value behind so many others
value_behind : (before : List Value) (v : Value) (rest : List Value) → value_at (before ++ v ∷ rest) (length before) ≡ v
value_behind [] v rest = refl
value_behind (b ∷ before) v rest = value_behind before v rest

next_place : (before : List Value) (v : Value) → length (before ++ v ∷ []) ≡ suc (length before)
next_place before v = omega (arith, length-append before (v ∷ []))

columns_fit : (missing : Code) (cs : List Column) (before values : List Value) → length values ≡ length cs → first_code (columns_from missing cs (length before) (before ++ values)) ≡ None → fit_columns cs values ≡ true
columns_fit missing [] before [] n e = refl
columns_fit missing [] before (v ∷ vs) n e = absurd (none_more n)
  where
    none_more : suc (length vs) ≡ 0 → ⊥
    none_more h = omega (arith, h)
columns_fit missing (c ∷ cs) before [] n e = absurd (none_more n)
  where
    none_more : 0 ≡ suc (length cs) → ⊥
    none_more h = omega (arith, h)
columns_fit missing (c ∷ cs) before (v ∷ vs) n e =
    let both = none_both (column_refusal missing c (value_at (before ++ v ∷ vs) (length before))) (first_code (columns_from missing cs (suc (length before)) (before ++ v ∷ vs))) e in
    let here : column_refusal missing c v ≡ None = ap (column_refusal missing c) (sym (value_behind before v vs)) ∙ both.0 in
    let as_many : length vs ≡ length cs = omega (arith, n) in
    let rest : first_code (columns_from missing cs (length (before ++ v ∷ [])) ((before ++ v ∷ []) ++ vs)) ≡ None =
    (λ i. first_code (columns_from missing cs (next_place before v i) (append_assoc before (v ∷ []) vs i))) ∙ both.1 in
    and_from (fits_column c v) (fit_columns cs vs) (column_fits missing c v here) (columns_fit missing cs (before ++ v ∷ []) vs as_many rest)

pub row_fits : (missing : Code) (table : TableDef) (values : List Value) → length values ≡ length table.columns → columns_refusal missing table values ≡ None → fit_columns table.columns values ≡ true
row_fits missing table values as_many e = columns_fit missing table.columns [] values as_many e
