-- A statement's tests of names, and the tables under change.
use Rattle.std.proofs.Common.{◌≡◌, Bool, true, false, ◌||◌, List, [], ◌∷◌, ◌++◌, map, Result, Ok, Err, refl, sym, ap, subst, ◌∙◌}
use Rattle.std.specs.Prelude.{not, ◌&&◌}
use Rattle.std.specs.List.{list_any}
use Rattle.std.proofs.lemmas.Bool.{and_from, both_ways, eq-eqb, eqb-true, or_from, or_left, or_right, or_parts}
use Rattle.std.proofs.lemmas.List.Folds.{list_any-append}
use Rattle.ebr_base.specs.declared.code.Code.{Code}
use Rattle.ebr_base.specs.declared.code.Code.TheVariants.{Ora}
use Rattle.ebr_base.specs.declared.code.Stop.{Stop}
use Rattle.ebr_base.specs.declared.code.Stop.TheVariants.{Raised, NoMemory}
use Rattle.ebr_base.specs.declared.numbers.TableId.{TableId}
use Rattle.ebr_base.specs.declared.row.TxId.{TxId}
use Rattle.ebr_base.specs.declared.value.Value.{Value}
use Rattle.ebr_base.specs.Answers.{Answers}
use Rattle.ebr_ast.specs.declared.sql.SqlTree.{SqlTree}
use Rattle.ebr_ast.specs.declared.view.EditionView.{EditionView}
use Rattle.ebr_locks.specs.Locks.{same_tx}
use Rattle.ebr_sqlcheck.specs.Checked.{must, on}
use Rattle.ebr_sqlcheck.specs.Statements.{checked_with}
use Rattle.ebr_tx.proofs.SoundLemmas.{tx-itself}
use Rattle.ebr_exec.specs.Places.{Names, Place, Under, is_changing, is_table}
use Rattle.ebr_levels.specs.Keeps.{UnderChange}
use Rattle.ebr_bodies.specs.Statements.{name_tests, tables_of}
use Rattle.ebr_bodies.specs.Statements as spec
use Rattle.ebr_statements.specs.inside.Answered.{Tests}
use Rattle.ebr_statements.specs.inside.Fits.{Covers, Spares, under_by}

-- 1. Tests

module _ (names : Names) (p : Place) (v : EditionView) (t : TxId) (changing : List Under) (s : SqlTree) (binds : List Value) (seen : names.view p.edition ≡ v) (own : p.tx ≡ t) (around : p.changing ≡ changing) where
  abbrev tested_as : Result (Unit {0}) Code → Bool → Result (Unit {0}) Code
  tested_as checked mutating = on (λ u. must (Ora 4091) (not mutating)) checked

  abbrev mutates : Bool
  mutates = list_any (is_changing t (tables_of v s)) changing

  tests_are : name_tests names p s binds ≡ tested_as (checked_with v binds s) mutates
  tests_are = λ i. tested_as (checked_with (seen i) binds s) (list_any (is_changing (own i) (tables_of (seen i) s)) (around i))

  pub unchecked : (stop : Stop) → Answers {T = Unit {0}} (Err stop) (checked_with v binds s) → Tests (Err stop) (name_tests names p s binds)
  unchecked (Raised code) h = tests_are ∙ ap (λ c. tested_as c mutates) h
  unchecked NoMemory h = tt

  pub some_mutating : (u : Unit {0}) → checked_with v binds s ≡ Ok u → mutates ≡ true → name_tests names p s binds ≡ Err (Ora 4091)
  some_mutating u h e = tests_are ∙ ap (λ c. tested_as c mutates) h ∙ ap (λ b. tested_as (Ok u) b) e

  pub none_mutating : (u : Unit {0}) → checked_with v binds s ≡ Ok u → mutates ≡ false → name_tests names p s binds ≡ Ok tt
  none_mutating u h e = tests_are ∙ ap (λ c. tested_as c mutates) h ∙ ap (λ b. tested_as (Ok u) b) e

-- 2. The tables under change

table_same : (a b : TableId) → is_table a b ≡ true → a ≡ b
table_same a b e = let n : a.0 ≡ b.0 = eqb-true a.0 b.0 e in λ i. record { 0 = n i }

table_itself : (a : TableId) → is_table a a ≡ true
table_itself a = eq-eqb a.0 a.0 refl

pub among_itself : (a : TableId) → list_any (is_table a) (a ∷ []) ≡ true
among_itself a = or_left (is_table a a) false (table_itself a)

module _ (t : TxId) (x : TableId) where
  abbrev changes_it : Under → Bool
  changes_it u = same_tx u.tx t && is_table u.table x

  own_change : (y : TableId) → is_table x y ≡ true → changes_it (spec.under t y) ≡ true
  own_change y e = and_from (same_tx t t) (is_table y x) (tx-itself t) (ap (λ z. is_table z x) (sym (table_same x y e)) ∙ table_itself x)

  any_own : (tables : List TableId) → list_any (is_table x) tables ≡ true → list_any changes_it (map (spec.under t) tables) ≡ true
  any_own [] e = e
  any_own (y ∷ ys) e = by (is_table x y) refl e (any_own ys)
    where
      by : (b : Bool) → is_table x y ≡ b → (b || list_any (is_table x) ys) ≡ true → (list_any (is_table x) ys ≡ true → list_any changes_it (map (spec.under t) ys) ≡ true)
          → (changes_it (spec.under t y) || list_any changes_it (map (spec.under t) ys)) ≡ true
      by true is e rest = or_left (changes_it (spec.under t y)) (list_any changes_it (map (spec.under t) ys)) (own_change y is)
      by false is e rest = or_right (changes_it (spec.under t y)) (list_any changes_it (map (spec.under t) ys)) (rest e)

  -- a table of a statement that may run isn't under change around it
  apart_from : (tables : List TableId) (u : Under) → list_any (is_table x) tables ≡ true → is_changing t tables u ≡ false → changes_it u ≡ false
  apart_from tables u among free = by (same_tx u.tx t) (is_table u.table x) refl free
    where
      by : (a b : Bool) → is_table u.table x ≡ b → (a && list_any (is_table u.table) tables) ≡ false → (a && b) ≡ false
      by false b is free = refl
      by true false is free = refl
      by true true is free = absurd (both_ways (list_any (is_table u.table) tables) free (ap (λ y. list_any (is_table y) tables) (table_same u.table x is) ∙ among))

  all_apart : (tables : List TableId) (changing : List Under) → list_any (is_table x) tables ≡ true → list_any (is_changing t tables) changing ≡ false → list_any changes_it changing ≡ false
  all_apart tables [] among free = refl
  all_apart tables (u ∷ us) among free =
      let parts = or_parts (is_changing t tables u) (list_any (is_changing t tables) us) free in
      or_from (changes_it u) (list_any changes_it us) (apart_from tables u among parts.0) (all_apart tables us among parts.1)

module _ (changing : List Under) (t : TxId) (tables : List TableId) where
  abbrev with_own : List Under
  with_own = changing ++ map (spec.under t) tables

  pub covers_own : Covers with_own t tables
  covers_own x e =
      list_any-append (changes_it t x) changing (map (spec.under t) tables)
      ∙ or_right (list_any (changes_it t x) changing) (list_any (changes_it t x) (map (spec.under t) tables)) (any_own t x tables e)

  pub spares_around : list_any (is_changing t tables) changing ≡ false → Spares (under_by changing) t with_own tables
  spares_around free = record {
    own = λ x e. all_apart t x tables changing e free;
    others = λ x e. list_any-append (changes_it t x) changing (map (spec.under t) tables) ∙ or_left (list_any (changes_it t x) changing) (list_any (changes_it t x) (map (spec.under t) tables)) e;
  }

only_one : (b : Bool) → (b || false) ≡ true → b ≡ true
only_one true e = refl
only_one false e = e

-- one of the tables alone
pub spares_one : (under : UnderChange) (t : TxId) (changing : List Under) (tables : List TableId) (id : TableId) → list_any (is_table id) tables ≡ true → Spares under t changing tables → Spares under t changing (id ∷ [])
spares_one under t changing tables id among s = record {
  own = λ x e. s.own x (subst (λ y. list_any (is_table y) tables ≡ true) (sym (table_same x id (only_one (is_table x id) e))) among);
  others = s.others;
}

abbrev pub no_table : UnderChange
no_table t x = false

pub spares_none : (t : TxId) (changing : List Under) (tables : List TableId) → Spares no_table t changing tables
spares_none t changing tables = record { own = λ x e. refl; others = λ x e. absurd (both_ways false refl e) }
