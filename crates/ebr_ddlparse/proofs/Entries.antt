-- The loop over a table's entries, which ends at a key.
use Rattle.std.proofs.Common.{◌≡◌, ℕ, zero, suc, ◌+◌, ◌-◌, ◌<◌, ◌≤◌, Bool, true, false, List, [], ◌∷◌, ◌++◌, map, length, Some, None, refl, sym, ap, ◌∙◌, append_assoc}
use Rattle.std.specs.Prelude.{if◌then◌else◌}
use Rattle.std.proofs.lemmas.List.{append-nil}
use Rattle.ebr_lexer.specs.declared.token.Token.{Token}
use Rattle.ebr_grammar.specs.declared.kind.Kind.{Kind}
use Rattle.ebr_grammar.specs.declared.kind.Kind.TheVariants as k
use Rattle.ebr_grammar.specs.Kinds.{same}
use Rattle.ebr_grammar.specs.Forms.{Found, Reader, sees}
use Rattle.ebr_grammar.specs.Grammar.{named}
use Rattle.ebr_grammar.specs.Reading.{and_then, before, next, repeat, reads}
use Rattle.ebr_grammar.specs.Words.{◌▸◌}
use Rattle.ebr_grammar.proofs.Next.{sees-apart}
use Rattle.ebr_grammar.proofs.Loops.{from_first, stops, ends, goes_on, fails}
use Rattle.ebr_ast.specs.declared.definition.ColumnTree.{ColumnTree}
use Rattle.ebr_ddlparse.specs.Base.{reading}
use Rattle.ebr_ddlparse.specs.Tables.{Entry, the_column, the_key, Items, placed, with_column, column, key, is_key, key_entry, column_entry, entry_reader}
use Rattle.ebr_ddlparse.specs.Definitions.{an_entry, more_entries, items, closed_items, reads_by}
use Rattle.ebr_ddlparse.specs.inside.Closing.{closing, closed_key, closed_behind}

-- ---- where the entries are placed

placed_columns : (columns : List ColumnTree) → placed (map the_column columns) ≡ Some (columns, [])
placed_columns [] = refl
placed_columns (c ∷ columns) = ap (with_column c) (placed_columns columns)

placed_key : (columns : List ColumnTree) (names : List (List ℕ)) → placed (map the_column columns ++ the_key names ∷ []) ≡ Some (columns, names)
placed_key [] names = refl
placed_key (c ∷ columns) names = ap (with_column c) (placed_key columns names)

placed_none : (columns : List ColumnTree) (names : List (List ℕ)) (entry : Entry) (more : List Entry) → placed ((map the_column columns ++ the_key names ∷ []) ++ entry ∷ more) ≡ None
placed_none [] names entry more = refl
placed_none (c ∷ columns) names entry more = ap (with_column c) (placed_none columns names entry more)

-- ---- the entries from the first column on

abbrev kinds : List Kind
kinds = k.Comma ∷ []

abbrev pub step : Reader Entry
step = reads_by (k.Comma ▸ named an_entry (λ entry. entry))

-- all entries that a loop of so many turns finds behind these
abbrev pub from : ℕ → List Entry → Reader (List Entry)
from n found ts = repeat kinds step n found ts

abbrev ending : Found (List Entry) → Found Items
ending found = and_then (and_then found (λ entries end. before end (placed entries))) closing

behind_first : (first : ColumnTree) (x : Found (List Entry)) → closed_behind first (and_then x (λ found end. Some (found, end)))
    ≡ ending (and_then (and_then x (λ (found : List Entry) end. Some ((λ (a : Entry). a ∷ found), end))) (λ (f : Entry → List Entry) end. Some (f (the_column first), end)))
behind_first first None = refl
behind_first first (Some x) = refl

never : (n : ℕ) (found : List Entry) (ts : List Token) → ((more : List Entry) → placed (found ++ more) ≡ None) → ending (from n found ts) ≡ None
unfolding repeat
never zero found ts h = ap (λ z. and_then (before ts z) closing) (ap placed (sym (append-nil found)) ∙ h [])
never (suc n) found ts h = at_turn (sees kinds ts) (step ts) (λ x. never n (found ++ x.0 ∷ []) x.1 (λ more. ap placed (append_assoc found (x.0 ∷ []) more) ∙ h (x.0 ∷ more)))
  where
    at_turn : (b : Bool) (one : Found Entry) → ((x : Entry × List Token) → ending (from n (found ++ x.0 ∷ []) x.1) ≡ None) → ending (if b then and_then one (λ a. repeat kinds step n (found ++ a ∷ [])) else Some (found, ts)) ≡ None
    at_turn true None later = refl
    at_turn true (Some x) later = later x
    at_turn false one later = ap (λ z. and_then (before ts z) closing) (ap placed (sym (append-nil found)) ∙ h [])

open_at_comma : (items : Items) (ts : List Token) → sees kinds ts ≡ true → closing items ts ≡ None
unfolding same reads
open_at_comma items ts e = rw (sees-apart (k.RightParen ∷ []) kinds ts refl e) refl

-- behind a key comes the closing parenthesis, or nothing is found
behind_key : (n : ℕ) (columns : List ColumnTree) (names : List (List ℕ)) (ts : List Token) → ending (from n (map the_column columns ++ the_key names ∷ []) ts) ≡ closing (columns, names) ts
unfolding repeat
behind_key zero columns names ts = ap (λ z. and_then (before ts z) closing) (placed_key columns names)
behind_key (suc n) columns names ts = at_turn (sees kinds ts) refl (step ts)
  where
    at_turn : (b : Bool) → sees kinds ts ≡ b → (one : Found Entry)
        → ending (if b then and_then one (λ a. repeat kinds step n ((map the_column columns ++ the_key names ∷ []) ++ a ∷ [])) else Some (map the_column columns ++ the_key names ∷ [], ts)) ≡ closing (columns, names) ts
    at_turn true e None = sym (open_at_comma (columns, names) ts e)
    at_turn true e (Some x) =
        never n ((map the_column columns ++ the_key names ∷ []) ++ x.0 ∷ []) x.1 (λ more. ap placed (append_assoc (map the_column columns ++ the_key names ∷ []) (x.0 ∷ []) more) ∙ placed_none columns names x.0 more)
        ∙ sym (open_at_comma (columns, names) ts e)
    at_turn false e one = ap (λ z. and_then (before ts z) closing) (placed_key columns names)

module _ (first : ColumnTree) (ts : List Token) where
  abbrev pub Total : Found (List Entry)
  Total = from (length ts) (the_column first ∷ []) ts

  from_entries : closed_behind first (reads_by more_entries ts) ≡ ending Total
  unfolding more_entries reads
  from_entries = behind_first first (repeat kinds step (length ts) [] ts) ∙ ap ending (from_first kinds step (length ts) (the_column first) ts)

  pub none_found : Total ≡ None → closed_behind first (reads_by more_entries ts) ≡ None
  none_found e = from_entries ∙ ap ending e

  pub all_found : (columns : List ColumnTree) (rest : List Token) → Total ≡ Some (map the_column columns, rest) → closed_behind first (reads_by more_entries ts) ≡ closing (columns, []) rest
  all_found columns rest e = from_entries ∙ ap ending e ∙ ap (λ z. and_then (before rest z) closing) (placed_columns columns)

  pub key_found : (n : ℕ) (columns : List ColumnTree) (names : List (List ℕ)) (rest : List Token) → from n (map the_column columns ++ the_key names ∷ []) rest ≡ Total
      → closed_behind first (reads_by more_entries ts) ≡ closing (columns, names) rest
  key_found n columns names rest e = from_entries ∙ ap ending (sym e) ∙ behind_key n columns names rest

-- ---- an entry

take_true : {A : Type 0} (b : Bool) (x y : A) → b ≡ true → (if b then x else y) ≡ x
take_true true x y e = refl
take_true false x y e = absurd cc

take_false : {A : Type 0} (b : Bool) (x y : A) → b ≡ false → (if b then x else y) ≡ y
take_false true x y e = absurd cc
take_false false x y e = refl

abbrev entered : {A : Type 0} → (A → Entry) → Found A → Found Entry
entered f found = and_then found (λ a end. Some (f a, end))

same_entry : {A : Type 0} (f : A → Entry) (x : Found A) → and_then (and_then (entered f x) (λ a end. Some (a, end))) (λ b end. Some (b, end)) ≡ entered f x
same_entry f None = refl
same_entry f (Some x) = refl

step_is : (ts : List Token) → sees kinds ts ≡ true → step ts ≡ and_then (and_then (entry_reader (next ts)) (λ a end. Some (a, end))) (λ b end. Some (b, end))
unfolding reads
step_is ts e = rw e refl

pub key_step : (ts : List Token) → sees kinds ts ≡ true → is_key (next ts) ≡ true → step ts ≡ entered the_key (reading key (next ts))
unfolding reads entry_reader key_entry
key_step ts e is = step_is ts e ∙ ap (λ z. and_then (and_then z (λ a end. Some (a, end))) (λ b end. Some (b, end))) (take_true (is_key (next ts)) (reading key_entry (next ts)) (reading column_entry (next ts)) is)
    ∙ same_entry the_key (reading key (next ts))

pub column_step : (ts : List Token) → sees kinds ts ≡ true → is_key (next ts) ≡ false → step ts ≡ entered the_column (reading column (next ts))
unfolding reads entry_reader column_entry
column_step ts e is = step_is ts e ∙ ap (λ z. and_then (and_then z (λ a end. Some (a, end))) (λ b end. Some (b, end))) (take_false (is_key (next ts)) (reading key_entry (next ts)) (reading column_entry (next ts)) is)
    ∙ same_entry the_column (reading column (next ts))

map_last : (columns : List ColumnTree) (c : ColumnTree) → map the_column (columns ++ c ∷ []) ≡ map the_column columns ++ the_column c ∷ []
map_last [] c = refl
map_last (x ∷ columns) c = ap (λ z. the_column x ∷ z) (map_last columns c)

-- ---- a turn of the loop

module _ (first : ColumnTree) (all : List Token) (n at : ℕ) (columns : List ColumnTree) (ts : List Token) (so_far : from (n - at) (map the_column columns) ts ≡ Total first all) where
  pub at_end : sees kinds ts ≡ false → closed_behind first (reads_by more_entries all) ≡ closing (columns, []) ts
  at_end e = all_found first all columns ts (stops kinds step n at (map the_column columns) ts (Total first all) so_far e)

  pub at_last_turn : n ≤ at → closed_behind first (reads_by more_entries all) ≡ closing (columns, []) ts
  at_last_turn le = all_found first all columns ts (ends kinds step n at (map the_column columns) ts (Total first all) so_far le)

  read_key : at < n → sees kinds ts ≡ true → (x : Found (List (List ℕ))) → step ts ≡ entered the_key x → closed_behind first (reads_by more_entries all) ≡ closed_key columns x
  read_key lt e None is = none_found first all (fails kinds step n at (map the_column columns) ts (Total first all) so_far lt e is)
  read_key lt e (Some x) is = key_found first all (n - (at + 1)) columns x.0 x.1 (goes_on kinds step n at (map the_column columns) ts (Total first all) so_far (the_key x.0) x.1 lt e is)

  pub at_key : at < n → sees kinds ts ≡ true → is_key (next ts) ≡ true → closed_behind first (reads_by more_entries all) ≡ closed_key columns (reading key (next ts))
  at_key lt e is = read_key lt e (reading key (next ts)) (key_step ts e is)

  pub at_fault : at < n → sees kinds ts ≡ true → is_key (next ts) ≡ false → reading column (next ts) ≡ None → closed_behind first (reads_by more_entries all) ≡ None
  at_fault lt e is none = none_found first all (fails kinds step n at (map the_column columns) ts (Total first all) so_far lt e (column_step ts e is ∙ ap (entered the_column) none))

  pub at_column : at < n → sees kinds ts ≡ true → is_key (next ts) ≡ false → (c : ColumnTree) (rest : List Token) → reading column (next ts) ≡ Some (c, rest)
      → from (n - (at + 1)) (map the_column (columns ++ c ∷ [])) rest ≡ Total first all
  at_column lt e is c rest read =
      ap (λ z. from (n - (at + 1)) z rest) (map_last columns c) ∙ goes_on kinds step n at (map the_column columns) ts (Total first all) so_far (the_column c) rest lt e (column_step ts e is ∙ ap (entered the_column) read)

-- ---- the first column with all behind it

behind_one : (first : ColumnTree) (x : Found (List Entry))
    → and_then (and_then (and_then x (λ more end. Some (the_column first ∷ more, end))) (λ entries end. before end (placed entries))) closing ≡ closed_behind first x
behind_one first None = refl
behind_one first (Some x) = refl

in_turn : (x : Found ColumnTree)
    → and_then (and_then (and_then (and_then x (λ c end. Some (c, end))) (λ first rest. and_then (reads_by more_entries rest) (λ more end. Some (the_column first ∷ more, end)))) (λ entries end. before end (placed entries))) closing
    ≡ and_then x (λ first rest. closed_behind first (reads_by more_entries rest))
in_turn None = refl
in_turn (Some x) = behind_one x.0 (reads_by more_entries x.1)

pub items_are : (ts : List Token) → reads_by closed_items ts ≡ and_then (reading column ts) (λ first rest. closed_behind first (reads_by more_entries rest))
unfolding closed_items items reads
items_are ts = in_turn (reading column ts)
