-- The rows of a statement: they are different ones, and the transaction sees each of them.
use Rattle.std.proofs.Common.{◌≡◌, ◌≢◌, ℕ, Bool, true, false, cond, ◌&&◌, nat_lt, List, [], ◌∷◌, filter, map, Option, Some, Result, Ok, Err, is_some, unwrap_or, refl, ap, ◌∙◌, arith}
use Rattle.ebr_base.specs.declared.code.Code.{Code}
use Rattle.ebr_base.specs.declared.numbers.RowNo.{RowNo}
use Rattle.ebr_base.specs.declared.numbers.TableId.{TableId}
use Rattle.ebr_base.specs.declared.row.TxId.{TxId}
use Rattle.ebr_base.specs.declared.value.Value.{Value}
use Rattle.ebr_ast.specs.declared.sql.SqlTree.{SqlTree}
use Rattle.ebr_ast.specs.declared.sql.SqlTree.TheVariants as sql
use Rattle.ebr_versions.specs.Data.{row_no}
use Rattle.ebr_tx.specs.Data.{Data, own}
use Rattle.ebr_tx.specs.Reads.{Sees, row_at, seen_by, is_seen_after, numbers_by}
use Rattle.ebr_query.specs.Results.{keeps}
use Rattle.ebr_query.specs.Seen.{with_number, rising, numbers_seen}
use Rattle.ebr_query.proofs.Rising.{Above, Rises, rises, differ}
use Rattle.ebr_dml.specs.declared.plan.Plan.{Plan}
use Rattle.ebr_dml.specs.declared.taken.Taken.{Taken}
use Rattle.ebr_dml.specs.Rows.{seen_row, seen_rows, values_at, taken_if, taken, all_taken, rows_of}
use Rattle.ebr_dml.specs.Steps.{AreSeen, RestSeen}
use Rattle.ebr_dml.specs.inside.Apart.{FromAll, Apart, FoundApart}

-- ---- numbers

abbrev pub Each : (ℕ → Type 0) → List ℕ → Type 0
Each P [] = Unit {0}
Each P (n ∷ ns) = P n × Each P ns

each-kept : (p : ℕ → Bool) (ns : List ℕ) → Each (λ n. p n ≡ true) (filter p ns)
each-kept p [] = tt
each-kept p (n ∷ ns) = by (p n) refl (each-kept p ns)
  where
    by : (b : Bool) → p n ≡ b → Each (λ m. p m ≡ true) (filter p ns) → Each (λ m. p m ≡ true) (cond b (n ∷ filter p ns) (filter p ns))
    by true e rest = (e, rest)
    by false e rest = rest

each-put : (P : ℕ → Type 0) (n : ℕ) (ms : List ℕ) → P n → Each P ms → Each P (with_number n ms)
each-put P n [] h k = (h, tt)
each-put P n (m ∷ ms) h k = by (nat_lt n m) (nat_lt m n) (each-put P n ms h k.1)
  where
    by : (b c : Bool) → Each P (with_number n ms) → Each P (cond b (n ∷ m ∷ ms) (cond c (m ∷ with_number n ms) (m ∷ ms)))
    by true c rest = (h, k)
    by false true rest = (k.0, rest)
    by false false rest = k

each-rising : (P : ℕ → Type 0) (ns : List ℕ) → Each P ns → Each P (rising ns)
each-rising P [] h = tt
each-rising P (n ∷ ns) h = each-put P n (rising ns) h.0 (each-rising P ns h.1)

each-weaker : (P Q : ℕ → Type 0) → ((n : ℕ) → P n → Q n) → (ns : List ℕ) → Each P ns → Each Q ns
each-weaker P Q f [] h = tt
each-weaker P Q f (n ∷ ns) h = (f n h.0, each-weaker P Q f ns h.1)

second : (a b : Bool) → (a && b) ≡ true → b ≡ true
second true b e = e
second false b e = absurd (differ false e refl)

module _ (d : Data) (t : TxId) (table : TableId) where
  each-seen : Each (λ n. is_some (Sees d t (row_at table n)) ≡ true) (numbers_seen d t table)
  each-seen =
      each-rising (λ n. is_some (Sees d t (row_at table n)) ≡ true) (filter (is_seen_after d.commits (own d t) table 0) (numbers_by d.commits (own d t) table))
      (each-weaker (λ n. is_seen_after d.commits (own d t) table 0 n ≡ true) (λ n. is_some (Sees d t (row_at table n)) ≡ true)
      (λ n h. second (nat_lt 0 n) (is_some (seen_by d.commits (own d t) (row_at table n))) h)
      (filter (is_seen_after d.commits (own d t) table 0) (numbers_by d.commits (own d t) table))
      (each-kept (is_seen_after d.commits (own d t) table 0) (numbers_by d.commits (own d t) table)))

  rows-seen : (ns : List ℕ) → Each (λ n. is_some (Sees d t (row_at table n)) ≡ true) ns → AreSeen d t table (map (seen_row d t table) ns)
  rows-seen [] h = tt
  rows-seen (n ∷ ns) h = (h.0, rows-seen ns h.1)

  all-seen : AreSeen d t table (seen_rows d t table)
  all-seen = rows-seen (numbers_seen d t table) each-seen

  -- ---- rows that are different ones

  number_of : Option RowNo → ℕ
  number_of o = (unwrap_or o (row_no 0)).0

  less-differs : (n m : ℕ) → nat_lt n m ≡ true → Some (row_no m) ≢ Some (row_no n)
  less-differs n m h e =
      let same : m ≡ n = ap (λ (o : Option RowNo). (unwrap_or o (row_no 0)).0) e in
      let itself : nat_lt n n ≡ false = grind arith in
      differ (nat_lt n m) h (ap (nat_lt n) same ∙ itself)

  above-apart : (n : ℕ) (ms : List ℕ) → Above n ms → FromAll (Some (row_no n)) (map (seen_row d t table) ms)
  above-apart n [] h = tt
  above-apart n (m ∷ ms) h = (less-differs n m h.0, above-apart n ms h.1)

  rows-apart : (ns : List ℕ) → Rises ns → Apart (map (seen_row d t table) ns)
  rows-apart [] h = tt
  rows-apart (n ∷ ns) h = (above-apart n ns h.0, rows-apart ns h.1)

  all-apart : Apart (seen_rows d t table)
  all-apart = rows-apart (numbers_seen d t table) (rises (filter (is_seen_after d.commits (own d t) table 0) (numbers_by d.commits (own d t) table)))

-- ---- those that WHERE takes

abbrev pub FoundFrom : Option RowNo → Result (List Taken) Code → Type 0
FoundFrom row (Ok rows) = FromAll row rows
FoundFrom row (Err code) = Unit {0}

module _ (p : Plan) (binds : List Value) where
  taken-seen : (d : Data) (t : TxId) (table : TableId) (rows : List Taken) → AreSeen d t table rows → RestSeen d t table (taken p binds rows)
  taken-seen d t table [] h = tt
  taken-seen d t table (r ∷ rest) h = by (keeps p.filter binds (values_at p.source r.values)) (taken p binds rest) (taken-seen d t table rest h.1)
    where
      by : (k : Result Bool Code) (found : Result (List Taken) Code) → RestSeen d t table found → RestSeen d t table (taken_if r k found)
      by (Ok true) (Ok rows) k = (h.0, k)
      by (Ok true) (Err code) k = tt
      by (Ok false) found k = k
      by (Err code) found k = tt

  taken-from : (row : Option RowNo) (rows : List Taken) → FromAll row rows → FoundFrom row (taken p binds rows)
  taken-from row [] h = tt
  taken-from row (r ∷ rest) h = by (keeps p.filter binds (values_at p.source r.values)) (taken p binds rest) (taken-from row rest h.1)
    where
      by : (k : Result Bool Code) (found : Result (List Taken) Code) → FoundFrom row found → FoundFrom row (taken_if r k found)
      by (Ok true) (Ok rows) k = (h.0, k)
      by (Ok true) (Err code) k = tt
      by (Ok false) found k = k
      by (Err code) found k = tt

  taken-apart : (rows : List Taken) → Apart rows → FoundApart (taken p binds rows)
  taken-apart [] h = tt
  taken-apart (r ∷ rest) h = by (keeps p.filter binds (values_at p.source r.values)) (taken p binds rest) (taken-from r.row rest h.0) (taken-apart rest h.1)
    where
      by : (k : Result Bool Code) (found : Result (List Taken) Code) → FoundFrom r.row found → FoundApart found → FoundApart (taken_if r k found)
      by (Ok true) (Ok rows) f k = (f, k)
      by (Ok true) (Err code) f k = tt
      by (Ok false) found f k = k
      by (Err code) found f k = tt

-- ---- the rows of a statement

abbrev pub StartSeen : Data → TxId → TableId → Result (Result (List Taken) Code) Code → Type 0
StartSeen d t table (Ok rows) = RestSeen d t table rows
StartSeen d t table (Err code) = Unit {0}

abbrev pub StartApart : Result (Result (List Taken) Code) Code → Type 0
StartApart (Ok rows) = FoundApart rows
StartApart (Err code) = Unit {0}

module _ (d : Data) (t : TxId) (p : Plan) (binds : List Value) where
  statement-seen : RestSeen d t p.table.id (all_taken d t p binds)
  statement-seen = taken-seen p binds d t p.table.id (seen_rows d t p.table.id) (all-seen d t p.table.id)

  statement-apart : FoundApart (all_taken d t p binds)
  statement-apart = taken-apart p binds (seen_rows d t p.table.id) (all-apart d t p.table.id)

  few-seen : (b : Bool) (code : Code) (rows : Result (List Taken) Code) → RestSeen d t p.table.id rows → StartSeen d t p.table.id (cond b (Err code) (Ok rows))
  few-seen true code rows h = tt
  few-seen false code rows h = h

  few-apart : (b : Bool) (code : Code) (rows : Result (List Taken) Code) → FoundApart rows → StartApart (cond b (Err code) (Ok rows))
  few-apart true code rows h = tt
  few-apart false code rows h = h

  pub start-seen : (s : SqlTree) → StartSeen d t p.table.id (rows_of d t s p binds)
  start-seen (sql.Query q) = few-seen _ _ (all_taken d t p binds) statement-seen
  start-seen (sql.Insert i) = (tt, tt)
  start-seen (sql.Update u) = few-seen _ _ (all_taken d t p binds) statement-seen
  start-seen (sql.Delete x) = few-seen _ _ (all_taken d t p binds) statement-seen
  start-seen (sql.Apply name) = statement-seen

  pub start-apart : (s : SqlTree) → StartApart (rows_of d t s p binds)
  start-apart (sql.Query q) = few-apart _ _ (all_taken d t p binds) statement-apart
  start-apart (sql.Insert i) = (tt, tt)
  start-apart (sql.Update u) = few-apart _ _ (all_taken d t p binds) statement-apart
  start-apart (sql.Delete x) = few-apart _ _ (all_taken d t p binds) statement-apart
  start-apart (sql.Apply name) = statement-apart
