-- What each call answers, and the data afterwards.
use Rattle.std.specs.Prelude.{ℕ, zero, suc, ◌+◌, ◌-◌, ◌≡◌, ◌<◌, ◌≤◌, Bool, true, not, ◌&&◌, ◌||◌, ◌==◌, nat_le, nat_lt, if◌then◌else◌, List, [], ◌∷◌, ◌++◌, length, filter, find, take, Option, Some, None, unwrap_or, is_some, Result, Ok, Err, All}
use Rattle.std.specs.List.{flat_map}
use Rattle.std.specs.Option.{option_or}
use Rattle.ebr_base.specs.declared.code.Code.{Code}
use Rattle.ebr_base.specs.declared.code.Code.TheVariants.{Ora, Ebr}
use Rattle.ebr_base.specs.declared.numbers.RowNo.{RowNo}
use Rattle.ebr_base.specs.declared.numbers.SessionId.{SessionId}
use Rattle.ebr_base.specs.declared.numbers.TableId.{TableId}
use Rattle.ebr_base.specs.declared.row.Change.{Change}
use Rattle.ebr_base.specs.declared.row.RowId.{RowId}
use Rattle.ebr_base.specs.declared.row.TxId.{TxId}
use Rattle.ebr_base.specs.declared.table.TableDef.{TableDef}
use Rattle.ebr_base.specs.declared.value.Value.{Value}
use Rattle.ebr_versions.specs.Data.{changes_in, changes_row, greatest_number_in}
use Rattle.ebr_versions.specs.Keys.{key_of, key_places, is_added, KeysDiffer}
use Rattle.ebr_versions.specs.Store.{Store, Room, HasRoom, OfAdded}
use Rattle.ebr_locks.specs.Locks.{Lock, after_take, holder_of, locks_of, released}
use Rattle.ebr_tx.specs.declared.load.LoadFault.{LoadFault}
use Rattle.ebr_tx.specs.declared.load.LoadFault.TheVariants.{NotAllowed, NoMemory}
use Rattle.ebr_tx.specs.declared.savepoints.Savepoint.{Savepoint}
use Rattle.ebr_tx.specs.declared.savepoints.TxMark.{TxMark}
use Rattle.ebr_tx.specs.Data.{Transaction, Data, IsLive, not_begun, own, with_own, changed, is_named, names_of, stack_of, top_of, named_at, changes_by}
use Rattle.ebr_tx.specs.Reads.{Sees, row_at}
use Rattle.ebr_tx.specs.Conflicts.{touch_refusal, has_key, KeyTest}
use Rattle.ebr_tx.specs.Savepoints.{is_savepoint, savepoints_to}
use Rattle.ebr_tx.specs.Commits.{IsAllowedOf, IsNumbered}
use Rattle.ebr_tx.specs.Limits.{is_full, limit_refusal, max_changes, max_record, max_row, record_length}

-- What a `Transactions` holds: the data, and the room for a commit.
pub record State : Type 0 where
  pub contents : Data
  pub room : Room

-- the code by which something refuses, or else the value
abbrev pub unless_refused : {T : Type 0} → Option Code → T → Result T Code
unless_refused None x = Ok x
unless_refused (Some code) x = Err code

abbrev pub data_of : Store → List Transaction → List Lock → Data
data_of s live locks = record { commits = s.commits; tables = s.tables; live = live; locks = locks }

-- one transaction for each of so many sessions, numbered from 1, none of which has begun
abbrev pub first_transactions : ℕ → List Transaction
first_transactions zero = []
first_transactions (suc n) = first_transactions n ++ not_begun (named_at (record { 0 = suc n }) 0) ∷ []

-- no commit and no table, and one transaction for each session
abbrev pub first_data : ℕ → Data
first_data sessions = record { commits = []; tables = []; live = first_transactions sessions; locks = [] }

-- a transaction begins where it hasn't begun
abbrev pub begun_at : ℕ → Transaction → Transaction
begun_at n x = record x { begun = Some (unwrap_or x.begun n) }

abbrev pub after_begin : Data → TxId → Data
after_begin d t = with_own d t (begun_at (length d.commits))

abbrev pub with_change : Change → Transaction → Transaction
with_change c x = record x { changes = x.changes ++ c ∷ [] }

abbrev pub after_change : Data → TxId → Change → Data
after_change d t c = with_own d t (with_change c)

-- The test of keys runs for a new row and for a row whose key values change, in a table that has a key.
abbrev pub new_key_refusal : Data → TxId → TableId → Option RowNo → List Value → Option Code
new_key_refusal d t table this values =
    let places = key_places d.tables table in
    if length places == 0 then None else KeyTest d t table this (key_of places values)

abbrev pub changed_key_refusal : Data → TxId → RowId → List Value → Option Code
changed_key_refusal d t row values =
    let places = key_places d.tables row.table in
    if has_key places (key_of places values) (Sees d t row) then None else new_key_refusal d t row.table (Some row.row) values

abbrev pub key_refusal : Data → TxId → RowId → Option (List Value) → Option Code
key_refusal d t row None = None
key_refusal d t row (Some values) = changed_key_refusal d t row values

-- What refuses a change, in order: what refuses to touch the row, the test of its key, EBR-0040.
abbrev pub change_refusal : Data → TxId → Change → Option Code
change_refusal d t c =
    option_or (touch_refusal d t c.row) (option_or (key_refusal d t c.row c.values) (limit_refusal (is_full (own d t).changes c)))

-- A new row's number: one more than the greatest of its table in any commit or any live transaction's changes.
abbrev pub new_number : Data → TableId → ℕ
new_number d table = greatest_number_in (changes_in d.commits ++ flat_map changes_by d.live) table + 1

abbrev pub new_row : Data → TableId → RowId
new_row d table = row_at table (new_number d table)

abbrev pub insertion : Data → TableId → List Value → Change
insertion d table values = record { row = new_row d table; values = Some values }

-- What refuses a new row, in order: the test of its key, EBR-0040.
abbrev pub insert_refusal : Data → TxId → TableId → List Value → Option Code
insert_refusal d t table values =
    option_or (new_key_refusal d t table None values)
    (limit_refusal (nat_lt max_row (new_number d table) || is_full (own d t).changes (insertion d table values)))

-- A row is locked for a transaction. A row that the transaction has changed, or locked already, needs no lock.
abbrev pub after_lock : Data → TxId → RowId → Data
after_lock d t row =
    record d { locks = if changes_row row (own d t).changes then d.locks else after_take (holder_of row d.locks) row t d.locks }

-- how many rows a transaction has locked
abbrev pub lock_count : Data → TxId → ℕ
lock_count d t = length (locks_of t d.locks)

-- what a transaction is by now: its beginning, its numbers of changes and locks, and its savepoints
abbrev pub mark_of : Data → TxId → TxMark
mark_of d t =
    record { begun = (own d t).begun; changes = length (own d t).changes; locks = lock_count d t; savepoints = (own d t).savepoints }

-- The mark is still one of the transaction: it hasn't ended or gone back past the mark since. It goes on from the mark's
-- changes and locks, and from its beginning, if it had one.
pub record IsMarkOf (d : Data) (t : TxId) (m : TxMark) : Type 0 where
  pub begun : m.begun ≡ None → m.changes ≡ 0
  pub changes : m.changes ≤ length (own d t).changes
  pub locks : m.locks ≤ lock_count d t

abbrev pub marked : TxMark → Transaction → Transaction
marked m x = record x { begun = m.begun; changes = take m.changes x.changes; savepoints = m.savepoints }

-- The transaction is what it was at the mark.
abbrev pub after_mark : Data → TxId → TxMark → Data
after_mark d t m = record d { live = changed t (marked m) d.live; locks = released t m.locks d.locks }

-- a savepoint of a name that is there moves
abbrev pub with_savepoint : Savepoint → Transaction → Transaction
with_savepoint s x = record x { savepoints = filter (λ o. not (is_savepoint s.name o)) x.savepoints ++ s ∷ [] }

abbrev pub savepoint_at : Data → TxId → List ℕ → Savepoint
savepoint_at d t name = record { name = name; changes = length (own d t).changes; locks = lock_count d t }

abbrev pub after_savepoint : Data → TxId → List ℕ → Data
after_savepoint d t name = with_own d t (with_savepoint (savepoint_at d t name))

abbrev pub kept_to : List ℕ → ℕ → Transaction → Transaction
kept_to name n x = record x { changes = take n x.changes; savepoints = savepoints_to name x.savepoints }

abbrev pub savepoint_named : Data → TxId → List ℕ → Option Savepoint
savepoint_named d t name = find (is_savepoint name) (own d t).savepoints

-- ORA-01086 where there is no such savepoint
abbrev pub back_to_answer : Data → TxId → List ℕ → Result (Unit {0}) Code
back_to_answer d t name = if is_some (savepoint_named d t name) then Ok tt else Err (Ora 1086)

-- Changes and locks made after the savepoint are undone, later savepoints are gone, and it stays.
abbrev pub back_to_savepoint : Data → TxId → List ℕ → Option Savepoint → Data
back_to_savepoint d t name None = d
back_to_savepoint d t name (Some s) =
    record d { live = changed t (kept_to name s.changes) d.live; locks = released t s.locks d.locks }

abbrev pub after_back_to : Data → TxId → List ℕ → Data
after_back_to d t name = back_to_savepoint d t name (savepoint_named d t name)

-- The room for settling a transaction is there, and no call that changes something came since. `prepare` makes it and
-- `settle` asks for it; a caller doesn't look into this word.
unfoldable pub IsPrepared : State → TxId → Type 0
IsPrepared s t = HasRoom (record { commits = s.contents.commits; tables = s.contents.tables; room = s.room }) (own s.contents t).changes

-- What a transaction has changed may be committed: it is not too much for a record, it is of tables that were added, and
-- afterwards no two rows of a table share a key.
pub record MayCommit (d : Data) (changes : List Change) : Type 0 where
  pub few : length changes ≤ max_changes
  pub short : record_length changes ≤ max_record
  pub added : OfAdded d.tables changes
  pub keys : KeysDiffer (d.commits ++ changes ∷ []) d.tables

-- the transaction has ended
abbrev pub ended : Transaction → Transaction
ended x = not_begun x.id

-- the commits with a transaction's changes, where it has any
abbrev pub with_commit : List (List Change) → List Change → List (List Change)
with_commit commits [] = commits
with_commit commits (c ∷ cs) = commits ++ (c ∷ cs) ∷ []

abbrev pub after_rollback : Data → TxId → Data
after_rollback d t = record d { live = changed t ended d.live; locks = released t 0 d.locks }

abbrev pub after_settle : Data → TxId → Data
after_settle d t = record (after_rollback d t) { commits = with_commit d.commits (own d t).changes }

abbrev pub max_levels : ℕ
max_levels = 50

-- the session's own transaction is there, at the bottom of its stack
abbrev pub HasSession : Data → SessionId → Type 0
HasSession d s = IsLive d (named_at s 0)

-- an autonomous level of the session is open
abbrev pub HasLevel : Data → SessionId → Type 0
HasLevel d s = 1 < length (stack_of (names_of d.live) s)

-- how many autonomous levels of a session are open
abbrev pub levels : Data → SessionId → ℕ
levels d s = length (stack_of (names_of d.live) s) - 1

-- the transaction on top of a session's stack
abbrev pub top : Data → SessionId → TxId
top d s = top_of (names_of d.live) s

-- EBR-0014 where 50 levels are open
abbrev pub push_refusal : Data → SessionId → Option Code
push_refusal d s = if nat_le max_levels (levels d s) then Some (Ebr 14) else None

abbrev pub after_push : Data → SessionId → Data
after_push d s = record d { live = d.live ++ not_begun (named_at s (length (stack_of (names_of d.live) s))) ∷ [] }

-- the transaction has changes or locks
abbrev pub has_work : Data → TxId → Bool
has_work d t = nat_lt 0 (length (own d t).changes) || nat_lt 0 (lock_count d t)

-- ORA-06519 where a level is left that hasn't failed and has changes or locks
abbrev pub pop_refusal : Data → SessionId → Bool → Option Code
pop_refusal d s failed = if not failed && has_work d (top d s) then Some (Ora 6519) else None

-- the level is closed, and its changes and locks are gone
abbrev pub after_pop : Data → SessionId → Data
after_pop d s = record d { live = filter (λ x. not (is_named (top d s) x)) d.live; locks = released (top d s) 0 d.locks }

-- what `change` and `insert` need of a table's definition: the table was added with its key
pub record IsKnown (d : Data) (def : TableDef) : Type 0 where
  pub added : is_added d.tables def.id ≡ true
  pub key : key_places d.tables def.id ≡ def.key

abbrev pub after_add_table : Data → TableId → List ℕ → Data
after_add_table d t key = record d { tables = d.tables ++ record { id = t; key = key } ∷ [] }

-- no transaction has begun
abbrev pub HasNotBegun : Data → Type 0
HasNotBegun d = All (λ (x : Transaction). x.begun ≡ None) d.live

-- A recovered commit may be loaded: by its rows and keys it is allowed behind the commits.
abbrev pub MayLoad : Data → List Change → Type 0
MayLoad d changes = IsAllowedOf IsNumbered d.tables d.commits changes

-- Just such a commit is loaded, and any other refused; want of memory alone is free.
abbrev pub AnswersLoad : Result (Unit {0}) LoadFault → Data → List Change → Type 0
AnswersLoad (Ok done) d changes = MayLoad d changes
AnswersLoad (Err NotAllowed) d changes = MayLoad d changes → ⊥
AnswersLoad (Err NoMemory) d changes = Unit {0}

abbrev pub after_load : Data → List Change → Data
after_load d changes = record d { commits = d.commits ++ changes ∷ [] }

-- what a new row's insertion answers: its number
abbrev pub insert_answer : Data → TxId → TableId → List Value → Result RowNo Code
insert_answer d t table values = unless_refused (insert_refusal d t table values) (new_row d table).row
