-- Histories: the asks of all sessions in one order, with their answers.
use Rattle.std.specs.Prelude.{◌≡◌, ◌==◌, ◌&&◌, Bool, true, false, not, IsSome, List, [], ◌∷◌, ◌++◌, map, filter, Option, Some, None}
use Rattle.std.specs.List.{list_any}
use Rattle.ebr_base.specs.declared.numbers.EditionNo.{EditionNo}
use Rattle.ebr_base.specs.declared.numbers.SessionId.{SessionId}
use Rattle.ebr_ast.specs.declared.sql.SqlTree.{SqlTree}
use Rattle.ebr_ast.specs.declared.sql.SqlTree.TheVariants as sql
use Rattle.ebr_asks.specs.declared.ask.Ask.{Ask}
use Rattle.ebr_asks.specs.declared.ask.Ask.TheVariants.{Begin, Sql, Leave}
use Rattle.ebr_asks.specs.declared.answer.Answer.{Answer}
use Rattle.ebr_asks.specs.declared.answer.Answer.TheVariants.{DiskFault, NoMemory, Stopped}
use Rattle.ebr_asks.specs.declared.entry.Entry.{Entry}
use Rattle.ebr_asks.specs.declared.entry.Exchange.{Exchange}
use Rattle.ebr_record.specs.declared.record.Record.{Record}
use Rattle.ebr_database.specs.Database.{Session, Database, session_at}
use Rattle.ebr_core.specs.Machine.{Reply}

-- ---- want of memory that ends nothing

-- a query that locks no rows
abbrev pub only_reads : SqlTree → Bool
only_reads (sql.Query q) = not q.for_update
only_reads s = false

-- An ask that leaves all as it was where there is no memory for it: the beginning of a call, or a query that locks no rows (own).
abbrev pub is_light : Ask → Bool
is_light Begin = true
is_light (Sql stmt binds left) = only_reads stmt
is_light q = false

abbrev pub wants : Answer → Bool
wants NoMemory = true
wants a = false

-- an entry behind which all is as before
abbrev pub is_idle : Entry → Bool
is_idle x = wants x.answer && is_light x.ask

-- ---- what a history leaves

-- what an entry leaves, by whether it is idle
abbrev pub left_by : Bool → Database → Database → Database
left_by true db after = db
left_by false db after = after

-- the database after one entry's ask
abbrev pub next : Database → Entry → Database
next db x = left_by (is_idle x) db (Reply db x.session x.ask).database

-- the database that the asks of a history leave
abbrev pub After : Database → List Entry → Database
After db [] = db
After db (x ∷ history) = After (next db x) history

abbrev pub edition_of : Option Session → Option EditionNo
edition_of None = None
edition_of (Some x) = x.edition

-- the edition of a live session
abbrev pub session_edition : Database → SessionId → Option EditionNo
session_edition db s = edition_of (session_at db.sessions s.0)

abbrev pub IsLive : Database → SessionId → Type 0
IsLive db s = IsSome (session_edition db s)

-- Once the engine has given up, every ask is answered Stopped, and its entry holds Leave.
abbrev pub AllStopped : Database → List Entry → Type 0
AllStopped db [] = Unit {0}
AllStopped db (x ∷ history) = IsLive db x.session × (x.ask ≡ Leave) × (x.answer ≡ Stopped) × AllStopped (next db x) history

-- An answer is the machine's reply, or its entry is idle, and then the history goes on; or the engine gives up with it.
abbrev pub Answered : Bool → Answer → Answer → Type 0 → Type 0 → Type 0
Answered true answer reply on stopped = on
Answered false DiskFault reply on stopped = stopped
Answered false NoMemory reply on stopped = stopped
Answered false answer reply on stopped = (answer ≡ reply) × on

-- Each entry's session is live where it stands, and the entry is idle, or its answer is the reply in the database that the entries
-- before it leave. One entry may be answered that the disk failed, or that there was no memory without being idle, and then all
-- entries after it are Stopped.
abbrev pub Legal : Database → List Entry → Type 0
Legal db [] = Unit {0}
Legal db (x ∷ history) =
    IsLive db x.session × Answered (is_idle x) x.answer (Reply db x.session x.ask).answer (Legal (next db x) history) (AllStopped (next db x) history)

abbrev pub is_of : SessionId → Entry → Bool
is_of s x = x.session.0 == s.0

abbrev pub exchange : Entry → Exchange
exchange x = record { ask = x.ask; answer = x.answer }

-- what one session sees of a history
abbrev pub Mine : List Entry → SessionId → List Exchange
Mine history s = map exchange (filter (is_of s) history)

-- A session was answered that there is no memory.
abbrev pub is_short : List Entry → SessionId → Bool
is_short history s = list_any (λ (x : Exchange). wants x.answer) (Mine history s)

-- ---- records

-- the records that an ask makes, by whether its entry is idle
abbrev pub made_by : Bool → List Record → List Record
made_by true made = []
made_by false made = made

-- the records that the asks of a history make, in order
abbrev pub Records : Database → List Entry → List Record
Records db [] = []
Records db (x ∷ history) = made_by (is_idle x) (Reply db x.session x.ask).records ++ Records (next db x) history

-- what an answer acknowledges of the records that its ask makes: none where it isn't the reply
abbrev pub acknowledged_by : Answer → List Record → List Record
acknowledged_by DiskFault made = []
acknowledged_by NoMemory made = []
acknowledged_by a made = made

-- the records of a history whose asks were answered with what they reply
abbrev pub Acknowledged : Database → List Entry → List Record
Acknowledged db [] = []
Acknowledged db (x ∷ history) = acknowledged_by x.answer (Reply db x.session x.ask).records ++ Acknowledged (next db x) history
