-- Histories with asks for which there was no memory.
use Rattle.std.proofs.Common.{◌≡◌, ℕ, true, false, List, [], ◌∷◌, refl}
use Rattle.std.specs.Prelude.{not}
use Rattle.ebr_base.specs.declared.numbers.SessionId.{SessionId}
use Rattle.ebr_base.specs.declared.value.Value.{Value}
use Rattle.ebr_ast.specs.declared.query.Query.{Query as Select}
use Rattle.ebr_ast.specs.declared.sql.SqlTree.TheVariants as sql
use Rattle.ebr_asks.specs.declared.ask.Ask.{Ask}
use Rattle.ebr_asks.specs.declared.ask.Ask.TheVariants.{Begin, Commit, Leave, Sql}
use Rattle.ebr_asks.specs.declared.answer.Answer.TheVariants.{NoMemory, Stopped}
use Rattle.ebr_asks.specs.declared.entry.Entry.{Entry}
use Rattle.ebr_database.specs.Database.{Database}
use Rattle.ebr_core.specs.Engine.{has_given_up}
use Rattle.ebr_core.specs.History.{Acknowledged, After, IsLive, Legal, Records, is_light, is_short, next}

abbrev one : SessionId
one = record { 0 = 1 }

abbrev two : SessionId
two = record { 0 = 2 }

-- an ask for which there was no memory
abbrev wanting : Ask → Entry
wanting q = record { session = one; ask = q; answer = NoMemory }

abbrev stopped : Entry
stopped = record { session = one; ask = Leave; answer = Stopped }

-- a call that doesn't begin leaves the database as it was, and no record, ..
call_leaves_all : (db : Database) (h : List Entry) → After db (wanting Begin ∷ h) ≡ After db h
call_leaves_all db h = refl

call_makes_none : (db : Database) (h : List Entry) → Records db (wanting Begin ∷ h) ≡ Records db h
call_makes_none db h = refl

-- .. the engine goes on, ..
call_goes_on : (db : Database) (h : List Entry) → IsLive db one → Legal db h → Legal db (wanting Begin ∷ h)
call_goes_on db h live legal = (live, legal)

call_gives_nothing_up : (h : List Entry) → has_given_up (wanting Begin ∷ h) ≡ has_given_up h
call_gives_nothing_up h = refl

-- .. and that session alone was told so
call_is_short : is_short (wanting Begin ∷ []) one ≡ true
call_is_short = refl

others_are_long : is_short (wanting Begin ∷ []) two ≡ false
others_are_long = refl

-- a query is light that locks no rows
query_is_light : (q : Select) (binds : List Value) (left : ℕ) → is_light (Sql (sql.Query q) binds left) ≡ not q.for_update
query_is_light q binds left = refl

-- behind any other ask every one is answered Stopped
commit_gives_up : (db : Database) → IsLive db one → IsLive (next db (wanting Commit)) one → Legal db (wanting Commit ∷ stopped ∷ [])
commit_gives_up db live live' = (live, (live', refl, refl, tt))

commit_acknowledges_none : (db : Database) → Acknowledged db (wanting Commit ∷ []) ≡ []
commit_acknowledges_none db = refl
