-- What refuses an ask before its own tests.
use Rattle.std.specs.Prelude.{ℕ, nat_le, Bool, true, false, not, ◌&&◌, if◌then◌else◌, Option, Some, None, is_some}
use Rattle.ebr_base.specs.declared.code.Code.{Code}
use Rattle.ebr_base.specs.declared.code.Code.TheVariants.{Ebr}
use Rattle.ebr_base.specs.declared.numbers.SessionId.{SessionId}
use Rattle.ebr_asks.specs.declared.ask.Ask.{Ask}
use Rattle.ebr_asks.specs.declared.ask.Ask.TheVariants.{Begin, Sql, Ddl, SetEdition, PushAuto, PopAuto, EndCall, Leave}
use Rattle.ebr_database.specs.Carried.{is_overloaded}
use Rattle.ebr_database.specs.Database.{Session, Database, data_of, own_on_top}

-- the most asks of a session that are no ends: of a call, of an autonomous transaction, of the session (own)
abbrev pub max_asks : ℕ
max_asks = 50000

abbrev pub is_end : Ask → Bool
is_end (PopAuto failed) = true
is_end (EndCall failed) = true
is_end Leave = true
is_end ask = false

-- the session has made so many asks that it may make none but ends
abbrev pub is_one_too_many : Session → Ask → Bool
is_one_too_many x ask = not (is_end ask) && nat_le max_asks x.asks

-- there is no room for the binds
abbrev pub has_no_room : Session → Ask → Bool
has_no_room x (Sql s binds left) = is_overloaded x.carried (Sql s binds left)
has_no_room x ask = false

-- The ask stands in the wrong place: inside a call or outside one, with or without an autonomous transaction.
abbrev pub is_misplaced : Database → SessionId → Session → Ask → Bool
is_misplaced db s x Begin = is_some x.call
is_misplaced db s x (Ddl what text) = is_some x.call
is_misplaced db s x (SetEdition name) = is_some x.call
is_misplaced db s x PushAuto = not (is_some x.call)
is_misplaced db s x (PopAuto failed) = own_on_top (data_of db) s
is_misplaced db s x (EndCall failed) = not (is_some x.call && own_on_top (data_of db) s)
is_misplaced db s x ask = false

-- What refuses an ask before its own tests, in order.
abbrev pub first_tests : Database → SessionId → Session → Ask → Option Code
first_tests db s x ask =
    if is_one_too_many x ask then Some (Ebr 10)
    else (if has_no_room x ask then Some (Ebr 11)
    else (if is_misplaced db s x ask then Some (Ebr 15) else None))
