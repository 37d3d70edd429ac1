-- What a session carries: 16 bytes and the text of each bind of its asks, each value of a row and each line of a trigger in its
-- answers (own).
use Rattle.std.specs.Prelude.{ℕ, ◌+◌, ◌-◌, nat_lt, Bool, List, length, sum_by}
use Rattle.ebr_base.specs.declared.value.Value.{Value}
use Rattle.ebr_base.specs.declared.value.Value.TheVariants.{Text}
use Rattle.ebr_asks.specs.declared.ask.Ask.{Ask}
use Rattle.ebr_asks.specs.declared.ask.Ask.TheVariants.{Sql}
use Rattle.ebr_asks.specs.declared.answer.Answer.{Answer}
use Rattle.ebr_asks.specs.declared.answer.Answer.TheVariants.{Rows, Count, Refused}

abbrev pub value_weight : Value → ℕ
value_weight (Text t) = 16 + length t
value_weight v = 16

abbrev pub row_weight : List Value → ℕ
row_weight values = sum_by value_weight values

abbrev pub line_weight : List ℕ → ℕ
line_weight line = 16 + length line

abbrev pub ask_weight : Ask → ℕ
ask_weight (Sql s binds left) = row_weight binds
ask_weight ask = 0

abbrev pub answer_weight : Answer → ℕ
answer_weight (Rows rows) = sum_by row_weight rows
answer_weight (Count n steps lines) = sum_by line_weight lines
answer_weight (Refused code steps lines) = sum_by line_weight lines
answer_weight answer = 0

-- the most that a session carries
abbrev pub max_carried : ℕ
max_carried = 16777216

-- EBR-0011 for the binds of an ask, where the session carries so much
abbrev pub is_overloaded : ℕ → Ask → Bool
is_overloaded carried ask = nat_lt max_carried (carried + ask_weight ask)

-- the room for what the ask's answer adds
abbrev pub room_for : ℕ → Ask → ℕ
room_for carried ask = max_carried - (carried + ask_weight ask)
