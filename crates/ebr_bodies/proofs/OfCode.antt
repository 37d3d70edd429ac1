-- What code may ask: APPLY TRIGGER is no statement of PL/SQL.
use Rattle.std.specs.Prelude.{List, Option, Some, None}
use Rattle.ebr_ast.specs.declared.sql.SqlTree.TheVariants as sql
use Rattle.ebr_asks.specs.declared.ask.Ask.{Ask}
use Rattle.ebr_asks.specs.declared.ask.Ask.TheVariants as ask
use Rattle.ebr_asks.specs.declared.answer.Answer.{Answer}
use Rattle.ebr_run.specs.Run.{Seen}
use Rattle.ebr_bodies.specs.Bodies.{next_ask}

abbrev pub IsOfCode : Ask → Type 0
IsOfCode (ask.Sql (sql.Apply name) binds left) = ⊥
IsOfCode q = Unit {0}

abbrev pub IsNoneOrOfCode : Option Ask → Type 0
IsNoneOrOfCode None = Unit {0}
IsNoneOrOfCode (Some q) = IsOfCode q

-- whatever it is answered, a run asks nothing else
abbrev pub AsksAsCode : (List Answer → Seen) → Type 0
AsksAsCode run = (answers : List Answer) → IsNoneOrOfCode (next_ask (run answers))
