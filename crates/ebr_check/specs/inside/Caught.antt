-- What handlers catch, in order.
use Rattle.std.specs.Prelude.{ℕ, List, Option, option_map}
use Rattle.std.specs.Borrow.{Bor}
use Rattle.ebr_exprtree.specs.declared.expression.Path.{Path}
use Rattle.ebr_ast.specs.declared.statement.Caught.{Caught}
use Rattle.ebr_ast.specs.declared.statement.Handler.{Handler, out-Handler}

abbrev pub caught_of : Handler → Caught
caught_of h = (out-Handler h).caught

-- a name as a set holds it
abbrev pub Key : Type 0
Key = Bor (List ℕ) × Option (Bor (List ℕ))

abbrev pub as_path : Key → Path
as_path k = record { name = k.0.now; member = option_map (λ (m : Bor (List ℕ)). m.now) k.1 }
