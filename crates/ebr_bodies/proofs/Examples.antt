-- What some of the definitions compute to.
use Rattle.std.proofs.Common.{ℕ, suc, ◌≡◌, List, [], ◌∷◌, Option, Ok, Err, refl, ap}
use Rattle.ebr_base.specs.declared.code.Code.{Code}
use Rattle.ebr_base.specs.declared.code.Code.TheVariants.{Ora, Ebr}
use Rattle.ebr_base.specs.declared.value.Value.{Value}
use Rattle.ebr_exprtree.specs.declared.op.Op.{Op}
use Rattle.ebr_exprtree.specs.declared.op.Op.TheVariants as op
use Rattle.ebr_ast.specs.declared.sql.SqlTree.{SqlTree}
use Rattle.ebr_asks.specs.declared.ask.Ask.TheVariants as ask
use Rattle.ebr_database.specs.Base.{Base}
use Rattle.ebr_database.specs.Outcome.{gives}
use Rattle.ebr_exec.specs.Places.{Names, Place}
use Rattle.ebr_exec.specs.Statements.{refused}
use Rattle.ebr_bodies.specs.Ready.{Ready}
use Rattle.ebr_bodies.specs.Bodies.{Site, Doing, bodies, put, row_left, serve}
use Rattle.ebr_bodies.specs.Rows.{Work, rows_of}
use Rattle.ebr_bodies.specs.Statements.{Stmt, checked_ran, name_tests, unless_refused}

-- no level is left
no_level : (names : Names) (p : Place) (s : SqlTree) (binds : List Value) (left room : ℕ) (b : Base) → Stmt names 0 p s binds left room b ≡ gives b (refused (Ora 36))
no_level names p s binds left room b = refl

-- A statement that its checks or ORA-04091 refuse doesn't ask which triggers fire.
asks_nothing : (names : Names) (n : ℕ) (p : Place) (s : SqlTree) (binds : List Value) (left room : ℕ) (b : Base) (code : Code) → name_tests names p s binds ≡ Err code
    → (Stmt names (suc n) p s binds left room b).asked ≡ []
asks_nothing names n p s binds left room b code e = ap (λ r. (unless_refused r b (checked_ran (Stmt names n) names p s binds left room b)).asked) e

-- the columns of a body, put back into the table's row
put_back : (x y z a b : Value) → put (0 ∷ 2 ∷ []) (a ∷ b ∷ []) (x ∷ y ∷ z ∷ []) ≡ a ∷ y ∷ b ∷ []
put_back x y z a b = refl

-- the new row of a DELETE stays all NULL
stays_null : (r : Ready) (new : List Value) (left : Option (List Value)) → row_left op.Delete r new left ≡ new
stays_null r new left = refl

-- no trigger changes nothing
no_bodies : (w : Site) (o : Op) (old new : List Value) (σ : Doing) → bodies w o [] old new σ ≡ gives σ (Ok new)
no_bodies w o old new σ = refl

-- no row, and what WHERE raised
no_rows : (w : Site) (k : Work) (σ : Doing) → rows_of w k (Ok []) σ ≡ gives σ (Ok 0)
no_rows w k σ = refl

raised : (w : Site) (k : Work) (code : Code) (σ : Doing) → rows_of w k (Err code) σ ≡ gives σ (Err code)
raised w k code σ = refl

-- no body asks to leave
no_leave : (w : Site) (r : Ready) (room : ℕ) (b : Base) → serve w r room ask.Leave b ≡ gives b (refused (Ebr 15))
no_leave w r room b = refl
