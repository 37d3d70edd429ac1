-- What references to packages do.
use Rattle.std.proofs.Common.{◌≡◌, ℕ, zero, suc, ◌-◌, ◌<◌, Bool, true, false, List, [], ◌∷◌, Option, Some, None, refl, ap, ◌∙◌, arith}
use Rattle.std.specs.Prelude.{cond, not, option_map}
use Rattle.ebr_run.specs.declared.callee.Reference.{Reference}
use Rattle.ebr_run.specs.declared.callee.Reference.TheVariants as reference
use Rattle.ebr_run.specs.Packages.{PackageState, is_of, state_of, forget}
use Rattle.ebr_run.specs.State.{State, Row, Runs, bare, broken, then_run}
use Rattle.ebr_run.specs.Calls.{refer_in}
use Rattle.ebr_code.specs.declared.instruction.Operation.TheVariants as does
use Rattle.ebr_code.specs.Books.{Book}
use Rattle.ebr_code.specs.Instructions.{operate, holding}
use Rattle.ebr_code.specs.Runs.{parts_of}
use Rattle.ebr_running.specs.declared.running.BodyFrame.{BodyFrame}
use Rattle.ebr_running.specs.declared.running.Running.{Running}
use Rattle.ebr_running.specs.Rest as rest
use Rattle.ebr_running.specs.Rest.{DoesIn, ActsIn, Moves, calls_at, row_of}
use Rattle.ebr_machine.specs.inside.Callees.{under, making_at, refers, makes, makes_inside}
use Rattle.ebr_machine.proofs.Called.{does_as, moves_as}

-- by the making, with so many makings and frames left
refer_by : (book : Book) (m n : ℕ) (r : Reference) (p : List ℕ) (σ : State) → (calls_at book m n).refer r p σ ≡ refer_in σ.row r ((parts_of book).made p) p (making_at book m n p) σ
refer_by book zero zero r p σ = refl
refer_by book zero (suc n) r p σ = refl
refer_by book (suc m) zero r p σ = refl
refer_by book (suc m) (suc n) r p σ = refl

-- what a reference does for a row
abbrev refers_in : Option Row → Book → ℕ → ℕ → Reference → List ℕ → Runs
refers_in row book m n r p σ = then_run (refer_in row r ((parts_of book).made p) p (making_at book m n p) (bare σ)) (holding σ.memory.operands)

refers_as : (book : Book) (m n : ℕ) (r : Reference) (p : List ℕ) (σ : State) (row : Option Row) → σ.row ≡ row → operate (does.Refer r p) (calls_at book m n) σ ≡ refers_in row book m n r p σ
refers_as book m n r p σ row e =
    ap (λ o. then_run o (holding σ.memory.operands)) (refer_by book m n r p (bare σ)) ∙ ap (λ x. refers_in x book m n r p σ) e

row_under : (book : Book) (m n : ℕ) (r : Reference) (p : List ℕ) (σ : State) (row : Row) → refers_in (Some row) book m n r p σ ≡ under r σ
row_under book m n reference.Other p σ row = refl
row_under book m n reference.Data p σ row = refl

pub refer_in_row : (book : Book) (old new : Running) (r : Reference) (p : List ℕ) (row : BodyFrame) → old.row ≡ Some row → Moves old new (under r) → ActsIn book old new (operate (does.Refer r p))
refer_in_row book old new r p row e m = moves_as book old new (under r) (operate (does.Refer r p) (calls_at book old.makings_left old.frames_left)) (λ asks given.
    let σ = rest.state_of old asks given in
    refers_as book old.makings_left old.frames_left r p σ (Some (row_of row)) (ap (option_map row_of) e) ∙ row_under book old.makings_left old.frames_left r p σ (row_of row)) m

pub refer_outside : (book : Book) (old new : Running) (r : Reference) (p : List ℕ) → old.row ≡ None → DoesIn book old new (refers book old.makings_left old.frames_left p) → ActsIn book old new (operate (does.Refer r p))
refer_outside book old new r p e d = does_as book old new (refers book old.makings_left old.frames_left p) (operate (does.Refer r p) (calls_at book old.makings_left old.frames_left)) (λ asks given.
    let σ = rest.state_of old asks given in
    refers_as book old.makings_left old.frames_left r p σ None (ap (option_map row_of) e)) d

-- ---- makings

none_left : (book : Book) (m n : ℕ) (p : List ℕ) (σ : State) → m ≡ 0 → makes book m n p σ ≡ broken σ
none_left book m n p σ e = ap (λ k. makes book k n p σ) e

one_left : (book : Book) (m n : ℕ) (p : List ℕ) (σ : State) → 0 < m → makes book m n p σ ≡ makes_inside book (m - 1) n p σ
one_left book zero n p σ h = absurd (omega arith)
one_left book (suc m) n p σ h = let e : m ≡ suc m - 1 = omega arith in ap (λ k. makes_inside book k n p σ) e

pub makes_none : (book : Book) (old new : Running) (p : List ℕ) → old.makings_left ≡ 0 → Moves old new broken → DoesIn book old new (makes book old.makings_left old.frames_left p)
makes_none book old new p e m = moves_as book old new broken (makes book old.makings_left old.frames_left p) (λ asks given.
    none_left book old.makings_left old.frames_left p (rest.state_of old asks given) e) m

pub makes_one : (book : Book) (old new : Running) (p : List ℕ) → 0 < old.makings_left → DoesIn book old new (makes_inside book (old.makings_left - 1) old.frames_left p) → DoesIn book old new (makes book old.makings_left old.frames_left p)
makes_one book old new p h d = does_as book old new (makes_inside book (old.makings_left - 1) old.frames_left p) (makes book old.makings_left old.frames_left p) (λ asks given.
    one_left book old.makings_left old.frames_left p (rest.state_of old asks given) h) d

-- what was forgotten has no state
pub forgotten : (p : List ℕ) (states : List PackageState) → state_of p (forget p states) ≡ None
forgotten p [] = refl
forgotten p (s ∷ states) = by_test (is_of p s) refl (forgotten p states)
  where
    by_test : (b : Bool) → is_of p s ≡ b → state_of p (forget p states) ≡ None → state_of p (forget p (s ∷ states)) ≡ None
    by_test true e h = ap (λ x. state_of p (cond (not x) (s ∷ forget p states) (forget p states))) e ∙ h
    by_test false e h = ap (λ x. state_of p (cond (not x) (s ∷ forget p states) (forget p states))) e ∙ ap (λ x. cond x (Some s) (state_of p (forget p states))) e ∙ h
