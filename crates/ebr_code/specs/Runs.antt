-- What runs of compiled units do.
use Rattle.std.specs.Prelude.{ℕ, List, map, slice_get, Option, Some, None, option_map, option_and_then}
use Rattle.ebr_base.specs.declared.numbers.Stamp.{Stamp}
use Rattle.ebr_base.specs.declared.object.Class.TheVariants as class
use Rattle.ebr_base.specs.declared.value.Value.{Value}
use Rattle.ebr_ast.specs.Views.{unit_key}
use Rattle.ebr_asks.specs.declared.answer.Answer.{Answer}
use Rattle.ebr_scope.specs.Meanings.{Word}
use Rattle.ebr_run.specs.declared.callee.Callee.{Callee}
use Rattle.ebr_run.specs.Packages.{PackageState}
use Rattle.ebr_run.specs.Scope.{body_key}
use Rattle.ebr_run.specs.Calls.{Formal, Part, Making, Parts}
use Rattle.ebr_run.specs.Units.{with_specification}
use Rattle.ebr_run.specs.Run.{Frame, Seen, seen, start, run_part}
use Rattle.ebr_code.specs.declared.book.Parameter.{Parameter}
use Rattle.ebr_code.specs.declared.book.Subprogram.{Subprogram}
use Rattle.ebr_code.specs.declared.book.Initial.{Initial}
use Rattle.ebr_code.specs.declared.book.Unit as compiled
use Rattle.ebr_code.specs.Books.{Book}
use Rattle.ebr_code.specs.Instructions.{run}

abbrev pub formal : Parameter → Formal
formal p = record { ty = p.ty; takes = p.takes; gives = p.gives }

-- a subprogram, with what its code does
abbrev pub part_of : Subprogram → Part
part_of s = record { formals = map formal s.parameters; function = s.function; autonomous = s.autonomous; run = run s.code }

abbrev pub making_of : Initial → Making
making_of i = record { stateful = i.stateful; run = run i.code }

abbrev pub part_at : compiled.Unit → ℕ → Option Part
part_at u at = option_map part_of (slice_get u.subprograms at)

abbrev pub called_part : Book → Callee → Option Part
called_part book f =
    with_specification f.unit.class (book.unit (unit_key f.unit.name)) (option_and_then (λ (u : compiled.Unit). part_at u f.place) (book.unit f.unit))

abbrev pub making_in : compiled.Unit → Option Making
making_in u = option_map making_of u.initial

abbrev pub making_with : Book → Word → Option Stamp → Option Making
making_with book p None = option_and_then making_in (book.unit (unit_key p))
making_with book p (Some s) = with_specification class.Body (book.unit (unit_key p)) (option_and_then making_in (book.unit (body_key p)))

-- what an edition has, by its book
abbrev pub parts_of : Book → Parts
parts_of book = record {
  part = called_part book;
  making = λ p. making_with book p (book.stamp (body_key p));
  made = λ p. record { specification = book.stamp (unit_key p); body = book.stamp (body_key p) };
  objects = book.objects;
}

-- What a compiled unit does, with these arguments, states of packages, steps left and answers.
unfoldable pub RunCode : Book → compiled.Unit → List Value → List PackageState → Frame → ℕ → List Answer → Seen
RunCode book u arguments packages frame left answers = seen (run_part (part_at u 0) (parts_of book) arguments (start packages frame left answers))
