-- What is raised, and what handlers catch.
-- Oracle Database PL/SQL Language Reference 19c, PL/SQL Error Handling, and SQLCODE Function; the codes of EBR faults, and
-- that an exception is told by its declaration in the text, are own.
use Rattle.std.specs.Prelude.{ℕ, ℤ, pos, neg_ℤ, ◌+◌, nat_eq, Bool, true, false, ◌&&◌, if◌then◌else◌, List, Option, Some, None}
use Rattle.std.specs.List.{list_any}
use Rattle.std.specs.Str.{bytes_eq}
use Rattle.ebr_base.specs.declared.code.Code.{Code}
use Rattle.ebr_base.specs.declared.code.Code.TheVariants.{Ora, Ebr}
use Rattle.ebr_base.specs.declared.object.ObjectKey.{ObjectKey}
use Rattle.ebr_base.specs.Keys.{same_key}
use Rattle.ebr_run.specs.declared.fault.Exception.{Exception}
use Rattle.ebr_run.specs.declared.fault.Fault.{Fault}
use Rattle.ebr_run.specs.declared.fault.Fault.TheVariants as fault

abbrev pub ora : ℕ → Fault
ora n = fault.Code (Ora n)

abbrev pub ebr : ℕ → Fault
ebr n = fault.Code (Ebr n)

abbrev pub same_code : Code → Code → Bool
same_code (Ora m) (Ora n) = nat_eq m n
same_code (Ebr m) (Ebr n) = nat_eq m n
same_code c d = false

abbrev pub same_unit : Option ObjectKey → Option ObjectKey → Bool
same_unit None None = true
same_unit (Some a) (Some b) = same_key a b
same_unit a b = false

abbrev pub same_exception : Exception → Exception → Bool
same_exception a b = same_unit a.unit b.unit && (bytes_eq a.block b.block && bytes_eq a.name b.name)

abbrev pub same_fault : Fault → Fault → Bool
same_fault (fault.Code c) (fault.Code d) = same_code c d
same_fault (fault.User a) (fault.User b) = same_exception a b
same_fault f g = false

-- what SQLCODE is in a handler of a fault
abbrev pub number_of_code : Code → ℤ
number_of_code (Ora n) = if nat_eq n 1403 then pos 100 else neg_ℤ (pos n)
number_of_code (Ebr n) = neg_ℤ (pos (100000 + n))

abbrev pub sqlcode : Fault → ℤ
sqlcode (fault.Code c) = number_of_code c
sqlcode (fault.User e) = pos 1

-- the code of a fault that nothing handled
abbrev pub final_code : Fault → Code
final_code (fault.Code c) = c
final_code (fault.User e) = Ora 6510

-- what a handler catches: everything, or these
pub data Catches : Type 0 where
  All : Catches
  These : List Fault → Catches

abbrev pub is_caught : Catches → Fault → Bool
is_caught All f = true
is_caught (These fs) f = list_any (same_fault f) fs

-- The codes that no handler catches: too many steps or asks, and no room for what is carried (own).
abbrev pub is_uncatchable : Code → Bool
is_uncatchable (Ora n) = false
is_uncatchable (Ebr n) = if nat_eq n 7 then true else if nat_eq n 10 then true else nat_eq n 11
