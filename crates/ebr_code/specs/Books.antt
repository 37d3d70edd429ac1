-- What a code book answers in one edition.
use Rattle.std.specs.Prelude.{ℕ, Option}
use Rattle.ebr_base.specs.declared.numbers.Stamp.{Stamp}
use Rattle.ebr_base.specs.declared.object.ObjectKey.{ObjectKey}
use Rattle.ebr_code.specs.declared.book.Unit as compiled

pub record Book : Type 0 where
  pub unit : ObjectKey → Option compiled.Unit
  pub stamp : ObjectKey → Option Stamp
  pub objects : ℕ  -- how many objects are visible
