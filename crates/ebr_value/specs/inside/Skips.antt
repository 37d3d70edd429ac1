-- How a part of a text is found.
use Rattle.std.specs.Prelude.{ℕ, ℤ, ◌-◌, unsigned_abs, if◌then◌else◌, Option, Some, None}
use Rattle.ebr_value.specs.Places.{start, is_place}

-- How many bytes stand before the place where a part begins; none where that lies outside.
abbrev pub skipped : ℕ → ℤ → Option ℕ
skipped n p = if is_place n (start n p) then Some (unsigned_abs (start n p) - 1) else None
