-- The turns of a loop over numbers behind the first one.
use Rattle.std.specs.Prelude.{ℤ, pos, ◌+ℤ◌, ◌-ℤ◌, int_lt, Bool, true, false, if◌then◌else◌}

abbrev pub ends_of : Bool → ℤ → ℤ → ℤ × ℤ
ends_of true low high = (low, high -ℤ pos 1)
ends_of false low high = (low +ℤ pos 1, high)

-- the ends of the turns behind the first one
abbrev pub others_of : Bool → ℤ → ℤ → ℤ × ℤ
others_of reversed low high = if int_lt low high then ends_of reversed low high else (pos 1, pos 0)
