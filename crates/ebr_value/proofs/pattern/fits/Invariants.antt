use Rattle.std.proofs.Common.{◌≡◌, drop}
use Rattle.ebr_value.specs.inside.Parts.{fits}
use Rattle.ebr_value.proofs.pattern.fits.Given as goal

-- what is left of the part has to fit what is left of the text
abbrev pub invariant-loop-i : goal.invariant-loop-i
invariant-loop-i l = fits (drop l.i l.part) (drop l.i l.text) ≡ fits l.part l.text
