use Rattle.std.proofs.Common.{◌≡◌, drop, map}
use Rattle.std.specs.Str.{bytes_eq}
use Rattle.ebr_base.specs.Word.{upper}
use Rattle.ebr_cut.proofs.head.is_same.Given as goal

abbrev pub invariant-loop-i : goal.invariant-loop-i
invariant-loop-i l = bytes_eq (map upper (drop l.i l.bytes)) (drop l.i l.word) ≡ bytes_eq (map upper l.bytes) l.word
