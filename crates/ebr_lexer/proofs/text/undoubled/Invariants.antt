use Rattle.std.proofs.Common.{◌≡◌, ◌++◌, drop, false}
use Rattle.ebr_lexer.specs.Reading.{undoubled}
use Rattle.ebr_lexer.proofs.text.undoubled.Given as goal

-- the content so far, and that of the rest
abbrev pub invariant-loop-byte : goal.invariant-loop-byte
invariant-loop-byte l = l.content ++ undoubled l.pending (drop l.byte-index l.spelled) ≡ undoubled false l.spelled
