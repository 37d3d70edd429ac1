use Rattle.std.proofs.Common.{◌≡◌, ◌≤◌, ◌-◌, drop, length}
use Rattle.ebr_lexer.specs.Reading.{read, with_front}
use Rattle.ebr_lexer.proofs.scan.scan.Given as goal

-- the tokens so far, and those of the rest
abbrev pub invariant-loop : goal.invariant-loop
invariant-loop l = record {
  same : with_front l.tokens (read (length l.bytes - l.counter) l.place (drop l.place l.bytes)) ≡ read (length l.bytes) 0 l.bytes;
  within : l.place ≤ length l.bytes;
}
