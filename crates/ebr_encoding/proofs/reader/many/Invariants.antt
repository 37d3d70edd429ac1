use Rattle.std.proofs.Common.{◌≡◌, ◌-◌}
use Rattle.ebr_encoding.specs.Reading.{many}
use Rattle.ebr_encoding.proofs.Loop.{with_front}
use Rattle.ebr_encoding.proofs.reader.many.Given as goal

-- what was read so far and what is still to be read are all that is read
abbrev pub invariant-loop : goal.invariant-loop
invariant-loop g l = with_front l.items (many g.T.Readable.read (l.count - l.counter) l.rest) ≡ many g.T.Readable.read l.count l.bytes
