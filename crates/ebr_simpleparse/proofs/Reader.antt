-- Reading by a production that holds none by its name is right.
use Rattle.std.proofs.Common.{None}
use Rattle.ebr_grammar.specs.Reading.{first}
use Rattle.ebr_grammar.specs.Choice.{after}
use Rattle.ebr_grammar.proofs.Right.{IsReader}
use Rattle.ebr_grammar.proofs.Outside.{IsReadable, reader_over}
use Rattle.ebr_simpleparse.specs.Types.{Plain, plain_hints, SpelledPlainly, reads_plainly}

pub reads_plain : {C : Type 0} (g : Plain C) → IsReadable plain_hints g → IsReader (first plain_hints g) (after plain_hints g) (SpelledPlainly g) (reads_plainly g)
reads_plain g is = reader_over plain_hints (λ _ ts a. ⊥) (λ _ ts. None) (λ part. absurd part) g is
