-- Reading by a production is right, where one token is enough to choose by.
use Rattle.std.proofs.Common.{None}
use Rattle.ebr_grammar.specs.Reading.{first}
use Rattle.ebr_grammar.specs.Choice.{after}
use Rattle.ebr_grammar.proofs.Right.{IsReader}
use Rattle.ebr_grammar.proofs.Outside.{IsReadable, reader_over}
use Rattle.ebr_plparse.specs.Productions.{P, hints, SpelledBy, reads_by}

pub reader : {C : Type 0} (g : P C) → IsReadable hints g → IsReader (first hints g) (after hints g) (SpelledBy g) (reads_by g)
reader g is = reader_over hints (λ _ ts a. ⊥) (λ _ ts. None) (λ part. absurd part) g is
