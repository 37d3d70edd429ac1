-- Reading by a production is right, where one token is enough to choose by.
use Rattle.ebr_grammar.specs.Reading.{first}
use Rattle.ebr_grammar.specs.Choice.{after}
use Rattle.ebr_grammar.proofs.Right.{IsReader}
use Rattle.ebr_grammar.proofs.Outside.{IsReadable, reader_over}
use Rattle.ebr_sqlparse.specs.Productions.{P, SpellsPart, part_reader, hints, SpelledBy, reads_by}
use Rattle.ebr_sqlparse.proofs.ReadsItem.{reads_what}

pub reader : {C : Type 0} (g : P C) → IsReadable hints g → IsReader (first hints g) (after hints g) (SpelledBy g) (reads_by g)
reader g is = reader_over hints SpellsPart part_reader (λ _. reads_what) g is
