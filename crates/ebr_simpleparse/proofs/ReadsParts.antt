-- Reading by a production in which types and bounds stand is right.
use Rattle.ebr_grammar.specs.Reading.{first}
use Rattle.ebr_grammar.specs.Choice.{after}
use Rattle.ebr_grammar.proofs.Right.{IsReader}
use Rattle.ebr_grammar.proofs.Outside.{IsReadable, reader_over}
use Rattle.ebr_simpleparse.specs.Productions.{Part, a_type, a_bound, SpellsPart, part_reader, part_begins, part_goes_on, hints, P, SpelledBy, reads_by}
use Rattle.ebr_simpleparse.proofs.ReadsType.{reads_typed}
use Rattle.ebr_simpleparse.proofs.ReadsBound.{reads_bounds}

reads_parts : (part : Part) → IsReader (hints.begins part) (hints.goes_on part) (SpellsPart part) (part_reader part)
unfolding hints part_begins part_goes_on
reads_parts a_type = reads_typed
reads_parts a_bound = reads_bounds

pub reader : {C : Type 0} (g : P C) → IsReadable hints g → IsReader (first hints g) (after hints g) (SpelledBy g) (reads_by g)
reader g is = reader_over hints SpellsPart part_reader reads_parts g is
