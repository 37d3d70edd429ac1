use Rattle.std.proofs.Common.{None, Some, codes, sym, ◌∙◌}
use Rattle.std.specs.Cmp.{unsigned_Decides}
use Rattle.std.proofs.lemmas.Slice.Eq.{strip_suffix_is}
use Rattle.ebr_words.proofs.Differing.{no_sink, sink_of}
use Rattle.ebr_words.proofs.apart.is_sink.Goals as goal

pub returns-in-Some : goal.returns-in-Some
returns-in-Some c =
    c.stands_in.ensures
    ∙ sink_of c.args.word.now c.in-Some.script.now c.args.scripts.now (strip_suffix_is unsigned_Decides c.args.word.now (codes ".out") (Some c.in-Some.script) c.in-Some.ensures.cases)

pub returns-in-None : goal.returns-in-None
returns-in-None c = sym (no_sink c.args.word.now c.args.scripts.now (strip_suffix_is unsigned_Decides c.args.word.now (codes ".out") None c.in-None.ensures.cases))
