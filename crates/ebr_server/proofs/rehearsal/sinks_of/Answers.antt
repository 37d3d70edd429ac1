use Rattle.ebr_server.proofs.rehearsal.sinks_of.Goals as goal

pub returns : goal.returns
returns g c = record { words_are = c.into_sinks.ensures.words; unwritten = c.into_sinks.ensures.unwritten }
