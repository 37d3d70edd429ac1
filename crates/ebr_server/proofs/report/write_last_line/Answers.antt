use Rattle.ebr_server.proofs.report.write_last_line.Goals as goal

pub returns-in-HostFault-clause-part : goal.returns-in-HostFault-clause-part
returns-in-HostFault-clause-part g c = rw (c.in-HostFault.is, ← c.word_at.ensures) c.write_line-in-HostFault.ensures.part

pub returns-in-HostFault-clause-whole : goal.returns-in-HostFault-clause-whole
returns-in-HostFault-clause-whole g c = rw (c.in-HostFault.is, ← c.word_at.ensures) c.write_line-in-HostFault.ensures.whole

pub returns-in-BadOrder-clause-whole : goal.returns-in-BadOrder-clause-whole
returns-in-BadOrder-clause-whole g c = rw (c.in-BadOrder.is, ← c.from.ensures) c.write_numbered-in-BadOrder.ensures.whole
