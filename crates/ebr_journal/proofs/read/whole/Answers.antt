use Rattle.std.proofs.Common.{◌≡◌, ◌≤◌, length, subst, arith}
use Rattle.ebr_encoding.specs.declared.form.Form.{Form}
use Rattle.ebr_journal.specs.Journal.{front, last_gate}
use Rattle.ebr_journal.proofs.Reading.{leads_end}
use Rattle.ebr_journal.proofs.read.whole.Goals as goal

pub returns-clause-told : goal.returns-clause-told
returns-clause-told c = λ bytes long come closed.
    let w = c.args.walked in
    let last : c.last_gate.result ≡ last_gate w.form = c.last_gate.ensures in
    let room : length (front come.layout) ≤ last_gate w.form = omega (arith, last, c.if-walked-last_gate.false, come.leads.place) in
    record {
      layout = come.layout;
      safe = record {
        ends = leads_end bytes come.layout w.gate come.leads closed;
        room = subst (λ (f : Form). length (front come.layout) ≤ last_gate f) come.laid.follows room;
        short = omega (arith, long, c.if-len-gt-MAX_JOURNAL.false);
      };
      place = come.leads.place;
      laid = come.laid;
    }
