-- A journal that begins, as a keeper.
use Rattle.std.proofs.Common.{◌≡◌, ◌≤◌, Bool, true, false, IsTrue, if◌then◌else◌, List, Some, None, Ok, refl, sym, ◌∙◌, ap, subst, arith}
use mathlib.Core.Bool.{false≢true}
use Rattle.ebr_outside.specs.Disk.{Medium, LeavesNow, Goes}
use Rattle.ebr_record.specs.declared.record.Record.{Record}
use Rattle.ebr_encoding.specs.declared.form.Form.{Form}
use Rattle.ebr_encoding.specs.declared.form.Form.TheVariants.{Short, Long}
use Rattle.ebr_journal.specs.declared.found.Found as found
use Rattle.ebr_journal.specs.declared.read.Walked.{Walked}
use Rattle.ebr_journal.specs.Journal.{last_gate}
use Rattle.ebr_journal.specs.Keeper.{kept, keeper_of, HasFront, IsSound}
use Rattle.ebr_journal.specs.Start.{Opened, IsOpened}
use Rattle.ebr_journal.specs.Begun.{Started}
use Rattle.ebr_journal.proofs.Gates.{has_front}
use Rattle.ebr_journal.proofs.Keeping.{at_rest, kept_is}
use Rattle.ebr_journal.proofs.Reading.{fit_of}

told_some : (b : Bool) (x y : List Record) → IsTrue b → x ≡ y → (if b then Some x else None) ≡ Some y
told_some true x y told same = ap (λ (l : List Record). Some l) same
told_some false x y told same = absurd (false≢true told)

module _ (m0 m : Medium) (w : Walked) (goes : Goes m0 m) (opened : Opened m0 (Ok w) m) where
  back : IsTrue m.tells → IsTrue m0.tells
  back told = subst IsTrue goes.tells told

  is_open : IsTrue m0.tells → IsOpened m0 m w
  is_open told = (opened.finds told).0

  front : (told : IsTrue m0.tells) → HasFront m.reads w.gate (is_open told).layout
  front told = let o = is_open told in has_front o.layout w.gate o.settled.place m.reads o.settled.safe.ends

  -- a gate so far in front has few records before it
  early : (form : Form) → w.gate ≤ last_gate form → w.gate ≤ 536870911
  early Short le = omega (arith, le)
  early Long le = omega (arith, le)

  pub sound : IsSound m w.gate w.used w.form false
  sound =
      let counts = opened.gate.0 in
      record {
        least = counts.some;
        within = opened.gate.1;
        room = counts.room;
        small = omega (arith, counts.small, counts.few, early w.form opened.gate.1);
        kept = λ told. let o = is_open (back told) in
            record { layout = o.layout; front = front (back told); counts = o.laid.counts; follows = o.laid.follows; settled = λ e. o.settled };
      }

  pub started : (IsTrue m.tells → LeavesNow m m.reads) → Started m0 m (keeper_of m w.gate w.used false) w.found
  started law = record {
    goes = goes;
    running = refl;
    at_rest = at_rest m w.gate w.used w.form false law sound;
    counted = opened.gate.0.counted;
    fit = fit_of w opened.gate.0;
    told = λ told. let o = is_open told in record {
      holds = o.holds;
      kept = told_some m.tells (kept m.reads w.gate) w.found.records (subst IsTrue (sym goes.tells) told)
          (kept_is m.reads w.gate o.layout (front told) ∙ sym (ap (λ (f : found.Found). f.records) o.laid.found));
      same = o.same;
      rests = (opened.finds told).1;
    };
  }
