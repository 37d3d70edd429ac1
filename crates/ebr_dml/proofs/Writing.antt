-- What stays where a transaction makes a change.
use Rattle.std.proofs.Common.{◌≡◌, ◌+◌, [], ◌∷◌, Result, Ok, Err, length, refl, sym, ap, subst, ◌∙◌, arith, length-append}
use Rattle.std.specs.Prelude.{OnOk, OnErr}
use Rattle.ebr_base.specs.declared.code.Stop.{Stop}
use Rattle.ebr_base.specs.declared.row.Change.{Change}
use Rattle.ebr_base.specs.declared.row.TxId.{TxId}
use Rattle.ebr_tx.specs.Data.{Data, IsLive, own, changed}
use Rattle.ebr_tx.specs.Calls.{after_change, with_change}
use Rattle.ebr_tx.proofs.Stays.{stacks-stay, own-after}
use Rattle.ebr_dml.specs.Steps.{Stays}

pub own-change : (d : Data) (t : TxId) (c : Change) → IsLive d t → own (after_change d t c) t ≡ with_change c (own d t)
own-change d t c there = own-after t (with_change c) (λ x. refl) d.live (changed t (with_change c) d.live) refl there

stays-changed : (d : Data) (t : TxId) (c : Change) → IsLive d t → Stays d t (after_change d t c)
stays-changed d t c there = record {
  names = stacks-stay t (with_change c) (λ x. refl) d.live (changed t (with_change c) d.live) refl;
  begun = ap (λ x. x.begun) (own-change d t c there);
  tables = refl;
  marks = λ m k.
      let more : length (own (after_change d t c) t).changes ≡ length (own d t).changes + 1
      = ap (λ x. length x.changes) (own-change d t c there) ∙ length-append (own d t).changes (c ∷ []) in
      record { begun = k.begun; changes = omega (arith, k.changes, more); locks = k.locks };
}

stays-same : (d : Data) (t : TxId) → Stays d t d
stays-same d t = record { names = refl; begun = refl; tables = refl; marks = λ m k. k }

pub stays-unchanged : (d after : Data) (t : TxId) → after ≡ d → Stays d t after
stays-unchanged d after t e = subst (Stays d t) (sym e) (stays-same d t)

pub stays : {T : Type 0} (d after : Data) (t : TxId) (c : Change) (r : Result T Stop) → IsLive d t → OnOk r (after ≡ after_change d t c) → OnErr r (after ≡ d) → Stays d t after
stays d after t c (Ok x) there is same = subst (Stays d t) (sym is) (stays-changed d t c there)
stays d after t c (Err e) there is same = stays-unchanged d after t same
