use Rattle.std.proofs.Common.{◌+◌, ◌-◌, ◌≤◌, ◌∙◌, drop, take, sum_by, ap, arith}
use Rattle.ebr_encoding.specs.declared.form.Form.TheVariants.{Short, Long}
use Rattle.ebr_journal.specs.Journal.{share_in}
use Rattle.ebr_startup.proofs.Gates.{first_of, long_gate, middle_of}
use Rattle.ebr_startup.proofs.gate.gate_behind.Goals as goal

pub share-requires-clause-small : goal.share-requires-clause-small
share-requires-clause-small c = first_of c.args.found.now c.requires.fit c.as_slice-records.result.now c.as_slice-records.ensures Short c.args.count

pub overflow_add-result : goal.overflow_add-result
overflow_add-result c = omega (arith, c.share.ensures, first_of c.args.found.now c.requires.fit c.as_slice-records.result.now c.as_slice-records.ensures Short c.args.count)

pub share-requires-2-clause-small : goal.share-requires-2-clause-small
share-requires-2-clause-small c = first_of c.args.found.now c.requires.fit c.as_slice-records.result.now c.as_slice-records.ensures Short c.args.found.now.short

pub overflow_add-result-2 : goal.overflow_add-result-2
overflow_add-result-2 c = omega (arith, c.share-2.ensures, first_of c.args.found.now c.requires.fit c.as_slice-records.result.now c.as_slice-records.ensures Short c.args.found.now.short)

pub share-requires-3-clause-small : goal.share-requires-3-clause-small
share-requires-3-clause-small c = middle_of c.args.found.now c.requires.fit c.as_slice-records.result.now c.as_slice-records.ensures Long (c.args.count - c.args.found.now.short) c.args.found.now.short

pub overflow_add-result-3 : goal.overflow_add-result-3
overflow_add-result-3 c =
    omega (
      arith,
      c.share-2.ensures,
      c.share-3.ensures,
      first_of c.args.found.now c.requires.fit c.as_slice-records.result.now c.as_slice-records.ensures Short c.args.found.now.short,
      middle_of c.args.found.now c.requires.fit c.as_slice-records.result.now
          c.as_slice-records.ensures Long (c.args.count - c.args.found.now.short) c.args.found.now.short,
    )

pub returns : goal.returns
returns c =
    let short = c.args.found.now.short in
    let first = c.share-2.ensures ∙ ap (λ l. sum_by (share_in Short) (take short l)) c.as_slice-records.ensures in
    let rest = c.share-3.ensures ∙ ap (λ l. sum_by (share_in Long) (take (c.args.count - short) (drop short l))) c.as_slice-records.ensures in
    let late : short ≤ c.args.count = omega (arith, c.if-count-short.false) in
    ap (λ n. 8 + n + c.share-3.result) first ∙ ap (λ n. 8 + sum_by (share_in Short) (take short c.args.found.now.records) + n) rest ∙ long_gate short c.args.count c.args.found.now.records c.requires.within late
