use Rattle.std.proofs.Common.{◌≡◌, ◌+◌, ◌-◌, ◌++◌, ◌∷◌, [], length, drop, ap, sym, ◌∙◌, subst, arith}
use Rattle.std.proofs.lemmas.List.{length-append}
use Rattle.ebr_cut.specs.Reading.{blanks_length}
use Rattle.ebr_cut.specs.inside.Ahead.{Knows, Sees}
use Rattle.ebr_cut.proofs.Lengths.{knows_none, sees_none, knows_last, knows_more, one_back}
use Rattle.ebr_cut.proofs.blank.blank_lengths.Goals as goal

pub loop-count-init : goal.loop-count-init
loop-count-init c =
    let only : c.push.new.self ≡ 0 ∷ [] = c.in_ok-push.ensures.ok ∙ ap (λ k. k ++ 0 ∷ []) c.new-lengths.ensures in
    record { known = knows_none c.push.new.self c.args.script.now only; long = ap length only; seen = sees_none c.args.script.now }

pub blanks_before-length-requires-clause-seen : goal.blanks_before-length-requires-clause-seen
blanks_before-length-requires-clause-seen c =
    subst (λ k. Sees k c.loop-count.seen) (sym (one_back c.args.script.now c.rest_from-rest.result.now c.loop-count.count c.loop-count-test.true c.rest_from-rest.ensures)) c.loop-count.invariant.seen

pub blanks_before-length-requires-clause-known : goal.blanks_before-length-requires-clause-known
blanks_before-length-requires-clause-known c =
    let script = c.args.script.now in
    let rest = c.rest_from-rest.result.now in
    let i = c.loop-count.count in
    subst (λ k. Knows k (drop 1 rest)) (sym c.as_slice.ensures)
    (knows_last i c.loop-count.lengths script (drop 1 rest) c.loop-count.invariant.known c.loop-count.invariant.long c.loop-count.auto.count-end
    (one_back script rest i c.loop-count-test.true c.rest_from-rest.ensures))

pub seen_from-seen-requires-clause-seen : goal.seen_from-seen-requires-clause-seen
seen_from-seen-requires-clause-seen c =
    subst (λ k. Sees k c.loop-count.seen) (sym (one_back c.args.script.now c.rest_from-rest.result.now c.loop-count.count c.loop-count-test.true c.rest_from-rest.ensures)) c.loop-count.invariant.seen

pub loop-count-preserved : goal.loop-count-preserved
loop-count-preserved c =
    let script = c.args.script.now in
    let i = c.loop-count.count in
    let place : length script - 1 - i ≡ length script - (i + 1) = omega arith in
    let rest : c.rest_from-rest.result.now ≡ drop (length script - (i + 1)) script = c.rest_from-rest.ensures ∙ ap (λ j. drop j script) place in
    let x = c.blanks_before-length.result in
    let pushed = c.in_ok-push-2.ensures.ok in
    let len = ap length pushed ∙ length-append c.loop-count.lengths (x ∷ []) in
    record {
      known = knows_more i x c.loop-count.lengths c.push-in-loop-count.new.self script c.loop-count.invariant.known c.loop-count.invariant.long pushed
          (c.blanks_before-length.ensures ∙ ap (λ k. blanks_length k) rest);
      long = omega (arith, len, c.loop-count.invariant.long);
      seen = subst (λ k. Sees k c.seen_from-seen.result) rest c.seen_from-seen.ensures;
    }
