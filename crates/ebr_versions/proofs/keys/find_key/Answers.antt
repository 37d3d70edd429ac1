use Rattle.std.proofs.Common.{◌≡◌, ◌≤◌, ◌<◌, ◌+◌, ◌*◌, ◌∙◌, ⊎_elim, ℕ, take, Some, sym, subst, ap, arith}
use Rattle.std.proofs.lemmas.Bool.{cases_lt}
use Rattle.ebr_base.specs.declared.row.RowId.{RowId}
use Rattle.ebr_base.specs.declared.numbers.RowNo.{RowNo}
use Rattle.ebr_spots.specs.declared.spot.Spot.{Spot}
use Rattle.ebr_versions.specs.Keys.{key_at, row_in}
use Rattle.ebr_versions.specs.inside.Print.{key_number}
use Rattle.ebr_versions.proofs.Givers.{HoldersBefore, starts_before, none_left, goes_back, nobody, giver_is}
use Rattle.ebr_versions.proofs.keys.find_key.Goals as goal

pub loop-last-init : goal.loop-last-init
loop-last-init c =
    let e : c.spot-end.result ≡ record { table = c.args.t.0; number = key_number c.args.key.now; list = c.args.n; place = 0 } =
    c.spot-end.ensures ∙ λ i. record { table = c.args.t.0; number = c.key_print-print.ensures i; list = c.args.n; place = 0 } in
    record {
      is = (ap (λ (s : Spot). s.table) e, ap (λ (s : Spot). s.number) e);
      before = subst (λ (s : Spot). HoldersBefore c.args.commits.now c.args.places.now c.args.t c.args.key.now c.args.n s) (sym e)
          (starts_before c.args.commits.now c.args.rows.now c.args.keys.now c.args.places.now c.args.t c.args.key.now c.args.n c.requires.row_index c.requires.key_index c.requires.differ c.requires.within c.requires.some c.requires.as_many);
      within = omega (arith, ap (λ (s : Spot). s.list) e);
      starts = λ _. ap (λ (s : Spot). s.place) e;
    }

-- the last spot stands in the first n commits
under : (n : ℕ) (end k : Spot) → end.list ≤ n → (end.list ≡ n → end.place ≡ 0) → k.list ≤ end.list → (k.list ≡ end.list → k.place < end.place) → k.list < n
under n end k within starts list place = ⊎_elim (λ (a : k.list < n). a) (λ (b : n ≤ k.list).
    let x : k.list ≡ end.list = omega (arith, b, within, list) in
    let y : end.list ≡ n = omega (arith, b, within, list) in
    absurd (omega (arith, place x, starts y))) (cases_lt k.list n)

pub judge-requires-clause-under : goal.judge-requires-clause-under
judge-requires-clause-under c =
    under c.args.n c.loop-last.end c.in-Some.last c.loop-last.invariant.within c.loop-last.invariant.starts c.in-Some.ensures.some.before.list c.in-Some.ensures.some.before.place

pub returns-in-Holder-clause-found : goal.returns-in-Holder-clause-found
returns-in-Holder-clause-found c =
    let j = c.in-Holder.ensures in
    let l = under c.args.n c.loop-last.end c.in-Some.last c.loop-last.invariant.within c.loop-last.invariant.starts c.in-Some.ensures.some.before.list c.in-Some.ensures.some.before.place in
    let is = giver_is c.args.commits.now c.args.rows.now c.args.keys.now c.args.places.now c.args.t c.args.key.now c.args.n c.requires.row_index c.requires.key_index c.requires.differ c.requires.within c.requires.some c.requires.as_many
    c.loop-last.end c.in-Some.last j.0 c.loop-last.invariant.is c.in-Some.ensures.some l j.1 in
    subst (λ (row : RowId). key_at (take c.args.n c.args.commits.now) c.args.places.now row ≡ Some c.args.key.now) (is ∙ ap (λ (r : RowNo). row_in c.args.t r) j.2) j.3

pub returns-in-Nobody-clause-none : goal.returns-in-Nobody-clause-none
returns-in-Nobody-clause-none c =
    let j = c.in-Nobody.ensures in
    let l = under c.args.n c.loop-last.end c.in-Some.last c.loop-last.invariant.within c.loop-last.invariant.starts c.in-Some.ensures.some.before.list c.in-Some.ensures.some.before.place in
    nobody c.args.commits.now c.args.rows.now c.args.keys.now c.args.places.now c.args.t c.args.key.now c.args.n c.requires.row_index c.requires.key_index c.requires.differ c.requires.within c.requires.some c.requires.as_many
    c.loop-last.end c.in-Some.last j.0 c.loop-last.invariant.is c.loop-last.invariant.before c.in-Some.ensures.some l j.1 j.2 j.3

pub loop-last-preserved : goal.loop-last-preserved
loop-last-preserved c =
    let l = under c.args.n c.loop-last.end c.in-Some.last c.loop-last.invariant.within c.loop-last.invariant.starts c.in-Some.ensures.some.before.list c.in-Some.ensures.some.before.place in
    record {
      is = (c.in-Some.ensures.some.table ∙ c.loop-last.invariant.is.0, c.in-Some.ensures.some.number ∙ c.loop-last.invariant.is.1);
      before = goes_back c.args.commits.now c.args.rows.now c.args.keys.now c.args.places.now c.args.t c.args.key.now c.args.n c.requires.row_index c.requires.key_index c.requires.differ c.requires.within c.requires.some c.requires.as_many
          c.loop-last.end c.in-Some.last c.loop-last.invariant.is c.loop-last.invariant.before c.in-Some.ensures.some c.in-Further.ensures;
      within = omega (arith, l);
      starts = λ e. absurd (omega (arith, l, e));
    }

pub loop-last-smaller : goal.loop-last-smaller
loop-last-smaller c =
    let fits : c.in-Some.last.place ≤ 18446744073709551615 = (c.fit.ensures c.in-Some.last c.in-Some.ensures.some.here).place in
    smaller c.in-Some.last.list c.in-Some.last.place c.loop-last.end.list c.loop-last.end.place fits c.in-Some.ensures.some.before.list c.in-Some.ensures.some.before.place
  where
    smaller : (i p j q : ℕ) → p ≤ 18446744073709551615 → i ≤ j → (i ≡ j → p < q) → i * 18446744073709551616 + p < j * 18446744073709551616 + q
    smaller i p j q fits le less = ⊎_elim (λ (a : i < j). omega (arith, a, fits)) (λ (b : j ≤ i). let e : i ≡ j = omega (arith, b, le) in omega (arith, e, less e)) (cases_lt i j)

pub returns-clause-none : goal.returns-clause-none
returns-clause-none c =
    none_left c.args.commits.now c.args.rows.now c.args.keys.now c.args.places.now c.args.t c.args.key.now c.args.n c.requires.row_index c.requires.key_index c.requires.differ c.requires.within c.requires.some c.requires.as_many
    c.loop-last.end c.loop-last.invariant.is c.loop-last.invariant.before c.in_default.ensures.none
