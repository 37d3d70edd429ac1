use Rattle.std.proofs.Common.{◌≡◌, ◌+◌, ◌-◌, ℕ, List, take, drop, ◌∙◌, ap, subst, arith, IsTrue}
use Rattle.std.proofs.lemmas.Result.{IfOk-weaker}
use Rattle.ebr_journal.specs.Found.{head, IsRead, StandsAt}
use Rattle.ebr_journal.specs.Journal.{size_bytes}
use Rattle.ebr_journal.specs.Pieces.{IsPartOf}
use Rattle.ebr_journal.proofs.Moments.{told_after}
use Rattle.ebr_journal.proofs.Reading.{too_large, gate_is}
use Rattle.ebr_journal.proofs.read.behind_gate.Goals as goal

pub returns-then-size-most_bytes-clause-gate : goal.returns-then-size-most_bytes-clause-gate
returns-then-size-most_bytes-clause-gate g c = λ told.
    let m0 = g.D.Disk.as_medium c.args.disk.now in
    let m1 = g.D.Disk.as_medium c.cover.new.disk in
    let stands = c.cover.ensures.stands in
    let part : IsPartOf m0.reads c.cover.new.self = subst (λ (b : List ℕ). IsPartOf b c.cover.new.self) stands.reads (c.in_ok-cover.ensures.shows (told_after m0 m1 stands.goes told)) in
    let heads : c.head-head.result ≡ head c.args.form = c.head-head.ensures in
    let is : size_bytes c.args.form c.number-size.result ≡ take (head c.args.form - 1) (drop (c.args.place + 1) m0.reads) =
    c.number-size.ensures.spelled ∙ c.slice.ensures.part m0.reads part ∙ ap (λ (n : ℕ). take (n - 1) (drop (c.args.place + 1) m0.reads)) heads in
    too_large m0.reads c.args.place c.args.form (c.requires.opened told) c.number-size.result c.number-size.ensures.small is (omega (arith, c.most_bytes.ensures, c.if-size-most_bytes.true))

pub returns-clause-gate : goal.returns-clause-gate
returns-clause-gate g c =
    let m0 = g.D.Disk.as_medium c.args.disk.now in
    let m1 = g.D.Disk.as_medium c.cover.new.disk in
    let m2 = g.D.Disk.as_medium c.cover-2.new.disk in
    let stands = c.cover.ensures.stands in
    let stands2 = c.cover-2.ensures.stands in
    let form = c.args.form in
    let place = c.args.place in
    let size = c.number-size.result in
    let heads : c.head-head.result ≡ head form = c.head-head.ensures in
    IfOk-weaker c.read.result (IsRead form c.slice-2.result.now _) (λ gate. IsTrue m0.tells → StandsAt m0.reads place form gate) (λ gate read told.
    let told1 = told_after m0 m1 stands.goes told in
    let told2 = told_after m1 m2 stands2.goes told1 in
    let part : IsPartOf m0.reads c.cover.new.self = subst (λ (b : List ℕ). IsPartOf b c.cover.new.self) stands.reads (c.in_ok-cover.ensures.shows told1) in
    let part2 : IsPartOf m0.reads c.cover-2.new.self = subst (λ (b : List ℕ). IsPartOf b c.cover-2.new.self) (stands2.reads ∙ stands.reads) (c.in_ok-cover-2.ensures.shows told2) in
    let is : size_bytes form size ≡ take (head form - 1) (drop (place + 1) m0.reads) =
    c.number-size.ensures.spelled ∙ c.slice.ensures.part m0.reads part ∙ ap (λ (n : ℕ). take (n - 1) (drop (place + 1) m0.reads)) heads in
    let reads : c.slice-2.result.now ≡ take size (drop (place + head form) m0.reads) = c.slice-2.ensures.part m0.reads part2 ∙ ap (λ (n : ℕ). take size (drop (place + n) m0.reads)) heads in
    let len = c.requires.told told in
    gate_is m0.reads place form (c.requires.opened told) size c.number-size.ensures.small is (omega (arith, len, c.requires.within)) c.slice-2.result.now reads c.slice-2.ensures.long
    (omega (arith, len, heads, c.if-len-place.false, c.if-len-place-2.false)) _ gate read) c.read.ensures.read
