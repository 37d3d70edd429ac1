use Rattle.std.proofs.Common.{◌≡◌, inl, inr, ℕ, List, [], subst}
use Rattle.std.proofs.lemmas.Result.{err_from_is_err_and}
use Rattle.ebr_journal.specs.declared.read.Contents.TheVariants.{Blank, Journal, Damaged}
use Rattle.ebr_journal.specs.Found.{Are, ContentsAre}
use Rattle.ebr_journal.specs.Journal.{HasRecords}
use Rattle.ebr_journal.specs.Start.{IsAsRead}
use Rattle.ebr_journal.proofs.Moments.{told_after}
use Rattle.ebr_journal.proofs.Opening.{never_rests, rests_read, rests_weaker, same, told2, is_fresh, is_opened, rests_found, rests_made, opened_blank, begun_gate, begun_rests, fails}
use Rattle.ebr_journal.proofs.start.open.Goals as goal

pub returns-in_err-sync-clause-opened : goal.returns-in_err-sync-clause-opened
returns-in_err-sync-clause-opened g c =
    let m0 = g.D.Disk.as_medium c.args.disk.now in
    let p = err_from_is_err_and c.from_residual.result c.from_residual.ensures.1 in
    fails _ m0 _ _ p.0 p.1 p.2
    (λ told. record { same = inr (c.in_err-sync.ensures.syncs.reads told); images = inl (never_rests m0 told (g.D.Disk.leaves_less c.args.disk.now) _ (g.D.Disk.as_medium c.sync.new.self) c.in_err-sync.ensures.syncs) })

pub returns-in_err-found-clause-opened : goal.returns-in_err-found-clause-opened
returns-in_err-found-clause-opened g c =
    let m0 = g.D.Disk.as_medium c.args.disk.now in
    let m1 = g.D.Disk.as_medium c.sync.new.self in
    let m2 = g.D.Disk.as_medium c.found.new.disk in
    let p = err_from_is_err_and c.from_residual-in_err-found.result c.from_residual-in_err-found.ensures.1 in
    let law = g.D.Disk.leaves_less c.args.disk.now in
    let s = c.in_ok-sync.ensures.syncs in
    let still = c.found.ensures.stands in
    fails _ m0 _ _ p.0 p.1 p.2 (λ told. record {
      same = inr (same m0 told law _ m1 s m2 still);
      images = inr (rests_weaker m0 m2 (λ image. image ≡ m0.reads) (IsAsRead m0.reads) (rests_read m0 told law _ m1 s m2 still) (λ image is. inl is));
    })

pub returns-in-Journal-clause-opened : goal.returns-in-Journal-clause-opened
returns-in-Journal-clause-opened g c =
    let m0 = g.D.Disk.as_medium c.args.disk.now in
    let m1 = g.D.Disk.as_medium c.sync.new.self in
    let m2 = g.D.Disk.as_medium c.found.new.disk in
    let law = g.D.Disk.leaves_less c.args.disk.now in
    let s = c.in_ok-sync.ensures.syncs in
    let still = c.found.ensures.stands in
    let are = subst (ContentsAre m1) c.in-Journal.is c.in_ok-found.ensures.contents in
    record {
      gate = are.place;
      finds = λ told.
          let w = subst (λ (f : List ℕ). Are f (Journal c.in-Journal.walked)) (s.reads told) (are.told (told_after m0 m1 s.goes told)) in
          (is_opened m0 told law _ m1 s m2 still c.in-Journal.walked w, rests_found m0 told law _ m1 s m2 still c.in-Journal.walked w);
    }

pub returns-in-Damaged-clause-opened : goal.returns-in-Damaged-clause-opened
returns-in-Damaged-clause-opened g c =
    let m0 = g.D.Disk.as_medium c.args.disk.now in
    let m1 = g.D.Disk.as_medium c.sync.new.self in
    let m2 = g.D.Disk.as_medium c.found.new.disk in
    let law = g.D.Disk.leaves_less c.args.disk.now in
    let s = c.in_ok-sync.ensures.syncs in
    let still = c.found.ensures.stands in
    let are = subst (ContentsAre m1) c.in-Damaged.is c.in_ok-found.ensures.contents in
    record {
      gate = are.place;
      finds = λ told.
          let w = subst (λ (f : List ℕ). Are f (Damaged c.in-Damaged.at c.in-Damaged.before)) (s.reads told) (are.told (told_after m0 m1 s.goes told)) in
          (record { damaged = w; same = same m0 told law _ m1 s m2 still }, rests_read m0 told law _ m1 s m2 still);
    }

pub returns-in_err-make-in-Blank-clause-opened : goal.returns-in_err-make-in-Blank-clause-opened
returns-in_err-make-in-Blank-clause-opened g c =
    let m0 = g.D.Disk.as_medium c.args.disk.now in
    let m1 = g.D.Disk.as_medium c.sync.new.self in
    let m2 = g.D.Disk.as_medium c.found.new.disk in
    let law = g.D.Disk.leaves_less c.args.disk.now in
    let s = c.in_ok-sync.ensures.syncs in
    let still = c.found.ensures.stands in
    let are = subst (ContentsAre m1) c.in-Blank.is c.in_ok-found.ensures.contents in
    let m3 = g.D.Disk.as_medium c.make.new.disk in
    let p = err_from_is_err_and c.from_residual-in_err-make-in-Blank.result c.from_residual-in_err-make-in-Blank.ensures.1 in
    fails _ m0 _ _ p.0 p.1 p.2 (λ told.
    let blank = subst (λ (f : List ℕ). Are f Blank) (s.reads told) (are.told (told_after m0 m1 s.goes told)) in
    record { same = inl blank; images = inr (rests_weaker m0 m3 (λ image. HasRecords image []) (IsAsRead m0.reads) (rests_made m0 told law _ m1 s m2 still blank _ m3 (c.in_err-make-in-Blank.ensures.makes (told2 m0 told law _ m1 s m2 still) (is_fresh m0 told law _ m1 s m2 still blank))) (λ image now. inr (blank, now))) })

pub returns-in_ok-make-in-Blank-clause-opened : goal.returns-in_ok-make-in-Blank-clause-opened
returns-in_ok-make-in-Blank-clause-opened g c =
    let m0 = g.D.Disk.as_medium c.args.disk.now in
    let m1 = g.D.Disk.as_medium c.sync.new.self in
    let m2 = g.D.Disk.as_medium c.found.new.disk in
    let law = g.D.Disk.leaves_less c.args.disk.now in
    let s = c.in_ok-sync.ensures.syncs in
    let still = c.found.ensures.stands in
    let are = subst (ContentsAre m1) c.in-Blank.is c.in_ok-found.ensures.contents in
    let m3 = g.D.Disk.as_medium c.make.new.disk in
    record {
      gate = begun_gate c.begin.result c.begin.ensures;
      finds = λ told.
          let blank = subst (λ (f : List ℕ). Are f Blank) (s.reads told) (are.told (told_after m0 m1 s.goes told)) in
          let makes = c.in_ok-make-in-Blank.ensures.makes (told2 m0 told law _ m1 s m2 still) (is_fresh m0 told law _ m1 s m2 still blank) in
          (opened_blank m0 m3 c.begin.result c.begin.ensures blank makes.made, begun_rests m0 m3 c.begin.result c.begin.ensures blank (rests_made m0 told law _ m1 s m2 still blank _ m3 makes));
    }
