use Rattle.std.proofs.Common.{◌≡◌, ◌∙◌, true, not, ◌&&◌, length, ap, sym, rules}
use Rattle.std.specs.Prelude.{IsTrue, ◌↔◌, nat_le, nat_lt}
use Rattle.std.specs.List.{list_any}
use Rattle.ebr_tx.specs.Limits.{max_changes}
use Rattle.ebr_tx.specs.Commits.{IsAllowedOf, IsNumbered}
use Rattle.ebr_tx.specs.inside.Loading.{shares_key, AreGathered}
use Rattle.ebr_tx.proofs.Answered.{if_ok}
use Rattle.ebr_tx.proofs.LoadLemmas.{not_following, allowed_if}
use Rattle.ebr_tx.proofs.load.is_allowed.Goals as goal

pub returns-then-not-follow : goal.returns-then-not-follow
returns-then-not-follow c = not_following c.args.versions.now.commits c.args.versions.now.tables c.args.changes.now (search rules)

pub returns : goal.returns
returns c =
    let size : (nat_lt 0 (length c.args.changes.now) && nat_le (length c.args.changes.now) max_changes) ≡ true = search rules in
    let goes_on : c.in_ok-follow.follow ≡ true = search rules in
    let all : AreGathered c.args.versions.now.tables c.args.changes.now c.gather.new.own c.gather.new.rows = c.in_ok-follow.ensures.gathered goes_on in
    if_ok (λ differ. differ ≡ not (list_any (shares_key c.args.versions.now.commits c.args.versions.now.tables c.gather.new.own.changes) c.as_slice.result.now))
    (λ allowed. IsTrue allowed ↔ IsAllowedOf IsNumbered c.args.versions.now.tables c.args.versions.now.commits c.args.changes.now) c.keys_differ.result
    (λ differ is.
    allowed_if c.args.versions.now.commits c.args.versions.now.tables c.args.changes.now size (sym c.in_ok-follow.ensures.follow ∙ goes_on) c.count.ensures.sound.keys c.gather.new.rows all.of differ
    (is ∙ ap (λ cs. not (list_any (shares_key c.args.versions.now.commits c.args.versions.now.tables cs) c.as_slice.result.now)) all.are
    ∙ ap (λ rows. not (list_any (shares_key c.args.versions.now.commits c.args.versions.now.tables c.args.changes.now) rows)) c.as_slice.ensures))
    c.keys_differ.ensures
