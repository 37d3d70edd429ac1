use Rattle.std.proofs.Common.{◌≡◌, List, sym, subst}
use Rattle.ebr_locks.specs.Locks.{Lock}
use Rattle.ebr_locks.specs.inside.Filed.{with_place, taken_of}
use Rattle.ebr_locks.proofs.PlaceLemmas.{given_back}
use Rattle.ebr_locks.proofs.locks.give_back.Goals as goal

pub returns-in-Some : goal.returns-in-Some
returns-in-Some c =
    let all : List Lock = c.args.list.now in
    subst (λ p. c.release_last.new.self ≡ taken_of all p) (sym c.in-Some.is)
    (given_back c.in-Some.lock all c.release_last.new.self (subst (λ p. all ≡ with_place (taken_of all p) p) c.in-Some.is c.requires) c.release_last.ensures)
