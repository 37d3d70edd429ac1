use Rattle.std.proofs.Common.{refl, ap, subst, sym, ◌∙◌}
use Rattle.ebr_locks.specs.Locks.{LockTable, AreLocks, locks_of, others_than, released}
use Rattle.ebr_locks.proofs.PlaceLemmas.{locks_taken}
use Rattle.ebr_locks.proofs.Released.{released-own, released-others, locks-released}
use Rattle.ebr_locks.proofs.locks.Locks.release_to.Goals as goal

pub invariant_of-self : goal.invariant_of-self
invariant_of-self c = record {
  split = refl;
  locks = subst AreLocks (sym (c.release_to.ensures ∙ ap (released c.args.tx c.args.mark) c.give_back.ensures)) (locks-released c.args.tx c.args.mark _ (locks_taken c.self.inside.list c.self.inside.place c.self.invariant));
}

pub returns-clause-taken : goal.returns-clause-taken
returns-clause-taken c = c.release_to.ensures ∙ ap (released c.args.tx c.args.mark) c.give_back.ensures ∙ ap (λ (s : LockTable). released c.args.tx c.args.mark s.taken) c.self.view_is

pub returns-clause-own : goal.returns-clause-own
returns-clause-own c = ap (locks_of c.args.tx) (returns-clause-taken c) ∙ released-own c.args.tx c.args.mark c.args.self.now.taken

pub returns-clause-others : goal.returns-clause-others
returns-clause-others c = ap (others_than c.args.tx) (returns-clause-taken c) ∙ released-others c.args.tx c.args.mark c.args.self.now.taken
