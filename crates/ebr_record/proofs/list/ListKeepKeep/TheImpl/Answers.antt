use Rattle.std.proofs.Common.{subst, sym}
use Rattle.ebr_record.specs.Keeper.{Answered, Becomes, Elapses}
use Rattle.ebr_record.specs.InMemory.{ListState, as_keeper}
use Rattle.ebr_record.proofs.ToldLemmas.{answered, at_rest, becomes, elapses}
use Rattle.ebr_record.proofs.list.ListKeepKeep.TheImpl.Goals as goal

pub keep-tells : goal.keep-tells
keep-tells x c =
    let old = c.args.self.now in
    let r = c.args.r.now in
    let after = sym c.ensures.after in
    record {
      answer = subst (λ (new : ListState). Answered (as_keeper old) (as_keeper new) r c.result) after (answered old r c.result c.ensures.answer);
      after = subst (λ (new : ListState). Becomes (as_keeper old) (as_keeper new) r c.result) after (becomes old r c.result);
      rest = at_rest c.new.self.now c.ensures.within;
      moments = λ tells. subst (λ (new : ListState). Elapses (as_keeper old) (as_keeper new) r c.result) after (elapses old r c.result);
    }
