use Rattle.std.proofs.Common.{inr, false, refl, [], ◌∷◌, ◌++◌, ◌∙◌, ap}
use Rattle.ebr_server.specs.Program.{code_of_ends}
use Rattle.ebr_server.proofs.Replies.{replies_told}
use Rattle.ebr_server.proofs.command.run_script.Goals as goal

pub returns-in-Ok-run_alone-clause-served : goal.returns-in-Ok-run_alone-clause-served
returns-in-Ok-run_alone-clause-served g c = λ bytes disks sink_word sink_held sink_faults.
    let ended = c.in-Ok-run_alone.ended in
    let pushed = c.push_reserved.ensures.items ∙ ap (λ es. es ++ c.without_sink-end.result.0 ∷ []) c.in-Ok.ensures.items in
    inr (replies_told g.R.Sink.held g.R.Sink.faults g.R.Sink.word _ c.args.words.now _ ended c.without_sink-end.result.1 c.tell_replies-code.new.report c.without_sink-end.result.0 _ _ _ _ _ _ _ _
    c.in-Ok-run_alone.ensures.ran c.without_sink-end.ensures.sink c.without_sink-end.ensures.end refl (c.from_vec.ensures ∙ pushed) c.new-in-Ok-run_alone.ensures refl refl refl
    (c.tell_replies-code.ensures.code ∙ ap (λ h. code_of_ends h c.as_slice-in-Ok-run_alone.result.now false) c.as_slice.ensures
    ∙ ap (λ es. code_of_ends c.in-Ok-run_alone.history es false) (c.as_slice-in-Ok-run_alone.ensures.value ∙ pushed))
    c.tell_replies-code.ensures.report c.tell_replies-code.ensures.fails)
