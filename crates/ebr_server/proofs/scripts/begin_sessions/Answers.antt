use Rattle.std.proofs.Common.{◌<◌, ◌⊎◌, None, ap, sym, subst, refl, ◌∙◌}
use Rattle.std.specs.Prelude.{All, IfSome, IsSomeAnd}
use Rattle.std.proofs.lemmas.List.Elements.{All-nil}
use Rattle.ebr_faults.specs.Faults.{Rises}
use Rattle.ebr_worker.specs.Runs.{IsUnwritten}
use Rattle.ebr_server.specs.Program.{AreScripts, IsReadFault}
use Rattle.ebr_server.specs.inside.Opened.{FailsFrom}
use Rattle.ebr_server.proofs.Back.{are_jobs, as_many, halt_called, unused_called}
use Rattle.ebr_server.proofs.Calls.{all_called, all_opened, both_make, both_open, scripts_called, sinks_called}
use Rattle.ebr_server.proofs.InWords.{sinks_fail}
use Rattle.ebr_server.proofs.scripts.begin_sessions.Goals as goal

pub sessions_of-requires-clause-sinks : goal.sessions_of-requires-clause-sinks
sessions_of-requires-clause-sinks g c =
    as_many g.H.Sink.Sink.word g.H.Sink.Sink.held g.H.Sink.Sink.faults (g.H.Host.bytes c.args.host.now) c.args.words.now c.args.first _ _ (subst (AreScripts (g.H.Host.bytes c.args.host.now) c.args.words.now c.args.first _) (sym c.as_slice.ensures) c.in-Ok.ensures.read) c.in-Ok-make_sinks.ensures.made

pub returns-in-Err-clause-fails : goal.returns-in-Err-clause-fails
returns-in-Err-clause-fails g c =
    subst (λ h. FailsFrom (g.H.Host.bytes c.args.host.now) c.args.words.now c.args.first (Rises (g.H.Host.faults c.args.host.now) (g.H.Host.faults c.read_scripts.new.host) ⊎ IsSomeAnd h.source (λ s. 0 < g.H.Source.Source.faults s)) h.code) (sym c.without_sinks.ensures.halt) c.in-Err.ensures.fails

pub returns-in-Err-clause-source : goal.returns-in-Err-clause-source
returns-in-Err-clause-source g c =
    subst (λ h. IfSome h.source (λ s. IsReadFault h.code c.args.words.now (g.H.Source.Source.word s) × (0 < g.H.Source.Source.faults s))) (sym c.without_sinks.ensures.halt) c.in-Err.ensures.source

pub returns-in-Err-clause-unwritten : goal.returns-in-Err-clause-unwritten
returns-in-Err-clause-unwritten g c = subst (All (IsUnwritten g.H.Sink.Sink.held g.H.Sink.Sink.faults)) (sym c.without_sinks.ensures.sinks) (All-nil _)

pub returns-in-Err-clause-called : goal.returns-in-Err-clause-called
returns-in-Err-clause-called g c =
    halt_called g.H.Sink.Sink.word _ _ _ _ c.without_sinks.result _ c.without_sinks.ensures.halt c.without_sinks.ensures.sinks (scripts_called c.args.words.now c.args.first _ _ _ c.in-Err.ensures.called)

pub returns-in-Err-make_sinks-clause-fails : goal.returns-in-Err-make_sinks-clause-fails
returns-in-Err-make_sinks-clause-fails g c =
    sinks_fail (g.H.Host.bytes c.args.host.now) c.args.words.now c.args.first c.in-Ok.scripts _ _ _ _ _ _ c.in-Ok.ensures.read c.read_scripts.ensures.counted c.in-Err-make_sinks.ensures.fails c.with_sinks.ensures.code

pub returns-in-Err-make_sinks-clause-unwritten : goal.returns-in-Err-make_sinks-clause-unwritten
returns-in-Err-make_sinks-clause-unwritten g c = subst (All (IsUnwritten g.H.Sink.Sink.held g.H.Sink.Sink.faults)) (sym c.with_sinks.ensures.sinks) c.in-Err-make_sinks.ensures.unwritten

pub returns-in-Err-make_sinks-clause-called : goal.returns-in-Err-make_sinks-clause-called
returns-in-Err-make_sinks-clause-called g c =
    unused_called g.H.Sink.Sink.word _ _ _ _ c.with_sinks.result _ _ _ c.with_sinks.ensures.code c.with_sinks.ensures.source c.with_sinks.ensures.sinks refl (sinks_called c.args.words.now c.args.first _ _ _ _ _ c.in-Ok.ensures.opened c.in-Err-make_sinks.ensures.called)

pub returns-in-Ok-sessions_of-clause-begun : goal.returns-in-Ok-sessions_of-clause-begun
returns-in-Ok-sessions_of-clause-begun g c =
    are_jobs g.H.Sink.Sink.word g.H.Sink.Sink.held g.H.Sink.Sink.faults (g.H.Host.bytes c.args.host.now) c.args.words.now c.args.first _ _ _ c.in-Ok.ensures.read c.in-Ok-make_sinks.ensures.made (c.in-Ok-sessions_of.ensures.scripts ∙ c.as_slice.ensures) c.in-Ok-sessions_of.ensures.words

pub returns-in-Ok-sessions_of-clause-opened : goal.returns-in-Ok-sessions_of-clause-opened
returns-in-Ok-sessions_of-clause-opened g c = all_opened c.args.words.now c.args.first _ _ _ c.in-Ok.ensures.opened c.in-Ok-make_sinks.ensures.opened

pub returns-clause-unwritten : goal.returns-clause-unwritten
returns-clause-unwritten g c =
    subst (All (IsUnwritten g.H.Sink.Sink.held g.H.Sink.Sink.faults)) (sym (c.with_sinks-in-Err-sessions_of.ensures.sinks ∙ ap (λ v. v.items) c.in-Err-sessions_of.ensures.back)) c.in-Ok-make_sinks.ensures.made.unwritten

pub returns-clause-called : goal.returns-clause-called
returns-clause-called g c =
    unused_called g.H.Sink.Sink.word _ _ _ _ c.with_sinks-in-Err-sessions_of.result _ _ _ c.with_sinks-in-Err-sessions_of.ensures.code c.with_sinks-in-Err-sessions_of.ensures.source (c.with_sinks-in-Err-sessions_of.ensures.sinks ∙ ap (λ v. v.items) c.in-Err-sessions_of.ensures.back) c.in-Ok-make_sinks.ensures.made.words_are
    (all_called _ _ _ None _ _ (all_opened c.args.words.now c.args.first _ _ _ c.in-Ok.ensures.opened c.in-Ok-make_sinks.ensures.opened) refl (sym (both_make c.args.words.now c.args.first)) (sym (both_open c.args.words.now c.args.first)))
