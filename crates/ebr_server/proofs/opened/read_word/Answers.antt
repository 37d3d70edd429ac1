use Rattle.std.proofs.Common.{◌≡◌, ◌<◌, ◌≤◌, None, Err, length, ap, arith, refl, rules, subst, sym, ◌∙◌}
use Rattle.ebr_outside.specs.HostCalls.{calls_after}
use Rattle.ebr_outside.specs.declared.host_call.HostMethod.TheVariants as method
use Rattle.ebr_server.specs.Program.{fault_at, word_at}
use Rattle.ebr_server.proofs.Calls.{all_called, fault_of, none_called}
use Rattle.ebr_server.proofs.Opening.{opened_so, too_long, was_read, word_is}
use Rattle.ebr_server.proofs.opened.read_word.Goals as goal

pub returns-in-Ok-read_bytes-clause-fails : goal.returns-in-Ok-read_bytes-clause-fails
returns-in-Ok-read_bytes-clause-fails g c =
    let long : 1048576 < length c.in-Ok-read_bytes.text = omega arith in
    too_long (g.H.Host.bytes c.args.host.now) c.args.words.now c.args.word _ _ _ _ c.requires.within c.index-words-word.is c.in-Ok.ensures.told c.in-Ok-read_bytes.ensures.bytes _ _ long c.without_source-in-Ok-read_bytes.ensures.code

pub returns-in-Ok-2-clause-read : goal.returns-in-Ok-2-clause-read
returns-in-Ok-2-clause-read g c =
    let short : length c.in-Ok-read_bytes.text ≤ 1048576 = omega arith in
    was_read (g.H.Host.bytes c.args.host.now) c.args.words.now c.args.word _ _ _ _ c.requires.within c.index-words-word.is c.in-Ok.ensures.told c.in-Ok-read_bytes.ensures.bytes short

pub returns-in-Ok-read_bytes-clause-called : goal.returns-in-Ok-read_bytes-clause-called
returns-in-Ok-read_bytes-clause-called g c =
    all_called _ _ _ _ _ _ (opened_so c.args.words.now c.args.word _ _ _ _ c.requires.within c.index-words-word.is c.in-Ok.ensures.called)
    (fault_of _ _ None c.without_source-in-Ok-read_bytes.ensures.source (ap fault_at c.without_source-in-Ok-read_bytes.ensures.code)) refl refl

pub returns-in-Ok-2-clause-opened : goal.returns-in-Ok-2-clause-opened
returns-in-Ok-2-clause-opened g c = opened_so c.args.words.now c.args.word _ _ _ _ c.requires.within c.index-words-word.is c.in-Ok.ensures.called

pub returns-in-Err-Failed-read_bytes-clause-called : goal.returns-in-Err-Failed-read_bytes-clause-called
returns-in-Err-Failed-read_bytes-clause-called g c =
    all_called _ _ _ _ _ _ (opened_so c.args.words.now c.args.word _ _ _ _ c.requires.within c.index-words-word.is c.in-Ok.ensures.called) refl refl refl

pub returns-clause-called : goal.returns-clause-called
returns-clause-called g c =
    all_called _ _ _ _ _ _ (opened_so c.args.words.now c.args.word _ _ _ _ c.requires.within c.index-words-word.is c.in-Ok.ensures.called) (fault_of _ _ None (search rules) (search rules)) refl refl

pub returns-in-Err-NoMemory-clause-called : goal.returns-in-Err-NoMemory-clause-called
returns-in-Err-NoMemory-clause-called g c =
    none_called _ _ _ _ (subst (λ e. g.H.Host.calls c.source.new.self ≡ calls_after {S = g.row.H-Source.Denot} (g.H.Host.calls c.args.host.now) method.Source c.index-words-word.result (Err e)) c.in-Err-NoMemory.field-0-is c.in-Err-NoMemory.ensures.called)
    (fault_of _ _ None c.without_source-in-Err-NoMemory.ensures.source (ap fault_at c.without_source-in-Err-NoMemory.ensures.code))

pub returns-in-Err-Failed-read_bytes-clause-source : goal.returns-in-Err-Failed-read_bytes-clause-source
returns-in-Err-Failed-read_bytes-clause-source g c =
    let asked : g.H.Source.Source.word c.read_bytes.new.source ≡ word_at c.args.words.now c.args.word = c.read_bytes.ensures.same ∙ c.in-Ok.ensures.asked ∙ sym (word_is c.args.words.now c.args.word _ _ c.requires.within c.index-words-word.is) in
    (asked, search (rules, arith))
