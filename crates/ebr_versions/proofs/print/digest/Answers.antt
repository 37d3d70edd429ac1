use Rattle.std.proofs.Common.{◌≡◌, ◌<◌, List, get_or, length, take, rules, subst}
use Rattle.std.proofs.lemmas.List.{take_all}
use Rattle.sha2.specs.Hashers.{Holds256}
use Rattle.ebr_versions.specs.inside.Print.{key_bytes}
use Rattle.ebr_versions.proofs.PrintLemmas.{bytes_more}
use Rattle.ebr_versions.proofs.print.digest.Goals as goal

pub loop-value-preserved : goal.loop-value-preserved
loop-value-preserved c =
    let within : c.loop-value.value-index < length c.args.key.now = search rules in
    let here : get_or c.args.key.now c.loop-value.value-index c.value-item.result ≡ c.value-item.result = search rules in
    subst (Holds256 c.add.new.hasher) (bytes_more c.args.key.now c.loop-value.value-index c.value-item.result within here) (c.add.ensures (key_bytes (take c.loop-value.value-index c.args.key.now)) c.loop-value.invariant)

pub returns : goal.returns
returns c =
    c.end_of.ensures (key_bytes c.args.key.now) (subst (λ (key : List _). Holds256 c.loop-value.hasher (key_bytes key)) (take_all c.loop-value.value-index c.args.key.now (search rules)) c.loop-value.invariant)
