use Rattle.std.proofs.Common.{List, ℕ, take, rules, subst}
use Rattle.std.proofs.lemmas.List.{take_all}
use Rattle.sha2.specs.Hashers.{Holds256}
use Rattle.ebr_versions.specs.Keys.{key_of}
use Rattle.ebr_versions.specs.inside.Print.{key_bytes}
use Rattle.ebr_versions.proofs.PrintLemmas.{places_more}
use Rattle.ebr_versions.proofs.print.digest_at.Goals as goal

pub loop-place-preserved : goal.loop-place-preserved
loop-place-preserved c =
    subst (Holds256 c.add_at.new.hasher) (places_more c.args.places.now c.args.values.now c.loop-place.place-index 0 c.loop-place-test.true)
    (c.add_at.ensures (key_bytes (key_of (take c.loop-place.place-index c.args.places.now) c.args.values.now)) c.loop-place.invariant)

pub returns : goal.returns
returns c =
    c.end_of.ensures (key_bytes (key_of c.args.places.now c.args.values.now))
    (subst (λ (places : List ℕ). Holds256 c.loop-place.hasher (key_bytes (key_of places c.args.values.now))) (take_all c.loop-place.place-index c.args.places.now (search rules)) c.loop-place.invariant)
