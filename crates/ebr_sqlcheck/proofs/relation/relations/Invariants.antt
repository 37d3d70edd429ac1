use Rattle.std.proofs.Common.{◌≡◌, drop}
use Rattle.ebr_sqlcheck.specs.Sources.{relations_behind, relations_of}
use Rattle.ebr_sqlcheck.specs.inside.Aliases.{HasAliases}
use Rattle.ebr_sqlcheck.proofs.relation.relations.Given as goal

abbrev pub invariant-loop-source : goal.invariant-loop-source
invariant-loop-source l = (relations_behind l.v l.found (drop l.source-index l.list) ≡ relations_of l.v l.list) × HasAliases l.found l.aliases.keys
