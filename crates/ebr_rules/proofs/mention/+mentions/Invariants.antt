use Rattle.std.proofs.Common.{◌≡◌, drop, map}
use Rattle.ebr_scope.specs.Lent.{env}
use Rattle.ebr_validity.specs.Embedded.{each, mentions}
use Rattle.ebr_rules.specs.inside.Terms.{mentions_in_term}
use Rattle.ebr_rules.specs.Noted.{noted}
use Rattle.ebr_rules.proofs.mention.+mentions.Given as goal

abbrev pub invariant-all_mentions-loop-e : goal.invariant-all_mentions-loop-e
invariant-all_mentions-loop-e l =
    noted (each (map mentions (drop l.e-index l.e-items)) l.relations (env l.place l.known)) l.least
    ≡ noted (each (map mentions l.e-items) l.relations (env l.place l.known)) l.initial.least

abbrev pub invariant-term_mentions-loop-addend : goal.invariant-term_mentions-loop-addend
invariant-term_mentions-loop-addend l =
    noted (each (map mentions_in_term (drop l.addend-index l.addend-items)) l.relations (env l.place l.known)) l.least
    ≡ noted (each (map mentions_in_term l.addend-items) l.relations (env l.place l.known)) l.initial.least
