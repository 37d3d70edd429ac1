use Rattle.std.proofs.Common.{◌≡◌, ◌-◌, map, reverse, drop, take, length, ap, sym, ◌∙◌, rules}
use Rattle.ebr_places.specs.inside.Kept.{known_entry, named, subprogram}
use Rattle.ebr_scope.proofs.Entries.{kept, still}
use Rattle.ebr_places.proofs.Shown.{shown}
use Rattle.ebr_places.proofs.names.Names.cut.Goals as goal

pub invariant_of-self : goal.invariant_of-self
invariant_of-self c =
    let t : c.truncate.new.self.items ≡ take c.args.depth c.self.inside.entries.items = search rules in
    let k : c.cut.new.self ≡ drop (length c.self.inside.known - c.args.depth) c.self.inside.known = search rules in
    let p : c.cut-2.new.self ≡ drop (length c.self.inside.places - c.args.depth) c.self.inside.places = search rules in
    let s : c.cut-3.new.self ≡ drop (length c.self.inside.subprograms - c.args.depth) c.self.inside.subprograms = search rules in
    record {
      checks_know = k ∙ still known_entry c.self.inside.entries.items c.args.depth c.self.invariant.checks_know t;
      every = p ∙ still named c.self.inside.entries.items c.args.depth c.self.invariant.every t;
      callable = s ∙ still subprogram c.self.inside.entries.items c.args.depth c.self.invariant.callable t;
    }

pub returns : goal.returns
returns c =
    let t : c.truncate.new.self.items ≡ take c.args.depth c.self.inside.entries.items = search rules in
    let v : map shown (reverse c.self.inside.entries.items) ≡ c.args.self.now = search rules in
    ap (λ l. map shown (reverse l)) t
    ∙ sym (kept shown c.self.inside.entries.items c.args.depth)
    ∙ ap (λ l. drop (length l - c.args.depth) l) v
