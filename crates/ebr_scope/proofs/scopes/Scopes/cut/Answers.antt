use Rattle.std.proofs.Common.{◌≡◌, ◌-◌, map, reverse, drop, take, length, ap, sym, ◌∙◌, rules}
use Rattle.ebr_scope.specs.inside.Kept.{named, callable}
use Rattle.ebr_scope.proofs.Entries.{kept, still}
use Rattle.ebr_scope.proofs.Shown.{shown}
use Rattle.ebr_scope.proofs.scopes.Scopes.cut.Goals as goal

pub invariant_of-self : goal.invariant_of-self
invariant_of-self c =
    let t : c.truncate.new.self.items ≡ take c.args.depth c.self.inside.entries.items = search rules in
    let p : c.cut.new.self ≡ drop (length c.self.inside.places - c.args.depth) c.self.inside.places = search rules in
    let s : c.cut-2.new.self ≡ drop (length c.self.inside.subprograms - c.args.depth) c.self.inside.subprograms = search rules in
    record {
      every = p ∙ still named c.self.inside.entries.items c.args.depth c.self.invariant.every t;
      some = s ∙ still callable c.self.inside.entries.items c.args.depth c.self.invariant.some t;
    }

pub returns : goal.returns
returns c =
    let t : c.truncate.new.self.items ≡ take c.args.depth c.self.inside.entries.items = search rules in
    let v : map shown (reverse c.self.inside.entries.items) ≡ c.args.self.now = search rules in
    ap (λ l. map shown (reverse l)) t
    ∙ sym (kept shown c.self.inside.entries.items c.args.depth)
    ∙ ap (λ l. drop (length l - c.args.depth) l) v
