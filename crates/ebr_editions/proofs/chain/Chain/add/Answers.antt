use Rattle.std.proofs.Common.{rules, ◌≡◌, ℕ, suc, ◌+◌, ap, sym, subst, ◌∙◌, Some, [], ◌∷◌, ◌++◌, length, refl, arith}
use Rattle.std.specs.Str.{bytes_eq}
use Rattle.indexmap.specs.IndexMap.{insert_entry}
use Rattle.indexmap.proofs.CallerLemmas.{insert_entry-new}
use Rattle.ebr_base.specs.declared.numbers.EditionNo.{EditionNo}
use Rattle.ebr_editions.specs.declared.entry.EditionEntry.{EditionEntry}
use Rattle.ebr_editions.specs.Editions.{Editions, new_edition}
use Rattle.ebr_editions.specs.inside.Chain.{IsIndexed}
use Rattle.ebr_editions.proofs.Index.{added, number-is, same_index}
use Rattle.ebr_editions.proofs.chain.Chain.add.Goals as goal

pub invariant_of-self-2 : goal.invariant_of-self-2
invariant_of-self-2 c =
    let s = subst (λ (v : Editions). IsIndexed v.made c.self.inside.living.entries v.default) c.self.view_is c.self.invariant in
    let x : EditionEntry = new_edition c.args.self.now.made c.args.n (Some c.args.p) in
    let new = added _ _ _ s x c.args.p c.requires.lives c.requires.childless refl refl refl c.requires.free c.requires.room in
    let items : c.push.new.self.items ≡ c.args.self.now.made ++ x ∷ [] = search rules in
    let key : c.in_ok-clone_in.field-0 ≡ c.args.n = c.in_ok-clone_in.ensures in
    let numbered : ℕ → EditionNo = λ n. record { 0 = n } in
    let next : c.len-2.result + 1 ≡ suc (length c.args.self.now.made) =
    omega (arith, c.len-2.ensures, c.in_ok-reserve.ensures.len, c.self.inside.made.ok.0, ap (λ (v : Editions). length v.made) c.self.view_is) in
    let none = number-is _ _ _ s c.args.n ∙ c.requires.free in
    let entries : c.insert.new.self.entries ≡ c.self.inside.living.entries ++ (c.args.n, x.number) ∷ [] =
    c.in_ok-insert.ensures.entries
    ∙ (ap (λ k. insert_entry bytes_eq c.self.inside.living.entries k (numbered (c.len-2.result + 1))) key
    ∙ (ap (λ n. insert_entry bytes_eq c.self.inside.living.entries c.args.n (numbered n)) next
    ∙ insert_entry-new bytes_eq c.self.inside.living c.args.n x.number none)) in
    let default : c.args.self.now.default ≡ c.self.inside.default = sym (ap (λ (v : Editions). v.default) c.self.view_is) in
    same_index _ _ _ _ _ _ (sym items) (sym entries) default new
