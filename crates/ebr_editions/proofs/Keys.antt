-- The comparison that keys derive is that of the definitions.
use Rattle.std.proofs.Common.{◌≡◌, ℕ, suc, ◌+◌, List, Option, None, refl, ap, ◌∙◌, arith}
use Rattle.indexmap.specs.IndexSet.{insert_key}
use Rattle.indexmap.specs.IndexMap.{insert_entry}
use Rattle.ebr_base.specs.declared.numbers.EditionNo.{EditionNo}
use Rattle.ebr_base.specs.declared.object.Class.{Class}
use Rattle.ebr_base.specs.declared.object.Class.TheVariants as class
use Rattle.ebr_base.specs.declared.object.ObjectKey.{ObjectKey}
use Rattle.ebr_base.specs.contracts.object.ObjectKeyPartialEq.TheImpl.{ghosts}
use Rattle.ebr_base.specs.Keys.{same_key}
use Rattle.ebr_editions.specs.Objects.{with_key}
use Rattle.ebr_editions.specs.Held.{Held, Defined, with_object, with_definition, hold}

key : Class → List ℕ → ObjectKey
key c n = record { class = c; name = n }

by_class : (c d : Class) (m n : List ℕ) → ghosts.eq (key c m) (key d n) ≡ same_key (key c m) (key d n)
unfolding key
by_class class.Unit class.Unit m n = refl
by_class class.Unit class.Body m n = refl
by_class class.Unit class.Trigger m n = refl
by_class class.Body class.Unit m n = refl
by_class class.Body class.Body m n = refl
by_class class.Body class.Trigger m n = refl
by_class class.Trigger class.Unit m n = refl
by_class class.Trigger class.Body m n = refl
by_class class.Trigger class.Trigger m n = refl

pub derived : ghosts.eq ≡ same_key
unfolding key
derived = λ i a b. by_class a.class b.class a.name b.name i

-- what is held after a key and a definition went in
pub held-more : {O : Type 0} (now : Held O) (keys reserved inserted : List ObjectKey) (editions defined : List (EditionNo × Defined O)) (e : EditionNo) (copy key : ObjectKey) (object : Option O)
    → ◌≡◌ {A = Held O} (record { keys = keys; editions = editions }) now → reserved ≡ keys → copy ≡ key → inserted ≡ insert_key ghosts.eq reserved copy → defined ≡ with_definition editions e key object
    → ◌≡◌ {A = Held O} (record { keys = inserted; editions = defined }) (hold now e key object)
held-more {O} now keys reserved inserted editions defined e copy key object view same_keys same_copy put made =
    let both : List ObjectKey → List (EditionNo × Defined O) → Held O = λ ks es. record { keys = ks; editions = es } in
    let names : inserted ≡ with_key keys key =
    put ∙ (ap (λ eq. insert_key eq reserved copy) derived ∙ (ap (λ ks. with_key ks copy) same_keys ∙ ap (with_key keys) same_copy)) in
    ap (λ ks. both ks defined) names ∙ (ap (both (with_key keys key)) made ∙ ap (λ (h : Held O). hold h e key object) view)

-- what an edition has had defined after two drops
pub hidden-more : {O : Type 0} (now : Defined O) (count : ℕ) (objects reserved once twice : List (ObjectKey × Option O)) (k1 k2 : ObjectKey)
    → ◌≡◌ {A = Defined O} (record { count = count; objects = objects }) now → reserved ≡ objects → once ≡ insert_entry ghosts.eq reserved k1 None → twice ≡ insert_entry ghosts.eq once k2 None
    → ◌≡◌ {A = Defined O} (record { count = count + 2; objects = twice }) (with_object (with_object now k1 None) k2 None)
hidden-more {O} now count objects reserved once twice k1 k2 view same first second =
    let both : ℕ → List (ObjectKey × Option O) → Defined O = λ n es. record { count = n; objects = es } in
    let more : count + 2 ≡ suc (suc count) = omega arith in
    let entries : twice ≡ insert_entry same_key (insert_entry same_key objects k1 None) k2 None =
    second
    ∙ (ap (λ es. insert_entry ghosts.eq es k2 None) (first ∙ ap (λ es. insert_entry ghosts.eq es k1 None) same)
    ∙ ap (λ eq. insert_entry eq (insert_entry eq objects k1 None) k2 None) derived) in
    ap (λ n. both n twice) more ∙ (ap (both (suc (suc count))) entries ∙ ap (λ (d : Defined O). with_object (with_object d k1 None) k2 None) view)
