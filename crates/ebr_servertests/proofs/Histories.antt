-- The histories of the worked scripts, which the machine replays.
use Rattle.std.proofs.Common.{◌≡◌, ℕ, ◌+◌, ◌≤◌, Bool, true, false, ◌&&◌, codes, List, [], ◌∷◌, ◌++◌, length, map, refl, sym, ap, ◌∙◌, subst, arith}
use Rattle.std.specs.Prelude.{Some, None, nat_le}
use Rattle.ebr_base.specs.declared.numbers.EditionNo.{EditionNo}
use Rattle.ebr_ast.specs.declared.definition.Definition.{Definition}
use Rattle.ebr_ast.specs.declared.definition.Definition.TheVariants.{CreateEdition}
use Rattle.ebr_ast.specs.declared.view.EditionView.{EditionView}
use Rattle.ebr_cross.specs.declared.record.CatalogueRecord.TheVariants as made
use Rattle.ebr_cross.specs.Catalogue.{Lists, first_lists, in_order}
use Rattle.ebr_cross.specs.Catalogue as catalogue
use Rattle.ebr_cross.specs.Definitions.{outcome, set_edition}
use Rattle.ebr_cross.specs.Records.{with_record}
use Rattle.ebr_script.specs.Pieces.{stored_definition}
use Rattle.ebr_asks.specs.declared.ask.Ask.{Ask}
use Rattle.ebr_asks.specs.declared.ask.Ask.TheVariants.{Begin, Ddl, SetEdition, EndCall, Leave}
use Rattle.ebr_asks.specs.declared.answer.Answer.{Answer}
use Rattle.ebr_asks.specs.declared.answer.Answer.TheVariants.{View, Rows, Count, Done, Invalid, Refused, DiskFault, NoMemory, Stopped}
use Rattle.ebr_asks.specs.declared.entry.Entry.{Entry}
use Rattle.ebr_asks.specs.declared.entry.Exchange.{Exchange}
use Rattle.ebr_calls.specs.Continuation.{Continues}
use Rattle.ebr_record.specs.declared.record.Record.{Record}
use Rattle.ebr_record.specs.declared.record.Record.TheVariants.{Edition, Object}
use Rattle.ebr_database.specs.Database.{Database, Replied}
use Rattle.ebr_seats.specs.Tests.{max_asks}
use Rattle.ebr_seats.specs.Ends.{unchanged}
use Rattle.ebr_core.specs.Asked.{max_text}
use Rattle.ebr_core.specs.Records.{catalogue_of, with_stored}
use Rattle.ebr_core.specs.Machine.{Reply, creation_answer}
use Rattle.ebr_core.specs.History.{Answered, IsLive, Legal, is_light, left_by, wants}
use Rattle.ebr_servertests.specs.WorkedScripts.{procedure, the_session, start}
use Rattle.ebr_servertests.proofs.Databases.{outside, inside, left_from, begins, ends, sets, defines, leaves, first_fits, edition_fits, second_fits}
use Rattle.ebr_servertests.proofs.Valid.{made_in, seeing, procedure_is_valid}

abbrev pub exchanged : Ask → Answer → Exchange
exchanged a x = record { ask = a; answer = x }

abbrev entry : Exchange → Entry
entry x = record { session = the_session; ask = x.ask; answer = x.answer }

-- the history of one session, which leaves behind these exchanges
abbrev pub history_of : List Exchange → List Entry
history_of before = map entry (before ++ exchanged Leave Done ∷ [])

answered_so : (x reply : Answer) (light : Bool) (on stopped : Type 0) → Continues x → x ≡ reply → on → Answered (wants x && light) x reply on stopped
answered_so (View v) reply light on stopped goes same rest = (same, rest)
answered_so (Rows rows) reply light on stopped goes same rest = (same, rest)
answered_so (Count n s l) reply light on stopped goes same rest = (same, rest)
answered_so Done reply light on stopped goes same rest = (same, rest)
answered_so Invalid reply light on stopped goes same rest = (same, rest)
answered_so (Refused c s l) reply light on stopped goes same rest = (same, rest)
answered_so DiskFault reply light on stopped goes same rest = absurd goes
answered_so NoMemory reply light on stopped goes same rest = absurd goes
answered_so Stopped reply light on stopped goes same rest = absurd goes

not_idle : (x : Answer) (light : Bool) → Continues x → (wants x && light) ≡ false
not_idle DiskFault light goes = refl
not_idle NoMemory light goes = absurd goes
not_idle x light goes = refl

-- a history that is legal from this database on
record Replays (db : Database) (h : List Entry) : Type 0 where
  pub legal : Legal db h

ended : (db : Database) → Replays db []
ended db = record { legal = tt }

-- one ask that the machine answers so
asked : {db db' : Database} {ask : Ask} {x : Answer} {records : List Record} {h : List Entry} → IsLive db the_session → Continues x
    → Reply db the_session ask ≡ record { database = db'; answer = x; records = records; questions = [] } → Replays db' h → Replays db (entry (exchanged ask x) ∷ h)
asked {db = db} {ask = ask} {x = x} {h = h} live goes is rest = record {
  legal = (
    live,
    answered_so x _ (is_light ask) _ _ goes (sym (ap (λ (r : Replied). r.answer) is))
        (subst (λ d. Legal d h) (sym (ap (λ b. left_by b db (Reply db the_session ask).database) (not_idle x (is_light ask) goes) ∙ ap (λ (r : Replied). r.database) is)) rest.legal),
  );
}

abbrev pub name_a : List ℕ
name_a = codes "A"

abbrev pub v2 : List ℕ
v2 = codes "V2"

abbrev pub first_name : List ℕ
first_name = codes "ORA$BASE"

abbrev pub first_edition : EditionNo
first_edition = record { 0 = 1 }

abbrev pub second_edition : EditionNo
second_edition = record { 0 = 2 }

-- ---- no ask but the last

pub nothing_legal : Legal start (history_of [])
nothing_legal = replays.legal
  where
    replays : Replays start (history_of [])
    replays = asked refl tt (leaves [] first_edition 0) (ended (left_from [] 1))

-- ---- the catalogues

-- the catalogue with the first procedure
abbrev c1 : List ℕ → List ℕ → Lists
c1 text line = with_record first_lists (made.Object (made_in first_edition text line))

-- .. with a child edition
abbrev c2 : List ℕ → List ℕ → Lists
c2 text line = with_record (c1 text line) (made.Edition v2 first_edition)

-- .. and with the second procedure
abbrev c3 : List ℕ → List ℕ → List ℕ → List ℕ → Lists
c3 text line text' line' = with_record (c2 text line) (made.Object (made_in second_edition text' line'))

view1 : (text line : List ℕ) → catalogue.View (c1 text line) first_edition ≡ seeing first_edition (made_in first_edition text line)
unfolding in_order
view1 text line = refl

view3 : (text line text' line' : List ℕ) → catalogue.View (c3 text line text' line') first_edition ≡ seeing first_edition (made_in first_edition text line)
unfolding in_order
view3 text line text' line' = refl

view3-child : (text line text' line' : List ℕ) → catalogue.View (c3 text line text' line') second_edition ≡ seeing second_edition (made_in second_edition text' line')
unfolding in_order
view3-child text line text' line' = refl

-- ---- a procedure is made and called

module _ (text line : List ℕ) where
  abbrev what : Definition
  what = procedure false name_a line

  abbrev r1 : List Record
  r1 = Object first_edition true text ∷ []

  abbrev seen1 : EditionView
  seen1 = seeing first_edition (made_in first_edition text line)

  -- a call that is done, and one that fails
  abbrev pub calls : List Exchange
  calls =
      exchanged (Ddl what text) Done ∷ exchanged Begin (View seen1) ∷ exchanged (EndCall false) Done ∷ exchanged Begin (View seen1) ∷ exchanged (EndCall true) Done ∷ []

  module _ (again : stored_definition text ≡ Some (procedure false name_a line)) (small : length text ≤ max_text) where
    is_made : Reply start the_session (Ddl what text) ≡ record { database = outside r1 first_edition 1; answer = Done; records = r1; questions = [] }
    is_made =
        defines [] first_edition 0 refl what text (made.Object (made_in first_edition text line)) refl (first_fits first_edition text small)
        (ap creation_answer (procedure_is_valid (catalogue.View (catalogue_of r1) first_edition) name_a line))

    catalogue1 : catalogue_of r1 ≡ c1 text line
    catalogue1 = ap (with_stored first_lists first_edition true text) again

    sees1 : (asks : ℕ) → nat_le max_asks asks ≡ false → Reply (outside r1 first_edition asks) the_session Begin ≡ unchanged (inside r1 first_edition (asks + 1)) (View seen1)
    sees1 asks few =
        begins r1 first_edition asks few
        ∙ ap (λ v. unchanged (inside r1 first_edition (asks + 1)) (View v)) (ap (λ c. catalogue.View c first_edition) catalogue1 ∙ view1 text line)

    pub calls_legal : Legal start (history_of calls)
    calls_legal = replays.legal
      where
        replays : Replays start (history_of calls)
        replays =
            asked refl tt is_made
            (asked refl tt (sees1 1 refl)
            (asked refl tt (ends r1 first_edition 2 false)
            (asked refl tt (sees1 3 refl)
            (asked refl tt (ends r1 first_edition 4 true)
            (asked refl tt (leaves r1 first_edition 5)
            (ended (left_from r1 6)))))))

-- ---- a procedure is made, and replaced in a child edition

module _ (text line text' line' : List ℕ) where
  abbrev child : Record
  child = Edition v2 first_edition

  abbrev second : Record
  second = Object second_edition true text'

  abbrev r2 : List Record
  r2 = Object first_edition true text ∷ child ∷ []

  abbrev r3 : List Record
  r3 = Object first_edition true text ∷ child ∷ second ∷ []

  abbrev adding : Ask
  adding = Ddl (CreateEdition v2 None) []

  abbrev replaced : Definition
  replaced = procedure true name_a line'

  abbrev seen_first : EditionView
  seen_first = seeing first_edition (made_in first_edition text line)

  abbrev seen_second : EditionView
  seen_second = seeing second_edition (made_in second_edition text' line')

  -- a call in the child edition, and one in the first
  abbrev pub upgrade : List Exchange
  upgrade =
      exchanged (Ddl (what text line) text) Done ∷ exchanged adding Done ∷ exchanged (SetEdition v2) Done ∷ exchanged (Ddl replaced text') Done
      ∷ exchanged Begin (View seen_second) ∷ exchanged (EndCall false) Done
      ∷ exchanged (SetEdition first_name) Done ∷ exchanged Begin (View seen_first) ∷ exchanged (EndCall false) Done ∷ []

  module _ (again : stored_definition text ≡ Some (procedure false name_a line)) (small : length text ≤ max_text)
      (again' : stored_definition text' ≡ Some (procedure true name_a line')) (small' : length text' ≤ max_text) where
    catalogue2 : catalogue_of r2 ≡ c2 text line
    catalogue2 = ap (λ c. with_record c (made.Edition v2 first_edition)) (catalogue1 text line again small)

    catalogue3 : catalogue_of r3 ≡ c3 text line text' line'
    catalogue3 =
        ap (λ c. with_stored c second_edition true text' (stored_definition text')) catalogue2
        ∙ ap (with_stored (c2 text line) second_edition true text') again'

    is_child : Reply (outside (r1 text line) first_edition 1) the_session adding ≡ record { database = outside r2 first_edition 2; answer = Done; records = child ∷ []; questions = [] }
    is_child =
        defines (r1 text line) first_edition 1 refl (CreateEdition v2 None) [] (made.Edition v2 first_edition)
        (ap (λ c. outcome c first_edition (first_edition ∷ []) (CreateEdition v2 None) []) (catalogue1 text line again small))
        (edition_fits first_edition text v2 small (omega arith)) refl

    sets_child : Reply (outside r2 first_edition 2) the_session (SetEdition v2) ≡ unchanged (outside r2 second_edition 3) Done
    sets_child = sets r2 first_edition 2 refl v2 second_edition (ap (λ (c : Lists). set_edition c.editions.made v2) catalogue2)

    is_replaced : Reply (outside r2 second_edition 3) the_session (Ddl replaced text')
        ≡ record { database = outside r3 second_edition 4; answer = Done; records = second ∷ []; questions = [] }
    is_replaced =
        defines r2 second_edition 3 refl replaced text' (made.Object (made_in second_edition text' line'))
        (ap (λ c. outcome c second_edition (second_edition ∷ []) replaced text') catalogue2)
        (second_fits first_edition second_edition text v2 text' small (omega arith) small')
        (ap creation_answer (procedure_is_valid (catalogue.View (catalogue_of r3) second_edition) name_a line'))

    sees_second : Reply (outside r3 second_edition 4) the_session Begin ≡ unchanged (inside r3 second_edition 5) (View seen_second)
    sees_second =
        begins r3 second_edition 4 refl
        ∙ ap (λ v. unchanged (inside r3 second_edition 5) (View v)) (ap (λ c. catalogue.View c second_edition) catalogue3 ∙ view3-child text line text' line')

    sets_first : Reply (outside r3 second_edition 6) the_session (SetEdition first_name) ≡ unchanged (outside r3 first_edition 7) Done
    sets_first = sets r3 second_edition 6 refl first_name first_edition (ap (λ (c : Lists). set_edition c.editions.made first_name) catalogue3)

    sees_first : Reply (outside r3 first_edition 7) the_session Begin ≡ unchanged (inside r3 first_edition 8) (View seen_first)
    sees_first =
        begins r3 first_edition 7 refl
        ∙ ap (λ v. unchanged (inside r3 first_edition 8) (View v)) (ap (λ c. catalogue.View c first_edition) catalogue3 ∙ view3 text line text' line')

    pub upgrade_legal : Legal start (history_of upgrade)
    upgrade_legal = replays.legal
      where
        replays : Replays start (history_of upgrade)
        replays =
            asked refl tt (is_made text line again small)
            (asked refl tt is_child
            (asked refl tt sets_child
            (asked refl tt is_replaced
            (asked refl tt sees_second
            (asked refl tt (ends r3 second_edition 5 false)
            (asked refl tt sets_first
            (asked refl tt sees_first
            (asked refl tt (ends r3 first_edition 8 false)
            (asked refl tt (leaves r3 first_edition 9)
            (ended (left_from r3 10)))))))))))
