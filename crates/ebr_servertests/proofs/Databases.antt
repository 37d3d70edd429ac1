-- The databases of the worked scripts, in which one session has changed no row, and what the machine replies there.
use Rattle.std.proofs.Common.{◌≡◌, ℕ, ◌+◌, ◌≤◌, Bool, true, false, List, [], ◌∷◌, ◌++◌, length, refl, ap, ◌∙◌, arith}
use Rattle.std.specs.Prelude.{Option, Some, None, Ok, nat_le, if◌then◌else◌}
use Rattle.std.proofs.lemmas.Bool.{le-leb}
use Rattle.std.proofs.lemmas.List.{append-nil, length-append}
use Rattle.std.specs.Int.{w32, to_be_bytes}
use Rattle.ebr_base.specs.declared.code.Code.{Code}
use Rattle.ebr_base.specs.declared.code.Code.TheVariants.{Ebr}
use Rattle.ebr_base.specs.declared.numbers.EditionNo.{EditionNo}
use Rattle.ebr_ast.specs.declared.definition.Definition.{Definition}
use Rattle.ebr_cross.specs.declared.record.CatalogueRecord.{CatalogueRecord}
use Rattle.ebr_cross.specs.Catalogue as catalogue
use Rattle.ebr_cross.specs.Definitions.{set_edition}
use Rattle.ebr_asks.specs.declared.ask.Ask.TheVariants.{Begin, Ddl, SetEdition, EndCall, Leave}
use Rattle.ebr_asks.specs.declared.answer.Answer.TheVariants.{View, Done}
use Rattle.ebr_tx.specs.declared.savepoints.TxMark.{TxMark}
use Rattle.ebr_tx.specs.Data.{not_begun}
use Rattle.ebr_record.specs.declared.record.Record.{Record}
use Rattle.ebr_record.specs.declared.record.Record.TheVariants.{Edition, Object}
use Rattle.ebr_record.specs.Keeper.{max_journal, share, used_by}
use Rattle.ebr_record.specs.Payload.{name_bytes}
use Rattle.ebr_database.specs.Outcome.{gives, then_run}
use Rattle.ebr_database.specs.Transact.{kept_if}
use Rattle.ebr_database.specs.Database.{Session, Database, Replied, data_of, empty_mark, reply_commit}
use Rattle.ebr_seats.specs.Tests.{max_asks}
use Rattle.ebr_seats.specs.Ends.{own_of, unchanged}
use Rattle.ebr_core.specs.Asked.{max_text}
use Rattle.ebr_core.specs.Records.{catalogue_of, record_of}
use Rattle.ebr_core.specs.Machine.{Reply, answer_in, behind, counting, defined, defined_by, edition_set, recorded, reply_begin, reply_ddl, reply_define, reply_set, then_reply, unless_refused}
use Rattle.ebr_servertests.specs.WorkedScripts.{the_session}

-- the session in an edition, with a call open or none, after so many asks
abbrev session_in : EditionNo → Option TxMark → ℕ → Session
session_in e call asks = record { edition = Some e; call = call; asks = asks; carried = 0 }

-- the database of these records with one session, which has changed nothing
abbrev with_one : List Record → Session → Database
with_one records x = record { records = records; live = not_begun (own_of the_session) ∷ []; locks = []; sessions = x ∷ [] }

-- the session in an edition, outside a call
abbrev pub outside : List Record → EditionNo → ℕ → Database
outside records e asks = with_one records (session_in e None asks)

-- .. and in one
abbrev pub inside : List Record → EditionNo → ℕ → Database
inside records e asks = with_one records (session_in e (Some empty_mark) asks)

-- .. and when it has left
abbrev pub left_from : List Record → ℕ → Database
left_from records asks = with_one records (record { edition = None; call = None; asks = asks; carried = 0 })

-- the refusal of an ask that may be one too many
abbrev refusal : Bool → Option Code
refusal many = if many then Some (Ebr 10) else None

module _ (records : List Record) (e : EditionNo) (asks : ℕ) where
  abbrev here : Database
  here = outside records e asks

  abbrev session : Session
  session = session_in e None asks

  pub ends : (failed : Bool) → Reply (inside records e asks) the_session (EndCall failed) ≡ unchanged (outside records e (asks + 1)) Done
  ends true = refl
  ends false = refl

  pub leaves : Reply here the_session Leave ≡ unchanged (left_from records (asks + 1)) Done
  leaves = refl

  commits : reply_commit here the_session session ≡ unchanged here Done
  commits = ap (λ rs. unchanged (outside rs e asks) Done) (append-nil records)

  -- it may make more asks
  module _ (few : nat_le max_asks asks ≡ false) where
    pub begins : Reply here the_session Begin ≡ unchanged (inside records e (asks + 1)) (View (catalogue.View (catalogue_of records) e))
    begins = ap (λ many. counting the_session Begin (unless_refused (refusal many) here (reply_begin e here the_session session))) few

    pub sets : (name : List ℕ) (next : EditionNo) → set_edition (catalogue_of records).editions.made name ≡ Ok next
        → Reply here the_session (SetEdition name) ≡ unchanged (outside records next (asks + 1)) Done
    sets name next found =
        ap (λ many. counting the_session (SetEdition name) (unless_refused (refusal many) here (reply_set here the_session session name))) few
        ∙ ap (λ o. counting the_session (SetEdition name) (edition_set here the_session session o)) found

    abbrev counted : Definition → List ℕ → Replied → Replied
    counted what text = counting the_session (Ddl what text)

    -- a definition that makes a record, for which there is room, and is answered that it is done
    pub defines : (what : Definition) (text : List ℕ) (r : CatalogueRecord)
        → defined (catalogue_of records) (data_of here) the_session e (e ∷ []) what text ≡ Ok r
        → nat_le (used_by records + share (record_of r)) max_journal ≡ true
        → answer_in (catalogue.View (catalogue_of (records ++ record_of r ∷ [])) e) what ≡ Done
        → Reply here the_session (Ddl what text)
        ≡ record { database = outside (records ++ record_of r ∷ []) e (asks + 1); answer = Done; records = record_of r ∷ []; questions = [] }
    defines what text r made fits answered =
        ap (λ many. counted what text (unless_refused (refusal many) here (reply_ddl e here the_session session what text))) few
        ∙ ap (λ (first : Replied). counted what text (then_reply first.answer first (reply_define e the_session what text))) commits
        ∙ ap (λ o. counted what text (behind (unchanged here Done) (defined_by here e what (recorded o (used_by records))))) made
        ∙ ap (λ room. counted what text (behind (unchanged here Done) (defined_by here e what (then_run (kept_if room (record_of r) (used_by records)) (λ u used. gives used (Ok r)))))) fits
        ∙ ap (λ a. counted what text (record { database = outside (records ++ record_of r ∷ []) e asks; answer = a; records = record_of r ∷ []; questions = [] })) answered

-- ---- room in the journal for the objects of small texts, and an edition between them

pub first_fits : (e : EditionNo) (text : List ℕ) → length text ≤ max_text → nat_le (used_by [] + share (Object e true text)) max_journal ≡ true
first_fits e text small = le-leb (used_by [] + share (Object e true text)) max_journal (omega (arith, small))

pub edition_fits : (e : EditionNo) (text name : List ℕ) → length text ≤ max_text → length name ≤ 128
    → nat_le (used_by (Object e true text ∷ []) + share (Edition name e)) max_journal ≡ true
edition_fits e text name small short =
    le-leb (used_by (Object e true text ∷ []) + share (Edition name e)) max_journal
    (omega (arith, length-append (name_bytes name) (to_be_bytes w32 e.0), small, short))

pub second_fits : (e child : EditionNo) (text name text' : List ℕ) → length text ≤ max_text → length name ≤ 128 → length text' ≤ max_text
    → nat_le (used_by (Object e true text ∷ Edition name e ∷ []) + share (Object child true text')) max_journal ≡ true
second_fits e child text name text' small short small' =
    le-leb (used_by (Object e true text ∷ Edition name e ∷ []) + share (Object child true text')) max_journal
    (omega (arith, length-append (name_bytes name) (to_be_bytes w32 e.0), small, short, small'))
