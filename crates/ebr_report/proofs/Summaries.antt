-- Parts of the summary.
use Rattle.std.proofs.Common.{ℕ, ◌≡◌, ◌+◌, ◌<◌, ◌≤◌, List, [], ◌∷◌, ◌++◌, length, take, drop, get_or, codes, Option, arith, sym, ◌∙◌, ap, subst, append-nil}
use Rattle.std.proofs.lemmas.Grind.{flat_map-append}
use Rattle.std.proofs.lemmas.List.{at_drop_more, take-append-drop, take_more, take_all}
use Rattle.std.proofs.lemmas.List.Concat.{flat_map-cons}
use Rattle.ebr_outside.specs.Sink.{appended}
use Rattle.ebr_report.specs.declared.ends.SessionEnd.{SessionEnd}
use Rattle.ebr_report.specs.Lines.{AddsPart, line_of}
use Rattle.ebr_report.specs.Summary.{Summary, counted, end_words, summary_line}
use Rattle.ebr_report.proofs.Additions.{AddsPart-after, AddsPart-more, appended-twice}

-- ---- a line

module _ {S : Type 0} (e : SessionEnd S) where
  abbrev first : List ℕ
  first = counted (codes "session ") e.session.0

  abbrev second : List ℕ
  second = counted (codes ": ") e.requests

  abbrev third : List ℕ
  third = counted (codes " asks, ") e.refused

  abbrev last : List ℕ
  last = line_of (codes " refused, " ++ end_words e.end)

  pub in_first : (old new : Option (List ℕ)) → AddsPart old new first → AddsPart old new (summary_line e)
  unfolding summary_line
  in_first old new part = AddsPart-more old new first (second ++ (third ++ last)) part

  pub in_second : (old a new : Option (List ℕ)) → a ≡ appended old first → AddsPart a new second → AddsPart old new (summary_line e)
  unfolding summary_line
  in_second old a new one part = AddsPart-after old a new first (second ++ (third ++ last)) one (AddsPart-more a new second (third ++ last) part)

  pub in_third : (old a b new : Option (List ℕ)) → a ≡ appended old first → b ≡ appended a second → AddsPart b new third → AddsPart old new (summary_line e)
  unfolding summary_line
  in_third old a b new one two part =
      AddsPart-after old a new first (second ++ (third ++ last)) one (AddsPart-after a b new second (third ++ last) two (AddsPart-more b new third last part))

  pub in_last : (old a b d new : Option (List ℕ)) (words : List ℕ) → a ≡ appended old first → b ≡ appended a second → d ≡ appended b third → words ≡ end_words e.end
      → AddsPart d new (line_of (codes " refused, " ++ words)) → AddsPart old new (summary_line e)
  unfolding summary_line
  in_last old a b d new words one two three is part =
      AddsPart-after old a new first (second ++ (third ++ last)) one
      (AddsPart-after a b new second (third ++ last) two
      (AddsPart-after b d new third last three (subst (λ w. AddsPart d new (line_of (codes " refused, " ++ w))) is part)))

  pub whole_line : (old a b d new : Option (List ℕ)) (words : List ℕ) → a ≡ appended old first → b ≡ appended a second → d ≡ appended b third → words ≡ end_words e.end
      → new ≡ appended d (line_of (codes " refused, " ++ words)) → new ≡ appended old (summary_line e)
  unfolding summary_line
  whole_line old a b d new words one two three is four =
      appended-twice old a new first (second ++ (third ++ last)) one
      (appended-twice a b new second (third ++ last) two
      (appended-twice b d new third last three (four ∙ ap (λ w. appended d (line_of (codes " refused, " ++ w))) is)))

-- ---- the lines so far

module _ {S : Type 0} (ends : List (SessionEnd S)) where
  pub one_more : (old mid new : Option (List ℕ)) (at : ℕ) (e : SessionEnd S) → at < length ends → e ≡ get_or ends at e → mid ≡ appended old (Summary (take at ends)) → new ≡ appended mid (summary_line e)
      → new ≡ appended old (Summary (take (at + 1) ends))
  one_more old mid new at e within is so_far line =
      let more : Summary (take at ends) ++ summary_line e ≡ Summary (take (at + 1) ends) =
      sym (ap Summary (take_more ends at e within ∙ ap (λ x. take at ends ++ x ∷ []) (sym is))
      ∙ flat_map-append summary_line (take at ends) (e ∷ [])
      ∙ ap (λ xs. Summary (take at ends) ++ xs) (flat_map-cons summary_line e [] ∙ append-nil (summary_line e))) in
      appended-twice old mid new (Summary (take at ends)) (summary_line e) so_far line ∙ ap (appended old) more

  pub in_one : (old mid new : Option (List ℕ)) (at : ℕ) (e : SessionEnd S) → at < length ends → e ≡ get_or ends at e → mid ≡ appended old (Summary (take at ends)) → AddsPart mid new (summary_line e)
      → AddsPart old new (Summary ends)
  in_one old mid new at e within is so_far part =
      let split : Summary (take at ends) ++ (summary_line e ++ Summary (drop (at + 1) ends)) ≡ Summary ends =
      sym (ap Summary (sym (take-append-drop at ends))
      ∙ flat_map-append summary_line (take at ends) (drop at ends)
      ∙ ap (λ xs. Summary (take at ends) ++ xs) (ap Summary (at_drop_more (λ xs. xs) ends at e within ∙ ap (λ x. x ∷ drop (at + 1) ends) (sym is)) ∙ flat_map-cons summary_line e (drop (at + 1) ends))) in
      subst (AddsPart old new) split
      (AddsPart-after old mid new (Summary (take at ends)) (summary_line e ++ Summary (drop (at + 1) ends)) so_far (AddsPart-more mid new (summary_line e) (Summary (drop (at + 1) ends)) part))

  pub all : (old new : Option (List ℕ)) (at : ℕ) → length ends ≤ at → new ≡ appended old (Summary (take at ends)) → AddsPart old new (Summary ends)
  all old new at within so_far =
      let text : List ℕ = Summary ends in
      record {
        count = length text;
        within = omega arith;
        held = so_far ∙ ap (λ xs. appended old (Summary xs)) (take_all at ends within) ∙ ap (appended old) (sym (take_all (length text) text (omega arith)));
      }
