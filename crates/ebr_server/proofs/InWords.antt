-- Scripts and sinks in the order of their words.
use Rattle.std.proofs.Common.{ℕ, zero, suc, ◌≡◌, ◌+◌, ◌-◌, ◌<◌, ◌≤◌, ◌⊎◌, inl, inr, Bool, true, false, ◌&&◌, nat_le, if◌then◌else◌, codes, drop, length-drop, List, [], ◌∷◌, ◌++◌, length, Option, Some, None, arith, refl, sym, ◌∙◌, ap, subst, length-append, get_or}
use Rattle.std.specs.Prelude.{All, IfSome, slice_get}
use Rattle.std.proofs.lemmas.Option.{slice_get-get_or}
use Rattle.std.proofs.lemmas.List.Elements.{All-nil, All-push}
use Rattle.std.specs.Str.{bytes_eq}
use Rattle.std.proofs.lemmas.Bool.{and_parts, leb-true}
use Rattle.ebr_words.specs.Words.{command_of, have_scripts, is_one_name, is_rehearsal, is_run}
use Rattle.ebr_words.specs.declared.words.Command.{Command}
use Rattle.ebr_words.specs.declared.words.Command.TheVariants.{Dump, Rehearse, Run, Try}
use Rattle.ebr_faults.specs.Faults.{Rises}
use Rattle.ebr_server.specs.declared.exit.ExitCode.{ExitCode}
use Rattle.ebr_server.specs.declared.exit.ExitCode.TheVariants as code
use Rattle.ebr_server.specs.Program.{AreScripts, IsBehind, IsShort, ShortBetween, most, told_at}
use Rattle.ebr_server.specs.inside.Opened.{Fails, FailsFrom, MakesNone, ReadsMore}

abbrev pub Told : Type 0
Told = List ℕ → Option (List ℕ)

abbrev Short : List ℕ → Type 0
Short text = length text ≤ most

at_more : {A : Type 0} (xs : List A) (x y : A) (i : ℕ) → slice_get (xs ++ x ∷ []) i ≡ Some y → (slice_get xs i ≡ Some y) ⊎ ((i ≡ length xs) × (y ≡ x))
at_more [] x y zero e = inr (refl, cc)
at_more [] x y (suc i) e = absurd cc
at_more (z ∷ xs) x y zero e = inl e
at_more (z ∷ xs) x y (suc i) e = elim (at_more xs x y i e) [ inl here ↦ inl here | inr last ↦ inr (ap suc last.0, last.1) ]

-- ---- scripts

pub no_scripts : (bytes : Told) (words : List (List ℕ)) (first : ℕ) → AreScripts bytes words first first []
no_scripts bytes words first = record { count = omega arith; each = λ i script e. absurd cc; short = All-nil _ }

module _ (bytes : Told) (words : List (List ℕ)) (first at : ℕ) (old new : List (List ℕ)) (so_far : AreScripts bytes words first at old) (more : ReadsMore bytes words at old new) where
  each_more : (i : ℕ) (script : List ℕ) → slice_get new i ≡ Some script → IsBehind bytes words (first + i) script
  each_more i script e =
      elim (at_more old more.text script i (sym (ap (λ xs. slice_get xs i) more.added) ∙ e)) [
        | inl here ↦ so_far.each i script here
        | inr last ↦ subst (λ p. IsBehind bytes words p script) (sym so_far.count ∙ sym (ap (λ n. first + n) last.0)) (subst (IsBehind bytes words at) (sym last.1) more.read.is)
      ]

  scripts_here : AreScripts bytes words first (at + 1) new
  scripts_here = record {
    count = omega (arith, so_far.count, ap length more.added, length-append old (more.text ∷ []));
    each = each_more;
    short = subst (All Short) (sym more.added) (All-push Short old more.text so_far.short more.read.short);
  }

pub scripts_more : (bytes mid : Told) (words : List (List ℕ)) (first at : ℕ) (old new : List (List ℕ)) → ((w : List ℕ) → mid w ≡ bytes w) → AreScripts bytes words first at old → ReadsMore mid words at old new → AreScripts bytes words first (at + 1) new
scripts_more bytes mid words first at old new same so_far more =
    let is : mid ≡ bytes = λ i w. same w i in
    scripts_here bytes words first at old new so_far (subst (λ b. ReadsMore b words at old new) is more)

-- scripts that were read aren't too long
pub short_told : (told : Option (List ℕ)) (text : List ℕ) → IfSome told (λ b. text ≡ b) → length text ≤ most → IfSome told (λ b. length b ≤ most)
short_told None text is short = tt
short_told (Some b) text is short = subst (λ x. length x ≤ most) is short

pub short_between : (bytes : Told) (words : List (List ℕ)) (first at : ℕ) (scripts : List (List ℕ)) → AreScripts bytes words first at scripts → ShortBetween bytes words first at
short_between bytes words first at scripts are v from below =
    let i : ℕ = v - first in
    let within : i < length scripts = omega (arith, from, below, are.count) in
    let there : slice_get scripts i ≡ Some (get_or scripts i []) = slice_get-get_or scripts i [] within in
    let place : first + i ≡ v = omega (arith, from) in
    subst (IsShort bytes words) place (short_told (told_at bytes words (first + i)) (get_or scripts i []) (are.each i _ there) (are.short i [] within))

-- ---- what failed

rises_since : (old mid new : ℕ) → old ≤ mid → Rises mid new → Rises old new
rises_since old mid new grown rises = omega arith

pub fails_since : (P : Type 0) (old mid new : ℕ) → old ≤ mid → Rises mid new ⊎ P → Rises old new ⊎ P
fails_since P old mid new grown fails = elim fails [ inl rises ↦ inl (rises_since old mid new grown rises) | inr other ↦ inr other ]

fails_here : (bytes : Told) (words : List (List ℕ)) (first at : ℕ) (P : Type 0) (old mid new : ℕ) (c : ExitCode) → first ≤ at → at < length words → ShortBetween bytes words first at → old ≤ mid
    → Fails bytes words at (Rises mid new ⊎ P) c → FailsFrom bytes words first (Rises old new ⊎ P) c
fails_here bytes words first at P old mid new (code.HostFault w) from within short grown fails =
    let here : FailsFrom bytes words first (Rises old new ⊎ P) (code.HostFault at) = (from, within, short, fails_since P old mid new grown fails.1) in
    subst (λ v. FailsFrom bytes words first (Rises old new ⊎ P) (code.HostFault v)) (sym fails.0) here
fails_here bytes words first at P old mid new (code.TooLong w) from within short grown fails =
    let here : FailsFrom bytes words first (Rises old new ⊎ P) (code.TooLong at) = (from, within, short, fails.1) in
    subst (λ v. FailsFrom bytes words first (Rises old new ⊎ P) (code.TooLong v)) (sym fails.0) here
fails_here bytes words first at P old mid new code.NoMemory from within short grown fails = tt
fails_here bytes words first at P old mid new code.Done from within short grown fails = absurd fails
fails_here bytes words first at P old mid new code.Usage from within short grown fails = absurd fails
fails_here bytes words first at P old mid new code.DiskFault from within short grown fails = absurd fails
fails_here bytes words first at P old mid new code.SinkFault from within short grown fails = absurd fails
fails_here bytes words first at P old mid new (code.Damaged p) from within short grown fails = absurd fails
fails_here bytes words first at P old mid new (code.BadOrder p) from within short grown fails = absurd fails

pub fails_on : (bytes mid_bytes : Told) (words : List (List ℕ)) (first at : ℕ) (scripts : List (List ℕ)) (P : Type 0) (old mid new : ℕ) (c : ExitCode) → ((w : List ℕ) → mid_bytes w ≡ bytes w) → AreScripts bytes words first at scripts
    → first ≤ at → at < length words → old ≤ mid → Fails mid_bytes words at (Rises mid new ⊎ P) c → FailsFrom bytes words first (Rises old new ⊎ P) c
fails_on bytes mid_bytes words first at scripts P old mid new c same are from within grown fails =
    let is : mid_bytes ≡ bytes = λ i w. same w i in
    fails_here bytes words first at P old mid new c from within (short_between bytes words first at scripts are) grown (subst (λ b. Fails b words at (Rises mid new ⊎ P) c) is fails)

-- ---- sinks

pub makes_since : (words : List (List ℕ)) (first old mid new : ℕ) (c : ExitCode) → old ≤ mid → MakesNone words first (Rises mid new) c → MakesNone words first (Rises old new) c
makes_since words first old mid new (code.HostFault w) grown fails = (fails.0, fails.1, rises_since old mid new grown fails.2)
makes_since words first old mid new code.NoMemory grown fails = tt
makes_since words first old mid new (code.TooLong w) grown fails = absurd fails
makes_since words first old mid new code.Done grown fails = absurd fails
makes_since words first old mid new code.Usage grown fails = absurd fails
makes_since words first old mid new code.DiskFault grown fails = absurd fails
makes_since words first old mid new code.SinkFault grown fails = absurd fails
makes_since words first old mid new (code.Damaged p) grown fails = absurd fails
makes_since words first old mid new (code.BadOrder p) grown fails = absurd fails

-- why the sinks weren't all made, where all scripts were read
made_fails : (bytes : Told) (words : List (List ℕ)) (first : ℕ) (scripts : List (List ℕ)) (P : Type 0) (old mid new : ℕ) (c : ExitCode) → AreScripts bytes words first (length words) scripts → old ≤ mid → MakesNone words first (Rises mid new) c
    → FailsFrom bytes words first (Rises old new ⊎ P) c
made_fails bytes words first scripts P old mid new (code.HostFault w) are grown f =
    (f.0, f.1, λ v from below. short_between bytes words first (length words) scripts are v from (omega (arith, below, f.1)), fails_since P old mid new grown (inl f.2))
made_fails bytes words first scripts P old mid new code.NoMemory are grown f = tt
made_fails bytes words first scripts P old mid new (code.TooLong w) are grown f = absurd f
made_fails bytes words first scripts P old mid new code.Done are grown f = absurd f
made_fails bytes words first scripts P old mid new code.Usage are grown f = absurd f
made_fails bytes words first scripts P old mid new code.DiskFault are grown f = absurd f
made_fails bytes words first scripts P old mid new code.SinkFault are grown f = absurd f
made_fails bytes words first scripts P old mid new (code.Damaged at) are grown f = absurd f
made_fails bytes words first scripts P old mid new (code.BadOrder at) are grown f = absurd f

pub sinks_fail : (bytes : Told) (words : List (List ℕ)) (first : ℕ) (scripts : List (List ℕ)) (P : Type 0) (old mid new : ℕ) (c d : ExitCode) → AreScripts bytes words first (length words) scripts → old ≤ mid → MakesNone words first (Rises mid new) d → c ≡ d
    → FailsFrom bytes words first (Rises old new ⊎ P) c
sinks_fail bytes words first scripts P old mid new c d are grown f is = subst (FailsFrom bytes words first (Rises old new ⊎ P)) (sym is) (made_fails bytes words first scripts P old mid new d are grown f)

-- ---- the words of commands with scripts

few_names : (n : ℕ) (w : List ℕ) (names : List (List ℕ)) → have_scripts n names ≡ true → (n + 2 ≤ length (w ∷ names)) × (length (w ∷ names) ≤ n + 33)
few_names n w names is =
    let count = and_parts (nat_le 1 (length (drop n names))) (nat_le (length (drop n names)) 32) (and_parts (nat_le 1 (length (drop n names)) && nat_le (length (drop n names)) 32) _ is).0 in
    let some : 1 ≤ length (drop n names) = leb-true 1 (length (drop n names)) count.0 in
    let few : length (drop n names) ≤ 32 = leb-true (length (drop n names)) 32 count.1 in
    (omega (arith, some, length-drop n names), omega (arith, few, some, length-drop n names))

-- the command by the tests of its words
abbrev by_tests : (a b c d : Bool) → Option Command
by_tests a b c d = if a then Some Try else (if b then Some Dump else (if c then Some Rehearse else (if d then Some Run else None)))

is_third : (a b c d : Bool) → by_tests a b c d ≡ Some Rehearse → c ≡ true
is_third true b c d is = absurd cc
is_third false true c d is = absurd cc
is_third false false true d is = refl
is_third false false false true is = absurd cc
is_third false false false false is = absurd cc

is_fourth : (a b c d : Bool) → by_tests a b c d ≡ Some Run → d ≡ true
is_fourth true b c d is = absurd cc
is_fourth false true c d is = absurd cc
is_fourth false false true d is = absurd cc
is_fourth false false false true is = refl
is_fourth false false false false is = absurd cc

rehearse_few : (words : List (List ℕ)) → command_of words ≡ Some Rehearse → (4 ≤ length words) × (length words ≤ 35)
rehearse_few [] is = absurd cc
rehearse_few (w ∷ names) is =
    few_names 2 w names
    (and_parts (bytes_eq w (codes "rehearse")) (is_rehearsal names)
    (is_third (bytes_eq w (codes "try") && is_one_name names) (bytes_eq w (codes "dump") && is_one_name names) (bytes_eq w (codes "rehearse") && is_rehearsal names) (bytes_eq w (codes "run") && is_run names) is)).1

pub rehearse_long : (words : List (List ℕ)) → command_of words ≡ Some Rehearse → 3 ≤ length words
rehearse_long words is = let few = rehearse_few words is in omega (arith, few.0)

pub run_few : (words : List (List ℕ)) → command_of words ≡ Some Run → (3 ≤ length words) × (length words ≤ 34)
run_few [] is = absurd cc
run_few (w ∷ names) is =
    few_names 1 w names
    (and_parts (bytes_eq w (codes "run")) (is_run names)
    (is_fourth (bytes_eq w (codes "try") && is_one_name names) (bytes_eq w (codes "dump") && is_one_name names) (bytes_eq w (codes "rehearse") && is_rehearsal names) (bytes_eq w (codes "run") && is_run names) is)).1
