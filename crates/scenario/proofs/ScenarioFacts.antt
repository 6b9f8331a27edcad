-- The facts on scenarios and faults, line by line.
use Rattle.std.specs.Prelude.{◌≡◌, ◌≢◌, ◌≤◌, ◌+◌, ℕ, List, [], ◌∷◌, ◌++◌, length, codes, refl, Bool, true, false, Ok, Err}
use Rattle.std.specs.Char.{encode_utf8}
use Rattle.std.specs.Fmt.{digits}
use Rattle.std.specs.Str.{chars, encode_utf8_all, all_scalars, bytes_eq, IsUtf8}
use Rattle.std.specs.Str.Lines.{lines}
use Rattle.std.proofs.Common.{ap, sym, ◌∙◌, subst, inl, inr, arith, true≢false}
use Rattle.std.proofs.lemmas.Str.{IsCharBoundary-start}
use Rattle.dom_query.specs.ReadingModel.{Outcome, run, next, build, finish}
use Rattle.dom_query.proofs.Again.{read_again}
use Rattle.dom_query.proofs.Ways.{read_sound}
use Rattle.scenario.specs.declared.line.Line.{Line}
use Rattle.scenario.specs.declared.line.Line.TheVariants.{Click, Input, Event, Tick}
use Rattle.scenario.specs.declared.line.Verb.{Verb}
use Rattle.scenario.specs.declared.line.Verb.TheVariants as verb
use Rattle.scenario.specs.declared.line.TheConstants.{SCENARIO_LIMIT}
use Rattle.scenario.specs.declared.fault.EventsKind.{EventsKind}
use Rattle.scenario.specs.declared.fault.EventsKind.TheVariants.{BadVerb, MissingField, BadSelector, BadNumber}
use Rattle.scenario.specs.declared.fault.EventsFault.{EventsFault}
use Rattle.scenario.specs.Lines.{AreTwo, BeginsWith, Chains, Fails, HasFields, HasNoSpace, IsFaultyLine, IsLine, IsSkipped, IsTick, Says, Selects, number_of, verb_of, verb_text}
use Rattle.scenario.specs.Scenarios.{FailsFirst, IsFile, IsFine, IsRefused, IsScenario, SayAll}
use Rattle.scenario.specs.ScenarioFacts.{AreRefused, AreScenarios, by_id, by_tag, fault}
use Rattle.scenario.proofs.Numbers.{tick_plain}
use Rattle.scenario.proofs.Spaces.{kept_line, no_split, no_two, one_two, some_byte}

-- ---- files

ascii : (bytes : List ℕ) → length bytes ≤ SCENARIO_LIMIT → all_scalars bytes ≡ true → encode_utf8_all bytes ≡ bytes → IsFile bytes
ascii bytes within scalars same = record { within = within; utf8 = (bytes, (scalars, same)) }

said : (bytes : List ℕ) (ls : List (List ℕ)) (read : List Line) → IsFile bytes → lines bytes ≡ ls → SayAll 1 ls read → IsScenario bytes read
said bytes ls read file e s = (file, subst (λ (xs : List (List ℕ)). SayAll 1 xs read) (sym e) s)

refused : (bytes : List ℕ) (ls : List (List ℕ)) (f : EventsFault) → IsFile bytes → lines bytes ≡ ls → FailsFirst 1 ls f → IsRefused bytes f
refused bytes ls f file e s = inr (inr (file, subst (λ (xs : List (List ℕ)). FailsFirst 1 xs f) (sym e) s))

-- ---- lines

skips : (n : ℕ) (bytes : List ℕ) (more : List (List ℕ)) (read : List Line) → IsSkipped bytes → SayAll (n + 1) more read → SayAll n (bytes ∷ more) read
skips n bytes more read k s = inl (k, s)

says : (n : ℕ) (bytes : List ℕ) (more : List (List ℕ)) (line : Line) (read : List Line) → IsLine n bytes line → SayAll (n + 1) more read → SayAll n (bytes ∷ more) (line ∷ read)
says n bytes more line read l s = inr (line, read, l, refl, s)

-- the only line of a file says this
alone_says : (bytes : List ℕ) (line : Line) → IsLine 1 bytes line → SayAll 1 (bytes ∷ []) (line ∷ [])
alone_says bytes line l = says 1 bytes [] line [] l refl

empty_line : IsSkipped []
empty_line = inl refl

comment : (more : List ℕ) → IsSkipped (35 ∷ more)
comment more = inr (more, refl)

line_of : (line : Line) (rest : List ℕ) → Says rest line → IsLine (number_of line) (verb_text (verb_of line) ++ (32 ∷ rest)) line
line_of line rest s = record { rest = rest; begins = refl; says = s; number_is = refl }

-- ---- fields

two_of : (first second : List ℕ) → first ≢ [] → HasNoSpace first → AreTwo (first ++ (32 ∷ second)) first second
two_of first second some solid = record { some = some; solid = solid; spelled = refl }

selects_p : Selects (codes "p") (by_tag (codes "p"))
unfolding chars run next build finish
selects_p = read_sound (by_tag (codes "p")) (chars (codes "p")) refl

selects_b : Selects (codes "#b") (by_id (codes "b"))
unfolding chars run next build finish
selects_b = read_sound (by_id (codes "b")) (chars (codes "#b")) refl

input_said : (text value : List ℕ) → value ≡ chars text → Says (codes "p" ++ (32 ∷ text)) (Input 1 (by_tag (codes "p")) value)
input_said text value e = (codes "p", text, two_of (codes "p") text (some_byte 112 []) refl, selects_p, e)

ticks : (n : ℕ) (bytes : List ℕ) → n ≤ 10 → bytes ≡ digits 10 false n → IsTick bytes n
ticks n bytes few e = (omega (arith, few), e)

tick_line : (n count : ℕ) (bytes : List ℕ) → count ≤ 10 → bytes ≡ digits 10 false count → IsLine n (codes "tick " ++ bytes) (Tick n count)
tick_line n count bytes few e = line_of (Tick n count) bytes (ticks count bytes few e)

pub the_scenarios : AreScenarios
unfolding chars encode_utf8 digits
the_scenarios = record {
  empty = said [] [] [] (ascii [] (omega arith) refl refl) refl refl;
  skipped =
      said (codes "# click p\n" ++ (13 ∷ (10 ∷ codes "#"))) (codes "# click p" ∷ ([] ∷ (codes "#" ∷ []))) []
      (ascii (codes "# click p\n" ++ (13 ∷ (10 ∷ codes "#"))) (omega arith) refl refl) refl
      (skips 1 (codes "# click p") ([] ∷ (codes "#" ∷ [])) [] (comment (codes " click p"))
      (skips 2 [] (codes "#" ∷ []) [] empty_line (skips 3 (codes "#") [] [] (comment []) refl)));
  click =
      said (codes "click p") (codes "click p" ∷ []) (Click 1 (by_tag (codes "p")) ∷ []) (ascii (codes "click p") (omega arith) refl refl) refl
      (alone_says (codes "click p") (Click 1 (by_tag (codes "p"))) (line_of (Click 1 (by_tag (codes "p"))) (codes "p") selects_p));
  input =
      said (codes "input #b  x ") (codes "input #b  x " ∷ []) (Input 1 (by_id (codes "b")) (codes " x ") ∷ []) (ascii (codes "input #b  x ") (omega arith) refl refl) refl
      (alone_says (codes "input #b  x ") (Input 1 (by_id (codes "b")) (codes " x ")) (line_of (Input 1 (by_id (codes "b")) (codes " x ")) (codes "#b  x ")
      (codes "#b", codes " x ", two_of (codes "#b") (codes " x ") (some_byte 35 (codes "b")) refl, selects_b, refl)));
  event =
      said (codes "event p go") (codes "event p go" ∷ []) (Event 1 (by_tag (codes "p")) (codes "go") ∷ []) (ascii (codes "event p go") (omega arith) refl refl) refl
      (alone_says (codes "event p go") (Event 1 (by_tag (codes "p")) (codes "go")) (line_of (Event 1 (by_tag (codes "p")) (codes "go")) (codes "p go")
      (codes "p", codes "go", two_of (codes "p") (codes "go") (some_byte 112 []) refl, (some_byte 103 (codes "o"), refl), selects_p, refl)));
  tick =
      said (codes "tick 0") (codes "tick 0" ∷ []) (Tick 1 0 ∷ []) (ascii (codes "tick 0") (omega arith) refl refl) refl
      (alone_says (codes "tick 0") (Tick 1 0) (tick_line 1 0 (codes "0") (omega arith) refl));
  empty_text =
      said (codes "input p ") (codes "input p " ∷ []) (Input 1 (by_tag (codes "p")) [] ∷ []) (ascii (codes "input p ") (omega arith) refl refl) refl
      (alone_says (codes "input p ") (Input 1 (by_tag (codes "p")) []) (line_of (Input 1 (by_tag (codes "p")) []) (codes "p ") (input_said [] [] refl)));
  carriage_return =
      said (codes "input p x" ++ (13 ∷ (13 ∷ (10 ∷ [])))) ((codes "input p x" ++ (13 ∷ [])) ∷ []) (Input 1 (by_tag (codes "p")) (120 ∷ (13 ∷ [])) ∷ [])
      (ascii (codes "input p x" ++ (13 ∷ (13 ∷ (10 ∷ [])))) (omega arith) refl refl) refl
      (alone_says (codes "input p x" ++ (13 ∷ [])) (Input 1 (by_tag (codes "p")) (120 ∷ (13 ∷ [])))
      (line_of (Input 1 (by_tag (codes "p")) (120 ∷ (13 ∷ []))) (codes "p x" ++ (13 ∷ [])) (input_said (120 ∷ (13 ∷ [])) (120 ∷ (13 ∷ [])) refl)));
  last_carriage_return =
      said (codes "input p " ++ (13 ∷ [])) ((codes "input p " ++ (13 ∷ [])) ∷ []) (Input 1 (by_tag (codes "p")) (13 ∷ []) ∷ [])
      (ascii (codes "input p " ++ (13 ∷ [])) (omega arith) refl refl) refl
      (alone_says (codes "input p " ++ (13 ∷ [])) (Input 1 (by_tag (codes "p")) (13 ∷ []))
      (line_of (Input 1 (by_tag (codes "p")) (13 ∷ [])) (codes "p " ++ (13 ∷ [])) (input_said (13 ∷ []) (13 ∷ []) refl)));
  counted =
      said (codes "\n#\ntick 7\n\ntick 10\n") ([] ∷ (codes "#" ∷ (codes "tick 7" ∷ ([] ∷ (codes "tick 10" ∷ []))))) (Tick 3 7 ∷ (Tick 5 10 ∷ []))
      (ascii (codes "\n#\ntick 7\n\ntick 10\n") (omega arith) refl refl) refl
      (skips 1 [] (codes "#" ∷ (codes "tick 7" ∷ ([] ∷ (codes "tick 10" ∷ [])))) (Tick 3 7 ∷ (Tick 5 10 ∷ [])) empty_line
      (skips 2 (codes "#") (codes "tick 7" ∷ ([] ∷ (codes "tick 10" ∷ []))) (Tick 3 7 ∷ (Tick 5 10 ∷ [])) (comment [])
      (says 3 (codes "tick 7") ([] ∷ (codes "tick 10" ∷ [])) (Tick 3 7) (Tick 5 10 ∷ []) (tick_line 3 7 (codes "7") (omega arith) refl)
      (skips 4 [] (codes "tick 10" ∷ []) (Tick 5 10 ∷ []) empty_line
      (says 5 (codes "tick 10") [] (Tick 5 10) [] (tick_line 5 10 (codes "10") (omega arith) refl) refl)))));
}

-- ---- faults

faulty : (n : ℕ) (bytes : List ℕ) (kind : EventsKind) → (IsSkipped bytes → ⊥) → Fails bytes kind → IsFaultyLine n bytes (fault n kind)
faulty n bytes kind kept fails = record { kept = kept; fails = fails; number_is = refl }

fails_here : (n : ℕ) (bytes : List ℕ) (more : List (List ℕ)) (f : EventsFault) → IsFaultyLine n bytes f → FailsFirst n (bytes ∷ more) f
fails_here n bytes more f l = inl l

fails_later : (n : ℕ) (bytes : List ℕ) (more : List (List ℕ)) (f : EventsFault) → IsFine n bytes → FailsFirst (n + 1) more f → FailsFirst n (bytes ∷ more) f
fails_later n bytes more f fine l = inr (fine, l)

alone_fails : (bytes : List ℕ) (kind : EventsKind) → IsFile bytes → lines bytes ≡ bytes ∷ [] → (IsSkipped bytes → ⊥) → Fails bytes kind → IsRefused bytes (fault 1 kind)
alone_fails bytes kind file one kept fails =
    refused bytes (bytes ∷ []) (fault 1 kind) file one (fails_here 1 bytes [] (fault 1 kind) (faulty 1 bytes kind kept fails))

-- bytes that are told apart from others differ from them
differs : (xs ys : List ℕ) → bytes_eq xs xs ≡ true → bytes_eq xs ys ≡ false → xs ≡ ys → ⊥
differs xs ys itself other e = true≢false (sym itself ∙ ap (bytes_eq xs) e ∙ other)

jump_is_none : (v : Verb) → codes "jump" ≡ verb_text v → ⊥
jump_is_none verb.Click e = differs (codes "jump") (codes "click") refl refl e
jump_is_none verb.Input e = differs (codes "jump") (codes "input") refl refl e
jump_is_none verb.Event e = differs (codes "jump") (codes "event") refl refl e
jump_is_none verb.Tick e = differs (codes "jump") (codes "tick") refl refl e

jump_begins_with_none : (v : Verb) → BeginsWith v (codes "jump") → ⊥
jump_begins_with_none v b = elim b [
  | inl e ↦ jump_is_none v e
  | inr r ↦ no_split (codes "jump") (verb_text v) r.0 refl r.1
]

no_third : HasFields verb.Event (codes "p a b") → ⊥
no_third f =
    let two = one_two (codes "p a b") f.0 f.1 (codes "p") (codes "a b") f.3 (two_of (codes "p") (codes "a b") (some_byte 112 []) refl) in
    true≢false (subst HasNoSpace two.1 f.2.1)

abbrev is_ok : Outcome → Bool
is_ok (Ok chains) = true
is_ok (Err rest) = false

selects_none : (chains : Chains) → Selects (codes "[") chains → ⊥
unfolding chars run next build finish
selects_none chains s = let e : false ≡ true = ap is_ok (read_again chains (chars (codes "[")) s) in true≢false (sym e)

ticks_none : (n : ℕ) → IsTick (codes "01") n → ⊥
ticks_none n t = (tick_plain (codes "01") n t).0 refl

leading_zero_fails : Fails (codes "tick 01") BadNumber
leading_zero_fails = (verb.Tick, codes "01", refl, (refl, some_byte 48 (codes "1"), ticks_none))

-- a byte inside of a character begins none
not_utf8 : IsUtf8 (128 ∷ []) → ⊥
not_utf8 u =
    let begins : 128 ≤ 128 → 192 ≤ 128 = (IsCharBoundary-start (128 ∷ []) u).1 (omega arith) in
    let wrong : 192 ≤ 128 = begins (omega arith) in omega (arith, wrong)

pub the_faults : AreRefused
unfolding encode_utf8 digits
the_faults = record {
  too_long = λ bytes long. inl (long, refl);
  not_utf8 = inr (inl ((omega arith, not_utf8), refl));
  no_verb =
      refused (codes "tick 1\njump\n") (codes "tick 1" ∷ (codes "jump" ∷ [])) (fault 2 BadVerb) (ascii (codes "tick 1\njump\n") (omega arith) refl refl) refl
      (fails_later 1 (codes "tick 1") (codes "jump" ∷ []) (fault 2 BadVerb) (inr (Tick 1 1, tick_line 1 1 (codes "1") (omega arith) refl))
      (fails_here 2 (codes "jump") [] (fault 2 BadVerb) (faulty 2 (codes "jump") BadVerb (kept_line 106 (codes "ump") (λ e. omega (arith, e))) jump_begins_with_none)));
  alone =
      alone_fails (codes "click") MissingField (ascii (codes "click") (omega arith) refl refl) refl (kept_line 99 (codes "lick") (λ e. omega (arith, e)))
      (inl (verb.Click, refl));
  no_text =
      alone_fails (codes "input p") MissingField (ascii (codes "input p") (omega arith) refl refl) refl (kept_line 105 (codes "nput p") (λ e. omega (arith, e)))
      (inr (verb.Input, codes "p", refl, λ f. no_two (codes "p") f.0 f.1 refl f.2));
  another_field =
      alone_fails (codes "event p a b") MissingField (ascii (codes "event p a b") (omega arith) refl refl) refl
      (kept_line 101 (codes "vent p a b") (λ e. omega (arith, e))) (inr (verb.Event, codes "p a b", refl, no_third));
  no_selector =
      alone_fails (codes "click [") BadSelector (ascii (codes "click [") (omega arith) refl refl) refl (kept_line 99 (codes "lick [") (λ e. omega (arith, e)))
      (verb.Click, codes "[", refl, (some_byte 91 [], (codes "[", refl, selects_none)));
  leading_zero =
      alone_fails (codes "tick 01") BadNumber (ascii (codes "tick 01") (omega arith) refl refl) refl (kept_line 116 (codes "ick 01") (λ e. omega (arith, e)))
      leading_zero_fails;
  first =
      refused (codes "\ntick 01\njump") ([] ∷ (codes "tick 01" ∷ (codes "jump" ∷ []))) (fault 2 BadNumber) (ascii (codes "\ntick 01\njump") (omega arith) refl refl) refl
      (fails_later 1 [] (codes "tick 01" ∷ (codes "jump" ∷ [])) (fault 2 BadNumber) (inl empty_line)
      (fails_here 2 (codes "tick 01") (codes "jump" ∷ []) (fault 2 BadNumber)
      (faulty 2 (codes "tick 01") BadNumber (kept_line 116 (codes "ick 01") (λ e. omega (arith, e))) leading_zero_fails)));
}
