-- All bytes say something or have a fault.
use Rattle.std.specs.Prelude.{◌≡◌, ◌≢◌, ◌+◌, ◌⊎◌, ℕ, List, [], ◌∷◌, ◌++◌, length, codes, refl, Bool, true, false, ◌==◌, Ok, Err}
use Rattle.std.specs.Bool.{Decides}
use Rattle.std.specs.Fmt.{decimal}
use Rattle.std.specs.Str.{chars, bytes_eq, is_utf8, IsUtf8}
use Rattle.std.specs.Str.Lines.{lines}
use Rattle.std.specs.Str.Parse.{digits_value}
use Rattle.std.proofs.Common.{ap, sym, ◌∙◌, subst, inl, inr, arith, true≢false}
use Rattle.std.proofs.lemmas.Bool.Decides.{Decides-eqb, leb_tells}
use Rattle.std.proofs.lemmas.Fmt.{decimal_is_IsNumeral}
use Rattle.std.proofs.lemmas.Slice.Eq.{bytes_eq-Decides}
use Rattle.std.proofs.lemmas.Str.{IsUtf8-from_is_utf8, is_utf8-from_IsUtf8}
use Rattle.dom_semantics.specs.SelectorGrammar.{IsSelector}
use Rattle.dom_semantics.specs.SelectorNames.{Scalars}
use Rattle.dom_query.specs.ReadingModel.{Outcome}
use Rattle.dom_query.proofs.Again.{read_again}
use Rattle.dom_query.proofs.Firsts.{whole}
use Rattle.dom_query.proofs.Ways.{read_sound}
use Rattle.scenario.specs.declared.line.Line.{Line}
use Rattle.scenario.specs.declared.line.Line.TheVariants.{Click, Input, Event, Tick}
use Rattle.scenario.specs.declared.line.Verb.{Verb}
use Rattle.scenario.specs.declared.line.Verb.TheVariants as verb
use Rattle.scenario.specs.declared.line.TheConstants.{SCENARIO_LIMIT, TICK_LIMIT}
use Rattle.scenario.specs.declared.fault.EventsKind.{EventsKind}
use Rattle.scenario.specs.declared.fault.EventsKind.TheVariants.{TooLong, NotUtf8, BadVerb, MissingField, BadSelector, BadNumber}
use Rattle.scenario.specs.declared.fault.EventsFault.{EventsFault}
use Rattle.scenario.specs.Lines.{AreTwo, BeginsWith, Chains, Fails, HasNoSpace, HasRest, IsFaultyLine, IsLine, IsName, IsSkipped, IsTick, RestFails, Selects, verb_text}
use Rattle.scenario.specs.Parts.{IsSaid, IsSplit}
use Rattle.scenario.specs.Scenarios.{FailsFirst, IsFile, IsFine, IsRefused, IsScenario, SayAll}
use Rattle.scenario.proofs.Spaces.{kept_line, no_split, no_two, no_verb, one_two, solid_more, some_byte, split_of_two, two_of_split}

-- ---- what is or isn't so

either : {P : Type 0} (b : Bool) → Decides b P → P ⊎ (P → ⊥)
either true d = inl (d.0 refl)
either false d = inr (λ p. true≢false (sym (d.1 p)))

same_or : (xs ys : List ℕ) → (xs ≡ ys) ⊎ (xs ≢ ys)
same_or xs ys = either (bytes_eq xs ys) (bytes_eq-Decides xs ys)

some_or : (bs : List ℕ) → (bs ≡ []) ⊎ (bs ≢ [])
some_or [] = inl refl
some_or (b ∷ bs) = inr (some_byte b bs)

utf8_or : (bytes : List ℕ) → IsUtf8 bytes ⊎ (IsUtf8 bytes → ⊥)
utf8_or bytes = either (is_utf8 bytes) (IsUtf8-from_is_utf8 bytes, is_utf8-from_IsUtf8 bytes)

-- ---- fields

-- a text has a split at its first space, or no space
split_or : (text : List ℕ) → HasNoSpace text ⊎ ((first : List ℕ) × (rest : List ℕ) × IsSplit text first rest)
split_or [] = inl refl
split_or (x ∷ xs) = elim (either (x == 32) (Decides-eqb x 32)) [
  | inl e ↦ inr ([], xs, (refl, ap (λ b. b ∷ xs) e))
  | inr other ↦ elim (split_or xs) [
    | inl solid ↦ inl (solid_more x xs other solid)
    | inr s ↦ inr (x ∷ s.0, s.1, (solid_more x s.0 other s.2.0, ap (λ ys. x ∷ ys) s.2.1))
  ]
]

two_or : (rest : List ℕ) → ((first : List ℕ) × (second : List ℕ) × AreTwo rest first second) ⊎ ((first second : List ℕ) → AreTwo rest first second → ⊥)
two_or rest = elim (split_or rest) [
  | inl solid ↦ inr (λ first second two. no_two rest first second solid two)
  | inr s ↦ elim (some_or s.0) [
    | inl e ↦ inr (λ first second two. two.some (sym (split_of_two rest s.0 s.1 first second s.2 two).0 ∙ e))
    | inr some ↦ inl (s.0, s.1, two_of_split rest s.0 s.1 s.2 some)
  ]
]

name_or : (name : List ℕ) → IsName name ⊎ (IsName name → ⊥)
name_or name = elim (some_or name) [
  | inl e ↦ inr (λ n. n.0 e)
  | inr some ↦ elim (split_or name) [
    | inl solid ↦ inl (some, solid)
    | inr s ↦ inr (λ n. no_split name s.0 s.1 n.1 s.2.1)
  ]
]

abbrev is_ok : Outcome → Bool
is_ok (Ok chains) = true
is_ok (Err rest) = false

outcome_or : (text : Scalars) (o : Outcome) → whole text ≡ o → ((chains : Chains) × IsSelector chains text) ⊎ ((chains : Chains) → IsSelector chains text → ⊥)
outcome_or text (Ok chains) e = inl (chains, read_sound chains text e)
outcome_or text (Err rest) e = inr (λ chains i. true≢false (sym (ap is_ok (read_again chains text i)) ∙ ap is_ok e))

selects_or : (bytes : List ℕ) → ((chains : Chains) × Selects bytes chains) ⊎ ((chains : Chains) → Selects bytes chains → ⊥)
selects_or bytes = outcome_or (chars bytes) (whole (chars bytes)) refl

-- the digits of a number spell it
tick_value : (bytes : List ℕ) (n : ℕ) → IsTick bytes n → digits_value 10 bytes ≡ n
tick_value bytes n t = ap (digits_value 10) t.1 ∙ (decimal_is_IsNumeral n (let h = t.0 in omega arith)).1

tick_or : (bytes : List ℕ) → ((n : ℕ) × IsTick bytes n) ⊎ ((n : ℕ) → IsTick bytes n → ⊥)
tick_or bytes = elim (leb_tells (digits_value 10 bytes) TICK_LIMIT) [
  | inl within ↦ elim (same_or bytes (decimal (digits_value 10 bytes))) [
    | inl e ↦ inl (digits_value 10 bytes, (within.1, e))
    | inr other ↦ inr (λ n t. other (t.1 ∙ ap decimal (sym (tick_value bytes n t))))
  ]
  | inr over ↦ inr (λ n t. omega (arith, over.1, tick_value bytes n t, t.0))
]

-- ---- what a rest says

rest_or : (n : ℕ) (v : Verb) (rest : List ℕ) → ((line : Line) × IsSaid n v rest line) ⊎ ((kind : EventsKind) × RestFails v rest kind)
rest_or n verb.Click rest = elim (some_or rest) [
  | inl e ↦ inr (MissingField, λ some. some e)
  | inr some ↦ elim (selects_or rest) [
    | inl s ↦ inl (Click n s.0, record { verb_is = refl; says = s.1; number_is = refl })
    | inr none ↦ inr (BadSelector, (some, (rest, refl, none)))
  ]
]
rest_or n verb.Input rest = elim (two_or rest) [
  | inl two ↦ elim (selects_or two.0) [
    | inl s ↦ inl (Input n s.0 (chars two.1), record { verb_is = refl; says = (two.0, two.1, two.2, s.1, refl); number_is = refl })
    | inr none ↦ inr (BadSelector, ((two.0, two.1, two.2), (two.0, (two.1, two.2), none)))
  ]
  | inr none ↦ inr (MissingField, λ f. none f.0 f.1 f.2)
]
rest_or n verb.Event rest = elim (two_or rest) [
  | inl two ↦ elim (name_or two.1) [
    | inl name ↦ elim (selects_or two.0) [
      | inl s ↦ inl (Event n s.0 (chars two.1), record { verb_is = refl; says = (two.0, two.1, two.2, name, s.1, refl); number_is = refl })
      | inr none ↦ inr (BadSelector, ((two.0, two.1, name, two.2), (two.0, (two.1, two.2), none)))
    ]
    | inr other ↦ inr (MissingField, λ f. other (subst IsName (one_two rest f.0 f.1 two.0 two.1 f.3 two.2).1 f.2))
  ]
  | inr none ↦ inr (MissingField, λ f. none f.0 f.1 f.3)
]
rest_or n verb.Tick rest = elim (some_or rest) [
  | inl e ↦ inr (MissingField, λ some. some e)
  | inr some ↦ elim (tick_or rest) [
    | inl t ↦ inl (Tick n t.0, record { verb_is = refl; says = t.1; number_is = refl })
    | inr none ↦ inr (BadNumber, (refl, some, none))
  ]
]

-- ---- what a line says

no_verb_is : (word : List ℕ) → word ≢ codes "click" → word ≢ codes "input" → word ≢ codes "event" → word ≢ codes "tick" → (v : Verb) → word ≡ verb_text v → ⊥
no_verb_is word click input event tick verb.Click = click
no_verb_is word click input event tick verb.Input = input
no_verb_is word click input event tick verb.Event = event
no_verb_is word click input event tick verb.Tick = tick

verb_or : (word : List ℕ) → ((v : Verb) × (word ≡ verb_text v)) ⊎ ((v : Verb) → word ≡ verb_text v → ⊥)
verb_or word = elim (same_or word (codes "click")) [
  | inl e ↦ inl (verb.Click, e)
  | inr click ↦ elim (same_or word (codes "input")) [
    | inl e ↦ inl (verb.Input, e)
    | inr input ↦ elim (same_or word (codes "event")) [
      | inl e ↦ inl (verb.Event, e)
      | inr event ↦ elim (same_or word (codes "tick")) [
        | inl e ↦ inl (verb.Tick, e)
        | inr tick ↦ inr (no_verb_is word click input event tick)
      ]
    ]
  ]
]

rest_faulty : (v : Verb) (bytes rest : List ℕ) (kind : EventsKind) → HasRest v bytes rest → RestFails v rest kind → Fails bytes kind
rest_faulty v bytes rest TooLong begins f = absurd f
rest_faulty v bytes rest NotUtf8 begins f = absurd f
rest_faulty v bytes rest BadVerb begins f = absurd f
rest_faulty v bytes rest MissingField begins f = inr (v, rest, begins, f)
rest_faulty v bytes rest BadSelector begins f = (v, rest, begins, f)
rest_faulty v bytes rest BadNumber begins f = (v, rest, begins, f)

line_said : (n : ℕ) (v : Verb) (bytes rest : List ℕ) (line : Line) → HasRest v bytes rest → IsSaid n v rest line → IsLine n bytes line
line_said n v bytes rest line begins said =
    record { rest = rest; begins = subst (λ (w : Verb). HasRest w bytes rest) (sym said.verb_is) begins; says = said.says; number_is = said.number_is }

alone_begins : (bytes : List ℕ) → HasNoSpace bytes → ((v : Verb) → bytes ≡ verb_text v → ⊥) → (v : Verb) → BeginsWith v bytes → ⊥
alone_begins bytes solid none v begins = elim begins [
  | inl e ↦ none v e
  | inr r ↦ no_split bytes (verb_text v) r.0 solid r.1
]

line_or : (n : ℕ) (bytes : List ℕ) → ((line : Line) × IsLine n bytes line) ⊎ ((kind : EventsKind) × Fails bytes kind)
line_or n bytes = elim (split_or bytes) [
  | inl solid ↦ elim (verb_or bytes) [
    | inl w ↦ inr (MissingField, inl w)
    | inr none ↦ inr (BadVerb, alone_begins bytes solid none)
  ]
  | inr s ↦ elim (verb_or s.0) [
    | inl w ↦
        let begins : HasRest w.0 bytes s.1 = s.2.1 ∙ ap (λ word. word ++ (32 ∷ s.1)) w.1 in
        elim (rest_or n w.0 s.1) [
          | inl said ↦ inl (said.0, line_said n w.0 bytes s.1 said.0 begins said.1)
          | inr f ↦ inr (f.0, rest_faulty w.0 bytes s.1 f.0 begins f.1)
        ]
    | inr none ↦ inr (BadVerb, no_verb bytes s.0 s.1 s.2 none)
  ]
]

skipped_or : (bytes : List ℕ) → IsSkipped bytes ⊎ (IsSkipped bytes → ⊥)
skipped_or [] = inl (inl refl)
skipped_or (b ∷ bs) = elim (either (b == 35) (Decides-eqb b 35)) [
  | inl e ↦ inl (inr (bs, ap (λ c. c ∷ bs) e))
  | inr other ↦ inr (kept_line b bs other)
]

fine_or : (n : ℕ) (bytes : List ℕ) → IsFine n bytes ⊎ ((fault : EventsFault) × IsFaultyLine n bytes fault)
fine_or n bytes = elim (skipped_or bytes) [
  | inl skipped ↦ inl (inl skipped)
  | inr kept ↦ elim (line_or n bytes) [
    | inl l ↦ inl (inr l)
    | inr f ↦ inr (record { line = n; kind = f.0 }, record { kept = kept; fails = f.1; number_is = refl })
  ]
]

-- ---- what all lines say

say_more : (n : ℕ) (bytes : List ℕ) (more : List (List ℕ)) (read : List Line) → IsFine n bytes → SayAll (n + 1) more read → (all : List Line) × SayAll n (bytes ∷ more) all
say_more n bytes more read (inl skipped) h = (read, inl (skipped, h))
say_more n bytes more read (inr l) h = (l.0 ∷ read, inr (l.0, read, l.1, refl, h))

lines_or : (n : ℕ) (ls : List (List ℕ)) → ((read : List Line) × SayAll n ls read) ⊎ ((fault : EventsFault) × FailsFirst n ls fault)
lines_or n [] = inl ([], refl)
lines_or n (bytes ∷ more) = elim (fine_or n bytes) [
  | inl fine ↦ elim (lines_or (n + 1) more) [
    | inl r ↦ inl (say_more n bytes more r.0 fine r.1)
    | inr f ↦ inr (f.0, inr (fine, f.1))
  ]
  | inr f ↦ inr (f.0, inl f.1)
]

pub read_or_refused : (bytes : List ℕ) → ((read : List Line) × IsScenario bytes read) ⊎ ((fault : EventsFault) × IsRefused bytes fault)
read_or_refused bytes = elim (leb_tells (length bytes) SCENARIO_LIMIT) [
  | inl within ↦ elim (utf8_or bytes) [
    | inl utf8 ↦
        let file : IsFile bytes = record { within = within.1; utf8 = utf8 } in
        elim (lines_or 1 (lines bytes)) [
          | inl r ↦ inl (r.0, (file, r.1))
          | inr f ↦ inr (f.0, inr (inr (file, f.1)))
        ]
    | inr none ↦ inr (record { line = 0; kind = NotUtf8 }, inr (inl ((within.1, none), refl)))
  ]
  | inr over ↦ inr (record { line = 0; kind = TooLong }, inl (over.1, refl))
]
