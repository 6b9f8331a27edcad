-- Some scenarios, what they say, and why others are refused. The expected values are this project's own.
use Rattle.std.specs.Prelude.{◌<◌, ℕ, List, [], ◌∷◌, ◌++◌, length, codes, Some, None}
use Rattle.dom_semantics.specs.declared.selectors.Part.TheVariants.{Id}
use Rattle.dom_semantics.specs.declared.selectors.TagTest.TheVariants.{Named}
use Rattle.dom_semantics.specs.SelectorGrammar.{compound_of}
use Rattle.scenario.specs.declared.line.Line.TheVariants.{Click, Input, Event, Tick}
use Rattle.scenario.specs.declared.line.TheConstants.{SCENARIO_LIMIT}
use Rattle.scenario.specs.declared.fault.EventsKind.{EventsKind}
use Rattle.scenario.specs.declared.fault.EventsKind.TheVariants.{TooLong, NotUtf8, BadVerb, MissingField, BadSelector, BadNumber}
use Rattle.scenario.specs.declared.fault.EventsFault.{EventsFault}
use Rattle.scenario.specs.Lines.{Chains}
use Rattle.scenario.specs.Scenarios.{IsScenario, IsRefused}

-- the selectors `name` and `#name`
abbrev pub by_tag : List ℕ → Chains
by_tag name = (compound_of (Some (Named name)) [] ∷ []) ∷ []

abbrev pub by_id : List ℕ → Chains
by_id name = (compound_of None (Id name ∷ []) ∷ []) ∷ []

pub record AreScenarios : Type 0 where
  -- no line, and lines that say nothing
  pub empty : IsScenario [] []
  pub skipped : IsScenario (codes "# click p\n" ++ (13 ∷ (10 ∷ codes "#"))) []
  -- a line of each verb
  pub click : IsScenario (codes "click p") (Click 1 (by_tag (codes "p")) ∷ [])
  pub input : IsScenario (codes "input #b  x ") (Input 1 (by_id (codes "b")) (codes " x ") ∷ [])
  pub event : IsScenario (codes "event p go") (Event 1 (by_tag (codes "p")) (codes "go") ∷ [])
  pub tick : IsScenario (codes "tick 0") (Tick 1 0 ∷ [])
  -- TEXT may be empty
  pub empty_text : IsScenario (codes "input p ") (Input 1 (by_tag (codes "p")) [] ∷ [])
  -- of the CRs before an LF the last is dropped, and one at the end of the file stays
  pub carriage_return : IsScenario (codes "input p x" ++ (13 ∷ (13 ∷ (10 ∷ [])))) (Input 1 (by_tag (codes "p")) (120 ∷ (13 ∷ [])) ∷ [])
  pub last_carriage_return : IsScenario (codes "input p " ++ (13 ∷ [])) (Input 1 (by_tag (codes "p")) (13 ∷ []) ∷ [])
  -- lines that say nothing count
  pub counted : IsScenario (codes "\n#\ntick 7\n\ntick 10\n") (Tick 3 7 ∷ (Tick 5 10 ∷ []))

abbrev pub fault : ℕ → EventsKind → EventsFault
fault line kind = record { line = line; kind = kind }

pub record AreRefused : Type 0 where
  -- whole files
  pub too_long : (bytes : List ℕ) → SCENARIO_LIMIT < length bytes → IsRefused bytes (fault 0 TooLong)
  pub not_utf8 : IsRefused (128 ∷ []) (fault 0 NotUtf8)
  -- the first word is no verb
  pub no_verb : IsRefused (codes "tick 1\njump\n") (fault 2 BadVerb)
  -- a verb alone, an `input` line without TEXT, and an `event` line with more than NAME
  pub alone : IsRefused (codes "click") (fault 1 MissingField)
  pub no_text : IsRefused (codes "input p") (fault 1 MissingField)
  pub another_field : IsRefused (codes "event p a b") (fault 1 MissingField)
  -- an attribute that isn't closed
  pub no_selector : IsRefused (codes "click [") (fault 1 BadSelector)
  -- a leading zero
  pub leading_zero : IsRefused (codes "tick 01") (fault 1 BadNumber)
  -- of two faulty lines the first
  pub first : IsRefused (codes "\ntick 01\njump") (fault 2 BadNumber)
