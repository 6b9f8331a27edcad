-- What one line of a scenario says, and why one says nothing: this project's own. A line is its bytes without its end.
use Rattle.std.specs.Prelude.{◌≡◌, ◌≢◌, ◌≤◌, ◌⊎◌, ℕ, false, ◌==◌, List, [], ◌∷◌, ◌++◌, codes}
use Rattle.std.specs.Fmt.{decimal}
use Rattle.std.specs.List.{list_any}
use Rattle.std.specs.Str.{chars}
use Rattle.dom_semantics.specs.declared.selectors.Compound.{Compound}
use Rattle.dom_semantics.specs.SelectorGrammar.{IsSelector}
use Rattle.scenario.specs.declared.line.Line.{Line}
use Rattle.scenario.specs.declared.line.Line.TheVariants.{Click, Input, Event, Tick}
use Rattle.scenario.specs.declared.line.TheConstants.{TICK_LIMIT}
use Rattle.scenario.specs.declared.line.Verb.{Verb}
use Rattle.scenario.specs.declared.line.Verb.TheVariants as verb
use Rattle.scenario.specs.declared.fault.EventsKind.{EventsKind}
use Rattle.scenario.specs.declared.fault.EventsKind.TheVariants.{TooLong, NotUtf8, BadVerb, MissingField, BadSelector, BadNumber}
use Rattle.scenario.specs.declared.fault.EventsFault.{EventsFault}

abbrev pub Chains : Type 0
Chains = List (List Compound)

abbrev pub HasNoSpace : List ℕ → Type 0
HasNoSpace bytes = list_any (λ b. b == 32) bytes ≡ false

abbrev pub verb_text : Verb → List ℕ
verb_text verb.Click = codes "click"
verb_text verb.Input = codes "input"
verb_text verb.Event = codes "event"
verb_text verb.Tick = codes "tick"

-- the line is the verb, a space and this rest
abbrev pub HasRest : Verb → List ℕ → List ℕ → Type 0
HasRest v bytes rest = bytes ≡ verb_text v ++ (32 ∷ rest)

-- the verb runs to the first space or the line's end
abbrev pub BeginsWith : Verb → List ℕ → Type 0
BeginsWith v bytes = (bytes ≡ verb_text v) ⊎ ((rest : List ℕ) × HasRest v bytes rest)

-- ---- fields

-- the first isn't empty and runs to the first space, and the second is the rest
pub record AreTwo (rest first second : List ℕ) : Type 0 where
  pub some : first ≢ []
  pub solid : HasNoSpace first
  pub spelled : rest ≡ first ++ (32 ∷ second)

-- NAME of an `event` line
abbrev pub IsName : List ℕ → Type 0
IsName name = (name ≢ []) × HasNoSpace name

-- the bytes are a selector of these chains
abbrev pub Selects : List ℕ → Chains → Type 0
Selects bytes chains = IsSelector chains (chars bytes)

-- N of a `tick` line: decimal digits without a leading zero, up to the limit
abbrev pub IsTick : List ℕ → ℕ → Type 0
IsTick bytes n = (n ≤ TICK_LIMIT) × (bytes ≡ decimal n)

-- all fields of a line with this verb are there
abbrev pub HasFields : Verb → List ℕ → Type 0
HasFields verb.Click rest = rest ≢ []
HasFields verb.Input rest = (selector : List ℕ) × (text : List ℕ) × AreTwo rest selector text
HasFields verb.Event rest = (selector : List ℕ) × (name : List ℕ) × IsName name × AreTwo rest selector name
HasFields verb.Tick rest = rest ≢ []

-- SELECTOR of a line with this verb; a `tick` line has none
abbrev pub IsSelectorField : Verb → List ℕ → List ℕ → Type 0
IsSelectorField verb.Click rest selector = selector ≡ rest
IsSelectorField verb.Input rest selector = (text : List ℕ) × AreTwo rest selector text
IsSelectorField verb.Event rest selector = (name : List ℕ) × AreTwo rest selector name
IsSelectorField verb.Tick rest selector = ⊥

-- ---- what a line says

abbrev pub verb_of : Line → Verb
verb_of (Click n chains) = verb.Click
verb_of (Input n chains text) = verb.Input
verb_of (Event n chains name) = verb.Event
verb_of (Tick n count) = verb.Tick

abbrev pub number_of : Line → ℕ
number_of (Click n chains) = n
number_of (Input n chains text) = n
number_of (Event n chains name) = n
number_of (Tick n count) = n

-- the rest of a line says this
abbrev pub Says : List ℕ → Line → Type 0
Says rest (Click n chains) = Selects rest chains
Says rest (Input n chains text) = (selector : List ℕ) × (value : List ℕ) × AreTwo rest selector value × Selects selector chains × (text ≡ chars value)
Says rest (Event n chains name) =
    (selector : List ℕ) × (value : List ℕ) × AreTwo rest selector value × IsName value × Selects selector chains × (name ≡ chars value)
Says rest (Tick n count) = IsTick rest count

-- the line with this number says this
pub record IsLine (number : ℕ) (bytes : List ℕ) (line : Line) : Type 0 where
  pub rest : List ℕ
  pub begins : HasRest (verb_of line) bytes rest
  pub says : Says rest line
  pub number_is : number_of line ≡ number

-- an empty line, or one that begins with `#`
abbrev pub IsSkipped : List ℕ → Type 0
IsSkipped bytes = (bytes ≡ []) ⊎ ((more : List ℕ) × (bytes ≡ 35 ∷ more))

-- ---- why a line says nothing: of several faults the first in the list of kinds

-- what is wrong with the rest of a line with this verb
abbrev pub RestFails : Verb → List ℕ → EventsKind → Type 0
RestFails v rest TooLong = ⊥
RestFails v rest NotUtf8 = ⊥
RestFails v rest BadVerb = ⊥
RestFails v rest MissingField = HasFields v rest → ⊥
RestFails v rest BadSelector = HasFields v rest × ((selector : List ℕ) × IsSelectorField v rest selector × ((chains : Chains) → Selects selector chains → ⊥))
RestFails v rest BadNumber = (v ≡ verb.Tick) × (rest ≢ []) × ((n : ℕ) → IsTick rest n → ⊥)

-- what is wrong with the rest of the line
abbrev pub HasBadRest : List ℕ → EventsKind → Type 0
HasBadRest bytes kind = (v : Verb) × (rest : List ℕ) × HasRest v bytes rest × RestFails v rest kind

-- what is wrong with the line
abbrev pub Fails : List ℕ → EventsKind → Type 0
Fails bytes TooLong = ⊥
Fails bytes NotUtf8 = ⊥
Fails bytes BadVerb = (v : Verb) → BeginsWith v bytes → ⊥
Fails bytes MissingField = ((v : Verb) × (bytes ≡ verb_text v)) ⊎ HasBadRest bytes MissingField
Fails bytes BadSelector = HasBadRest bytes BadSelector
Fails bytes BadNumber = HasBadRest bytes BadNumber

-- the line with this number isn't skipped, and this is its fault
pub record IsFaultyLine (number : ℕ) (bytes : List ℕ) (fault : EventsFault) : Type 0 where
  pub kept : IsSkipped bytes → ⊥
  pub fails : Fails bytes fault.kind
  pub number_is : fault.line ≡ number
