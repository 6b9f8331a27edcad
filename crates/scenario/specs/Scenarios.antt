-- What a scenario says, and why one is refused: this project's own. Lines end with LF, and a CR before it is dropped (`lines`).
use Rattle.std.specs.Prelude.{◌≡◌, ◌≤◌, ◌<◌, ◌+◌, ◌⊎◌, ℕ, List, [], ◌∷◌, length}
use Rattle.std.specs.Str.{IsUtf8}
use Rattle.std.specs.Str.Lines.{lines}
use Rattle.scenario.specs.Lines.{IsLine, IsSkipped, IsFaultyLine}
use Rattle.scenario.specs.declared.line.Line.{Line}
use Rattle.scenario.specs.declared.line.TheConstants.{SCENARIO_LIMIT}
use Rattle.scenario.specs.declared.fault.EventsKind.TheVariants.{TooLong, NotUtf8}
use Rattle.scenario.specs.declared.fault.EventsFault.{EventsFault}

-- the lines, of which the first has this number, say this: each is skipped or says something
abbrev pub SayAll : ℕ → List (List ℕ) → List Line → Type 0
SayAll n [] read = read ≡ []
SayAll n (bytes ∷ more) read =
    (IsSkipped bytes × SayAll (n + 1) more read)
    ⊎ ((line : Line) × (rest : List Line) × IsLine n bytes line × (read ≡ line ∷ rest) × SayAll (n + 1) more rest)

-- the line with this number has no fault
abbrev pub IsFine : ℕ → List ℕ → Type 0
IsFine n bytes = IsSkipped bytes ⊎ ((line : Line) × IsLine n bytes line)

-- this is the fault of the first faulty line of these, of which the first has this number
abbrev pub FailsFirst : ℕ → List (List ℕ) → EventsFault → Type 0
FailsFirst n [] fault = ⊥
FailsFirst n (bytes ∷ more) fault = IsFaultyLine n bytes fault ⊎ (IsFine n bytes × FailsFirst (n + 1) more fault)

-- bytes of UTF-8 within the limit
pub record IsFile (bytes : List ℕ) : Type 0 where
  pub within : length bytes ≤ SCENARIO_LIMIT
  pub utf8 : IsUtf8 bytes

-- the bytes say this
abbrev pub IsScenario : List ℕ → List Line → Type 0
IsScenario bytes read = IsFile bytes × SayAll 1 (lines bytes) read

-- the bytes aren't UTF-8, and no more than the limit
abbrev pub IsNotUtf8 : List ℕ → Type 0
IsNotUtf8 bytes = (length bytes ≤ SCENARIO_LIMIT) × (IsUtf8 bytes → ⊥)

-- this is the fault of the bytes
abbrev pub IsRefused : List ℕ → EventsFault → Type 0
IsRefused bytes fault =
    ((SCENARIO_LIMIT < length bytes) × (fault ≡ record { line = 0; kind = TooLong }))
    ⊎ ((IsNotUtf8 bytes × (fault ≡ record { line = 0; kind = NotUtf8 })) ⊎ (IsFile bytes × FailsFirst 1 (lines bytes) fault))
