-- For private clauses: parts of a line, and lines that are borrowed.
use Rattle.std.specs.Prelude.{◌≡◌, ◌≢◌, ◌⊎◌, ℕ, List, [], ◌∷◌, ◌++◌, map}
use Rattle.std.specs.Borrow.{Bor}
use Rattle.scenario.specs.Lines.{HasNoSpace, IsLine, IsSkipped, Says, number_of, verb_of}
use Rattle.scenario.specs.declared.line.Line.{Line}
use Rattle.scenario.specs.declared.line.Verb.{Verb}

-- the first runs to the first space of the text, and the rest follows that
abbrev pub IsSplit : List ℕ → List ℕ → List ℕ → Type 0
IsSplit text first rest = HasNoSpace first × (text ≡ first ++ (32 ∷ rest))

-- no sign first, and no zero before others
abbrev pub IsPlain : List ℕ → Type 0
IsPlain [] = ⊥
IsPlain (b ∷ []) = b ≢ 43
IsPlain (b ∷ c ∷ more) = (b ≢ 48) × (b ≢ 43)

-- with this verb, the rest of a line with this number says this
pub record IsSaid (number : ℕ) (v : Verb) (rest : List ℕ) (line : Line) : Type 0 where
  pub verb_is : verb_of line ≡ v
  pub says : Says rest line
  pub number_is : number_of line ≡ number

-- what the line says comes last, if it isn't skipped
abbrev pub Pushes : ℕ → List ℕ → List Line → List Line → Type 0
Pushes n bytes old new = (IsSkipped bytes × (new ≡ old)) ⊎ ((line : Line) × IsLine n bytes line × (new ≡ old ++ (line ∷ [])))

abbrev pub texts : List (Bor (List ℕ)) → List (List ℕ)
texts lines = map (λ line. line.now) lines
