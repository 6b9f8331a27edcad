-- Regular expressions: which are built, and when one is refused.
use Rattle.std.specs.Prelude.{◌≡◌, ◌≢◌, ◌+◌, ◌-◌, ◌^◌, ℕ, min, List, [], ◌∷◌, ◌++◌, Bool, false, ◌==◌, ◌&&◌, if◌then◌else◌, Result, Ok, Err}
use Rattle.regex_syntax.specs.declared.error.ErrorKind.{ErrorKind}
use Rattle.regex_syntax.specs.declared.error.ErrorKind.TheVariants.{OutOfMemory}
use Rattle.regex.specs.Failures.{IsPattern}
use Rattle.regex.specs.Patterns.{Refuses, default_config}
use Rattle.regex.specs.Strings.{regex_source, regex_config, IsReadFromSource}
use Rattle.regex.specs.declared.string.regex.Regex.{Regex}
use Rattle.url_rules.specs.declared.patterns.BuildFault.{BuildFault}
use Rattle.url_rules.specs.declared.patterns.BuildFault.TheVariants.{Syntax, TooBig, NoMemory}

-- the pattern is what `regex` reads in the text
pub record IsBuilt (source : List ℕ) (r : Regex) : Type 0 where
  pub source_is : regex_source r ≡ source
  pub config_is : regex_config r ≡ default_config
  pub read : IsReadFromSource r

-- the grammar of `regex` has no reading of the text, or it nests too deep
abbrev pub RefusedByGrammar : List ℕ → Type 0
RefusedByGrammar source = (kind : ErrorKind) × (kind ≢ OutOfMemory) × Refuses default_config source kind

-- the grammar of `regex` reads the text, within its limit on nesting
abbrev pub IsExpressionText : List ℕ → Type 0
IsExpressionText source = IsPattern default_config source

-- a count that rises by one, and stands still at its last value
abbrev pub risen : ℕ → ℕ
risen count = min (count + 1) (2 ^ 64 - 1)

-- the count has risen by one, or stands at its last value
abbrev pub Rose : ℕ → ℕ → Type 0
Rose before now = now ≡ risen before

-- the count of size refusals after a call with this result
abbrev pub refused_after : ℕ → Result Regex BuildFault → ℕ
refused_after before (Ok _) = before
refused_after before (Err Syntax) = before
refused_after before (Err TooBig) = risen before
refused_after before (Err NoMemory) = before

abbrev pub begins_with_slash : List ℕ → Bool
begins_with_slash [] = false
begins_with_slash (x ∷ xs) = x == 47

-- each pair `\/` as `/`
abbrev pub unescaped : List ℕ → List ℕ
unescaped [] = []
unescaped (x ∷ rest) = if x == 92 && begins_with_slash rest then unescaped rest else x ∷ unescaped rest

-- the value is a regular expression: `/`, the expression, `/`
abbrev pub IsExpression : List ℕ → List ℕ → Type 0
IsExpression value middle = value ≡ 47 ∷ (middle ++ 47 ∷ [])
