-- How the value of a rule is read: the grammar of match patterns, and that of includes and excludes (this project's own words,
-- after the Greasemonkey manual, Include and exclude rules, and MDN, Match patterns).
use Rattle.std.specs.Prelude.{⊤, ◌≡◌, ◌≢◌, ℕ, List, [], ◌∷◌, ◌++◌, Bool, true, ◌&&◌, ◌||◌, ◌==◌, nat_le, codes, encode_utf8_all, Result, Ok, Err}
use Rattle.std.specs.List.{list_all}
use Rattle.url_rules.specs.Patterns.{IsBuilt, IsExpression, RefusedByGrammar, Rose, risen, unescaped}
use Rattle.url_rules.specs.declared.rules.SchemeRule.{SchemeRule}
use Rattle.url_rules.specs.declared.rules.SchemeRule.TheVariants.{HttpOrHttps, Http, Https, Ftp, File}
use Rattle.url_rules.specs.declared.rules.HostRule.{HostRule}
use Rattle.url_rules.specs.declared.rules.HostRule.TheVariants.{Any, Below, Only, Empty}
use Rattle.url_rules.specs.declared.rules.MatchPattern.{MatchPattern}
use Rattle.url_rules.specs.declared.rules.Rule.{Rule}
use Rattle.url_rules.specs.declared.rules.Rule.TheVariants.{Glob, Regular, AllUrls, Match}
use Rattle.url_rules.specs.declared.read.RuleKind.{RuleKind}
use Rattle.url_rules.specs.declared.read.RuleKind.TheVariants as kind
use Rattle.url_rules.specs.declared.read.RuleFault.{RuleFault}
use Rattle.url_rules.specs.declared.read.RuleFault.TheVariants as fault

-- an ASCII letter, a digit, `-` or `.`
abbrev pub is_name_byte : ℕ → Bool
is_name_byte b = (nat_le 97 b && nat_le b 122) || ((nat_le 65 b && nat_le b 90) || ((nat_le 48 b && nat_le b 57) || (b == 45 || b == 46)))

abbrev pub IsName : List ℕ → Type 0
IsName name = (name ≢ []) × (list_all is_name_byte name ≡ true)

abbrev pub scheme_text : SchemeRule → List ℕ
scheme_text HttpOrHttps = codes "*"
scheme_text Http = codes "http"
scheme_text Https = codes "https"
scheme_text Ftp = codes "ftp"
scheme_text File = codes "file"

-- `*`, `*.name`, a name, or with `file` nothing
abbrev pub ReadsHost : SchemeRule → List ℕ → HostRule → Type 0
ReadsHost scheme text Any = text ≡ codes "*"
ReadsHost scheme text (Below name) = IsName (encode_utf8_all name) × (text ≡ 42 ∷ 46 ∷ encode_utf8_all name)
ReadsHost scheme text (Only name) = IsName (encode_utf8_all name) × (text ≡ encode_utf8_all name)
ReadsHost scheme text Empty = (text ≡ []) × (scheme ≡ File)

-- `scheme://host/path`
pub record ReadsMatch (s : List ℕ) (p : MatchPattern) : Type 0 where
  pub host : List ℕ
  pub tail : List ℕ
  pub spelled : s ≡ scheme_text p.scheme ++ (58 ∷ 47 ∷ 47 ∷ (host ++ (47 ∷ tail)))
  pub host_is : ReadsHost p.scheme host p.host
  pub path_is : encode_utf8_all p.path ≡ 47 ∷ tail

-- the value of a `@match` line is this rule
abbrev pub ReadsPattern : List ℕ → Rule → Type 0
ReadsPattern s (Glob t) = ⊥
ReadsPattern s (Regular r) = ⊥
ReadsPattern s AllUrls = s ≡ codes "<all_urls>"
ReadsPattern s (Match p) = ReadsMatch s p

-- the value of an `@include` or `@exclude` line is this rule
abbrev pub ReadsGlob : List ℕ → Rule → Type 0
ReadsGlob s (Glob t) = ((middle : List ℕ) → IsExpression s middle → ⊥) × (encode_utf8_all t ≡ s)
ReadsGlob s (Regular r) = (middle : List ℕ) × IsExpression s middle × IsBuilt (unescaped middle) r
ReadsGlob s AllUrls = ⊥
ReadsGlob s (Match p) = ⊥

-- the value of a line of this kind is this rule
abbrev pub ReadsRule : RuleKind → List ℕ → Rule → Type 0
ReadsRule kind.Glob s r = ReadsGlob s r
ReadsRule kind.Pattern s r = ReadsPattern s r

-- the value is of a `@match` line, and no match pattern
abbrev pub IsNoPattern : RuleKind → List ℕ → Type 0
IsNoPattern line s = (line ≡ kind.Pattern) × ((r : Rule) → ReadsPattern s r → ⊥)

-- the value is a regular expression that the grammar of `regex` doesn't read, or that nests too deep for it
abbrev pub IsNoExpression : RuleKind → List ℕ → Type 0
IsNoExpression line s = (line ≡ kind.Glob) × ((middle : List ℕ) × IsExpression s middle × RefusedByGrammar (unescaped middle))

-- the value is a regular expression, and the count of those that were too big rose
abbrev pub IsTooBig : ℕ → ℕ → RuleKind → List ℕ → Type 0
IsTooBig before after line s = (line ≡ kind.Glob) × ((middle : List ℕ) × IsExpression s middle) × Rose before after

-- why the value is refused, where the count of size refusals went from `before` to `after`
abbrev pub RefusesRule : ℕ → ℕ → RuleKind → List ℕ → RuleFault → Type 0
RefusesRule before after line s fault.BadPattern = IsNoPattern line s
RefusesRule before after line s fault.PatternSyntax = IsNoExpression line s
RefusesRule before after line s fault.PatternTooBig = IsTooBig before after line s
RefusesRule before after line s fault.NoMemory = ⊤

-- the count of size refusals after a value was read with this result
abbrev pub refused_by : ℕ → Result Rule RuleFault → ℕ
refused_by before (Ok _) = before
refused_by before (Err fault.BadPattern) = before
refused_by before (Err fault.PatternSyntax) = before
refused_by before (Err fault.PatternTooBig) = risen before
refused_by before (Err fault.NoMemory) = before

-- the value is refused, and the count went from `before` to `after`
abbrev pub IsRefused : ℕ → ℕ → RuleKind → List ℕ → Type 0
IsRefused before after line s = (f : RuleFault) × (f ≢ fault.NoMemory) × RefusesRule before after line s f × (after ≡ refused_by before (Err f))
