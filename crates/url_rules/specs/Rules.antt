-- Which addresses a rule fits (this project's own words, after the Greasemonkey manual, Include and exclude rules, and MDN, Match patterns).
use Rattle.std.specs.Prelude.{◌≡◌, ◌⊎◌, ℕ, List, [], ◌∷◌, ◌++◌, map, codes, ⊤, IsSome, encode_utf8_all}
use Rattle.std.specs.Char.{to_ascii_lowercase}
use Rattle.regex.specs.Patterns.{find_str}
use Rattle.regex.specs.Strings.{regex_pattern}
use Rattle.url_rules.specs.Globs.{GlobFits}
use Rattle.url_rules.specs.Address.{Address, address_text, path_text, host_text_of}
use Rattle.url_rules.specs.declared.rules.SchemeRule.{SchemeRule}
use Rattle.url_rules.specs.declared.rules.SchemeRule.TheVariants.{HttpOrHttps, Http, Https, Ftp, File}
use Rattle.url_rules.specs.declared.rules.HostRule.{HostRule}
use Rattle.url_rules.specs.declared.rules.HostRule.TheVariants.{Any, Below, Only, Empty}
use Rattle.url_rules.specs.declared.rules.MatchPattern.{MatchPattern}
use Rattle.url_rules.specs.declared.rules.Rule.{Rule}
use Rattle.url_rules.specs.declared.rules.Rule.TheVariants.{Glob, Regular, AllUrls, Match}

-- in ASCII lower case
abbrev pub lowered : List ℕ → List ℕ
lowered text = map to_ascii_lowercase text

-- `*` fits http and https, and every other scheme itself
abbrev pub SchemeFits : SchemeRule → List ℕ → Type 0
SchemeFits HttpOrHttps scheme = (scheme ≡ codes "http") ⊎ (scheme ≡ codes "https")
SchemeFits Http scheme = scheme ≡ codes "http"
SchemeFits Https scheme = scheme ≡ codes "https"
SchemeFits Ftp scheme = scheme ≡ codes "ftp"
SchemeFits File scheme = scheme ≡ codes "file"

-- `*.name` fits the name itself and every name below it
abbrev pub HostFits : HostRule → List ℕ → Type 0
HostFits Any host = ⊤
HostFits (Below name) host = (lowered host ≡ lowered (encode_utf8_all name)) ⊎ ((front : List ℕ) × (lowered host ≡ front ++ (46 ∷ lowered (encode_utf8_all name))))
HostFits (Only name) host = lowered host ≡ lowered (encode_utf8_all name)
HostFits Empty host = host ≡ []

-- scheme, host and path fit; the port isn't looked at
pub record MatchFits (p : MatchPattern) (address : Address) : Type 0 where
  pub scheme : SchemeFits p.scheme address.scheme
  pub host : HostFits p.host (host_text_of address)
  pub path : GlobFits (encode_utf8_all p.path) (path_text address)

-- the schemes of `<all_urls>`
abbrev pub IsWebOrFile : List ℕ → Type 0
IsWebOrFile scheme = (scheme ≡ codes "http") ⊎ ((scheme ≡ codes "https") ⊎ ((scheme ≡ codes "ftp") ⊎ (scheme ≡ codes "file")))

-- the rule fits the address
abbrev pub RuleFits : Rule → Address → Type 0
RuleFits (Glob pattern) address = GlobFits (encode_utf8_all pattern) (address_text address)
RuleFits (Regular r) address = IsSome (find_str (regex_pattern r) (address_text address) 0)
RuleFits AllUrls address = IsWebOrFile address.scheme
RuleFits (Match p) address = MatchFits p address
