-- What two regular expressions of one text have in common, and that none of them was refused.
use Rattle.std.specs.Prelude.{◌≡◌, ◌<◌, ℕ, List, Option, Some, None, IsSome, IsSomeAnd, IfSome, chars}
use Rattle.std.specs.Str.{IsAscii}
use Rattle.std.proofs.Common.{sym, ◌∙◌, arith, get_or, inl, inr, true}
use Rattle.regex_syntax.specs.Grammar.{read}
use Rattle.regex_syntax.proofs.CapturesLemmas.{◌also◌, alike_sym}
use Rattle.regex.specs.Names.{names_of}
use Rattle.regex.specs.Patterns.{Reads, Refuses, SameCaptures, default_config, find_str}
use Rattle.regex.specs.Strings.{regex_pattern}
use Rattle.regex.specs.declared.string.regex.Regex.{Regex}
use Rattle.regex.proofs.ForCallers.{is_match_alike}
use Rattle.url_rules.specs.Patterns.{IsBuilt, RefusedByGrammar}

both_hold : {A B : Type 0} (o : Option A) (P Q : A → Type 0) → ((x : A) → P x → Q x → B) → IsSomeAnd o P → IsSomeAnd o Q → B
both_hold None P Q f p q = absurd p
both_hold (Some x) P Q f p q = f x p q

reads : (source : List ℕ) (r : Regex) → IsBuilt source r → Reads default_config source r.pattern.program.hir (names_of r.pattern.names.items)
reads source r b = rw (b.source_is, b.config_is) at b.read

same_captures : (source : List ℕ) (r q : Regex) → IsBuilt source r → IsBuilt source q → SameCaptures (regex_pattern r) (regex_pattern q)
unfolding Reads
same_captures source r q a b =
    both_hold (read default_config (chars source)) _ _ (λ x h g. h.1 also (alike_sym g.1)) (reads source r a) (reads source q b)

-- they are found in the same texts
pub found_alike : (source text : List ℕ) (r q : Regex) → IsAscii text → IsBuilt source r → IsBuilt source q → IsSome (find_str (regex_pattern r) text 0) → IsSome (find_str (regex_pattern q) text 0)
found_alike source text r q ascii a b found =
    let bytes : (k : ℕ) → get_or text k 0 < 256 = λ k. let low = ascii k in omega (arith, low) in
    sym (is_match_alike (same_captures source r q a b) text bytes true 0) ∙ found

no_value : {A : Type 0} (o : Option A) (P : A → Type 0) → IsSomeAnd o P → o ≡ None → ⊥
no_value None P p e = absurd p
no_value (Some x) P p e = absurd cc

too_deep : {A : Type 0} (o : Option A) (P Q : A → Type 0) → ((x : A) → P x → Q x → ⊥) → IsSomeAnd o P → IfSome o Q → ⊥
too_deep None P Q f p q = absurd p
too_deep (Some x) P Q f p q = f x p q

-- a text that was built has a reading
pub not_refused : (source : List ℕ) (r : Regex) → IsBuilt source r → RefusedByGrammar source → ⊥
unfolding Reads Refuses
not_refused source r b refused = elim refused.2 [
  | inl memory ↦ refused.1 memory
  | inr rest ↦ elim rest [
    | inl none ↦ no_value (read default_config (chars source)) _ (reads source r b) none
    | inr deep ↦ too_deep (read default_config (chars source)) _ _ (λ x h g. let low = h.0 in omega (arith, low, g)) (reads source r b) deep.1
  ]
]
