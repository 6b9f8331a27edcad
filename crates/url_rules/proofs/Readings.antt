-- A value has one reading as a rule at most.
use Rattle.std.specs.Prelude.{◌≡◌, ◌≢◌, ℕ, zero, suc, List, [], ◌∷◌, ◌++◌, Bool, true, false, ◌||◌, ◌==◌, length, refl, codes, encode_utf8_all}
use Rattle.std.specs.List.{list_any, list_all}
use Rattle.std.proofs.Common.{ap, sym, ◌∙◌, subst, arith, true≢false, eq-eqb}
use Rattle.std.proofs.lemmas.List.{append_cancel_right}
use Rattle.std.proofs.lemmas.Str.{encodes_same}
use Rattle.url_rules.specs.Patterns.{IsBuilt, IsExpression, RefusedByGrammar, Rose, unescaped}
use Rattle.url_rules.specs.Reads.{is_name_byte, scheme_text, ReadsHost, ReadsMatch, ReadsPattern, ReadsGlob, ReadsRule, RefusesRule}
use Rattle.url_rules.specs.Same.{SameRule}
use Rattle.url_rules.specs.declared.rules.SchemeRule.{SchemeRule}
use Rattle.url_rules.specs.declared.rules.HostRule.{HostRule}
use Rattle.url_rules.specs.declared.rules.HostRule.TheVariants.{Any, Below, Only, Empty}
use Rattle.url_rules.specs.declared.rules.MatchPattern.{MatchPattern}
use Rattle.url_rules.specs.declared.rules.Rule.{Rule}
use Rattle.url_rules.specs.declared.rules.Rule.TheVariants.{Glob, Regular, AllUrls, Match}
use Rattle.url_rules.specs.declared.read.RuleKind.{RuleKind}
use Rattle.url_rules.specs.declared.read.RuleKind.TheVariants as kind
use Rattle.url_rules.specs.declared.read.RuleFault.{RuleFault}
use Rattle.url_rules.specs.declared.read.RuleFault.TheVariants as fault
use Rattle.url_rules.proofs.Built as built
use Rattle.url_rules.proofs.ReadParts.{scheme_solid, host_solid, one_scheme}

-- ---- lists

first_of : (a b : ℕ) (xs ys : List ℕ) → a ∷ xs ≡ b ∷ ys → (a ≡ b) × (xs ≡ ys)
first_of a b xs ys e = (cc e, cc e)

any_first : (x c : ℕ) (xs : List ℕ) → x ≡ c → list_any (λ d. d == c) (x ∷ xs) ≡ true
any_first x c xs e = ap (λ b. b || list_any (λ d. d == c) xs) (eq-eqb x c e)

any_rest : (a b : Bool) → a || b ≡ false → b ≡ false
any_rest true b h = absurd (true≢false h)
any_rest false b h = h

-- two splits of a list at the first c
first_split : (c : ℕ) (xs ys us vs : List ℕ) → list_any (λ d. d == c) xs ≡ false → list_any (λ d. d == c) us ≡ false → xs ++ (c ∷ ys) ≡ us ++ (c ∷ vs) → (xs ≡ us) × (ys ≡ vs)
first_split c [] ys [] vs p q e = (refl, (first_of c c ys vs e).1)
first_split c [] ys (u ∷ us) vs p q e = absurd (true≢false (sym (any_first u c us (sym (first_of c u ys (us ++ (c ∷ vs)) e).0)) ∙ q))
first_split c (x ∷ xs) ys [] vs p q e = absurd (true≢false (sym (any_first x c xs (first_of x c (xs ++ (c ∷ ys)) vs e).0) ∙ p))
first_split c (x ∷ xs) ys (u ∷ us) vs p q e =
    let heads = first_of x u (xs ++ (c ∷ ys)) (us ++ (c ∷ vs)) e in
    let rest = first_split c xs ys us vs (any_rest (x == c) (list_any (λ d. d == c) xs) p) (any_rest (u == c) (list_any (λ d. d == c) us) q) heads.1 in
    let first = heads.0 in
    let more = rest.0 in (cc (first, more), rest.1)

any_later : (a b : Bool) → b ≡ true → a || b ≡ true
any_later true b h = refl
any_later false b h = h

holds_c : (c : ℕ) (xs ys : List ℕ) → list_any (λ d. d == c) (xs ++ (c ∷ ys)) ≡ true
holds_c c [] ys = any_first c c ys refl
holds_c c (x ∷ xs) ys = any_later (x == c) (list_any (λ d. d == c) (xs ++ (c ∷ ys))) (holds_c c xs ys)

-- ---- match patterns

star_apart : {A : Type 0} (a b : ℕ) (text rest : List ℕ) → text ≡ a ∷ [] → text ≡ a ∷ b ∷ rest → A
star_apart a b text rest p q = let lengths : suc zero ≡ suc (suc (length rest)) = sym (ap length p) ∙ ap length q in absurd (omega (arith, lengths))

no_name : {A : Type 0} (text name : List ℕ) → list_all is_name_byte text ≡ false → list_all is_name_byte name ≡ true → text ≡ name → A
no_name text name p q e = absurd (true≢false (sym q ∙ sym (ap (list_all is_name_byte) e) ∙ p))

one_host : (scheme : SchemeRule) (text : List ℕ) (h g : HostRule) → ReadsHost scheme text h → ReadsHost scheme text g → h ≡ g
one_host scheme text Any Any p q = refl
one_host scheme text Any (Below n) p q = star_apart 42 46 text (encode_utf8_all n) p q.1
one_host scheme text Any (Only n) p q = no_name (codes "*") (encode_utf8_all n) refl q.0.1 (sym p ∙ q.1)
one_host scheme text Any Empty p q = absurd (let e : codes "*" ≡ [] = sym p ∙ q.0 in let lengths : suc zero ≡ zero = ap length e in omega (arith, lengths))
one_host scheme text (Below n) Any p q = star_apart 42 46 text (encode_utf8_all n) q p.1
one_host scheme text (Below n) (Below m) p q =
    let both : 42 ∷ 46 ∷ encode_utf8_all n ≡ 42 ∷ 46 ∷ encode_utf8_all m = sym p.1 ∙ q.1 in
    let names : encode_utf8_all n ≡ encode_utf8_all m = cc both in ap Below (encodes_same n m names)
one_host scheme text (Below n) (Only m) p q = no_name (42 ∷ 46 ∷ encode_utf8_all n) (encode_utf8_all m) refl q.0.1 (sym p.1 ∙ q.1)
one_host scheme text (Below n) Empty p q = absurd (let e : 42 ∷ 46 ∷ encode_utf8_all n ≡ [] = sym p.1 ∙ q.0 in let lengths : suc (suc (length (encode_utf8_all n))) ≡ zero = ap length e in omega (arith, lengths))
one_host scheme text (Only n) Any p q = no_name (codes "*") (encode_utf8_all n) refl p.0.1 (sym q ∙ p.1)
one_host scheme text (Only n) (Below m) p q = no_name (42 ∷ 46 ∷ encode_utf8_all m) (encode_utf8_all n) refl p.0.1 (sym q.1 ∙ p.1)
one_host scheme text (Only n) (Only m) p q = ap Only (encodes_same n m (sym p.1 ∙ q.1))
one_host scheme text (Only n) Empty p q = absurd (p.0.0 (sym p.1 ∙ q.0))
one_host scheme text Empty Any p q = absurd (let e : codes "*" ≡ [] = sym q ∙ p.0 in let lengths : suc zero ≡ zero = ap length e in omega (arith, lengths))
one_host scheme text Empty (Below n) p q = absurd (let e : 42 ∷ 46 ∷ encode_utf8_all n ≡ [] = sym q.1 ∙ p.0 in let lengths : suc (suc (length (encode_utf8_all n))) ≡ zero = ap length e in omega (arith, lengths))
one_host scheme text Empty (Only n) p q = absurd (q.0.0 (sym q.1 ∙ p.0))
one_host scheme text Empty Empty p q = refl

same_match : (p q : MatchPattern) → p.scheme ≡ q.scheme → p.host ≡ q.host → p.path ≡ q.path → p ≡ q
same_match p q scheme host path = λ i. record { scheme = scheme i; host = host i; path = path i }

-- what follows `://`
after_mark : (xs ys : List ℕ) → 47 ∷ 47 ∷ xs ≡ 47 ∷ 47 ∷ ys → xs ≡ ys
after_mark xs ys e = cc e

one_match : (s : List ℕ) (p q : MatchPattern) → ReadsMatch s p → ReadsMatch s q → p ≡ q
one_match s p q a b =
    let schemes = first_split 58 (scheme_text p.scheme) (47 ∷ 47 ∷ (a.host ++ (47 ∷ a.tail))) (scheme_text q.scheme) (47 ∷ 47 ∷ (b.host ++ (47 ∷ b.tail))) (scheme_solid p.scheme) (scheme_solid q.scheme) (sym a.spelled ∙ b.spelled) in
    let scheme = one_scheme p.scheme q.scheme schemes.0 in
    let rest = after_mark (a.host ++ (47 ∷ a.tail)) (b.host ++ (47 ∷ b.tail)) schemes.1 in
    let hosts = first_split 47 a.host a.tail b.host b.tail (host_solid p.scheme a.host p.host a.host_is) (host_solid q.scheme b.host q.host b.host_is) rest in
    let second : ReadsHost p.scheme a.host q.host = subst (λ (k : SchemeRule). ReadsHost k a.host q.host) (sym scheme) (subst (λ (t : List ℕ). ReadsHost q.scheme t q.host) (sym hosts.0) b.host_is) in
    same_match p q scheme (one_host p.scheme a.host p.host q.host a.host_is second) (encodes_same p.path q.path (a.path_is ∙ ap (λ (t : List ℕ). 47 ∷ t) hosts.1 ∙ sym b.path_is))

not_both : {A : Type 0} (s : List ℕ) (p : MatchPattern) → s ≡ codes "<all_urls>" → ReadsMatch s p → A
not_both s p all m =
    let colon : list_any (λ d. d == 58) s ≡ true = ap (list_any (λ d. d == 58)) m.spelled ∙ holds_c 58 (scheme_text p.scheme) (47 ∷ 47 ∷ (m.host ++ (47 ∷ m.tail))) in
    let none : list_any (λ d. d == 58) s ≡ false = ap (list_any (λ d. d == 58)) all in
    absurd (true≢false (sym colon ∙ none))

one_pattern : (s : List ℕ) (r q : Rule) → ReadsPattern s r → ReadsPattern s q → SameRule r q
one_pattern s (Glob t) q a b = absurd a
one_pattern s (Regular r) q a b = absurd a
one_pattern s AllUrls (Glob t) a b = absurd b
one_pattern s AllUrls (Regular r) a b = absurd b
one_pattern s AllUrls AllUrls a b = refl
one_pattern s AllUrls (Match p) a b = not_both s p a b
one_pattern s (Match p) (Glob t) a b = absurd b
one_pattern s (Match p) (Regular r) a b = absurd b
one_pattern s (Match p) AllUrls a b = not_both s p b a
one_pattern s (Match p) (Match q) a b = ap Match (one_match s p q a b)

-- ---- globs and regular expressions

one_middle : (s m n : List ℕ) → IsExpression s m → IsExpression s n → m ≡ n
one_middle s m n p q =
    let both : 47 ∷ (m ++ 47 ∷ []) ≡ 47 ∷ (n ++ 47 ∷ []) = sym p ∙ q in
    append_cancel_right m n (47 ∷ []) (first_of 47 47 (m ++ 47 ∷ []) (n ++ 47 ∷ []) both).1

one_glob : (s : List ℕ) (r q : Rule) → ReadsGlob s r → ReadsGlob s q → SameRule r q
one_glob s (Glob t) (Glob u) a b = ap Glob (encodes_same t u (a.1 ∙ sym b.1))
one_glob s (Glob t) (Regular q) a b = absurd (a.0 b.0 b.1)
one_glob s (Glob t) AllUrls a b = absurd b
one_glob s (Glob t) (Match p) a b = absurd b
one_glob s (Regular r) (Glob t) a b = absurd (b.0 a.0 a.1)
one_glob s (Regular r) (Regular q) a b = (unescaped a.0, a.2, subst (λ (m : List ℕ). IsBuilt (unescaped m) q) (one_middle s b.0 a.0 b.1 a.1) b.2)
one_glob s (Regular r) AllUrls a b = absurd b
one_glob s (Regular r) (Match p) a b = absurd b
one_glob s AllUrls q a b = absurd a
one_glob s (Match p) q a b = absurd a

pub one_rule : (line : RuleKind) (s : List ℕ) (r q : Rule) → ReadsRule line s r → ReadsRule line s q → SameRule r q
one_rule kind.Glob s r q a b = one_glob s r q a b
one_rule kind.Pattern s r q a b = one_pattern s r q a b

-- ---- refusals

expression_read : (s : List ℕ) (r : Rule) (m : List ℕ) → ReadsGlob s r → IsExpression s m → RefusedByGrammar (unescaped m) → ⊥
expression_read s (Glob t) m a is refused = a.0 m is
expression_read s (Regular r) m a is refused = built.not_refused (unescaped m) r (subst (λ (n : List ℕ). IsBuilt (unescaped n) r) (one_middle s a.0 m a.1 is) a.2) refused
expression_read s AllUrls m a is refused = a
expression_read s (Match p) m a is refused = a

other_kind : {A : Type 0} → kind.Pattern ≡ kind.Glob → A
other_kind e = absurd cc

same_kind : {A : Type 0} → kind.Glob ≡ kind.Pattern → A
same_kind e = absurd cc

pub not_refused : (line : RuleKind) (s : List ℕ) (r : Rule) (before after : ℕ) (f : RuleFault) → ReadsRule line s r → (Rose before after → ⊥) → f ≢ fault.NoMemory → RefusesRule before after line s f → ⊥
not_refused kind.Glob s r before after fault.BadPattern a steady known h = same_kind h.0
not_refused kind.Pattern s r before after fault.BadPattern a steady known h = h.1 r a
not_refused kind.Glob s r before after fault.PatternSyntax a steady known h = expression_read s r h.1.0 a h.1.1 h.1.2
not_refused kind.Pattern s r before after fault.PatternSyntax a steady known h = other_kind h.0
not_refused line s r before after fault.PatternTooBig a steady known h = steady h.2
not_refused line s r before after fault.NoMemory a steady known h = known refl
