-- The text of a sum, from its end to its front.
use Rattle.std.proofs.Common.{◌≡◌, ℕ, ◌≤◌, true, false, ◌&&◌, ◌==◌, List, [], ◌∷◌, ◌++◌, length, codes, refl, sym, ap, subst, append_assoc, arith}
use Rattle.std.specs.List.{flat_map}
use Rattle.std.specs.Fmt.{decimal}
use Rattle.std.specs.Prelude.{pos}
use Rattle.std.proofs.lemmas.Bool.Decides.{nat_tests}
use Rattle.unicode_ident.proofs.Computing.{unicode_ident}
use Rattle.base_text.specs.Scalars.{utf8_len}
use Rattle.base_text.specs.declared.text.TheConstants.{TEXT_LIMIT}
use Rattle.js_syntax.specs.declared.symbol.Symbol.TheVariants as s
use Rattle.js_syntax.specs.declared.tree.Expr.TheVariants as ex
use Rattle.js_syntax.specs.Symbols.{Tokens}
use Rattle.js_syntax.specs.Words.{suffixes}
use Rattle.js_syntax.specs.Grammar.{Parts, Suffixed, Binary, Assign}
use Rattle.js_syntax.specs.declared.limits.TheConstants.{CHAIN_LIMIT}
use Rattle.js_syntax.specs.TokenScalars.{Scalars, NotNext, is_name_part, is_decimal, is_hexadecimal, runs_on}
use Rattle.js_syntax.specs.TokenSpelling.{begins_hexadecimal}
use Rattle.small_forms.specs.Bytes.{is_in}
use Rattle.small_forms.specs.declared.bytes.Class.TheVariants.{AlphanumericOrBlank}
use Rattle.small_forms.specs.declared.script.Part.{Part}
use Rattle.small_forms.specs.declared.script.Part.TheVariants.{Title, Number, Quoted}
use Rattle.small_forms.specs.declared.script.Sum.{Sum}
use Rattle.small_forms.specs.Scripts.{AreParts, IsPart, IsSum, added_text, part_text, sum_text}
use Rattle.small_scripts.specs.Trees.{title, part_expr, sum_expr}
use Rattle.small_scripts.proofs.Front.{Has, Led, Then, as_well}
use Rattle.small_scripts.proofs.Tests.{are_all}
use Rattle.small_scripts.proofs.Words.{past_document, past_title, is_inside, past_quoted}
use Rattle.small_scripts.proofs.Marks.{past_dot, past_plus}
use Rattle.small_scripts.proofs.Numbers.{past_number, number_leaf}
use Rattle.small_scripts.proofs.Gaps.{past_space}
use Rattle.small_scripts.proofs.Ends.{Lacks, EndsPart, EndsWhole, plus_ends}
use Rattle.small_scripts.proofs.Expressions as expressions
use Rattle.small_scripts.proofs.Expressions.{Goes, Added}

-- ---- what stands behind a part

-- no name and no number goes on with this text
pub record Stands (rest : Scalars) : Type 0 where
  pub no_name : NotNext is_name_part rest
  pub no_digit : NotNext is_decimal rest
  pub no_stuck : NotNext runs_on rest
  pub no_hexadecimal : begins_hexadecimal rest ≡ false

no_hexadecimal : (c : ℕ) (rest : Scalars) → (c == 120) ≡ false → begins_hexadecimal (c ∷ rest) ≡ false
no_hexadecimal c [] h = refl
no_hexadecimal c (d ∷ rest) h = ap (λ b. b && is_hexadecimal d) h

pub space_stands : (rest : Scalars) → Stands (32 ∷ rest)
unfolding unicode_ident
space_stands rest = record { no_name = refl; no_digit = refl; no_stuck = refl; no_hexadecimal = no_hexadecimal 32 rest refl }

pub close_stands : (rest : Scalars) → Stands (41 ∷ rest)
unfolding unicode_ident
close_stands rest = record { no_name = refl; no_digit = refl; no_stuck = refl; no_hexadecimal = no_hexadecimal 41 rest refl }

pub semicolon_stands : (rest : Scalars) → Stands (59 ∷ rest)
unfolding unicode_ident
semicolon_stands rest = record { no_name = refl; no_digit = refl; no_stuck = refl; no_hexadecimal = no_hexadecimal 59 rest refl }

pub dot_is_no_name : (rest : Scalars) → NotNext is_name_part (46 ∷ rest)
unfolding unicode_ident
dot_is_no_name rest = refl

pub open_is_no_name : (rest : Scalars) → NotNext is_name_part (40 ∷ rest)
unfolding unicode_ident
open_is_no_name rest = refl

-- ---- parts

-- `document.title`
pub past_whole_title : (P : Parts) (Q : Tokens → Type 0) (rest : Scalars) → ((ts : Tokens) → Q ts → Lacks suffixes ts) → NotNext is_name_part rest → Has Q rest
    → Has (Led s.Name (codes "document") (Then (Goes P CHAIN_LIMIT (ex.Name (codes "document")) title) Q)) (codes "document.title" ++ rest)
past_whole_title P Q rest ends next h =
    let dot : Scalars = 46 ∷ [] in
    let Last = Then (Goes P 63 title title) Q in
    let last : Has Last rest = as_well Q Last rest (λ ts q. expressions.goes_no_further P 63 title Q ts (ends ts q) q) h in
    let named = past_dot (Led s.Name (codes "title") Last) (codes "title" ++ rest) (past_title Last rest next last) in
    let Member = Then (Goes P 64 (ex.Name (codes "document")) title) Q in
    past_document Member (codes ".title" ++ rest) (dot_is_no_name (codes "title" ++ rest))
    (as_well (Led s.Dot dot (Led s.Name (codes "title") Last)) Member (codes ".title" ++ rest) (expressions.goes_to_member P 63 (codes "title") dot (ex.Name (codes "document")) title Q) named)

inside : (c : ℕ) → is_in AlphanumericOrBlank c ≡ true → is_inside c ≡ true
inside c h = grind (arith, nat_tests)

-- a part's text isn't too long for a token
abbrev pub IsShort : Part → Type 0
IsShort Title = Unit {0}
IsShort (Number n) = Unit {0}
IsShort (Quoted text) = utf8_len text ≤ TEXT_LIMIT

past_suffixed : (P : Parts) (part : Part) (Q : Tokens → Type 0) (rest : Scalars) → IsPart part → IsShort part → ((ts : Tokens) → Q ts → Lacks suffixes ts) → Stands rest → Has Q rest → Has (Then (Suffixed CHAIN_LIMIT P (part_expr part)) Q) (part_text part ++ rest)
past_suffixed P Title Q rest is short ends stands h =
    as_well _ _ _ (expressions.begins P s.Name (codes "document") (ex.Name (codes "document")) title Q refl expressions.name_leaf) (past_whole_title P Q rest ends stands.no_name h)
past_suffixed P (Number n) Q rest is short ends stands h =
    let a = ex.Number (pos n) in
    let Last = Then (Goes P CHAIN_LIMIT a a) Q in
    as_well (Led s.Number (decimal n) Last) _ _ (expressions.begins P s.Number (decimal n) a a Q (number_leaf n is) expressions.number_leaf)
    (past_number Last n rest is stands.no_digit stands.no_stuck stands.no_hexadecimal (as_well Q Last rest (λ ts q. expressions.goes_no_further P CHAIN_LIMIT a Q ts (ends ts q) q) h))
past_suffixed P (Quoted text) Q rest is short ends stands h =
    let a = ex.Str text in
    let Last = Then (Goes P CHAIN_LIMIT a a) Q in
    as_well (Led s.Str text Last) _ _ (expressions.begins P s.Str text a a Q refl expressions.text_leaf)
    (past_quoted Last text rest (are_all (is_in AlphanumericOrBlank) is_inside inside text is) short (as_well Q Last rest (λ ts q. expressions.goes_no_further P CHAIN_LIMIT a Q ts (ends ts q) q) h))

past_part : (P : Parts) (part : Part) (Q : Tokens → Type 0) (rest : Scalars) → IsPart part → IsShort part → ((ts : Tokens) → Q ts → EndsPart ts) → Stands rest → Has Q rest → Has (Then (Binary CHAIN_LIMIT P true 1 (part_expr part)) Q) (part_text part ++ rest)
past_part P part Q rest is short ends stands h =
    as_well (Then (Suffixed CHAIN_LIMIT P (part_expr part)) Q) _ _ (λ ts. expressions.is_part P (part_expr part) Q ts ends) (past_suffixed P part Q rest is short (λ ts q. (ends ts q).no_suffix) stands h)

-- ---- further parts

-- each of them is short
abbrev pub AreShort : List Part → Type 0
AreShort [] = Unit {0}
AreShort (part ∷ parts) = IsShort part × AreShort parts

-- further parts, and that they don't go on with the part before them
abbrev More : Parts → List Part → (Tokens → Type 0) → Tokens → Type 0
More P parts Q ts = EndsPart ts × Then (Added P parts) Q ts

more_ends : (P : Parts) (parts : List Part) (Q : Tokens → Type 0) (ts : Tokens) → More P parts Q ts → EndsPart ts
more_ends P parts Q ts m = m.0

more_stands : (parts : List Part) (rest : Scalars) → Stands rest → Stands (flat_map added_text parts ++ rest)
more_stands [] rest stands = stands
more_stands (part ∷ parts) rest stands = space_stands _

joined : (part : Part) (parts : List Part) (rest : Scalars) → flat_map added_text (part ∷ parts) ++ rest ≡ 32 ∷ (43 ∷ (32 ∷ (part_text part ++ (flat_map added_text parts ++ rest))))
joined part parts rest = ap (λ (x : Scalars). 32 ∷ (43 ∷ (32 ∷ x))) (append_assoc (part_text part) (flat_map added_text parts) rest)

past_more : (P : Parts) (parts : List Part) (Q : Tokens → Type 0) (rest : Scalars) → AreParts parts → AreShort parts → ((ts : Tokens) → Q ts → EndsWhole ts) → Stands rest → Has Q rest → Has (More P parts Q) (flat_map added_text parts ++ rest)
past_more P [] Q rest are short ends stands h = as_well Q (More P [] Q) rest (λ ts q. ((ends ts q).target.part, expressions.none_added P Q ts (ends ts q).target.no_sum q)) h
past_more P (part ∷ parts) Q rest are short ends stands h =
    let plus : Scalars = 43 ∷ [] in
    let Later = Then (Added P parts) Q in
    let After = More P parts Q in
    let Item = Then (Binary CHAIN_LIMIT P true 1 (part_expr part)) Later in
    let behind = flat_map added_text parts ++ rest in
    let later : Has After behind = past_more P parts Q rest are.1 short.1 ends stands h in
    let item : Has Item (part_text part ++ behind) =
    as_well (Then (Binary CHAIN_LIMIT P true 1 (part_expr part)) After) Item _ (λ ts x. (x.0, x.1, x.2.1)) (past_part P part After behind are.0 short.0 (more_ends P parts Q) (more_stands parts rest stands) later) in
    let led_ = past_plus Item (part_text part ++ behind) (past_space Item (part_text part ++ behind) item) in
    subst (Has (More P (part ∷ parts) Q)) (sym (joined part parts rest))
    (past_space (More P (part ∷ parts) Q) (43 ∷ (32 ∷ (part_text part ++ behind))) (as_well (Led s.Plus plus Item) _ _ (λ ts l. (plus_ends plus Item ts l, expressions.one_added P part parts plus Q ts l)) led_))

-- ---- sums

-- no part's text is too long for a token
pub record IsShortSum (sum : Sum) : Type 0 where
  pub first : IsShort sum.first
  pub more : AreShort sum.more

few : (n : ℕ) → n ≤ 7 → n ≤ CHAIN_LIMIT
few n h = omega arith

pub past_sum : (P : Parts) (sum : Sum) (Q : Tokens → Type 0) (rest : Scalars) → IsSum sum → IsShortSum sum → ((ts : Tokens) → Q ts → EndsWhole ts) → Stands rest → Has Q rest → Has (Then (Assign CHAIN_LIMIT P true (sum_expr sum)) Q) (sum_text sum ++ rest)
past_sum P sum Q rest is short ends stands h =
    let behind = flat_map added_text sum.more ++ rest in
    let After = More P sum.more Q in
    let later : Has After behind = past_more P sum.more Q rest is.more short.more ends stands h in
    let item = past_part P sum.first After behind is.first short.first (more_ends P sum.more Q) (more_stands sum.more rest stands) later in
    subst (Has (Then (Assign CHAIN_LIMIT P true (sum_expr sum)) Q)) (sym (append_assoc (part_text sum.first) (flat_map added_text sum.more) rest))
    (as_well (Then (Binary CHAIN_LIMIT P true 1 (part_expr sum.first)) After) _ _ (λ ts x. expressions.is_sum P sum.first sum.more Q ts ends (few (length sum.more) is.few) (x.0, x.1, x.2.1)) item)
