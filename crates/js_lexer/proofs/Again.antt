-- What is spelled so at the front of a text is read.
use Rattle.std.proofs.Common.{◌≡◌, ℕ, ◌<◌, ◌≤◌, Bool, true, false, ◌||◌, ◌&&◌, ◌==◌, cond, [], ◌∷◌, ◌++◌, length, min, Some, refl, sym, ap, ◌∙◌, append_assoc, arith}
use Rattle.std.specs.Prelude.{nat_lt}
use Rattle.std.proofs.lemmas.Bool.Decides.{nat_tests}
use Rattle.std.proofs.lemmas.List.{append-nil, length-append}
use Rattle.std.specs.Fmt.{decimal}
use Rattle.base_text.specs.Scalars.{utf8_len}
use Rattle.base_text.specs.declared.text.TheConstants.{TEXT_LIMIT}
use Rattle.js_syntax.specs.declared.token.TokenKind.{TokenKind}
use Rattle.js_syntax.specs.declared.token.TokenKind.TheVariants as kinds
use Rattle.js_syntax.specs.declared.token_fault.LexKind.TheVariants.{BadScalar, WideNumber, TooLong}
use Rattle.js_syntax.specs.TokenScalars.{Scalars, AreAll, NotNext, is_in_line, is_name_part, runs_on, is_quote}
use Rattle.js_syntax.specs.TokenTexts.{Within, Spells}
use Rattle.js_syntax.specs.TokenSpelling.{Gap, space, line_end, line_comment, block_comment, HasNoClose, has_line_end, opens_comment, name_kind, widest, punctuators, IsPunctuator, Numeral, Word, name, number, text, punctuator}
use Rattle.js_lexer.specs.RunsModel.{before, after, after_block, after_punctuator, too_wide}
use Rattle.js_lexer.specs.StringLiteralsModel.{Decoded, decode}
use Rattle.js_lexer.specs.TokenAtFrontModel.{gap_of, token_of, fault_of, named, rest_runs_on, numbered, decoded, body_decoded, quoted, commented, punctuated, comment_or_punctuator, at_front}
use Rattle.js_lexer.proofs.Cases.{not_lt_test, when_false}
use Rattle.js_lexer.proofs.Fronts.{before_is, after_again, block_again}
use Rattle.js_lexer.proofs.LongestPunctuator.{after_punctuator_again}
use Rattle.js_lexer.proofs.Numerals.{numeral_again}
use Rattle.js_lexer.proofs.Extents.{closed_again}
use Rattle.js_lexer.proofs.Values.{decode_again, behind, none_left}
use Rattle.js_lexer.proofs.Leads.{at_space, at_line_end, at_name, at_quote, at_other, other_slash, at_punctuator, punctuator_some, at_numeral}

-- ---- gaps

line_again : (inside rest : Scalars) → AreAll is_in_line inside → NotNext is_in_line rest → comment_or_punctuator (47 ∷ (47 ∷ (inside ++ rest))) ≡ gap_of false rest
unfolding comment_or_punctuator
line_again inside rest all next = ap (λ (x : Scalars). gap_of false x) (after_again is_in_line inside rest all next)

block_comment_again : (inside rest : Scalars) → HasNoClose inside → comment_or_punctuator (47 ∷ (42 ∷ (inside ++ 42 ∷ (47 ∷ rest)))) ≡ gap_of (has_line_end inside) rest
unfolding comment_or_punctuator
block_comment_again inside rest h = ap commented (block_again false inside rest h)

pub gap_again : (g rest : Scalars) (b : Bool) → Gap g rest b → at_front (g ++ rest) ≡ gap_of b rest
gap_again g rest b (space c next h) = at_space c next h
gap_again g rest b (line_end c next h) = at_line_end c next h
gap_again g rest b (line_comment inside next all end) = at_other 47 (47 ∷ (inside ++ next)) other_slash ∙ line_again inside next all end
gap_again g rest b (block_comment inside next h) =
    at_other 47 (42 ∷ ((inside ++ 42 ∷ (47 ∷ [])) ++ next)) other_slash
    ∙ ap (λ (t : Scalars). comment_or_punctuator (47 ∷ (42 ∷ t))) (append_assoc inside (42 ∷ (47 ∷ [])) next)
    ∙ block_comment_again inside next h

-- ---- words

named_again : (w rest : Scalars) → utf8_len w ≤ TEXT_LIMIT → named (w ++ rest) rest ≡ token_of (name_kind w) w rest
unfolding named
named_again w rest short =
    ap (λ (x : Scalars). cond (nat_lt TEXT_LIMIT (utf8_len x)) (fault_of 0 TooLong) (token_of (name_kind x) x rest)) (before_is w rest)
    ∙ when_false (nat_lt TEXT_LIMIT (utf8_len w)) (fault_of 0 TooLong) (token_of (name_kind w) w rest) (token_of (name_kind w) w rest) (not_lt_test TEXT_LIMIT (utf8_len w) short) refl

pub free_next : (rest : Scalars) → NotNext runs_on rest → rest_runs_on rest ≡ false
free_next [] h = refl
free_next (c ∷ cs) h = h

min_same : (n : ℕ) → n ≤ widest → min n too_wide ≡ n
min_same n h = omega arith

numbered_again : (whole : Scalars) (n : ℕ) (rest : Scalars) → n ≤ widest → NotNext runs_on rest → numbered whole (n, rest) ≡ token_of kinds.Number (decimal n) rest
unfolding numbered
numbered_again whole n rest le next =
    when_false (nat_lt widest n) (fault_of 0 WideNumber) _ (token_of kinds.Number (decimal n) rest) (not_lt_test widest n le)
    (when_false (rest_runs_on rest) (fault_of (utf8_len (before whole rest)) BadScalar) (token_of kinds.Number (decimal n) rest) (token_of kinds.Number (decimal n) rest) (free_next rest next) refl)

number_again : (n : ℕ) (w rest : Scalars) → Numeral n w rest → n ≤ widest → NotNext runs_on rest → at_front (w ++ rest) ≡ token_of kinds.Number (decimal n) rest
number_again n w rest i le next =
    at_numeral n w rest i
    ∙ ap (numbered (w ++ rest)) (numeral_again n w rest i)
    ∙ ap (λ (m : ℕ). numbered (w ++ rest) (m, rest)) (min_same n le)
    ∙ numbered_again (w ++ rest) n rest le next

quoted_some : (quote : ℕ) (cs body rest : Scalars) → before cs (quote ∷ rest) ≡ body → quoted quote cs (Some rest) ≡ body_decoded quote body rest
unfolding quoted
quoted_some quote cs body rest e = ap (λ (b : Scalars). body_decoded quote b rest) e

-- a text that ends is read as its body
pub closed_at_front : (quote : ℕ) (body rest : Scalars) → is_quote quote ≡ true → Within quote body (quote ∷ rest) → at_front (quote ∷ (body ++ quote ∷ rest)) ≡ body_decoded quote body rest
closed_at_front quote body rest q w =
    let cs : Scalars = body ++ quote ∷ rest in
    at_quote quote cs q
    ∙ ap (quoted quote cs) (closed_again quote body rest q w)
    ∙ quoted_some quote cs body rest (before_is body (quote ∷ rest))

body_of : (quote : ℕ) (body rest : Scalars) (d : Decoded) → decode (length body) body ≡ d → body_decoded quote body rest ≡ decoded quote body rest d.0 d.1
unfolding body_decoded
body_of quote body rest d e = ap (λ (x : Decoded). decoded quote body rest x.0 x.1) e

pub decoded_body : (quote : ℕ) (front left value rest : Scalars) → Spells front left value
    → body_decoded quote (front ++ left) rest ≡ decoded quote (front ++ left) rest (behind value (decode (length left) left)).0 (behind value (decode (length left) left)).1
decoded_body quote front left value rest s =
    body_of quote (front ++ left) rest (behind value (decode (length left) left)) (decode_again (length (front ++ left)) front left value s (omega arith))

whole_body : (quote : ℕ) (body value rest : Scalars) → Spells body [] value → body_decoded quote body rest ≡ decoded quote body rest value []
whole_body quote body value rest s =
    ap (λ (b : Scalars). body_decoded quote b rest) (sym (append-nil body))
    ∙ decoded_body quote body [] value rest s
    ∙ ap (λ (b : Scalars). decoded quote b rest (behind value (decode 0 [])).0 (behind value (decode 0 [])).1) (append-nil body)
    ∙ ap (λ (d : Decoded). decoded quote body rest (value ++ d.0) d.1) (none_left 0)
    ∙ ap (λ (v : Scalars). decoded quote body rest v []) (append-nil value)

text_again : (quote : ℕ) (body value rest : Scalars) → is_quote quote ≡ true → Within quote body (quote ∷ rest) → Spells body [] value → utf8_len value ≤ TEXT_LIMIT
    → at_front (quote ∷ (body ++ quote ∷ rest)) ≡ token_of kinds.Str value rest
text_again quote body value rest q w s short =
    closed_at_front quote body rest q w
    ∙ whole_body quote body value rest s
    ∙ when_false (nat_lt TEXT_LIMIT (utf8_len value)) (fault_of 0 TooLong) (token_of kinds.Str value rest) (token_of kinds.Str value rest) (not_lt_test TEXT_LIMIT (utf8_len value) short) refl

-- ---- punctuators

first_test : (c d : ℕ) → ((c == 47) && ((d == 47) || (d == 42))) ≡ false → ((c == 47) && (d == 47)) ≡ false
first_test c d h = grind (arith, nat_tests)

second_test : (c d : ℕ) → ((c == 47) && ((d == 47) || (d == 42))) ≡ false → ((c == 47) && (d == 42)) ≡ false
second_test c d h = grind (arith, nat_tests)

pub no_comment_is : (whole : Scalars) → 0 < length whole → opens_comment whole ≡ false → comment_or_punctuator whole ≡ punctuated whole (after_punctuator punctuators whole)
unfolding comment_or_punctuator
no_comment_is [] some h = absurd (omega arith)
no_comment_is (c ∷ []) some h = refl
no_comment_is (c ∷ (d ∷ cs)) some h =
    let goal = punctuated (c ∷ (d ∷ cs)) (after_punctuator punctuators (c ∷ (d ∷ cs))) in
    when_false ((c == 47) && (d == 47)) (gap_of false (after is_in_line cs)) _ goal (first_test c d h)
    (when_false ((c == 47) && (d == 42)) (commented (after_block false cs)) goal goal (second_test c d h) refl)

longer_some : (m rest : Scalars) → 0 < length m → 0 < length (m ++ rest)
longer_some m rest h = omega (arith, length-append m rest)

punctuator_again : (m rest : Scalars) → IsPunctuator m rest → at_front (m ++ rest) ≡ token_of kinds.Punct m rest
punctuator_again m rest k =
    at_punctuator m rest k.listed
    ∙ no_comment_is (m ++ rest) (longer_some m rest (punctuator_some m k.listed)) k.no_comment
    ∙ ap (punctuated (m ++ rest)) (after_punctuator_again m rest k)
    ∙ ap (λ (w : Scalars). token_of kinds.Punct w rest) (before_is m rest)

pub word_again : (kind : TokenKind) (value w rest : Scalars) → Word kind value w rest → at_front (w ++ rest) ≡ token_of kind value rest
word_again kind value w rest (name c cs next h all end short) =
    at_name c (cs ++ next) h
    ∙ ap (named (c ∷ (cs ++ next))) (after_again is_name_part cs next all end)
    ∙ named_again (c ∷ cs) next short
word_again kind value w rest (number n spelled next i le end) = number_again n spelled next i le end
word_again kind value w rest (text quote body v next q within s short) =
    ap (λ (t : Scalars). at_front (quote ∷ t)) (append_assoc body (quote ∷ []) next) ∙ text_again quote body v next q within s short
word_again kind value w rest (punctuator m next k) = punctuator_again m next k
