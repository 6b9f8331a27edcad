-- Whole texts: what is read is spelled so, what is spelled so is read, and a fault is the first.
use Rattle.std.proofs.Common.{◌≡◌, ℕ, zero, suc, ◌+◌, ◌<◌, ◌≤◌, inl, inr, Bool, false, ◌||◌, List, [], ◌∷◌, ◌++◌, length, Ok, Err, refl, sym, ap, subst, ◌∙◌, arith}
use Rattle.std.proofs.lemmas.List.{length-append}
use Rattle.base_text.specs.Scalars.{utf8_len}
use Rattle.base_text.proofs.Utf8.{utf8_len-append}
use Rattle.js_syntax.specs.declared.token.Token.{Token}
use Rattle.js_syntax.specs.declared.token.TokenKind.{TokenKind}
use Rattle.js_syntax.specs.declared.token.TokenKind.TheVariants as kinds
use Rattle.js_syntax.specs.declared.token_fault.LexKind.{LexKind}
use Rattle.js_syntax.specs.declared.token_fault.LexKind.TheVariants.{BadScalar, UnclosedText, UnclosedComment, WideNumber, TooLong}
use Rattle.js_syntax.specs.TokenScalars.{Scalars}
use Rattle.js_syntax.specs.TokenSpelling.{Gap, space, line_end, line_comment, block_comment, Numeral, zero_digit, digits, hexadecimal, Word, name, number, text, punctuator}
use Rattle.js_syntax.specs.Tokens.{token_at, AreTokensFrom, end, gap, word}
use Rattle.js_syntax.specs.TokenFaults.{FrontFault, unclosed_comment, long_name, wide_number, number_runs_on, unclosed_text, long_text, bad_escape, bad_scalar, rank, IsNotAfter, IsFirstFrontFault, IsFaultFrom, here, after_gap, after_word}
use Rattle.js_lexer.specs.RunsModel.{before}
use Rattle.js_lexer.specs.TokenAtFrontModel.{AtFront, no_more, gap_of, token_of, fault_of, at_front, Read, with_token, go_on, read_from}
use Rattle.js_lexer.proofs.Fronts.{before_of, length_of}
use Rattle.js_lexer.proofs.Leads.{punctuator_some}
use Rattle.js_lexer.proofs.Sound.{Gapped, Worded, AtFrontIs, at_front_is}
use Rattle.js_lexer.proofs.Again.{gap_again, word_again}
use Rattle.js_lexer.proofs.First.{Seen, flaw_seen}

-- ---- every gap and token takes a scalar

gap_some : (g rest : Scalars) (b : Bool) → Gap g rest b → 0 < length g
gap_some g rest b (space c next h) = omega arith
gap_some g rest b (line_end c next h) = omega arith
gap_some g rest b (line_comment inside next h k) = omega arith
gap_some g rest b (block_comment inside next h) = omega arith

numeral_some : (n : ℕ) (w rest : Scalars) → Numeral n w rest → 0 < length w
numeral_some n w rest (zero_digit next h) = omega arith
numeral_some n w rest (digits c cs next h k all e) = omega arith
numeral_some n w rest (hexadecimal c cs next h all e) = omega arith

word_some : (kind : TokenKind) (value w rest : Scalars) → Word kind value w rest → 0 < length w
word_some kind value w rest (name c cs next h all e short) = omega arith
word_some kind value w rest (number n spelled next i le e) = numeral_some n spelled next i
word_some kind value w rest (text quote body v next q within s short) = omega arith
word_some kind value w rest (punctuator m next k) = punctuator_some m k.listed

-- a front that takes a scalar, and its width
pub record Splits (whole rest : Scalars) : Type 0 where
  pub shorter : length rest < length whole
  pub widths : utf8_len (before whole rest) + utf8_len rest ≡ utf8_len whole

splits : (whole w rest : Scalars) → whole ≡ w ++ rest → 0 < length w → Splits whole rest
splits whole w rest e some =
    let len = length_of whole w rest e in
    let spelled = ap utf8_len (before_of whole w rest e) in
    let all = ap utf8_len e ∙ utf8_len-append w rest in
    record { shorter = omega arith; widths = omega arith }

pub gap_splits : (whole rest : Scalars) (b : Bool) → at_front whole ≡ gap_of b rest → Splits whole rest
gap_splits whole rest b e =
    let k : Gapped whole rest b = subst (λ (p : AtFront). AtFrontIs whole p) e (at_front_is whole) in
    splits whole k.spelled rest k.joins (gap_some k.spelled rest b k.is)

pub word_splits : (whole rest : Scalars) (kind : TokenKind) (value : Scalars) → at_front whole ≡ token_of kind value rest → Splits whole rest
word_splits whole rest kind value e =
    let k : Worded whole kind value rest = subst (λ (p : AtFront). AtFrontIs whole p) e (at_front_is whole) in
    splits whole k.spelled rest k.joins (word_some kind value k.spelled rest k.is)

-- a fault stands within the text
flaw_within : (whole : Scalars) (on : ℕ) (kind : LexKind) → FrontFault whole on kind → on ≤ utf8_len whole
flaw_within whole on kind (unclosed_comment inside h) = omega arith
flaw_within whole on kind (long_name c cs rest h all next long) = omega arith
flaw_within whole on kind (wide_number n w rest i h) = omega arith
flaw_within whole on kind (number_runs_on n d w rest i h) = omega (arith, utf8_len-append w (d ∷ rest))
flaw_within whole on kind (unclosed_text quote body rest q w c) = omega arith
flaw_within whole on kind (long_text quote read left value rest q w s long) = omega arith
flaw_within whole on kind (bad_escape quote read left value rest q w s b) =
    let all = utf8_len-append (quote ∷ (read ++ left)) (quote ∷ rest) in
    let front = utf8_len-append (quote ∷ read) left in
    omega arith
flaw_within whole on kind (bad_scalar c cs a b d e f o none) = omega arith

pub fault_within : (whole : Scalars) (on : ℕ) (kind : LexKind) → at_front whole ≡ fault_of on kind → on ≤ utf8_len whole
fault_within whole on kind e =
    let k : FrontFault whole on kind = subst (λ (p : AtFront). AtFrontIs whole p) e (at_front_is whole) in
    flaw_within whole on kind k

-- ---- the first fault

fault_first : (whole : Scalars) (on : ℕ) (kind : LexKind) → at_front whole ≡ fault_of on kind → IsFirstFrontFault whole on kind
fault_first whole on kind e = record {
  stands = (let k : FrontFault whole on kind = subst (λ (p : AtFront). AtFrontIs whole p) e (at_front_is whole) in k);
  first = λ other_on other_kind f. (let s : Seen (fault_of on kind) other_on other_kind = subst (λ (p : AtFront). Seen p other_on other_kind) e (flaw_seen whole other_on other_kind f) in s);
}

kind_at : ℕ → LexKind
kind_at zero = BadScalar
kind_at (suc zero) = UnclosedText
kind_at (suc (suc zero)) = UnclosedComment
kind_at (suc (suc (suc zero))) = WideNumber
kind_at (suc (suc (suc (suc n)))) = TooLong

kind_rank : (k : LexKind) → kind_at (rank k) ≡ k
unfolding kind_at
kind_rank BadScalar = refl
kind_rank UnclosedText = refl
kind_rank UnclosedComment = refl
kind_rank WideNumber = refl
kind_rank TooLong = refl

same_kind : (k l : LexKind) → rank k ≡ rank l → k ≡ l
same_kind k l e = sym (kind_rank k) ∙ ap kind_at e ∙ kind_rank l

never_less : (a b : ℕ) → a < b → b < a → ⊥
never_less a b h k = omega arith

never_same : (a b : ℕ) → a < b → b ≡ a → ⊥
never_same a b h k = omega arith

equal_le : (a b : ℕ) → a ≤ b → b ≤ a → a ≡ b
equal_le a b h k = omega arith

-- two faults of which neither is after the other are one
not_after_both : (a b : ℕ) (k l : LexKind) → IsNotAfter a k b l → IsNotAfter b l a k → (a ≡ b) × (k ≡ l)
not_after_both a b k l (inl h) (inl i) = absurd (never_less a b h i)
not_after_both a b k l (inl h) (inr i) = absurd (never_same a b h i.0)
not_after_both a b k l (inr h) (inl i) = absurd (never_same b a i h.0)
not_after_both a b k l (inr h) (inr i) = (h.0, same_kind k l (equal_le (rank k) (rank l) h.1 i.1))

-- ---- what is read is spelled so

abbrev pub ReadIs : ℕ → Bool → Scalars → Read → Type 0
ReadIs at line whole (Ok ts) = AreTokensFrom at line whole ts
ReadIs at line whole (Err e) = IsFaultFrom at whole e.0 e.1

gap_then : (at : ℕ) (line b : Bool) (whole g rest : Scalars) (r : Read) → whole ≡ g ++ rest → Gap g rest b → ReadIs (at + utf8_len g) (line || b) rest r → ReadIs at line whole r
gap_then at line b whole g rest (Ok ts) e k l = subst (λ (t : Scalars). AreTokensFrom at line t ts) (sym e) (gap at line b g rest ts k l)
gap_then at line b whole g rest (Err v) e k l = subst (λ (t : Scalars). IsFaultFrom at t v.0 v.1) (sym e) (after_gap at v.0 v.1 b g rest k l)

word_then : (at : ℕ) (line : Bool) (kind : TokenKind) (value whole w rest : Scalars) (r : Read) → whole ≡ w ++ rest → Word kind value w rest → ReadIs (at + utf8_len w) false rest r
    → ReadIs at line whole (with_token (token_at at line kind value w) r)
word_then at line kind value whole w rest (Ok ts) e k l = subst (λ (t : Scalars). AreTokensFrom at line t (token_at at line kind value w ∷ ts)) (sym e) (word at line kind value w rest ts k l)
word_then at line kind value whole w rest (Err v) e k l = subst (λ (t : Scalars). IsFaultFrom at t v.0 v.1) (sym e) (after_word at v.0 v.1 kind value w rest k l)

le_from : (a b n : ℕ) → a < b → b ≤ suc n → a ≤ n
le_from a b n h k = omega arith

goes_on : (n at : ℕ) (line : Bool) (whole : Scalars) → length whole ≤ suc n → ((at : ℕ) (line : Bool) (rest : Scalars) → length rest ≤ n → ReadIs at line rest (read_from n at line rest))
    → (p : AtFront) → at_front whole ≡ p → AtFrontIs whole p → ReadIs at line whole (go_on at line whole (read_from n) p)
goes_on n at line whole le later no_more e k = subst (λ (t : Scalars). AreTokensFrom at line t (token_at at line kinds.End [] [] ∷ [])) (sym k) (end at line)
goes_on n at line whole le later (gap_of b rest) e k =
    let width = ap (λ (x : Scalars). at + utf8_len x) (before_of whole k.spelled rest k.joins) in
    let s = gap_splits whole rest b e in
    subst (λ (m : ℕ). ReadIs at line whole (read_from n m (line || b) rest)) (sym width)
    (gap_then at line b whole k.spelled rest (read_from n (at + utf8_len k.spelled) (line || b) rest) k.joins k.is
    (later (at + utf8_len k.spelled) (line || b) rest (le_from (length rest) (length whole) n s.shorter le)))
goes_on n at line whole le later (token_of kind value rest) e k =
    let spelled = before_of whole k.spelled rest k.joins in
    let s = word_splits whole rest kind value e in
    subst (λ (w : Scalars). ReadIs at line whole (with_token (token_at at line kind value w) (read_from n (at + utf8_len w) false rest))) (sym spelled)
    (word_then at line kind value whole k.spelled rest (read_from n (at + utf8_len k.spelled) false rest) k.joins k.is
    (later (at + utf8_len k.spelled) false rest (le_from (length rest) (length whole) n s.shorter le)))
goes_on n at line whole le later (fault_of on kind) e k = here at on kind whole (fault_first whole on kind e)

nothing_left : (whole : Scalars) → length whole ≤ 0 → whole ≡ []
nothing_left [] le = refl
nothing_left (c ∷ cs) le = absurd (omega arith)

pub read_is : (n at : ℕ) (line : Bool) (whole : Scalars) → length whole ≤ n → ReadIs at line whole (read_from n at line whole)
unfolding read_from
read_is zero at line whole le = subst (λ (t : Scalars). AreTokensFrom at line t (token_at at line kinds.End [] [] ∷ [])) (sym (nothing_left whole le)) (end at line)
read_is (suc n) at line whole le = goes_on n at line whole le (λ at line rest h. read_is n at line rest h) (at_front whole) refl (at_front_is whole)

-- ---- what is spelled so is read

at_front_nil : at_front [] ≡ no_more
unfolding at_front
at_front_nil = refl

less_by : (w rest : Scalars) (n : ℕ) → 0 < length w → length (w ++ rest) ≤ suc n → length rest ≤ n
less_by w rest n some le = omega (arith, length-append w rest)

none_fits : (w rest : Scalars) → 0 < length w → length (w ++ rest) ≤ 0 → ⊥
none_fits w rest some le = omega (arith, length-append w rest)

gap_step : (n at : ℕ) (line b : Bool) (g rest : Scalars) → Gap g rest b → read_from (suc n) at line (g ++ rest) ≡ read_from n (at + utf8_len g) (line || b) rest
unfolding read_from
gap_step n at line b g rest k =
    ap (go_on at line (g ++ rest) (read_from n)) (gap_again g rest b k)
    ∙ ap (λ (x : Scalars). read_from n (at + utf8_len x) (line || b) rest) (before_of (g ++ rest) g rest refl)

word_step : (n at : ℕ) (line : Bool) (kind : TokenKind) (value w rest : Scalars) → Word kind value w rest
    → read_from (suc n) at line (w ++ rest) ≡ with_token (token_at at line kind value w) (read_from n (at + utf8_len w) false rest)
unfolding read_from
word_step n at line kind value w rest k =
    ap (go_on at line (w ++ rest) (read_from n)) (word_again kind value w rest k)
    ∙ ap (λ (x : Scalars). with_token (token_at at line kind value x) (read_from n (at + utf8_len x) false rest)) (before_of (w ++ rest) w rest refl)

end_step : (n at : ℕ) (line : Bool) → read_from n at line [] ≡ Ok (token_at at line kinds.End [] [] ∷ [])
unfolding read_from
end_step zero at line = refl
end_step (suc n) at line = ap (go_on at line [] (read_from n)) at_front_nil

pub read_again : (n at : ℕ) (line : Bool) (whole : Scalars) (ts : List Token) → AreTokensFrom at line whole ts → length whole ≤ n → read_from n at line whole ≡ Ok ts
read_again n at line whole ts (end at' line') le = end_step n at' line'
read_again zero at line whole ts (gap at' line' b g rest us k l) le = absurd (none_fits g rest (gap_some g rest b k) le)
read_again zero at line whole ts (word at' line' kind value w rest us k l) le = absurd (none_fits w rest (word_some kind value w rest k) le)
read_again (suc n) at line whole ts (gap at' line' b g rest us k l) le =
    gap_step n at' line' b g rest k ∙ read_again n (at' + utf8_len g) (line' || b) rest us l (less_by g rest n (gap_some g rest b k) le)
read_again (suc n) at line whole ts (word at' line' kind value w rest us k l) le =
    word_step n at' line' kind value w rest k
    ∙ ap (with_token (token_at at' line' kind value w)) (read_again n (at' + utf8_len w) false rest us l (less_by w rest n (word_some kind value w rest k) le))

-- ---- a fault that is the first is answered

here_cases : (n at on : ℕ) (line : Bool) (kind : LexKind) (whole : Scalars) (p : AtFront) → at_front whole ≡ p → Seen p on kind → IsFirstFrontFault whole on kind → go_on at line whole (read_from n) p ≡ Err (at + on, kind)
here_cases n at on line kind whole no_more e s f = absurd s
here_cases n at on line kind whole (gap_of b rest) e s f = absurd s
here_cases n at on line kind whole (token_of k v rest) e s f = absurd s
here_cases n at on line kind whole (fault_of o k) e s f =
    let read = fault_first whole o k e in
    let same = not_after_both o on k kind s (f.first o k read.stands) in
    ap (λ (m : ℕ). Err (at + m, k)) same.0 ∙ ap (λ (l : LexKind). Err (at + on, l)) same.1

no_flaw : (on : ℕ) (kind : LexKind) → FrontFault [] on kind → ⊥
no_flaw on kind f = let s : Seen no_more on kind = subst (λ (p : AtFront). Seen p on kind) at_front_nil (flaw_seen [] on kind f) in s

pub fault_again : (n at : ℕ) (line : Bool) (whole : Scalars) (place : ℕ) (kind : LexKind) → IsFaultFrom at whole place kind → length whole ≤ n → read_from n at line whole ≡ Err (place, kind)
unfolding read_from
fault_again zero at line whole place kind (here at' on k t f) le = absurd (no_flaw on k (subst (λ (x : Scalars). FrontFault x on k) (nothing_left t le) f.stands))
fault_again (suc n) at line whole place kind (here at' on k t f) le = here_cases n at' on line k t (at_front t) refl (flaw_seen t on k f.stands) f
fault_again zero at line whole place kind (after_gap at' p k b g rest i l) le = absurd (none_fits g rest (gap_some g rest b i) le)
fault_again zero at line whole place kind (after_word at' p k kind' value w rest i l) le = absurd (none_fits w rest (word_some kind' value w rest i) le)
fault_again (suc n) at line whole place kind (after_gap at' p k b g rest i l) le =
    gap_step n at' line b g rest i ∙ fault_again n (at' + utf8_len g) (line || b) rest p k l (less_by g rest n (gap_some g rest b i) le)
fault_again (suc n) at line whole place kind (after_word at' p k kind' value w rest i l) le =
    word_step n at' line kind' value w rest i
    ∙ ap (with_token (token_at at' line kind' value w)) (fault_again n (at' + utf8_len w) false rest p k l (less_by w rest n (word_some kind' value w rest i) le))
