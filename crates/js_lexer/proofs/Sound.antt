-- What is read at the front of a text is spelled so, and a fault that is read stands there.
use Rattle.std.proofs.Common.{◌≡◌, ℕ, ◌<◌, ◌≤◌, ◌⊎◌, inl, inr, Bool, true, false, ◌||◌, ◌&&◌, ◌==◌, cond, [], ◌∷◌, ◌++◌, length, min, Option, Some, None, refl, sym, ap, subst, ◌∙◌, append_assoc, arith}
use Rattle.std.specs.Prelude.{nat_lt}
use Rattle.std.proofs.lemmas.Bool.Decides.{nat_tests}
use Rattle.std.proofs.lemmas.List.{append-nil}
use Rattle.std.specs.Fmt.{decimal}
use Rattle.base_text.specs.Scalars.{utf8_len}
use Rattle.base_text.specs.declared.text.TheConstants.{TEXT_LIMIT}
use Rattle.js_syntax.specs.declared.token.TokenKind.{TokenKind}
use Rattle.js_syntax.specs.declared.token.TokenKind.TheVariants as kinds
use Rattle.js_syntax.specs.declared.token_fault.LexKind.TheVariants.{BadScalar, UnclosedText, WideNumber, TooLong}
use Rattle.js_syntax.specs.TokenScalars.{Scalars, AreAll, NotNext, is_white_space, is_line_end, is_in_line, is_name_start, is_name_part, is_decimal, runs_on, is_quote}
use Rattle.js_syntax.specs.TokenTexts.{Within, Spells, IsBadEscape}
use Rattle.js_syntax.specs.TokenSpelling.{Gap, space, line_end, line_comment, block_comment, opens_comment, name_kind, widest, punctuators, Numeral, Word, name, number, text, punctuator}
use Rattle.js_syntax.specs.TokenFaults.{FrontFault, unclosed_comment, long_name, wide_number, number_runs_on, unclosed_text, long_text, bad_escape, bad_scalar}
use Rattle.js_lexer.specs.declared.string_literals.Taken.TheVariants.{Nothing}
use Rattle.js_lexer.specs.RunsModel.{before, after, after_block, after_punctuator, numeral, too_wide}
use Rattle.js_lexer.specs.StringLiteralsModel.{after_text, decode}
use Rattle.js_lexer.specs.TokenAtFrontModel.{AtFront, no_more, gap_of, token_of, fault_of, named, rest_runs_on, numbered, decoded, body_decoded, quoted, commented, punctuated, comment_or_punctuator, at_front}
use Rattle.js_lexer.proofs.Cases.{test_lt, test_not_lt, le_refl, cond_holds}
use Rattle.js_lexer.proofs.Fronts.{before_of, after_is, Blocked, block_is}
use Rattle.js_lexer.proofs.LongestPunctuator.{Finds, punctuator_is}
use Rattle.js_lexer.proofs.Numerals.{Number, numeral_is}
use Rattle.js_lexer.proofs.Extents.{Extends, extent_is}
use Rattle.js_lexer.proofs.Values.{decode_is}

pub record Gapped (text rest : Scalars) (breaks : Bool) : Type 0 where
  pub spelled : Scalars
  pub joins : text ≡ spelled ++ rest
  pub is : Gap spelled rest breaks

pub record Worded (whole : Scalars) (kind : TokenKind) (value rest : Scalars) : Type 0 where
  pub spelled : Scalars
  pub joins : whole ≡ spelled ++ rest
  pub is : Word kind value spelled rest

abbrev pub AtFrontIs : Scalars → AtFront → Type 0
AtFrontIs whole no_more = whole ≡ []
AtFrontIs whole (gap_of breaks rest) = Gapped whole rest breaks
AtFrontIs whole (token_of kind value rest) = Worded whole kind value rest
AtFrontIs whole (fault_of on kind) = FrontFault whole on kind

-- ---- names

abbrev name_or_long : Scalars → Scalars → AtFront
name_or_long w rest = cond (nat_lt TEXT_LIMIT (utf8_len w)) (fault_of 0 TooLong) (token_of (name_kind w) w rest)

name_at : (c : ℕ) (cs rest : Scalars) → is_name_start c ≡ true → AreAll is_name_part cs → NotNext is_name_part rest → AtFrontIs ((c ∷ cs) ++ rest) (name_or_long (c ∷ cs) rest)
name_at c cs rest h all next = cond_holds (AtFrontIs ((c ∷ cs) ++ rest)) (nat_lt TEXT_LIMIT (utf8_len (c ∷ cs))) (fault_of 0 TooLong) (token_of (name_kind (c ∷ cs)) (c ∷ cs) rest)
    (λ l. long_name c cs rest h all next (test_lt TEXT_LIMIT (utf8_len (c ∷ cs)) l))
    (λ l. record { spelled = c ∷ cs; joins = refl; is = name c cs rest h all next (test_not_lt TEXT_LIMIT (utf8_len (c ∷ cs)) l) })

named_is : (c : ℕ) (cs : Scalars) → is_name_start c ≡ true → AtFrontIs (c ∷ cs) (named (c ∷ cs) (after is_name_part cs))
unfolding named
named_is c cs h =
    let run = after_is is_name_part cs in
    let rest = after is_name_part cs in
    let joins : c ∷ cs ≡ (c ∷ run.front) ++ rest = ap (λ (x : Scalars). c ∷ x) run.joins in
    let spelled = before_of (c ∷ cs) (c ∷ run.front) rest joins in
    subst (λ (w : Scalars). AtFrontIs (c ∷ cs) (name_or_long w rest)) (sym spelled)
    (subst (λ (t : Scalars). AtFrontIs t (name_or_long (c ∷ run.front) rest)) (sym joins) (name_at c run.front rest h run.all run.next))

-- ---- numbers

min_over : (n w limit : ℕ) → limit < min n w → limit < n
min_over n w limit h = omega arith

min_within : (n : ℕ) → min n too_wide ≤ widest → (n ≤ widest) × (min n too_wide ≡ n)
min_within n h = (omega arith, omega arith)

stuck_at : (whole : Scalars) (n : ℕ) (w rest : Scalars) → whole ≡ w ++ rest → Numeral n w rest → rest_runs_on rest ≡ true → FrontFault whole (utf8_len w) BadScalar
stuck_at whole n w [] e i h = absurd cc
stuck_at whole n w (d ∷ ds) e i h = subst (λ (t : Scalars). FrontFault t (utf8_len w) BadScalar) (sym e) (number_runs_on n d w ds i h)

not_stuck : (rest : Scalars) → rest_runs_on rest ≡ false → NotNext runs_on rest
not_stuck [] h = tt
not_stuck (c ∷ cs) h = h

numbered_is : (whole : Scalars) (p : ℕ × Scalars) → Number whole p → AtFrontIs whole (numbered whole p)
unfolding numbered
numbered_is whole p k =
    let spelled = before_of whole k.spelled p.1 k.joins in
    cond_holds (AtFrontIs whole) (nat_lt widest p.0) (fault_of 0 WideNumber) _
    (λ h. subst (λ (t : Scalars). FrontFault t 0 WideNumber) (sym k.joins)
    (wide_number k.number k.spelled p.1 k.is (min_over k.number too_wide widest (subst (λ (m : ℕ). widest < m) k.value (test_lt widest p.0 h)))))
    (λ h.
    let within = min_within k.number (subst (λ (m : ℕ). m ≤ widest) k.value (test_not_lt widest p.0 h)) in
    cond_holds (AtFrontIs whole) (rest_runs_on p.1) (fault_of (utf8_len (before whole p.1)) BadScalar) (token_of kinds.Number (decimal p.0) p.1)
    (λ s. subst (λ (w : Scalars). FrontFault whole (utf8_len w) BadScalar) (sym spelled) (stuck_at whole k.number k.spelled p.1 k.joins k.is s))
    (λ s. record {
      spelled = k.spelled;
      joins = k.joins;
      is = subst (λ (m : ℕ). Word kinds.Number (decimal m) k.spelled p.1) (sym (k.value ∙ within.1)) (number k.number k.spelled p.1 k.is within.0 (not_stuck p.1 s));
    }))

-- ---- texts

abbrev whole_text : ℕ → Scalars → Scalars → Scalars
whole_text quote body rest = quote ∷ (body ++ quote ∷ rest)

bad_end : (c : ℕ) (cs : Scalars) → ((c ∷ cs) ≡ []) ⊎ IsBadEscape (c ∷ cs) → IsBadEscape (c ∷ cs)
bad_end c cs (inl e) = absurd cc
bad_end c cs (inr k) = k

decoded_is : (quote : ℕ) (body rest value left front : Scalars) → is_quote quote ≡ true → Within quote body (quote ∷ rest) → body ≡ front ++ left → Spells front left value → (left ≡ []) ⊎ IsBadEscape left
    → AtFrontIs (whole_text quote body rest) (decoded quote body rest value left)
decoded_is quote body rest value [] front q w e s ends =
    let all : body ≡ front = e ∙ append-nil front in
    cond_holds (AtFrontIs (whole_text quote body rest)) (nat_lt TEXT_LIMIT (utf8_len value)) (fault_of 0 TooLong) (token_of kinds.Str value rest)
    (λ h. subst (λ (b : Scalars). FrontFault (whole_text quote b rest) 0 TooLong) (sym e)
    (long_text quote front [] value rest q (subst (λ (b : Scalars). Within quote b (quote ∷ rest)) e w) s (test_lt TEXT_LIMIT (utf8_len value) h)))
    (λ h. record {
      spelled = quote ∷ (body ++ quote ∷ []);
      joins = ap (λ (x : Scalars). quote ∷ x) (sym (append_assoc body (quote ∷ []) rest));
      is = text quote body value rest q w (subst (λ (b : Scalars). Spells b [] value) (sym all) s) (test_not_lt TEXT_LIMIT (utf8_len value) h);
    })
decoded_is quote body rest value (c ∷ cs) front q w e s ends =
    let spelled = before_of body front (c ∷ cs) e in
    let within = subst (λ (b : Scalars). Within quote b (quote ∷ rest)) e w in
    cond_holds (AtFrontIs (whole_text quote body rest)) (nat_lt TEXT_LIMIT (utf8_len value)) (fault_of 0 TooLong) (fault_of (utf8_len (quote ∷ before body (c ∷ cs))) BadScalar)
    (λ h. subst (λ (b : Scalars). FrontFault (whole_text quote b rest) 0 TooLong) (sym e) (long_text quote front (c ∷ cs) value rest q within s (test_lt TEXT_LIMIT (utf8_len value) h)))
    (λ h. subst (λ (x : Scalars). FrontFault (whole_text quote body rest) (utf8_len (quote ∷ x)) BadScalar) (sym spelled)
    (subst (λ (b : Scalars). FrontFault (whole_text quote b rest) (utf8_len (quote ∷ front)) BadScalar) (sym e) (bad_escape quote front (c ∷ cs) value rest q within s (bad_end c cs ends))))

body_is : (quote : ℕ) (body rest : Scalars) → is_quote quote ≡ true → Within quote body (quote ∷ rest) → AtFrontIs (whole_text quote body rest) (body_decoded quote body rest)
unfolding body_decoded
body_is quote body rest q w =
    let d = decode (length body) body in
    let r = decode_is (length body) body (le_refl (length body)) in
    decoded_is quote body rest d.0 d.1 r.front q w r.joins r.spells r.ends

quoted_is : (quote : ℕ) (cs : Scalars) (o : Option Scalars) → is_quote quote ≡ true → Extends quote cs o → AtFrontIs (quote ∷ cs) (quoted quote cs o)
unfolding quoted
quoted_is quote cs None q k = subst (λ (t : Scalars). FrontFault (quote ∷ t) 0 UnclosedText) (sym k.joins) (unclosed_text quote k.body k.rest q k.within k.cut)
quoted_is quote cs (Some rest) q k =
    let spelled = before_of cs k.body (quote ∷ rest) k.joins in
    subst (λ (b : Scalars). AtFrontIs (quote ∷ cs) (body_decoded quote b rest)) (sym spelled)
    (subst (λ (t : Scalars). AtFrontIs (quote ∷ t) (body_decoded quote k.body rest)) (sym k.joins) (body_is quote k.body rest q k.within))

-- ---- comments and punctuators

commented_is : (cs : Scalars) (o : Option (Bool × Scalars)) → Blocked false cs o → AtFrontIs (47 ∷ (42 ∷ cs)) (commented o)
commented_is cs None k = unclosed_comment cs k
commented_is cs (Some found) k = record {
  spelled = 47 ∷ (42 ∷ (k.inside ++ 42 ∷ (47 ∷ [])));
  joins = ap (λ (x : Scalars). 47 ∷ (42 ∷ x)) (k.joins ∙ sym (append_assoc k.inside (42 ∷ (47 ∷ [])) found.1));
  is = subst (λ (b : Bool). Gap (47 ∷ (42 ∷ (k.inside ++ 42 ∷ (47 ∷ [])))) found.1 b) (sym k.breaks) (block_comment k.inside found.1 k.open_);
}

-- nothing but a punctuator can begin with this scalar
pub record PunctuatorAlone (c : ℕ) (cs : Scalars) : Type 0 where
  pub no_space : is_white_space c ≡ false
  pub no_line : is_line_end c ≡ false
  pub no_name : is_name_start c ≡ false
  pub no_number : is_decimal c ≡ false
  pub no_text : is_quote c ≡ false

punctuated_is : (c : ℕ) (cs : Scalars) (o : Option Scalars) → PunctuatorAlone c cs → opens_comment (c ∷ cs) ≡ false → Finds punctuators (c ∷ cs) o → AtFrontIs (c ∷ cs) (punctuated (c ∷ cs) o)
punctuated_is c cs None k closed f = bad_scalar c cs k.no_space k.no_line k.no_name k.no_number k.no_text closed f
punctuated_is c cs (Some rest) k closed f =
    let spelled = before_of (c ∷ cs) f.punctuator rest f.joins in
    subst (λ (w : Scalars). AtFrontIs (c ∷ cs) (token_of kinds.Punct w rest)) (sym spelled) (record {
      spelled = f.punctuator;
      joins = f.joins;
      is = punctuator f.punctuator rest (record {
        listed = f.listed;
        no_comment = subst (λ (t : Scalars). opens_comment t ≡ false) f.joins closed;
        longest = λ x i y. f.longest x i (y.0, f.joins ∙ y.1);
      });
    })

two_are : (c d x : ℕ) → ((c == 47) && (d == x)) ≡ true → (c ≡ 47) × (d ≡ x)
two_are c d x h = (grind (arith, nat_tests), grind (arith, nat_tests))

two : (c d x : ℕ) (ds : Scalars) (p : AtFront) → ((c == 47) && (d == x)) ≡ true → AtFrontIs (47 ∷ (x ∷ ds)) p → AtFrontIs (c ∷ (d ∷ ds)) p
two c d x ds p h k =
    let e = two_are c d x h in
    subst (λ (t : Scalars). AtFrontIs t p) (sym (ap (λ (y : ℕ). y ∷ (d ∷ ds)) e.0 ∙ ap (λ (y : ℕ). 47 ∷ (y ∷ ds)) e.1)) k

no_opens : (c d : ℕ) → ((c == 47) && (d == 47)) ≡ false → ((c == 47) && (d == 42)) ≡ false → ((c == 47) && ((d == 47) || (d == 42))) ≡ false
no_opens c d h k = grind (arith, nat_tests)

comment_or_punctuator_is : (c : ℕ) (cs : Scalars) → PunctuatorAlone c cs → AtFrontIs (c ∷ cs) (comment_or_punctuator (c ∷ cs))
unfolding comment_or_punctuator
comment_or_punctuator_is c [] k = punctuated_is c [] (after_punctuator punctuators (c ∷ [])) k refl (punctuator_is (c ∷ []))
comment_or_punctuator_is c (d ∷ ds) k =
    let line = after_is is_in_line ds in
    cond_holds (AtFrontIs (c ∷ (d ∷ ds))) ((c == 47) && (d == 47)) (gap_of false (after is_in_line ds)) _
    (λ h. two c d 47 ds (gap_of false (after is_in_line ds)) h (record {
      spelled = 47 ∷ (47 ∷ line.front);
      joins = ap (λ (x : Scalars). 47 ∷ (47 ∷ x)) line.joins;
      is = line_comment line.front (after is_in_line ds) line.all line.next;
    }))
    (λ a. cond_holds (AtFrontIs (c ∷ (d ∷ ds))) ((c == 47) && (d == 42)) (commented (after_block false ds)) (punctuated (c ∷ (d ∷ ds)) (after_punctuator punctuators (c ∷ (d ∷ ds))))
    (λ h. two c d 42 ds (commented (after_block false ds)) h (commented_is ds (after_block false ds) (block_is false ds)))
    (λ b. punctuated_is c (d ∷ ds) (after_punctuator punctuators (c ∷ (d ∷ ds))) k (no_opens c d a b) (punctuator_is (c ∷ (d ∷ ds)))))

pub at_front_is : (whole : Scalars) → AtFrontIs whole (at_front whole)
unfolding at_front
at_front_is [] = refl
at_front_is (c ∷ cs) =
    cond_holds (AtFrontIs (c ∷ cs)) (is_white_space c) (gap_of false cs) _ (λ h. record { spelled = c ∷ []; joins = refl; is = space c cs h }) (λ s.
    cond_holds (AtFrontIs (c ∷ cs)) (is_line_end c) (gap_of true cs) _ (λ h. record { spelled = c ∷ []; joins = refl; is = line_end c cs h }) (λ l.
    cond_holds (AtFrontIs (c ∷ cs)) (is_name_start c) (named (c ∷ cs) (after is_name_part cs)) _ (λ h. named_is c cs h) (λ n.
    cond_holds (AtFrontIs (c ∷ cs)) (is_decimal c) (numbered (c ∷ cs) (numeral (c ∷ cs))) _ (λ h. numbered_is (c ∷ cs) (numeral (c ∷ cs)) (numeral_is c cs h)) (λ d.
    cond_holds (AtFrontIs (c ∷ cs)) (is_quote c) (quoted c cs (after_text c Nothing cs)) (comment_or_punctuator (c ∷ cs)) (λ h. quoted_is c cs (after_text c Nothing cs) h (extent_is c cs Nothing)) (λ q.
    comment_or_punctuator_is c cs (record { no_space = s; no_line = l; no_name = n; no_number = d; no_text = q }))))))
