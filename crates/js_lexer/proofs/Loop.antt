-- The loop over a text.
use Rattle.std.proofs.Common.{◌≡◌, ℕ, zero, suc, ◌+◌, ◌<◌, ◌≤◌, Bool, true, false, ◌||◌, ◌==◌, List, [], ◌∷◌, ◌++◌, length, Ok, Err, refl, sym, ap, subst, ◌∙◌, append_assoc, arith}
use Rattle.std.proofs.lemmas.Bool.Decides.{nat_tests}
use Rattle.base_text.specs.Scalars.{utf8_len}
use Rattle.js_syntax.specs.declared.token.Token.{Token}
use Rattle.js_syntax.specs.declared.token.TokenKind.{TokenKind}
use Rattle.js_syntax.specs.declared.token.TokenKind.TheVariants as kinds
use Rattle.js_syntax.specs.declared.token_fault.LexFault.{LexFault}
use Rattle.js_syntax.specs.declared.token_fault.LexKind.{LexKind}
use Rattle.js_syntax.specs.TokenScalars.{Scalars}
use Rattle.js_syntax.specs.Tokens.{token_at}
use Rattle.base_text.specs.declared.memory.OrMemory.{OrMemory}
use Rattle.js_lexer.specs.declared.token_at_front.FrontFault.{FrontFault}
use Rattle.js_lexer.specs.declared.token_at_front.Front.{Front}
use Rattle.js_lexer.specs.AnswersModel.{onto, Shows}
use Rattle.js_lexer.specs.RunsModel.{before}
use Rattle.js_lexer.specs.TokenAtFrontModel.{AtFront, no_more, gap_of, token_of, fault_of, at_front, Read, with_token, go_on, read_from}
use Rattle.js_lexer.proofs.Whole.{gap_splits, word_splits}

-- ---- the count of steps doesn't matter, where it is enough

le_from : (a b n : ℕ) → a < b → b ≤ suc n → a ≤ n
le_from a b n h k = omega arith

on_same : (n m at : ℕ) (line : Bool) (whole : Scalars) (p : AtFront) → at_front whole ≡ p → ((at : ℕ) (line : Bool) (rest : Scalars) → length rest < length whole → read_from n at line rest ≡ read_from m at line rest)
    → go_on at line whole (read_from n) p ≡ go_on at line whole (read_from m) p
on_same n m at line whole no_more e later = refl
on_same n m at line whole (gap_of b rest) e later = later (at + utf8_len (before whole rest)) (line || b) rest (gap_splits whole rest b e).shorter
on_same n m at line whole (token_of kind value rest) e later =
    ap (with_token (token_at at line kind value (before whole rest))) (later (at + utf8_len (before whole rest)) false rest (word_splits whole rest kind value e).shorter)
on_same n m at line whole (fault_of on kind) e later = refl

nothing_left : (whole : Scalars) → length whole ≤ 0 → whole ≡ []
nothing_left [] le = refl
nothing_left (c ∷ cs) le = absurd (omega arith)

at_front_nil : at_front [] ≡ no_more
unfolding at_front
at_front_nil = refl

abbrev ended : ℕ → Bool → Read
ended at line = Ok (token_at at line kinds.End [] [] ∷ [])

read_nil : (n at : ℕ) (line : Bool) → read_from n at line [] ≡ ended at line
unfolding read_from
read_nil zero at line = refl
read_nil (suc n) at line = ap (go_on at line [] (read_from n)) at_front_nil

read_none : (n at : ℕ) (line : Bool) (whole : Scalars) → length whole ≤ 0 → read_from n at line whole ≡ ended at line
read_none n at line whole le = ap (read_from n at line) (nothing_left whole le) ∙ read_nil n at line

read_same : (n m at : ℕ) (line : Bool) (whole : Scalars) → length whole ≤ n → length whole ≤ m → read_from n at line whole ≡ read_from m at line whole
unfolding read_from
read_same zero m at line whole le le' = read_none zero at line whole le ∙ sym (read_none m at line whole le)
read_same (suc n) zero at line whole le le' = read_none (suc n) at line whole le' ∙ sym (read_none zero at line whole le')
read_same (suc n) (suc m) at line whole le le' = on_same n m at line whole (at_front whole) refl
    (λ at line rest h. read_same n m at line rest (le_from (length rest) (length whole) n h le) (le_from (length rest) (length whole) m h le'))

-- ---- the steps of the loop

abbrev pub reads : ℕ → Bool → Scalars → Read
reads at line left = read_from (length left) at line left

pub gap_read : (at : ℕ) (line b : Bool) (left rest : Scalars) → at_front left ≡ gap_of b rest → reads at line left ≡ reads (at + utf8_len (before left rest)) (line || b) rest
unfolding read_from
gap_read at line b [] rest e = let s = gap_splits [] rest b e in absurd (omega (arith, s.shorter))
gap_read at line b (c ∷ cs) rest e =
    let left : Scalars = c ∷ cs in
    let s = gap_splits left rest b e in
    ap (go_on at line left (read_from (length cs))) e
    ∙ read_same (length cs) (length rest) (at + utf8_len (before left rest)) (line || b) rest (le_from (length rest) (length left) (length cs) s.shorter (omega arith)) (omega arith)

pub word_read : (at : ℕ) (line : Bool) (kind : TokenKind) (value left rest : Scalars) → at_front left ≡ token_of kind value rest
    → reads at line left ≡ with_token (token_at at line kind value (before left rest)) (reads (at + utf8_len (before left rest)) false rest)
unfolding read_from
word_read at line kind value [] rest e = let s = word_splits [] rest kind value e in absurd (omega (arith, s.shorter))
word_read at line kind value (c ∷ cs) rest e =
    let left : Scalars = c ∷ cs in
    let s = word_splits left rest kind value e in
    ap (go_on at line left (read_from (length cs))) e
    ∙ ap (with_token (token_at at line kind value (before left rest)))
    (read_same (length cs) (length rest) (at + utf8_len (before left rest)) false rest (le_from (length rest) (length left) (length cs) s.shorter (omega arith)) (omega arith))

pub fault_read : (at on : ℕ) (line : Bool) (kind : LexKind) (left : Scalars) → 0 < length left → at_front left ≡ fault_of on kind → reads at line left ≡ Err (at + on, kind)
unfolding read_from
fault_read at on line kind [] some e = absurd (omega arith)
fault_read at on line kind (c ∷ cs) some e = ap (go_on at line (c ∷ cs) (read_from (length cs))) e

onto_more : (ts : List Token) (t : Token) (r : Read) → onto ts (with_token t r) ≡ onto (ts ++ t ∷ []) r
onto_more ts t (Ok us) = ap (λ (vs : List Token). Ok vs) (sym (append_assoc ts (t ∷ []) us))
onto_more ts t (Err e) = refl

onto_nothing : (r : Read) → r ≡ onto [] r
onto_nothing (Ok ts) = refl
onto_nothing (Err e) = refl

-- what is read so far of a whole text
pub record IsSoFar (whole : Read) (bytes : ℕ) (tokens : List Token) (at : ℕ) (line : Bool) (left : Scalars) : Type 0 where
  pub reads_on : whole ≡ onto tokens (reads at line left)
  pub bytes_left : at + utf8_len left ≡ bytes

pub gap_so_far : (whole : Read) (bytes at now : ℕ) (line b : Bool) (tokens : List Token) (left rest : Scalars) → IsSoFar whole bytes tokens at line left → at_front left ≡ gap_of b rest
    → now ≡ at + utf8_len (before left rest) → IsSoFar whole bytes tokens now (line || b) rest
gap_so_far whole bytes at now line b tokens left rest k e p =
    let s = gap_splits left rest b e in
    let left_bytes = k.bytes_left in
    record {
      reads_on = k.reads_on ∙ ap (onto tokens) (gap_read at line b left rest e) ∙ ap (λ (m : ℕ). onto tokens (reads m (line || b) rest)) (sym p);
      bytes_left = omega (arith, s.widths);
    }

pub word_so_far : (whole : Read) (bytes at now : ℕ) (line : Bool) (kind : TokenKind) (value : Scalars) (tokens more : List Token) (t : Token) (left rest : Scalars) → IsSoFar whole bytes tokens at line left
    → at_front left ≡ token_of kind value rest → now ≡ at + utf8_len (before left rest) → t ≡ record { kind = kind; text = value; from = at; to = now; line_before = line } → more ≡ tokens ++ t ∷ []
    → IsSoFar whole bytes more now false rest
word_so_far whole bytes at now line kind value tokens more t left rest k e p is m =
    let s = word_splits left rest kind value e in
    let left_bytes = k.bytes_left in
    let made : t ≡ token_at at line kind value (before left rest) = is ∙ ap (λ (n : ℕ). record { kind = kind; text = value; from = at; to = n; line_before = line }) p in
    record {
      reads_on = k.reads_on ∙ ap (onto tokens) (word_read at line kind value left rest e)
          ∙ onto_more tokens (token_at at line kind value (before left rest)) (reads (at + utf8_len (before left rest)) false rest)
          ∙ ap (λ (u : Token). onto (tokens ++ u ∷ []) (reads (at + utf8_len (before left rest)) false rest)) (sym made)
          ∙ ap (λ (us : List Token). onto us (reads (at + utf8_len (before left rest)) false rest)) (sym m)
          ∙ ap (λ (n : ℕ). onto more (reads n false rest)) (sym p);
      bytes_left = omega (arith, s.widths);
    }

pub fault_so_far : (whole : Read) (bytes at on place : ℕ) (line : Bool) (kind : LexKind) (tokens : List Token) (left : Scalars) → IsSoFar whole bytes tokens at line left → 0 < length left
    → at_front left ≡ fault_of on kind → place ≡ at + on → whole ≡ Err (place, kind)
fault_so_far whole bytes at on place line kind tokens left k some e p =
    k.reads_on ∙ ap (onto tokens) (fault_read at on line kind left some e) ∙ ap (λ (n : ℕ). Err (n, kind)) (sym p)

pub end_so_far : (whole : Read) (bytes at : ℕ) (line : Bool) (tokens more : List Token) (t : Token) (left : Scalars) → IsSoFar whole bytes tokens at line left → length left ≡ 0
    → t ≡ token_at at line kinds.End [] [] → more ≡ tokens ++ t ∷ [] → whole ≡ Ok more
end_so_far whole bytes at line tokens more t left k none is m =
    k.reads_on ∙ ap (onto tokens) (read_none (length left) at line left (omega arith))
    ∙ ap (λ (u : Token). Ok (tokens ++ u ∷ [])) (sym is) ∙ ap (λ (us : List Token). Ok us) (sym m)

pub begins_so_far : (text : Scalars) → IsSoFar (reads 0 false text) (utf8_len text) [] 0 false text
begins_so_far text = record { reads_on = onto_nothing (reads 0 false text); bytes_left = omega arith }

-- what the loop needs of a gap or a token
pub gap_left : (left rest : Scalars) (b : Bool) → at_front left ≡ gap_of b rest → length rest < length left
gap_left left rest b e = (gap_splits left rest b e).shorter

pub word_left : (left rest : Scalars) (kind : TokenKind) (value : Scalars) → at_front left ≡ token_of kind value rest → length rest < length left
word_left left rest kind value e = (word_splits left rest kind value e).shorter

-- what a front shows
pub front_shown : (p : AtFront) (f g : Front) → Shows p (Ok f) → f ≡ g → Shows p (Ok g)
front_shown p f g k e = subst (λ (x : Front). Shows p (Ok x)) e k

pub error_shown : (p : AtFront) (f g : OrMemory FrontFault) → Shows p (Err f) → f ≡ g → Shows p (Err g)
error_shown p f g k e = subst (λ (x : OrMemory FrontFault). Shows p (Err x)) e k

pub not_empty : (left : Scalars) → (length left == 0) ≡ false → 0 < length left
not_empty [] h = absurd cc
not_empty (c ∷ cs) h = omega arith

pub is_empty : (n : ℕ) → (n == 0) ≡ true → n ≡ 0
is_empty n h = grind (arith, nat_tests)

pub bound_at : (whole : Read) (bytes at limit on : ℕ) (line : Bool) (tokens : List Token) (left : Scalars) → IsSoFar whole bytes tokens at line left → bytes ≤ limit → on ≤ utf8_len left → at + on ≤ limit
bound_at whole bytes at limit on line tokens left k le h = let b = k.bytes_left in omega arith

pub le_of : (a b : ℕ) → a < b → a ≤ b
le_of a b h = omega arith

abbrev pub token_with : ℕ → Bool → Scalars → Token
token_with at line text = record { kind = kinds.End; text = text; from = at; to = at; line_before = line }

pub end_token : (at : ℕ) (line : Bool) (text : Scalars) → text ≡ [] → token_with at line text ≡ token_at at line kinds.End [] []
end_token at line text e =
    let no_width : at ≡ at + 0 = omega arith in
    ap (token_with at line) e ∙ ap (λ (n : ℕ). (record { kind = kinds.End; text = []; from = at; to = n; line_before = line })) no_width

pub place_told : (whole : Read) (f : LexFault) (at : ℕ) (kind : LexKind) → whole ≡ Err (at, kind) → f ≡ record { at = at; kind = kind } → whole ≡ Err (f.at, f.kind)
place_told whole f at kind e is = e ∙ sym (ap (λ (x : LexFault). Err (x.at, x.kind)) is)
