-- Tokens that complete what was begun.
use Rattle.std.proofs.Common.{◌≡◌, ◌==◌, ◌||◌, ◌&&◌, ℕ, zero, suc, ◌+◌, ◌<◌, Bool, true, false, cond, List, [], ◌∷◌, length, refl, ap, ◌∙◌, arith}
use Rattle.std.specs.Prelude.{codes, nat_eq}
use Rattle.std.specs.Str.{bytes_eq}
use Rattle.js_syntax.specs.declared.token.Token.{Token}
use Rattle.js_syntax.specs.declared.token.TokenKind.TheVariants as kind
use Rattle.js_syntax.specs.declared.symbol.Symbol.TheVariants as s
use Rattle.js_syntax.specs.ReservedWords.{word_of}
use Rattle.js_syntax.specs.Symbols.{is, among, symbol_of, number, punctuator_of, all_continue}
use Rattle.js_syntax.specs.Grammar.{is_known}
use Rattle.js_syntax.specs.Words.{names}

abbrev pub punctuator : List ℕ → Token
punctuator text = record { kind = kind.Punct; text = text; from = 0; to = 0; line_before = false }

abbrev pub word : List ℕ → Token
word text = record { kind = kind.Word; text = text; from = 0; to = 0; line_before = false }

abbrev pub name_token : List ℕ → Token
name_token text = record { kind = kind.Name; text = text; from = 0; to = 0; line_before = false }

abbrev pub close : Token
close = punctuator (codes ")")

abbrev pub open_token : Token
open_token = punctuator (codes "(")

abbrev pub close_bracket : Token
close_bracket = punctuator (codes "]")

abbrev pub open_brace : Token
open_brace = punctuator (codes "{")

abbrev pub close_brace : Token
close_brace = punctuator (codes "}")

abbrev pub semicolon : Token
semicolon = punctuator (codes ";")

abbrev pub colon : Token
colon = punctuator (codes ":")

abbrev pub dot : Token
dot = punctuator (codes ".")

abbrev pub finally_token : Token
finally_token = word (codes "finally")

abbrev pub end : Token
end = record { kind = kind.End; text = []; from = 0; to = 0; line_before = false }

-- the shortest name
abbrev pub dollar : Token
dollar = name_token (36 ∷ [])

pub is_close : is s.CloseParen close ≡ true
unfolding symbol_of punctuator_of lib.Utf8.encode
is_close = refl

pub is_open : is s.OpenParen open_token ≡ true
unfolding symbol_of punctuator_of lib.Utf8.encode
is_open = refl

pub is_close_bracket : is s.CloseBracket close_bracket ≡ true
unfolding symbol_of punctuator_of lib.Utf8.encode
is_close_bracket = refl

pub is_open_brace : is s.OpenBrace open_brace ≡ true
unfolding symbol_of punctuator_of lib.Utf8.encode
is_open_brace = refl

pub is_close_brace : is s.CloseBrace close_brace ≡ true
unfolding symbol_of punctuator_of lib.Utf8.encode
is_close_brace = refl

pub is_semicolon : is s.Semicolon semicolon ≡ true
unfolding symbol_of punctuator_of lib.Utf8.encode
is_semicolon = refl

pub is_colon : is s.Colon colon ≡ true
unfolding symbol_of punctuator_of lib.Utf8.encode
is_colon = refl

pub is_dot : is s.Dot dot ≡ true
unfolding symbol_of punctuator_of lib.Utf8.encode
is_dot = refl

pub is_finally : is s.Finally finally_token ≡ true
unfolding symbol_of word_of lib.Utf8.encode
is_finally = refl

pub is_end : is s.End end ≡ true
unfolding symbol_of
is_end = refl

pub is_name : is s.Name dollar ≡ true
unfolding symbol_of word_of lib.Utf8.encode
is_name = refl

-- ---- a name that is none of those before it

-- dollars, more than any name before has scalars
abbrev pub dollars : ℕ → List ℕ
dollars zero = []
dollars (suc n) = 36 ∷ dollars n

abbrev pub longer : List (List ℕ) → ℕ
longer [] = 0
longer (n ∷ ns) = length n + longer ns

abbrev pub fresh : List (List ℕ) → Token
fresh ns = name_token (dollars (suc (longer ns)))

dollars_continue : (n : ℕ) → all_continue (dollars n) ≡ true
dollars_continue zero = refl
dollars_continue (suc n) = dollars_continue n

fresh_symbol : (n : ℕ) → symbol_of (name_token (dollars (suc n))) ≡ cond (all_continue (dollars n)) s.Name s.Other
unfolding symbol_of word_of lib.Utf8.encode
fresh_symbol n = refl

pub fresh_name : (ns : List (List ℕ)) → among names (fresh ns) ≡ true
fresh_name ns = ap (λ x. (number x == 1) || ((number x == 2) || (number x == 3))) (fresh_symbol (longer ns) ∙ ap (λ b. cond b s.Name s.Other) (dollars_continue (longer ns)))

dollars_length : (n : ℕ) → length (dollars n) ≡ n
dollars_length zero = refl
dollars_length (suc n) = ap suc (dollars_length n)

apart_lengths : (a b : List ℕ) → length b < length a → bytes_eq a b ≡ false
apart_lengths [] b h = absurd (omega arith)
apart_lengths (x ∷ a) [] h = refl
apart_lengths (x ∷ a) (y ∷ b) h = ap (λ v. nat_eq x y && v) (apart_lengths a b (omega arith)) ∙ and_false (nat_eq x y) where
  and_false : (v : Bool) → (v && false) ≡ false
  and_false true = refl
  and_false false = refl

unknown : (text : List ℕ) (ns : List (List ℕ)) → longer ns < length text → is_known text ns ≡ false
unknown text [] h = refl
unknown text (n ∷ ns) h = ap (λ v. v || is_known text ns) (apart_lengths text n (omega arith)) ∙ unknown text ns (omega arith)

pub fresh_unknown : (ns : List (List ℕ)) → is_known (dollars (suc (longer ns))) ns ≡ false
fresh_unknown ns = let e = dollars_length (suc (longer ns)) in unknown (dollars (suc (longer ns))) ns (omega arith)
