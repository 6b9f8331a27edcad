-- The symbol of the next token tells whether it is in a set.
use Rattle.std.proofs.Common.{◌≡◌, Bool, false, List, [], ◌∷◌, ◌++◌, refl, true, ap, ◌∙◌, ◌||◌, ℕ, suc, zero, ◌≤◌, arith, ◌==◌}
use Rattle.js_syntax.specs.declared.symbol.Symbol.{Symbol}
use Rattle.js_syntax.specs.declared.symbol.Symbol.TheVariants as s
use Rattle.js_syntax.specs.Words.{operators, names, member_names, keys, plain_keys, leaves, prefixes, updates}
use Rattle.js_syntax.specs.ReservedWords.{reserved_symbols}
use Rattle.js_syntax.specs.SymbolNumbers.{amid}
use Rattle.js_reference_parser.specs.ExpressionsModel.{expr_firsts, base_firsts, member_firsts}
use Rattle.js_syntax.specs.Symbols.{is, among, symbol_of, number}
use Rattle.js_reference_parser.specs.StatementsModel.{begins_stmt, begins_nested, begins_word}
use Rattle.js_combinators.proofs.Sets.{among_amid}
use Rattle.js_syntax.specs.declared.token.Token.{Token}

pub seen_is : (xs : List Symbol) (t : Token) → among xs t ≡ amid xs (number (symbol_of t))
seen_is xs t = among_amid xs t

-- the weakest operators
pub operators_or : (b : Bool) (n : ℕ) → 5 ≤ n → operators b n ≡ s.Or ∷ []
operators_or b zero le = absurd (omega arith)
operators_or b (suc zero) le = absurd (omega arith)
operators_or b (suc (suc zero)) le = absurd (omega arith)
operators_or b (suc (suc (suc zero))) le = absurd (omega arith)
operators_or b (suc (suc (suc (suc zero)))) le = absurd (omega arith)
operators_or true (suc (suc (suc (suc (suc n))))) le = refl
operators_or false (suc (suc (suc (suc (suc n))))) le = refl

or_four : (a b c d e : Bool) → (a || (b || (c || (d || e)))) ≡ ((a || (b || (c || d))) || e)
or_four true b c d e = refl
or_four false true c d e = refl
or_four false false true d e = refl
or_four false false false d e = refl

-- what begins a statement, in two parts
pub begins_parts : (f l : Bool) (t : Token) → begins_stmt f l t ≡ (is s.Semicolon t || (is s.OpenBrace t || (is s.Var t || (begins_nested t || begins_word f l t))))
begins_parts f l t = ap (λ b. is s.Semicolon t || (is s.OpenBrace t || (is s.Var t || b))) (or_four (is s.Function t) (is s.If t) (is s.While t) (is s.For t) (begins_word f l t))

-- ---- sets made of others

or_two : (a b c : Bool) → ((a || b) || c) ≡ (a || (b || c))
or_two true b c = refl
or_two false b c = refl

or_three : (a b c d : Bool) → ((a || (b || c)) || d) ≡ (a || (b || (c || d)))
or_three true b c d = refl
or_three false true c d = refl
or_three false false c d = refl

or_five : (a b c d e f : Bool) → ((a || (b || (c || (d || e)))) || f) ≡ (a || (b || (c || (d || (e || f)))))
or_five true b c d e f = refl
or_five false true c d e f = refl
or_five false false true d e f = refl
or_five false false false true e f = refl
or_five false false false false e f = refl

amid_append : (x : Symbol) (xs : List Symbol) (y : Symbol) (ys : List Symbol) (n : ℕ) → (amid (x ∷ xs) n || amid (y ∷ ys) n) ≡ amid (x ∷ (xs ++ y ∷ ys)) n
amid_append x [] y ys n = refl
amid_append x (z ∷ zs) y ys n =
    or_two (n == number x) (amid (z ∷ zs) n) (amid (y ∷ ys) n) ∙ ap (λ b. (n == number x) || b) (amid_append z zs y ys n)

pub member_names_are : (n : ℕ) → (amid names n || amid reserved_symbols n) ≡ amid member_names n
member_names_are n = or_three (n == number s.Name) (n == number s.Get) (n == number s.Set) (amid reserved_symbols n)

pub keys_are : (n : ℕ) → (amid (s.Number ∷ s.Str ∷ []) n || amid member_names n) ≡ amid keys n
keys_are n = or_two (n == number s.Number) (n == number s.Str) (amid member_names n)

pub plain_keys_are : (n : ℕ) → (amid (s.Number ∷ s.Str ∷ []) n || ((n == number s.Name) || amid reserved_symbols n)) ≡ amid plain_keys n
plain_keys_are n = or_two (n == number s.Number) (n == number s.Str) ((n == number s.Name) || amid reserved_symbols n)

pub base_firsts_are : (n : ℕ) → ((n == number s.New) || (amid leaves n || amid (s.OpenParen ∷ s.OpenBracket ∷ s.OpenBrace ∷ s.Function ∷ []) n)) ≡ amid base_firsts n
base_firsts_are n =
    ap (λ b. (n == number s.New) || b)
    (amid_append s.Name (s.Get ∷ s.Set ∷ s.Number ∷ s.Str ∷ s.This ∷ s.True ∷ s.False ∷ s.Null ∷ []) s.OpenParen (s.OpenBracket ∷ s.OpenBrace ∷ s.Function ∷ []) n)

pub expr_firsts_are : (n : ℕ) → (amid prefixes n || (amid updates n || amid base_firsts n)) ≡ amid expr_firsts n
expr_firsts_are n =
    ap (λ b. amid prefixes n || b) (or_two (n == number s.Increment) (n == number s.Decrement) (amid base_firsts n))
    ∙ or_five (n == number s.Delete) (n == number s.TypeOf) (n == number s.Not) (n == number s.Plus) (n == number s.Minus)
    ((n == number s.Increment) || ((n == number s.Decrement) || amid base_firsts n))
