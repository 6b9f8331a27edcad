-- The case of ASCII letters, by bytes and by scalars.
use Rattle.std.specs.Prelude.{◌≡◌, ℕ, suc, ◌<◌, ◌≤◌, Bool, true, false, List, [], ◌∷◌, ◌++◌, length, map, encode_utf8_all, nat_lt, refl}
use Rattle.std.specs.Char.{to_ascii_uppercase, to_ascii_lowercase}
use Rattle.std.specs.Str.{chars, IsUtf8}
use Rattle.std.proofs.Common.{sym, ap, ◌∙◌, arith, get_or, append-nil}
use Rattle.std.proofs.Math.Utf8.{encode}
use Rattle.std.proofs.lemmas.Bool.Decides.{nat_tests}
use Rattle.std.proofs.lemmas.List.{map-append}
use Rattle.std.proofs.lemmas.Str.{encode_ascii, inside_one, chars_from_encodes}
use Rattle.std.proofs.lemmas.Str.Ascii.{lowercase_ascii, lowercase_is, uppercase_ascii, uppercase_is}
use Rattle.js_semantics.specs.Texts.{lower, upper}

-- a change of scalars that is one of bytes: only ASCII changes, and to ASCII
record IsOfAscii (f g : ℕ → ℕ) : Type 0 where
  same : (c : ℕ) → f c ≡ g c
  small : (c : ℕ) → c < 128 → f c < 128
  wide : (c : ℕ) → 128 ≤ c → f c ≡ c

lower_is : (c : ℕ) → to_ascii_lowercase c ≡ lower c
lower_is c = grind (arith, nat_tests)

upper_is : (c : ℕ) → to_ascii_uppercase c ≡ upper c
upper_is c = grind (arith, nat_tests)

lower_of_ascii : IsOfAscii to_ascii_lowercase lower
lower_of_ascii = record { same = lower_is; small = lowercase_ascii; wide = λ c wide. (lowercase_is c).2 (omega arith) }

upper_of_ascii : IsOfAscii to_ascii_uppercase upper
upper_of_ascii = record { same = upper_is; small = uppercase_ascii; wide = λ c wide. (uppercase_is c).2 (omega arith) }

-- no byte of a scalar that isn't ASCII is ASCII
high : (c k : ℕ) → 128 ≤ c → k < length (encode c) → 128 ≤ get_or (encode c) k 0
high c k wide within = side (nat_lt (get_or (encode c) k 0) 128) refl
  where
    side : (b : Bool) → nat_lt (get_or (encode c) k 0) 128 ≡ b → 128 ≤ get_or (encode c) k 0
    side true e =
        let low : get_or (encode c) k 0 < 128 = grind (arith, nat_tests) in
        let one = inside_one c [] (encode c) k (sym (append-nil (encode c))) within low in absurd (omega arith)
    side false e = grind (arith, nat_tests)

map_same : (f : ℕ → ℕ) (bs : List ℕ) → ((k : ℕ) → k < length bs → f (get_or bs k 0) ≡ get_or bs k 0) → map f bs ≡ bs
map_same f [] same = refl
map_same f (b ∷ bs) same =
    ap (λ (x : ℕ). x ∷ map f bs) (same 0 (omega arith)) ∙ ap (λ (xs : List ℕ). b ∷ xs) (map_same f bs (λ k below. same (suc k) (omega arith)))

scalar_cased : (f g : ℕ → ℕ) → IsOfAscii f g → (c : ℕ) → encode (g c) ≡ map f (encode c)
scalar_cased f g is c = side (nat_lt c 128) refl
  where
    side : (b : Bool) → nat_lt c 128 ≡ b → encode (g c) ≡ map f (encode c)
    side true e =
        let low : c < 128 = grind (arith, nat_tests) in
        let kept : g c < 128 = omega (arith, is.small c low, is.same c) in
        encode_ascii (g c) kept ∙ (ap (λ (x : ℕ). x ∷ []) (sym (is.same c)) ∙ sym (ap (map f) (encode_ascii c low)))
    side false e =
        let wide : 128 ≤ c = grind (arith, nat_tests) in
        ap encode (sym (is.same c) ∙ is.wide c wide)
        ∙ sym (map_same f (encode c) (λ k below. is.wide (get_or (encode c) k 0) (high c k wide below)))

text_cased : (f g : ℕ → ℕ) → IsOfAscii f g → (t : List ℕ) → encode_utf8_all (map g t) ≡ map f (encode_utf8_all t)
text_cased f g is [] = refl
text_cased f g is (c ∷ cs) =
    ap (λ (xs : List ℕ). xs ++ encode_utf8_all (map g cs)) (scalar_cased f g is c)
    ∙ (ap (λ (xs : List ℕ). map f (encode c) ++ xs) (text_cased f g is cs) ∙ sym (map-append f (encode c) (encode_utf8_all cs)))

chars_cased : (f g : ℕ → ℕ) → IsOfAscii f g → (t bs : List ℕ) → IsUtf8 bs → bs ≡ map f (encode_utf8_all t) → chars bs ≡ map g t
chars_cased f g is t bs u e = sym (chars_from_encodes (map g t) bs u (text_cased f g is t ∙ sym e))

-- what a change of the case of bytes gives
pub lower_chars : (t bs : List ℕ) → IsUtf8 bs → bs ≡ map to_ascii_lowercase (encode_utf8_all t) → chars bs ≡ map lower t
lower_chars t bs u e = chars_cased to_ascii_lowercase lower lower_of_ascii t bs u e

pub upper_chars : (t bs : List ℕ) → IsUtf8 bs → bs ≡ map to_ascii_uppercase (encode_utf8_all t) → chars bs ≡ map upper t
upper_chars t bs u e = chars_cased to_ascii_uppercase upper upper_of_ascii t bs u e
