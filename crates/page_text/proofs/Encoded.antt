-- The UTF-8 of what is printed, part by part.
use Rattle.std.proofs.Common.{◌≡◌, ◌∙◌, ap, ap₂, sym, refl, ℕ, zero, suc, ◌+◌, ◌<◌, ◌≤◌, Bool, true, false, inl, inr, List, [], ◌∷◌, ◌++◌, append_assoc, append-nil, length, get_or, take, arith, Some}
use Rattle.std.specs.Prelude.{codes, Result, OnOk, slice_get, if◌then◌else◌, ◌==◌}
use Rattle.std.specs.List.{flat_map}
use Rattle.std.proofs.lemmas.Bool.{cases_lt}
use Rattle.std.proofs.lemmas.Result.{on_ok_weaker}
use Rattle.std.proofs.lemmas.List.Concat.{flat_map-append}
use Rattle.std.proofs.lemmas.Str.{encodes-append, encode_ascii, inside_one}
use lib.Utf8.{encode, encodes}
use Rattle.page_text.specs.Printed.{end_tag, shown_attribute, shown_comment, start_tag, text_scalar, value_scalar}

-- each byte of a scalar from 128 on is such too
encode_high : (c : ℕ) → 128 ≤ c → (k : ℕ) → k < length (encode c) → 128 ≤ get_or (encode c) k 0
encode_high c high k below =
    elim (cases_lt (get_or (encode c) k 0) 128) [
      | inl low ↦ absurd (omega (arith, inside_one c [] (encode c) k (sym (append-nil _)) below low))
      | inr h ↦ h
    ]

unchanged : (f : ℕ → List ℕ) → ((c : ℕ) → 128 ≤ c → f c ≡ c ∷ []) → (xs : List ℕ) → ((k : ℕ) → k < length xs → 128 ≤ get_or xs k 0) → flat_map f xs ≡ xs
unchanged f high [] h = refl
unchanged f high (x ∷ xs) h = ap₂ (λ (a b : List ℕ). a ++ b) (high x (h 0 (omega arith))) (unchanged f high xs (λ k below. h (suc k) (omega arith)))

-- an escape that leaves what isn't ASCII as it is, and gives ASCII for ASCII
one_encoded : (f : ℕ → List ℕ) → ((c : ℕ) → 128 ≤ c → f c ≡ c ∷ []) → ((c : ℕ) → c < 128 → encodes (f c) ≡ f c) → (c : ℕ) → flat_map f (encode c) ≡ encodes (f c)
one_encoded f high low c =
    elim (cases_lt c 128) [
      | inl small ↦ rw (encode_ascii c small) (append-nil (f c) ∙ sym (low c small))
      | inr big ↦ unchanged f high (encode c) (encode_high c big) ∙ sym (append-nil (encode c)) ∙ sym (ap encodes (high c big))
    ]

-- escaping the bytes is escaping the scalars
escaped_encoded : (f : ℕ → List ℕ) → ((c : ℕ) → 128 ≤ c → f c ≡ c ∷ []) → ((c : ℕ) → c < 128 → encodes (f c) ≡ f c) → (t : List ℕ) → flat_map f (encodes t) ≡ encodes (flat_map f t)
escaped_encoded f high low [] = refl
escaped_encoded f high low (c ∷ cs) =
    flat_map-append f (encode c) (encodes cs) ∙ ap₂ (λ (a b : List ℕ). a ++ b) (one_encoded f high low c) (escaped_encoded f high low cs) ∙ sym (encodes-append (f c) (flat_map f cs))

either : (b : Bool) (xs ys : List ℕ) → encodes xs ≡ xs → encodes ys ≡ ys → encodes (if b then xs else ys) ≡ (if b then xs else ys)
either true xs ys e f = e
either false xs ys e f = f

itself : (c : ℕ) → c < 128 → encodes (c ∷ []) ≡ c ∷ []
itself c small = append-nil (encode c) ∙ encode_ascii c small

and_sign : encodes (codes "&amp;") ≡ codes "&amp;"
unfolding encode
and_sign = refl

less_sign : encodes (codes "&lt;") ≡ codes "&lt;"
unfolding encode
less_sign = refl

more_sign : encodes (codes "&gt;") ≡ codes "&gt;"
unfolding encode
more_sign = refl

quote_sign : encodes (codes "&quot;") ≡ codes "&quot;"
unfolding encode
quote_sign = refl

text_low : (c : ℕ) → c < 128 → encodes (text_scalar c) ≡ text_scalar c
text_low c small = either (c == 38) _ _ and_sign (either (c == 60) _ _ less_sign (either (c == 62) _ _ more_sign (itself c small)))

value_low : (c : ℕ) → c < 128 → encodes (value_scalar c) ≡ value_scalar c
value_low c small = either (c == 38) _ _ and_sign (either (c == 34) _ _ quote_sign (itself c small))

other : (b : Bool) (xs ys : List ℕ) → b ≡ false → (if b then xs else ys) ≡ ys
other b xs ys e = rw e refl

pub not_it : (c d : ℕ) → d < c → (c == d) ≡ false
not_it c d more = grind arith

text_high : (c : ℕ) → 128 ≤ c → text_scalar c ≡ c ∷ []
text_high c high = rw (not_it c 38 (omega arith), not_it c 60 (omega arith), not_it c 62 (omega arith)) refl

value_high : (c : ℕ) → 128 ≤ c → value_scalar c ≡ c ∷ []
value_high c high = rw (not_it c 38 (omega arith), not_it c 34 (omega arith)) refl

pub text_encoded : (t : List ℕ) → flat_map text_scalar (encodes t) ≡ encodes (flat_map text_scalar t)
text_encoded t = escaped_encoded text_scalar text_high text_low t

pub value_encoded : (t : List ℕ) → flat_map value_scalar (encodes t) ≡ encodes (flat_map value_scalar t)
value_encoded t = escaped_encoded value_scalar value_high value_low t

-- around a text: a word before it and a word behind it
words : (front inside back : List ℕ) → encodes front ≡ front → encodes back ≡ back → encodes (front ++ (inside ++ back)) ≡ front ++ (encodes inside ++ back)
words front inside back f b = encodes-append front (inside ++ back) ∙ ap₂ (λ (x y : List ℕ). x ++ y) f (encodes-append inside back ∙ ap (λ x. encodes inside ++ x) b)

comment_front : encodes (codes "<!--") ≡ codes "<!--"
unfolding encode
comment_front = refl

comment_back : encodes (codes "-->") ≡ codes "-->"
unfolding encode
comment_back = refl

end_front : encodes (codes "</") ≡ codes "</"
unfolding encode
end_front = refl

tag_front : encodes (codes "<") ≡ codes "<"
unfolding encode
tag_front = refl

tag_back : encodes (codes ">") ≡ codes ">"
unfolding encode
tag_back = refl

blank : encodes (codes " ") ≡ codes " "
unfolding encode
blank = refl

value_front : encodes (codes "=\"") ≡ codes "=\""
unfolding encode
value_front = refl

value_back : encodes (codes "\"") ≡ codes "\""
unfolding encode
value_back = refl

pub comment_encoded : (text : List ℕ) → encodes (shown_comment text) ≡ codes "<!--" ++ (encodes text ++ codes "-->")
comment_encoded text = words (codes "<!--") text (codes "-->") comment_front comment_back

pub end_tag_encoded : (tag : List ℕ) → encodes (end_tag tag) ≡ codes "</" ++ (encodes tag ++ codes ">")
end_tag_encoded tag = words (codes "</") tag (codes ">") end_front tag_back

pub start_tag_encoded : (tag : List ℕ) (attributes : List (List ℕ × List ℕ)) → encodes (start_tag tag attributes) ≡ codes "<" ++ (encodes tag ++ (encodes (flat_map shown_attribute attributes) ++ codes ">"))
start_tag_encoded tag attributes =
    encodes-append (codes "<") _
    ∙ ap₂ (λ (x y : List ℕ). x ++ y) tag_front
    (encodes-append tag _ ∙ ap (λ x. encodes tag ++ x) (encodes-append (flat_map shown_attribute attributes) _ ∙ ap (λ x. encodes (flat_map shown_attribute attributes) ++ x) tag_back))

pub attribute_encoded : (name value : List ℕ) → encodes (shown_attribute (name, value)) ≡ codes " " ++ (encodes name ++ (codes "=\"" ++ (encodes (flat_map value_scalar value) ++ codes "\"")))
attribute_encoded name value =
    encodes-append (codes " ") _
    ∙ ap₂ (λ (x y : List ℕ). x ++ y) blank
    (encodes-append name _ ∙ ap (λ x. encodes name ++ x) (words (codes "=\"") (flat_map value_scalar value) (codes "\"") value_front value_back))

-- what some pushes add, the last of which may fail
chained : (old one two a b : List ℕ) → one ≡ old ++ a → two ≡ one ++ b → two ≡ old ++ (a ++ b)
chained old one two a b e f = f ∙ ap (λ x. x ++ b) e ∙ append_assoc old a b

pub three : {T E : Type 0} (r : Result T E) (old one two new a b c whole : List ℕ) → one ≡ old ++ a → two ≡ one ++ b → OnOk r (new ≡ two ++ c) → a ++ (b ++ c) ≡ whole → OnOk r (new ≡ old ++ whole)
three r old one two new a b c whole e f last is =
    on_ok_weaker r (λ g. chained old two new (a ++ b) c (chained old one two a b e f) g ∙ ap (λ x. old ++ x) (append_assoc a b c ∙ is)) last

pub four : {T E : Type 0} (r : Result T E) (old one two three new a b c d whole : List ℕ) → one ≡ old ++ a → two ≡ one ++ b → three ≡ two ++ c → OnOk r (new ≡ three ++ d) → a ++ (b ++ (c ++ d)) ≡ whole → OnOk r (new ≡ old ++ whole)
four r old one two next new a b c d whole e f g last is =
    three r old two next new (a ++ b) c d whole (chained old one two a b e f) g last (append_assoc a b (c ++ d) ∙ is)

pub five : {T E : Type 0} (r : Result T E) (old one two three four new a b c d e whole : List ℕ) → one ≡ old ++ a → two ≡ one ++ b → three ≡ two ++ c → four ≡ three ++ d → OnOk r (new ≡ four ++ e) → a ++ (b ++ (c ++ (d ++ e))) ≡ whole → OnOk r (new ≡ old ++ whole)
five r old one two next later new a b c d e whole p q g h last is =
    four r old two next later new (a ++ b) c d e whole (chained old one two a b p q) g h last (append_assoc a b (c ++ (d ++ e)) ∙ is)

-- of each of some items in turn
take_one : {A : Type 0} (f : A → List ℕ) (xs : List A) (i : ℕ) (x : A) → Some x ≡ slice_get xs i → flat_map f (take (suc i) xs) ≡ flat_map f (take i xs) ++ f x
take_one f [] i x e = absurd (cc)
take_one f (y ∷ xs) zero x e = let same : x ≡ y = cc in rw same (append-nil (f y))
take_one f (y ∷ xs) (suc i) x e = ap (λ l. f y ++ l) (take_one f xs i x e) ∙ sym (append_assoc (f y) (flat_map f (take i xs)) (f x))

-- one item more
pub more_encoded : {A : Type 0} (f : A → List ℕ) (xs : List A) (i : ℕ) (x : A) (old now new : List ℕ) → Some x ≡ slice_get xs i → now ≡ old ++ encodes (flat_map f (take i xs)) → new ≡ now ++ encodes (f x) → new ≡ old ++ encodes (flat_map f (take (i + 1) xs))
more_encoded f xs i x old now new at before more =
    let one : i + 1 ≡ suc i = omega arith in
    rw one
    (more ∙ ap (λ l. l ++ encodes (f x)) before ∙ append_assoc old (encodes (flat_map f (take i xs))) (encodes (f x))
    ∙ ap (λ l. old ++ l) (sym (ap encodes (take_one f xs i x at) ∙ encodes-append (flat_map f (take i xs)) (f x))))
