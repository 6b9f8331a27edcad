-- Lower case and comparison of texts, scalar by scalar and byte by byte.
use Rattle.std.proofs.Common.{◌≡◌, ◌<◌, ◌≤◌, ◌+◌, ◌/◌, ◌⊎◌, ℕ, Bool, true, false, List, [], ◌∷◌, ◌++◌, map, refl, ap, ap₂, sym, ◌∙◌, arith, cond, inl, inr}
use Rattle.std.specs.Prelude.{◌↔◌, IsTrue, encode_utf8_all, nat_lt, codes}
use Rattle.std.specs.Char.{to_ascii_lowercase}
use Rattle.std.specs.Str.{bytes_eq, chars, IsUtf8}
use Rattle.std.proofs.lemmas.Bool.Decides.{same_from_decides, nat_tests}
use Rattle.std.proofs.lemmas.Slice.Eq.{bytes_eq-Decides}
use Rattle.std.proofs.lemmas.Str.{encodes_same, encodes-chars, encode_ascii}
use Rattle.std.proofs.lemmas.List.{map-append}
use Rattle.base_text.specs.Scalars.{bytes_eq-encoded}
use lib.Utf8.{encode, next}
use lib.Dec.{ltb}
use Rattle.dom_semantics.specs.SelectorNames.{lowered, is_same_name}

-- bytes that are no ASCII
abbrev pub AreHigh : List ℕ → Type 0
AreHigh [] = Unit {0}
AreHigh (b ∷ bs) = (128 ≤ b) × AreHigh bs

-- the bytes of a scalar that is no ASCII
long : Bool → Bool → ℕ → List ℕ
long x y c =
    cond x ((192 + c / 64) ∷ (next c ∷ []))
    (cond y ((224 + c / 4096) ∷ (next (c / 64) ∷ (next c ∷ []))) ((240 + c / 262144) ∷ (next (c / 4096) ∷ (next (c / 64) ∷ (next c ∷ [])))))

high_next : (n : ℕ) → 128 ≤ next n
high_next n = omega arith

long-high : (x y : Bool) (c : ℕ) → AreHigh (long x y c)
unfolding long
long-high true y c = (omega arith, (high_next c, tt))
long-high false true c = (omega arith, (high_next (c / 64), (high_next c, tt)))
long-high false false c = (omega arith, (high_next (c / 4096), (high_next (c / 64), (high_next c, tt))))

not_ascii : (c : ℕ) → 128 ≤ c → ltb c 128 ≡ false
not_ascii c h = grind (arith, nat_tests)

encode-long : (c : ℕ) → 128 ≤ c → encode c ≡ long (ltb c 2048) (ltb c 65536) c
unfolding encode long
encode-long c h = ap (λ b. cond b (c ∷ []) (long (ltb c 2048) (ltb c 65536) c)) (not_ascii c h)

pub encode-high : (c : ℕ) → 128 ≤ c → AreHigh (encode c)
encode-high c h = rw (encode-long c h) (long-high (ltb c 2048) (ltb c 65536) c)

test_low : (c : ℕ) → nat_lt c 128 ≡ true → c < 128
test_low c e = grind (arith, nat_tests)

test_high : (c : ℕ) → nat_lt c 128 ≡ false → 128 ≤ c
test_high c e = grind (arith, nat_tests)

low_or_high_by : (b : Bool) (c : ℕ) → nat_lt c 128 ≡ b → (c < 128) ⊎ (128 ≤ c)
low_or_high_by true c e = inl (test_low c e)
low_or_high_by false c e = inr (test_high c e)

pub low_or_high : (c : ℕ) → (c < 128) ⊎ (128 ≤ c)
low_or_high c = low_or_high_by (nat_lt c 128) c refl

lower_high : (b : ℕ) → 128 ≤ b → to_ascii_lowercase b ≡ b
lower_high b h = grind (arith, nat_tests)

lower_low : (b : ℕ) → b < 128 → to_ascii_lowercase b < 128
lower_low b h = grind (arith, nat_tests)

map-high : (bs : List ℕ) → AreHigh bs → map to_ascii_lowercase bs ≡ bs
map-high [] h = refl
map-high (b ∷ bs) h = ap₂ (λ x xs. x ∷ xs) (lower_high b h.0) (map-high bs h.1)

lower_encode : (c : ℕ) → map to_ascii_lowercase (encode c) ≡ encode (to_ascii_lowercase c)
lower_encode c =
    elim (low_or_high c) [
      | inl h ↦ ap (map to_ascii_lowercase) (encode_ascii c h) ∙ sym (encode_ascii (to_ascii_lowercase c) (lower_low c h))
      | inr h ↦ map-high (encode c) (encode-high c h) ∙ ap encode (sym (lower_high c h))
    ]

-- bytes in lower case are those of the scalars in lower case
pub lower_encodes : (t : List ℕ) → map to_ascii_lowercase (encode_utf8_all t) ≡ encode_utf8_all (lowered t)
lower_encodes [] = refl
lower_encodes (c ∷ cs) =
    map-append to_ascii_lowercase (encode c) (encode_utf8_all cs) ∙ ap₂ (λ x y. x ++ y) (lower_encode c) (lower_encodes cs)

pub same_name : (r : Bool) (a b : List ℕ) → (IsTrue r ↔ (map to_ascii_lowercase (encode_utf8_all a) ≡ map to_ascii_lowercase (encode_utf8_all b))) → r ≡ is_same_name a b
same_name r a b h =
    same_from_decides r (is_same_name a b)
    (λ e. encodes_same (lowered a) (lowered b) (sym (lower_encodes a) ∙ (h.0 e ∙ lower_encodes b)), λ e. h.1 (lower_encodes a ∙ (ap encode_utf8_all e ∙ sym (lower_encodes b))))
    (bytes_eq-Decides (lowered a) (lowered b))

pub same_name_of : (r : Bool) (a b x y : List ℕ) → x ≡ encode_utf8_all a → y ≡ encode_utf8_all b → (IsTrue r ↔ (map to_ascii_lowercase x ≡ map to_ascii_lowercase y)) → r ≡ is_same_name a b
same_name_of r a b x y ex ey h =
    same_name r a b
    ((λ e. ap (map to_ascii_lowercase) (sym ex) ∙ (h.0 e ∙ ap (map to_ascii_lowercase) ey)), (λ e. h.1 (ap (map to_ascii_lowercase) ex ∙ (e ∙ ap (map to_ascii_lowercase) (sym ey)))))

-- a text is that of these bytes
pub same_text : (t s : List ℕ) → IsUtf8 s → bytes_eq (encode_utf8_all t) s ≡ bytes_eq t (chars s)
same_text t s u = sym (bytes_eq-encoded t (chars s) ∙ ap (λ x. bytes_eq (encode_utf8_all t) x) (encodes-chars s u))

-- the names of two attributes, and the tag that stands for all
pub id_name : chars (codes "id") ≡ codes "id"
unfolding chars
id_name = refl

pub class_name : chars (codes "class") ≡ codes "class"
unfolding chars
class_name = refl

pub star_name : chars (codes "*") ≡ codes "*"
unfolding chars
star_name = refl
