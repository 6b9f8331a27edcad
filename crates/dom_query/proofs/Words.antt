-- The parts of a text between white space, one after the other, in scalars and in bytes.
use Rattle.std.proofs.Common.{◌≡◌, ◌-◌, ◌<◌, ◌≤◌, ℕ, Bool, true, false, List, [], ◌∷◌, ◌++◌, length, map, take, drop, refl, ap, ap₂, sym, ◌∙◌, arith, cond, inl, inr}
use Rattle.std.specs.Prelude.{encode_utf8_all, ◌||◌}
use Rattle.std.specs.List.{list_any}
use Rattle.std.specs.Str.{bytes_eq}
use Rattle.std.proofs.lemmas.Bool.Decides.{nat_tests}
use Rattle.std.proofs.lemmas.List.{take_all}
use Rattle.std.proofs.lemmas.Str.{encode_ascii, length-encode, len_utf8_bounds}
use Prim.Native.Nat.{zero, suc}
use lib.Utf8.{encode}
use Rattle.base_text.specs.Scalars.{bytes_eq-encoded}
use Rattle.dom_semantics.specs.Whitespace.{is_white_space}
use Rattle.std.specs.List.{onto_first, slice_split}
use Rattle.dom_semantics.specs.SelectorFits.{has_word}
use Rattle.dom_query.specs.WordsModel.{after_word}
use Rattle.dom_query.proofs.Letters.{AreHigh, encode-high, low_or_high}

abbrev pub parts_of : List ℕ → List (List ℕ)
parts_of t = slice_split is_white_space t

-- the parts behind the first
abbrev pub further : List ℕ → List (List ℕ)
further [] = []
further (c ∷ more) = parts_of more

-- ---- the first part

le_step : (b : Bool) (c : ℕ) (cs : List ℕ) → length (after_word cs) ≤ length cs → length (cond b (c ∷ cs) (after_word cs)) ≤ length (c ∷ cs)
le_step true c cs h = omega arith
le_step false c cs h = omega arith

pub after_word-le : (t : List ℕ) → length (after_word t) ≤ length t
unfolding after_word
after_word-le [] = omega arith
after_word-le (c ∷ cs) = le_step (is_white_space c) c cs (after_word-le cs)

first_step : (b : Bool) (c : ℕ) (cs rest : List ℕ) (parts : List (List ℕ)) → length rest ≤ length cs → parts ≡ take (length cs - length rest) cs ∷ further rest
    → cond b ([] ∷ parts_of cs) (onto_first c parts) ≡ take (length (c ∷ cs) - length (cond b (c ∷ cs) rest)) (c ∷ cs) ∷ further (cond b (c ∷ cs) rest)
first_step true c cs rest parts le e =
    let none : length (c ∷ cs) - length (c ∷ cs) ≡ zero = omega arith in
    ap (λ n. take n (c ∷ cs) ∷ parts_of cs) (sym none)
first_step false c cs rest parts le e =
    let more : length (c ∷ cs) - length rest ≡ suc (length cs - length rest) = omega arith in
    ap (onto_first c) e ∙ ap (λ n. take n (c ∷ cs) ∷ further rest) (sym more)

pub first_part : (t : List ℕ) → parts_of t ≡ take (length t - length (after_word t)) t ∷ further (after_word t)
unfolding after_word
first_part [] = refl
first_part (c ∷ cs) = first_step (is_white_space c) c cs (after_word cs) (parts_of cs) (after_word-le cs) (first_part cs)

-- ---- the same in bytes

abbrev AreInWord : List ℕ → Type 0
AreInWord [] = Unit {0}
AreInWord (b ∷ bs) = (is_white_space b ≡ false) × AreInWord bs

abbrev onto_bytes : List ℕ → List (List ℕ) → List (List ℕ)
onto_bytes [] parts = parts
onto_bytes (b ∷ bs) parts = onto_first b (onto_bytes bs parts)

high_in_word : (b : ℕ) → 128 ≤ b → is_white_space b ≡ false
high_in_word b h = grind (arith, nat_tests)

are_in_word : (bs : List ℕ) → AreHigh bs → AreInWord bs
are_in_word [] h = tt
are_in_word (b ∷ bs) h = (high_in_word b h.0, are_in_word bs h.1)

encode-in_word : (c : ℕ) → is_white_space c ≡ false → AreInWord (encode c)
encode-in_word c e = elim (low_or_high c) [ inl h ↦ rw (encode_ascii c h) ((e, tt)) | inr h ↦ are_in_word (encode c) (encode-high c h) ]

blank_low : (c : ℕ) → is_white_space c ≡ true → c < 128
blank_low c e = grind (arith, nat_tests)

parts-in_word : (bs rest : List ℕ) → AreInWord bs → parts_of (bs ++ rest) ≡ onto_bytes bs (parts_of rest)
parts-in_word [] rest h = refl
parts-in_word (b ∷ bs) rest h =
    ap (λ x. cond x ([] ∷ parts_of (bs ++ rest)) (onto_first b (parts_of (bs ++ rest)))) h.0 ∙ ap (onto_first b) (parts-in_word bs rest h.1)

onto_none : (bs : List ℕ) → 0 < length bs → onto_bytes bs [] ≡ bs ∷ []
onto_none [] h = absurd (omega arith)
onto_none (b ∷ []) h = refl
onto_none (b ∷ (c ∷ bs)) h = ap (onto_first b) (onto_none (c ∷ bs) (omega arith))

onto_some : (bs part : List ℕ) (parts : List (List ℕ)) → onto_bytes bs (part ∷ parts) ≡ (bs ++ part) ∷ parts
onto_some [] part parts = refl
onto_some (b ∷ bs) part parts = ap (onto_first b) (onto_some bs part parts)

encode-some : (c : ℕ) → 0 < length (encode c)
encode-some c = let bounds = len_utf8_bounds c in rw (length-encode c) (omega (arith, bounds.0))

append-none : (bs : List ℕ) → bs ++ [] ≡ bs
append-none [] = refl
append-none (b ∷ bs) = ap (λ x. b ∷ x) (append-none bs)

map_onto : (c : ℕ) (parts : List (List ℕ)) → map encode_utf8_all (onto_first c parts) ≡ onto_bytes (encode c) (map encode_utf8_all parts)
map_onto c [] = ap (λ x. x ∷ []) (append-none (encode c)) ∙ sym (onto_none (encode c) (encode-some c))
map_onto c (part ∷ parts) = sym (onto_some (encode c) (encode_utf8_all part) (map encode_utf8_all parts))

bytes_step : (b : Bool) (c : ℕ) (cs : List ℕ) → is_white_space c ≡ b → parts_of (encode_utf8_all cs) ≡ map encode_utf8_all (parts_of cs)
    → parts_of (encode c ++ encode_utf8_all cs) ≡ map encode_utf8_all (cond b ([] ∷ parts_of cs) (onto_first c (parts_of cs)))
bytes_step true c cs e h =
    ap (λ x. parts_of (x ++ encode_utf8_all cs)) (encode_ascii c (blank_low c e))
    ∙ (ap (λ x. cond x ([] ∷ parts_of (encode_utf8_all cs)) (onto_first c (parts_of (encode_utf8_all cs)))) e ∙ ap (λ x. [] ∷ x) h)
bytes_step false c cs e h =
    parts-in_word (encode c) (encode_utf8_all cs) (encode-in_word c e) ∙ (ap (onto_bytes (encode c)) h ∙ sym (map_onto c (parts_of cs)))

parts-encodes : (t : List ℕ) → parts_of (encode_utf8_all t) ≡ map encode_utf8_all (parts_of t)
parts-encodes [] = refl
parts-encodes (c ∷ cs) = bytes_step (is_white_space c) c cs refl (parts-encodes cs)

any-encodes : (name : List ℕ) (parts : List (List ℕ)) → list_any (λ w. bytes_eq w (encode_utf8_all name)) (map encode_utf8_all parts) ≡ list_any (λ w. bytes_eq w name) parts
any-encodes name [] = refl
any-encodes name (part ∷ parts) = ap₂ (λ x y. x || y) (sym (bytes_eq-encoded part name)) (any-encodes name parts)

-- a word of the bytes is a word of the scalars
pub has_word-encodes : (name t : List ℕ) → has_word (encode_utf8_all name) (encode_utf8_all t) ≡ has_word name t
has_word-encodes name t = ap (list_any (λ w. bytes_eq w (encode_utf8_all name))) (parts-encodes t) ∙ any-encodes name (parts_of t)

-- ---- the loop

-- the first part is the word
pub word_here : (word t first : List ℕ) → first ≡ take (length t - length (after_word t)) t → bytes_eq first word ≡ true → has_word word t ≡ true
word_here word t first e is =
    ap (list_any (λ w. bytes_eq w word)) (first_part t) ∙ ap (λ b. b || list_any (λ w. bytes_eq w word) (further (after_word t))) (ap (λ x. bytes_eq x word) (sym e) ∙ is)

-- it isn't, so the further ones decide
pub word_further : (word t first : List ℕ) → first ≡ take (length t - length (after_word t)) t → bytes_eq first word ≡ false
    → has_word word t ≡ list_any (λ w. bytes_eq w word) (further (after_word t))
word_further word t first e is =
    ap (list_any (λ w. bytes_eq w word)) (first_part t) ∙ ap (λ b. b || list_any (λ w. bytes_eq w word) (further (after_word t))) (ap (λ x. bytes_eq x word) (sym e) ∙ is)

-- nothing follows, so the word isn't there
pub word_end : (word t first rest : List ℕ) → first ≡ take (length t - length rest) t → bytes_eq first word ≡ false → rest ≡ after_word t → length rest < 1 → false ≡ has_word word t
word_end word t first [] e is behind short =
    sym (word_further word t first (e ∙ ap (λ r. take (length t - length r) t) behind) is ∙ ap (λ r. list_any (λ w. bytes_eq w word) (further r)) (sym behind))
word_end word t first (c ∷ rest) e is behind short = absurd (omega arith)

-- what follows decides
pub word_next : (word t first rest : List ℕ) → first ≡ take (length t - length rest) t → bytes_eq first word ≡ false → rest ≡ after_word t → 1 ≤ length rest
    → has_word word (take (length rest - 1) (drop 1 rest)) ≡ has_word word t
word_next word t first [] e is behind some = absurd (omega arith)
word_next word t first (c ∷ rest) e is behind some =
    ap (has_word word) (take_all (length (c ∷ rest) - 1) rest (omega arith))
    ∙ sym (word_further word t first (e ∙ ap (λ r. take (length t - length r) t) behind) is ∙ ap (λ r. list_any (λ w. bytes_eq w word) (further r)) (sym behind))

pub left_shorter : (t rest : List ℕ) → rest ≡ after_word t → 1 ≤ length rest → length (take (length rest - 1) (drop 1 rest)) < length t
left_shorter t [] behind some = absurd (omega arith)
left_shorter t (c ∷ rest) behind some =
    let all = ap length (take_all (length (c ∷ rest) - 1) rest (omega arith)) in
    let le = after_word-le t in
    let same = ap length behind in
    omega arith

pub left_within : (t rest : List ℕ) → rest ≡ after_word t → length rest ≤ length t
left_within t rest behind = let le = after_word-le t in let same = ap length behind in omega arith
