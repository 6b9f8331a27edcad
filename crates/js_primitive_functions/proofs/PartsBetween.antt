-- The parts of a text between the places of another.
use Rattle.std.specs.Prelude.{◌≡◌, ℕ, zero, suc, ◌+◌, ◌<◌, ◌≤◌, List, [], ◌∷◌, ◌++◌, length, take, drop, Option, Some, None, refl}
use Rattle.std.proofs.Common.{sym, ap, ◌∙◌, arith, append_assoc}
use Rattle.std.proofs.Math.Seq.{drop-append-add, drop-append_seam, take-append_seam}
use Rattle.std.proofs.lemmas.List.{length-append, length-drop}
use Rattle.std.proofs.lemmas.Str.{chars-append, encodes-chars}
use Rattle.std.specs.Str.{chars, IsUtf8}
use Rattle.base_text.specs.Scalars.{utf8_len}
use Rattle.base_text.proofs.Utf8.{utf8_len-append}
use Rattle.js_semantics.specs.Texts.{after_part, first_place, parts_between, parts_of, replaced, singles}
use Rattle.js_primitive_functions.specs.Splits.{SplitsAtFirst}

-- a text that isn't empty leaves less where it stands
less : (c : ℕ) (cs t : List ℕ) (p n : ℕ) → length t ≤ suc n → length (drop (p + length (c ∷ cs)) t) ≤ n
less c cs t p n most = omega (arith, length-drop (p + length (c ∷ cs)) t)

none_in : (c : ℕ) (cs : List ℕ) → first_place (c ∷ cs) 0 0 [] ≡ None
none_in c cs = refl

-- the first part is the same whatever comes after it
same_after : (s t : List ℕ) (f g : List ℕ → List (List ℕ)) (r : Option ℕ) → ((p : ℕ) → f (drop (p + length s) t) ≡ g (drop (p + length s) t)) → after_part s t r f ≡ after_part s t r g
same_after s t f g None same = refl
same_after s t f g (Some p) same = ap (λ (xs : List (List ℕ)). take p t ∷ xs) (same p)

-- how many parts there are at most makes no difference, where it's enough
enough : (c : ℕ) (cs t : List ℕ) (n m : ℕ) → length t ≤ n → length t ≤ m → parts_between n (c ∷ cs) t ≡ parts_between m (c ∷ cs) t
enough c cs t zero zero a b = refl
enough c cs [] zero (suc m) a b = refl
enough c cs (d ∷ ds) zero (suc m) a b = absurd (omega arith)
enough c cs [] (suc n) zero a b = refl
enough c cs (d ∷ ds) (suc n) zero a b = absurd (omega arith)
enough c cs t (suc n) (suc m) a b =
    same_after (c ∷ cs) t (λ rest. parts_between n (c ∷ cs) rest) (λ rest. parts_between m (c ∷ cs) rest) (first_place (c ∷ cs) 0 0 t)
    (λ p. enough c cs (drop (p + length (c ∷ cs)) t) n m (less c cs t p n a) (less c cs t p m b))

front_of : (before s after : List ℕ) → take (length before) (before ++ (s ++ after)) ≡ before
front_of before s after = take-append_seam before (s ++ after)

back_of : (before s after : List ℕ) → drop (length before + length s) (before ++ (s ++ after)) ≡ after
back_of before s after = drop-append-add before (s ++ after) (length s) ∙ drop-append_seam s after

-- with so many parts at most, of which there is one
split_step : (n c : ℕ) (cs t before after : List ℕ) → SplitsAtFirst t (c ∷ cs) before after → parts_between (suc n) (c ∷ cs) t ≡ before ∷ parts_between n (c ∷ cs) after
split_step n c cs t before after split =
    let s = c ∷ cs in
    ap (λ (r : Option ℕ). after_part s t r (λ rest. parts_between n s rest)) split.first
    ∙ (ap (λ (xs : List ℕ). take (length before) xs ∷ parts_between n s (drop (length before + length s) xs)) split.parts
    ∙ (ap (λ (xs : List ℕ). xs ∷ parts_between n s (drop (length before + length s) (before ++ (s ++ after)))) (front_of before s after)
    ∙ ap (λ (xs : List ℕ). before ∷ parts_between n s xs) (back_of before s after)))

-- the parts are what stands before the first place, and the parts of what follows
pub first_part : (s t before after : List ℕ) → 0 < length s → SplitsAtFirst t s before after → parts_of s t ≡ before ∷ parts_of s after
first_part [] t before after some split = absurd (omega arith)
first_part (c ∷ cs) t before after some split = counted (length t) refl
  where
    long : length t ≡ length before + (length (c ∷ cs) + length after)
    long = ap length split.parts ∙ (length-append before ((c ∷ cs) ++ after) ∙ ap (λ (n : ℕ). length before + n) (length-append (c ∷ cs) after))

    counted : (n : ℕ) → length t ≡ n → parts_between n (c ∷ cs) t ≡ before ∷ parts_between (length after) (c ∷ cs) after
    counted zero e = absurd (omega (arith, long, e))
    counted (suc n) e =
        split_step n c cs t before after split
        ∙ ap (λ (xs : List (List ℕ)). before ∷ xs) (enough c cs after n (length after) (omega (arith, long, e)) (omega arith))

-- there is one part where the text stands at no place
pub only_part : (s t : List ℕ) → 0 < length s → first_place s 0 0 t ≡ None → parts_of s t ≡ t ∷ []
only_part [] t some none = absurd (omega arith)
only_part (c ∷ cs) t some none = counted (length t)
  where
    counted : (n : ℕ) → parts_between n (c ∷ cs) t ≡ t ∷ []
    counted zero = refl
    counted (suc n) = ap (λ (r : Option ℕ). after_part (c ∷ cs) t r (λ rest. parts_between n (c ∷ cs) rest)) none

-- the parts that are told, and those of what is left, are those of all
pub one_more : (told all left : List (List ℕ)) (part : List ℕ) (rest : List (List ℕ)) → told ++ left ≡ all → left ≡ part ∷ rest → (told ++ part ∷ []) ++ rest ≡ all
one_more told all left part rest e first = append_assoc told (part ∷ []) rest ∙ (sym (ap (λ (xs : List (List ℕ)). told ++ xs) first) ∙ e)

-- and the one part of what is left is the last
pub last_part : (told all left : List (List ℕ)) (part : List ℕ) → left ≡ part ∷ [] → told ++ left ≡ all → told ++ part ∷ [] ≡ all
last_part told all left part only e = sym (ap (λ (xs : List (List ℕ)). told ++ xs) only) ∙ e

-- where nothing separates, the parts are the scalars
pub parts_of_none : (s t : List ℕ) → length s ≡ 0 → parts_of s t ≡ singles t
parts_of_none [] t none = refl
parts_of_none (c ∷ cs) t none = absurd (omega (arith, none))

-- the scalars that are told, and those of what is left, are those of all
pub one_single : (told all : List (List ℕ)) (t cs : List ℕ) (c : ℕ) → told ++ singles t ≡ all → t ≡ c ∷ cs → (told ++ (c ∷ []) ∷ []) ++ singles cs ≡ all
one_single told all t cs c e first = one_more told all (singles t) (c ∷ []) (singles cs) e (ap singles first)

-- ---- replace

-- the text with another in its first place
pub replaced_there : (t s by before after : List ℕ) → SplitsAtFirst t s before after → replaced t s by (first_place s 0 0 t) ≡ before ++ (by ++ after)
replaced_there t s by before after split =
    ap (replaced t s by) split.first
    ∙ (ap (λ (xs : List ℕ). take (length before) xs ++ (by ++ drop (length before + length s) xs)) split.parts
    ∙ (ap (λ (xs : List ℕ). xs ++ (by ++ drop (length before + length s) (before ++ (s ++ after)))) (front_of before s after)
    ∙ ap (λ (xs : List ℕ). before ++ (by ++ xs)) (back_of before s after)))

pub replaced_nowhere : (t s by : List ℕ) → first_place s 0 0 t ≡ None → replaced t s by (first_place s 0 0 t) ≡ t
replaced_nowhere t s by none = ap (replaced t s by) none

-- the same of other names for the three texts
pub replaced_whole : (t s by ts ss bys before after : List ℕ) → ts ≡ t → ss ≡ s → bys ≡ by → SplitsAtFirst ts ss before after → replaced t s by (first_place s 0 0 t) ≡ before ++ (bys ++ after)
replaced_whole t s by ts ss bys before after et es eb split =
    ap (λ (xs : List ℕ). replaced xs s by (first_place s 0 0 xs)) (sym et)
    ∙ (ap (λ (xs : List ℕ). replaced ts xs by (first_place xs 0 0 ts)) (sym es)
    ∙ (ap (λ (xs : List ℕ). replaced ts ss xs (first_place ss 0 0 ts)) (sym eb)
    ∙ replaced_there ts ss bys before after split))

pub replaced_none : (t s by ts ss : List ℕ) → ts ≡ t → ss ≡ s → first_place ss 0 0 ts ≡ None → replaced t s by (first_place s 0 0 t) ≡ t
replaced_none t s by ts ss et es none =
    replaced_nowhere t s by
    (ap (λ (xs : List ℕ). first_place s 0 0 xs) (sym et) ∙ (ap (λ (xs : List ℕ). first_place xs 0 0 ts) (sym es) ∙ none))

-- three texts, one after the other, by their bytes
pub three_texts : (a b c whole : List ℕ) → IsUtf8 a → IsUtf8 b → whole ≡ a ++ (b ++ c) → chars whole ≡ chars a ++ (chars b ++ chars c)
three_texts a b c whole ua ub e =
    ap chars e ∙ (chars-append a (b ++ c) ua ∙ ap (λ (xs : List ℕ). chars a ++ xs) (chars-append b c ub))

-- the bytes of three texts, one after the other
pub three_lengths : (a b c : List ℕ) → IsUtf8 a → IsUtf8 b → IsUtf8 c → utf8_len (chars a ++ (chars b ++ chars c)) ≡ length a + (length b + length c)
three_lengths a b c ua ub uc =
    let first = utf8_len-append (chars a) (chars b ++ chars c) in
    let second = utf8_len-append (chars b) (chars c) in
    omega (arith, first, second, ap length (encodes-chars a ua), ap length (encodes-chars b ub), ap length (encodes-chars c uc))
