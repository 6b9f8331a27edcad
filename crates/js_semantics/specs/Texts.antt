-- The functions of texts (ECMAScript, 22.1.3), on lists of scalars.
use Rattle.std.specs.Prelude.{ℕ, zero, suc, ◌+◌, ◌-◌, min, max, Bool, true, false, ◌&&◌, List, [], ◌∷◌, ◌++◌, Option, Some, None, length, map, take, drop, reverse, slice_get, nat_le, nat_eq, pos, negsuc, ℤ, if◌then◌else◌}
use Rattle.js_semantics.specs.Primitives.{Undefined, StrPrim, NumberPrim, is_blank}
use Rattle.js_semantics.specs.Machine.{Value, Primitive, number, text, count}
use Rattle.js_semantics.specs.Faults.{wrong_kind, out_of_range}
use Rattle.js_semantics.specs.Evaluator.{Gives, Rest, With, Cont, Meaning, text_units, fails_by}
use Rattle.js_semantics.specs.Requests.{text_made, text_argument, number_argument}

-- `this` must be a text
abbrev pub this_text : Value → With (List ℕ) → Cont → Rest
this_text (Primitive (StrPrim t)) k c = k t
this_text value k c = fails_by wrong_kind c

-- a place: a number; one that is missing is another's
abbrev pub place_argument : Value → ℤ → With ℤ → Cont → Rest
place_argument (Primitive (NumberPrim z)) missing k c = k z
place_argument (Primitive Undefined) missing k c = k missing
place_argument value missing k c = fails_by wrong_kind c

abbrev pub text_answer : List ℕ → Meaning
text_answer t m f c = text_made t (λ t. c (Gives (text t))) c m f

-- the scalar at a place
abbrev pub scalar_at : List ℕ → ℤ → Option ℕ
scalar_at t (pos n) = slice_get t n
scalar_at t (negsuc n) = None

abbrev pub scalar_or_none : Option ℕ → List ℕ
scalar_or_none None = []
scalar_or_none (Some scalar) = scalar ∷ []

-- charAt(i): the text of one scalar, or the empty text (22.1.3.2)
abbrev pub char_at_row : Value → Value → Meaning
char_at_row this i m f c = this_text this (λ t. number_argument i (λ z m f. text_answer (scalar_or_none (scalar_at t z)) m f c) c) c m f

abbrev pub scalar_row : Option ℕ → Meaning
scalar_row None m f c = fails_by out_of_range c m f
scalar_row (Some scalar) m f c = c (Gives (count scalar)) m f

-- charCodeAt(i): the scalar's number (22.1.3.3)
abbrev pub char_code_at_row : Value → Value → Meaning
char_code_at_row this i m f c = this_text this (λ t. number_argument i (λ z m f. scalar_row (scalar_at t z) m f c) c) c m f

-- ---- parts

-- whether a text begins with another
abbrev pub begins : List ℕ → List ℕ → Bool
begins [] t = true
begins (c ∷ cs) [] = false
begins (c ∷ cs) (d ∷ ds) = nat_eq c d && begins cs ds

-- the first place of a text in another, from a place on
abbrev pub first_place : List ℕ → ℕ → ℕ → List ℕ → Option ℕ
first_place s from at [] = if nat_le from at && begins s [] then Some at else None
first_place s from at (c ∷ cs) = if nat_le from at && begins s (c ∷ cs) then Some at else first_place s from (suc at) cs

-- a place is from 0 on and not past the end
abbrev pub clamped : ℤ → ℕ → ℕ
clamped (pos n) len = min n len
clamped (negsuc n) len = 0

-- a negative place counts from the end
abbrev pub from_end : ℤ → ℕ → ℕ
from_end (pos n) len = min n len
from_end (negsuc n) len = len - suc n

abbrev pub place_or_none : Option ℕ → Value
place_or_none None = number (negsuc 0)
place_or_none (Some place) = count place

-- indexOf(t, from): the first place at or after `from`, or -1 (22.1.3.9)
abbrev pub index_of_row : Value → Value → Value → Meaning
index_of_row this s from m f c = this_text this (λ t. text_argument s (λ s. place_argument from (pos 0) (λ z.
    c (Gives (place_or_none (first_place s (clamped z (suc (length t))) 0 t)))) c) c) c m f

abbrev pub part : List ℕ → ℕ → ℕ → List ℕ
part t from to = take (to - from) (drop from t)

-- slice(a, b) (22.1.3.22)
abbrev pub slice_row : Value → Value → Value → Meaning
slice_row this a b m f c = this_text this (λ t. place_argument a (pos 0) (λ x. place_argument b (pos (length t)) (λ y m f.
    text_answer (part t (from_end x (length t)) (from_end y (length t))) m f c) c) c) c m f

abbrev pub ordered_part : List ℕ → ℕ → ℕ → List ℕ
ordered_part t x y = part t (min x y) (max x y)

-- substring(a, b) orders its two (22.1.3.24)
abbrev pub substring_row : Value → Value → Value → Meaning
substring_row this a b m f c = this_text this (λ t. place_argument a (pos 0) (λ x. place_argument b (pos (length t)) (λ y m f.
    text_answer (ordered_part t (clamped x (length t)) (clamped y (length t))) m f c) c) c) c m f

-- replace(s, t): the first s is replaced (22.1.3.19)
abbrev pub replaced : List ℕ → List ℕ → List ℕ → Option ℕ → List ℕ
replaced t s by None = t
replaced t s by (Some place) = take place t ++ (by ++ drop (place + length s) t)

abbrev pub replace_row : Value → Value → Value → Meaning
replace_row this s by m f c = this_text this (λ t. text_argument s (λ s. text_argument by (λ by m f.
    text_answer (replaced t s by (first_place s 0 0 t)) m f c) c) c) c m f

-- ---- split(s)

abbrev pub after_part : List ℕ → List ℕ → Option ℕ → (List ℕ → List (List ℕ)) → List (List ℕ)
after_part s t None rest = t ∷ []
after_part s t (Some place) rest = take place t ∷ rest (drop (place + length s) t)

-- the parts between the places of a text, of which there are so many at most
abbrev pub parts_between : ℕ → List ℕ → List ℕ → List (List ℕ)
parts_between zero s t = t ∷ []
parts_between (suc n) s t = after_part s t (first_place s 0 0 t) (λ rest. parts_between n s rest)

abbrev pub singles : List ℕ → List (List ℕ)
singles [] = []
singles (c ∷ cs) = (c ∷ []) ∷ singles cs

-- all parts of a text; between empty texts stand its scalars (22.1.3.23)
abbrev pub parts_of : List ℕ → List ℕ → List (List ℕ)
parts_of [] t = singles t
parts_of (c ∷ cs) t = parts_between (length t) (c ∷ cs) t

-- the units of the texts of all parts
abbrev pub parts_units : List (List ℕ) → ℕ
parts_units [] = 0
parts_units (t ∷ ts) = text_units t + parts_units ts

-- ---- trim() and the cases of letters

abbrev pub trimmed_front : List ℕ → List ℕ
trimmed_front [] = []
trimmed_front (c ∷ cs) = if is_blank c then trimmed_front cs else c ∷ cs

-- trim(): without white space and line ends at both ends (22.1.3.32)
abbrev pub trim_row : Value → Meaning
trim_row this m f c = this_text this (λ t m f. text_answer (reverse (trimmed_front (reverse (trimmed_front t)))) m f c) c m f

abbrev pub lower : ℕ → ℕ
lower c = if nat_le 65 c && nat_le c 90 then c + 32 else c

abbrev pub upper : ℕ → ℕ
upper c = if nat_le 97 c && nat_le c 122 then c - 32 else c

-- toLowerCase(), toUpperCase(): of ASCII letters alone (22.1.3.28, 22.1.3.30)
abbrev pub case_row : (ℕ → ℕ) → Value → Meaning
case_row g this m f c = this_text this (λ t m f. text_answer (map g t) m f c) c m f

-- toString(): the text itself (22.1.3.29)
abbrev pub itself_row : Value → Meaning
itself_row this m f c = this_text this (λ t. c (Gives (text t))) c m f
