-- What stands at a front determines the part of a sum, and what follows it.
use Rattle.std.proofs.Common.{◌≡◌, ◌∙◌, ap, sym, refl, ℕ, ◌<◌, ◌≤◌, List, [], ◌∷◌, ◌++◌, IsTrue, length, get_or, arith, append_assoc, codes}
use Rattle.std.proofs.lemmas.List.{append_cancel_left}
use Rattle.std.proofs.lemmas.Fmt.{decimal_injective, decimal_nonempty}
use Rattle.std.specs.Fmt.{decimal}
use Rattle.small_forms.specs.declared.bytes.Class.TheVariants.{Digit, AlphanumericOrBlank}
use Rattle.small_forms.specs.declared.script.Part.{Part}
use Rattle.small_forms.specs.declared.script.Part.TheVariants.{Title, Number, Quoted}
use Rattle.small_forms.specs.Bytes.{are_in, is_in, stops}
use Rattle.small_forms.specs.Readers.{is_followed}
use Rattle.small_forms.specs.Scripts.{IsPart, part_text}
use Rattle.small_forms.proofs.Runs.{both_true}
use Rattle.small_forms.proofs.Numerals.{decimal_is, digit_between}
use Rattle.small_forms.proofs.Forms.{same_front}

pub digits_of : (n : ℕ) → n ≤ 999 → IsTrue (are_in Digit (decimal n))
digits_of n h = (decimal_is (decimal n) n (omega arith) refl).digits

-- the digits at the front are those of the number
pub number_front : (bytes digits end : List ℕ) (n : ℕ) (rest : List ℕ) → bytes ≡ digits ++ end → IsTrue (are_in Digit digits) → IsTrue (stops Digit end) → n ≤ 999 → IsTrue (stops Digit rest) → bytes ≡ decimal n ++ rest
    → (digits ≡ decimal n) × (end ≡ rest)
number_front bytes digits end n rest w d s h t e = same_front Digit digits (decimal n) end rest (sym w ∙ e) d (digits_of n h) s t

pub quoted_seam : (text rest : List ℕ) → part_text (Quoted text) ++ rest ≡ 34 ∷ (text ++ (34 ∷ rest))
quoted_seam text rest = ap (λ xs. 34 ∷ xs) (append_assoc text (34 ∷ []) rest)

pub quoted_is : (bytes quoted inside end rest : List ℕ) → bytes ≡ codes "\"" ++ quoted → quoted ≡ inside ++ end → end ≡ codes "\"" ++ rest → bytes ≡ part_text (Quoted inside) ++ rest
quoted_is bytes quoted inside end rest f w e = f ∙ ap (λ xs. 34 ∷ xs) (w ∙ ap (λ xs. inside ++ xs) e) ∙ sym (quoted_seam inside rest)

-- what follows the quoted text at the front
pub quoted_front : (bytes quoted inside end text rest : List ℕ) → bytes ≡ codes "\"" ++ quoted → quoted ≡ inside ++ end → IsTrue (are_in AlphanumericOrBlank inside) → IsTrue (stops AlphanumericOrBlank end) → IsTrue (are_in AlphanumericOrBlank text)
    → bytes ≡ part_text (Quoted text) ++ rest → end ≡ codes "\"" ++ rest
quoted_front bytes quoted inside end text rest f w d s t e =
    let within : quoted ≡ text ++ (34 ∷ rest) = append_cancel_left (codes "\"") quoted (text ++ (34 ∷ rest)) (sym f ∙ e ∙ quoted_seam text rest) in
    (same_front AlphanumericOrBlank inside text end (34 ∷ rest) (sym w ∙ within) d t s refl).1

-- of none of the three forms
pub no_part : (bytes : List ℕ) (part : Part) (rest : List ℕ) → ((r : List ℕ) → bytes ≡ codes "document.title" ++ r → ⊥) → ((n : ℕ) (r : List ℕ) → n ≤ 999 → IsTrue (stops Digit r) → bytes ≡ decimal n ++ r → ⊥)
    → ((t r : List ℕ) → IsTrue (are_in AlphanumericOrBlank t) → bytes ≡ part_text (Quoted t) ++ r → ⊥) → IsPart part → IsTrue (is_followed part rest) → bytes ≡ part_text part ++ rest → ⊥
no_part bytes Title rest no_title no_number no_quoted is ends h = no_title rest h
no_part bytes (Number n) rest no_title no_number no_quoted is ends h = no_number n rest is ends h
no_part bytes (Quoted t) rest no_title no_number no_quoted is ends h = no_quoted t rest is h

-- two numbers
same_number : (m n : ℕ) (x y : List ℕ) → m ≤ 999 → n ≤ 999 → IsTrue (stops Digit x) → IsTrue (stops Digit y) → decimal m ++ x ≡ decimal n ++ y → (m ≡ n) × (x ≡ y)
same_number m n x y p q s t e =
    let parts = same_front Digit (decimal m) (decimal n) x y e (digits_of m p) (digits_of n q) s t in
    (decimal_injective m n (omega arith) (omega arith) parts.0, parts.1)

-- two quoted texts
same_quoted : (t u x y : List ℕ) → IsTrue (are_in AlphanumericOrBlank t) → IsTrue (are_in AlphanumericOrBlank u) → part_text (Quoted t) ++ x ≡ part_text (Quoted u) ++ y → (t ≡ u) × (x ≡ y)
same_quoted t u x y p q e =
    let inside : 34 ∷ (t ++ (34 ∷ x)) ≡ 34 ∷ (u ++ (34 ∷ y)) = sym (quoted_seam t x) ∙ e ∙ quoted_seam u y in
    let texts : t ++ (34 ∷ x) ≡ u ++ (34 ∷ y) = append_cancel_left (34 ∷ []) (t ++ (34 ∷ x)) (u ++ (34 ∷ y)) inside in
    let parts = same_front AlphanumericOrBlank t u (34 ∷ x) (34 ∷ y) texts p q refl refl in
    (parts.0, append_cancel_left (34 ∷ []) x y parts.1)

-- a number begins with a digit
number_head : (n : ℕ) (x : List ℕ) → n ≤ 999 → (48 ≤ get_or (decimal n ++ x) 0 0) × (get_or (decimal n ++ x) 0 0 ≤ 57)
number_head n x h = head (decimal n) (decimal_nonempty n (omega arith)) (digits_of n h)
  where
    head : (ds : List ℕ) → 0 < length ds → IsTrue (are_in Digit ds) → (48 ≤ get_or (ds ++ x) 0 0) × (get_or (ds ++ x) 0 0 ≤ 57)
    head [] some digits = absurd (omega (arith, some))
    head (d ∷ ds) some digits = digit_between d (both_true (is_in Digit d) (are_in Digit ds) digits).0

pub heads : (xs ys : List ℕ) → xs ≡ ys → get_or xs 0 0 ≡ get_or ys 0 0
heads xs ys e = ap (λ l. get_or l 0 0) e

-- two parts at one front are one
pub same_part : (a b : Part) (x y : List ℕ) → IsPart a → IsPart b → IsTrue (is_followed a x) → IsTrue (is_followed b y) → part_text a ++ x ≡ part_text b ++ y → (a ≡ b) × (x ≡ y)
same_part Title Title x y p q s t e = (refl, append_cancel_left (part_text Title) x y e)
same_part Title (Number n) x y p q s t e = let same = heads (part_text Title ++ x) (decimal n ++ y) e in absurd (omega (arith, same, (number_head n y q).1))
same_part Title (Quoted u) x y p q s t e = let same : 100 ≡ 34 = heads (part_text Title ++ x) (part_text (Quoted u) ++ y) e in absurd (omega (arith, same))
same_part (Number m) Title x y p q s t e = let same = heads (decimal m ++ x) (part_text Title ++ y) e in absurd (omega (arith, same, (number_head m x p).1))
same_part (Number m) (Number n) x y p q s t e = let parts = same_number m n x y p q s t e in (ap Number parts.0, parts.1)
same_part (Number m) (Quoted u) x y p q s t e = let same = heads (decimal m ++ x) (part_text (Quoted u) ++ y) e in absurd (omega (arith, same, (number_head m x p).0))
same_part (Quoted v) Title x y p q s t e = let same : 34 ≡ 100 = heads (part_text (Quoted v) ++ x) (part_text Title ++ y) e in absurd (omega (arith, same))
same_part (Quoted v) (Number n) x y p q s t e = let same = heads (part_text (Quoted v) ++ x) (decimal n ++ y) e in absurd (omega (arith, same, (number_head n y q).0))
same_part (Quoted v) (Quoted u) x y p q s t e = let parts = same_quoted v u x y p q e in (ap Quoted parts.0, parts.1)
