-- The number that a text spells (ECMAScript 7.1.4.1 StringToNumber). This project's own: it is white space, `-` or
-- nothing, one or more decimal digits, and white space; any other text is no number.
use Rattle.std.specs.Prelude.{ℕ, ◌+◌, ◌-◌, ◌*◌, ◌==◌, Bool, true, false, ◌||◌, if◌then◌else◌, List, [], ◌∷◌, Option, Some, None, ℤ, pos, neg_ℤ}
use Rattle.std.specs.Char.{is_ascii_digit}
use Rattle.std.specs.List.{list_all}

-- 12.2 White Space, but for the scalars of Unicode's class Zs other than these two, and 12.3 Line Terminators
abbrev pub is_blank : ℕ → Bool
is_blank c =
    (c == 0x9) || ((c == 0xA) || ((c == 0xB) || ((c == 0xC) || ((c == 0xD)
    || ((c == 0x20) || ((c == 0xA0) || ((c == 0x2028) || ((c == 0x2029) || (c == 0xFEFF)))))))))

-- the scalars at the front that pass the test, up to the first that doesn't
abbrev pub front_while : (ℕ → Bool) → List ℕ → List ℕ
front_while p [] = []
front_while p (c ∷ cs) = if p c then c ∷ front_while p cs else []

-- what follows them
abbrev pub after_while : (ℕ → Bool) → List ℕ → List ℕ
after_while p [] = []
after_while p (c ∷ cs) = if p c then after_while p cs else c ∷ cs

-- the number that the digits spell when they follow those of n
abbrev pub value_after : ℕ → List ℕ → ℕ
value_after n [] = n
value_after n (d ∷ ds) = value_after (10 * n + (d - 48)) ds

-- the number of so many, with `-` before it or not
abbrev pub signed : Bool → ℕ → ℤ
signed minus n = if minus then neg_ℤ (pos n) else pos n

-- the number of the digits, of which there is one or more, where only white space comes after them
abbrev pub digits_between : Bool → List ℕ → List ℕ → Option ℤ
digits_between minus [] after = None
digits_between minus (d ∷ ds) after =
    if list_all is_blank after then Some (signed minus (value_after 0 (d ∷ ds))) else None

-- decimal digits (12.9.3) and white space
abbrev pub digits_spelled : Bool → List ℕ → Option ℤ
digits_spelled minus t = digits_between minus (front_while is_ascii_digit t) (after_while is_ascii_digit t)

-- `-` or nothing, and what comes after it
abbrev pub signed_spelled : List ℕ → Option ℤ
signed_spelled [] = None
signed_spelled (c ∷ cs) = if c == 45 then digits_spelled true cs else digits_spelled false (c ∷ cs)

-- the number that a text spells
abbrev pub number_spelled : List ℕ → Option ℤ
number_spelled t = signed_spelled (after_while is_blank t)
