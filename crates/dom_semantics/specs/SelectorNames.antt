-- The scalars that selectors are made of.
use Rattle.std.specs.Prelude.{◌≡◌, ℕ, Bool, false, ◌||◌, ◌&&◌, ◌==◌, nat_le, List, [], ◌∷◌, map}
use Rattle.std.specs.Char.{to_ascii_lowercase}
use Rattle.std.specs.Str.{bytes_eq}

abbrev pub Scalars : Type 0
Scalars = List ℕ

-- a scalar of a name (CSS Syntax, name code point): an ASCII letter or digit, `-`, `_`, or a scalar from U+0080 on
abbrev pub is_name_scalar : ℕ → Bool
is_name_scalar c =
    (nat_le 97 c && nat_le c 122) || ((nat_le 65 c && nat_le c 90) || ((nat_le 48 c && nat_le c 57) || ((c == 45) || ((c == 95) || nat_le 128 c))))

-- the next scalar, if there is one, doesn't pass
abbrev pub NotNext : (ℕ → Bool) → Scalars → Type 0
NotNext q [] = Unit {0}
NotNext q (c ∷ cs) = q c ≡ false

-- in ASCII lower case
abbrev pub lowered : Scalars → Scalars
lowered text = map to_ascii_lowercase text

-- the same but for the case of ASCII letters
abbrev pub is_same_name : Scalars → Scalars → Bool
is_same_name a b = bytes_eq (lowered a) (lowered b)
