-- How long a text may be, and how far from 0 a number (this project's own; ECMAScript, 21.1.2.6 Number.MAX_SAFE_INTEGER).
use Rattle.std.specs.Prelude.{ℕ, Bool, false, List, nat_le, nat_lt, ℤ, pos, negsuc}
use Rattle.base_text.specs.Scalars.{utf8_len}
use Rattle.base_text.specs.declared.text.TheConstants.{TEXT_LIMIT}
use Rattle.base_text.specs.declared.number.TheConstants.{MAX_SAFE_INTEGER}

-- no longer than a text may be, in bytes of UTF-8
abbrev pub is_short : List ℕ → Bool
is_short t = nat_le (utf8_len t) TEXT_LIMIT

-- no further from 0 than this
abbrev pub is_within : ℤ → ℤ → Bool
is_within (pos most) (pos n) = nat_le n most
is_within (pos most) (negsuc n) = nat_lt n most
is_within limit n = false

-- no further from 0 than a number may be
abbrev pub is_safe : ℤ → Bool
is_safe n = is_within MAX_SAFE_INTEGER n
