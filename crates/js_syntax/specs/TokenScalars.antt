-- The scalars that tokens are made of (ECMAScript, 12 Lexical Grammar).
use Rattle.std.specs.Prelude.{◌≡◌, ℕ, ◌+◌, ◌-◌, ◌*◌, Bool, true, false, not, ◌||◌, ◌&&◌, ◌==◌, nat_le, List, [], ◌∷◌}
use Rattle.std.specs.Char.{is_digit}
use Rattle.unicode_ident.specs.Ident.{is_xid_start, is_xid_continue}

abbrev pub Scalars : Type 0
Scalars = List ℕ

-- each of them is such
abbrev pub AreAll : (ℕ → Bool) → Scalars → Type 0
AreAll q [] = Unit {0}
AreAll q (c ∷ cs) = (q c ≡ true) × AreAll q cs

-- the next scalar, if there is one, isn't such
abbrev pub NotNext : (ℕ → Bool) → Scalars → Type 0
NotNext q [] = Unit {0}
NotNext q (c ∷ cs) = q c ≡ false

-- 12.2 White Space, but for the scalars of Unicode's class Zs other than these two
abbrev pub is_white_space : ℕ → Bool
is_white_space c = (c == 0x9) || ((c == 0xB) || ((c == 0xC) || ((c == 0x20) || ((c == 0xA0) || (c == 0xFEFF)))))

-- 12.3 Line Terminators
abbrev pub is_line_end : ℕ → Bool
is_line_end c = (c == 0xA) || ((c == 0xD) || ((c == 0x2028) || (c == 0x2029)))

abbrev pub is_in_line : ℕ → Bool
is_in_line c = not (is_line_end c)

abbrev pub is_line_feed : ℕ → Bool
is_line_feed c = c == 0xA

-- 12.7 Names and Keywords, without escapes: `$`, `_` and Unicode's XID_Start, then `$` and XID_Continue, which has `_`
abbrev pub is_name_start : ℕ → Bool
is_name_start c = (c == 36) || ((c == 95) || is_xid_start c)

abbrev pub is_name_part : ℕ → Bool
is_name_part c = (c == 36) || is_xid_continue c

abbrev pub is_decimal : ℕ → Bool
is_decimal c = is_digit c 10

abbrev pub is_hexadecimal : ℕ → Bool
is_hexadecimal c = is_digit c 16

-- what may not stand directly behind a number (12.9.3 Numeric Literals): a digit, `.`, and what begins a name
abbrev pub runs_on : ℕ → Bool
runs_on c = is_decimal c || ((c == 46) || is_name_start c)

-- `"` and `'`
abbrev pub is_quote : ℕ → Bool
is_quote c = (c == 34) || (c == 39)

-- the halves of a surrogate pair (6.1.4 The String Type)
abbrev pub is_high_surrogate : ℕ → Bool
is_high_surrogate n = nat_le 0xD800 n && nat_le n 0xDBFF

abbrev pub is_low_surrogate : ℕ → Bool
is_low_surrogate n = nat_le 0xDC00 n && nat_le n 0xDFFF

abbrev pub is_surrogate : ℕ → Bool
is_surrogate n = is_high_surrogate n || is_low_surrogate n

-- the scalar of a pair (11.1.3 UTF16SurrogatePairToCodePoint)
abbrev pub paired : ℕ → ℕ → ℕ
paired high low = (high - 0xD800) * 0x400 + (low - 0xDC00) + 0x10000
