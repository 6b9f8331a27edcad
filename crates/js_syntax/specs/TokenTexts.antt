-- What stands between the quotes of a text, and which value it spells (ECMAScript, 12.9.4 String Literals).
use Rattle.std.specs.Prelude.{◌≡◌, ◌≤◌, ℕ, Bool, true, false, not, ◌||◌, ◌&&◌, cond, ◌==◌, [], ◌∷◌, ◌++◌, Option, Some, None, length}
use Rattle.std.specs.Str.Parse.{digits_value}
use Rattle.js_syntax.specs.TokenScalars.{Scalars, AreAll, NotNext, is_line_end, is_line_feed, is_decimal}
use Rattle.js_syntax.specs.TokenScalars.{is_hexadecimal, is_high_surrogate, is_low_surrogate, is_surrogate, paired}

-- neither the quote that ends the text, nor a backslash, LF or CR
abbrev pub is_plain : ℕ → ℕ → Bool
is_plain quote c = not ((c == quote) || ((c == 92) || ((c == 0xA) || (c == 0xD))))

-- These scalars, with what follows them, go on with a text: where the quote, a LF or a CR stands among them,
-- a backslash takes it up. A backslash takes up the scalar after it, and CR LF as one.
pub data Within (quote : ℕ) : Scalars → Scalars → Type 0 where
  nothing : (rest : Scalars) → Within quote [] rest
  plain : (c : ℕ) (cs rest : Scalars) → is_plain quote c ≡ true → Within quote cs rest → Within quote (c ∷ cs) rest
  taken_up : (c : ℕ) (cs rest : Scalars) → (c == 0xD) ≡ false → Within quote cs rest → Within quote (92 ∷ (c ∷ cs)) rest
  return_taken_up : (cs rest : Scalars) → NotNext is_line_feed (cs ++ rest) → Within quote cs rest → Within quote (92 ∷ (0xD ∷ cs)) rest
  both_taken_up : (cs rest : Scalars) → Within quote cs rest → Within quote (92 ∷ (0xD ∷ (0xA ∷ cs))) rest

-- No quote ends a text that goes on so: a LF or a CR comes first, or the end, maybe behind a last backslash.
pub data IsCut : Scalars → Type 0 where
  by_end : IsCut []
  by_backslash : IsCut (92 ∷ [])
  by_line_feed : (rest : Scalars) → IsCut (0xA ∷ rest)
  by_return : (rest : Scalars) → IsCut (0xD ∷ rest)

-- `n`, `t`, `r`, `b`, `f` and `v`
abbrev pub control : ℕ → Option ℕ
control c = cond (c == 110) (Some 0xA) (cond (c == 116) (Some 0x9) (cond (c == 114) (Some 0xD)
    (cond (c == 98) (Some 0x8) (cond (c == 102) (Some 0xC) (cond (c == 118) (Some 0xB) None)))))

abbrev pub is_none : Option ℕ → Bool
is_none None = true
is_none (Some c) = false

-- no digit, `x`, `u`, line end or control
abbrev pub is_own_escape : ℕ → Bool
is_own_escape c = not (is_decimal c || ((c == 120) || ((c == 117) || is_line_end c))) && is_none (control c)

-- `uHHHH`, or `u{H}` with one to six digits, and the number, up to 10FFFF
pub data IsUnicode : Scalars → ℕ → Type 0 where
  four : (a b c d : ℕ) → AreAll is_hexadecimal (a ∷ (b ∷ (c ∷ (d ∷ []))))
      → IsUnicode (117 ∷ (a ∷ (b ∷ (c ∷ (d ∷ []))))) (digits_value 16 (a ∷ (b ∷ (c ∷ (d ∷ [])))))
  braced : (ds : Scalars) → AreAll is_hexadecimal ds → 1 ≤ length ds → length ds ≤ 6 → digits_value 16 ds ≤ 0x10FFFF
      → IsUnicode (117 ∷ (123 ∷ (ds ++ 125 ∷ []))) (digits_value 16 ds)

-- an escape, what follows it within the text, and what it gives
pub data Escape : Scalars → Scalars → Scalars → Type 0 where
  control_escape : (c v : ℕ) (rest : Scalars) → control c ≡ Some v → Escape (92 ∷ (c ∷ [])) rest (v ∷ [])
  null : (rest : Scalars) → NotNext is_decimal rest → Escape (92 ∷ (48 ∷ [])) rest (0 ∷ [])
  byte : (a b : ℕ) (rest : Scalars) → AreAll is_hexadecimal (a ∷ (b ∷ [])) → Escape (92 ∷ (120 ∷ (a ∷ (b ∷ [])))) rest (digits_value 16 (a ∷ (b ∷ [])) ∷ [])
  unicode : (u : Scalars) (n : ℕ) (rest : Scalars) → IsUnicode u n → is_surrogate n ≡ false → Escape (92 ∷ u) rest (n ∷ [])
  pair : (u v : Scalars) (high low : ℕ) (rest : Scalars) → IsUnicode u high → is_high_surrogate high ≡ true → IsUnicode v low → is_low_surrogate low ≡ true
      → Escape (92 ∷ (u ++ 92 ∷ v)) rest (paired high low ∷ [])
  line_end : (c : ℕ) (rest : Scalars) → is_line_end c ≡ true → (c == 0xD) ≡ false → Escape (92 ∷ (c ∷ [])) rest []
  return : (rest : Scalars) → NotNext is_line_feed rest → Escape (92 ∷ (0xD ∷ [])) rest []
  return_and_line_feed : (rest : Scalars) → Escape (92 ∷ (0xD ∷ (0xA ∷ []))) rest []
  own : (c : ℕ) (rest : Scalars) → is_own_escape c ≡ true → Escape (92 ∷ (c ∷ [])) rest (c ∷ [])

-- scalars of a text, what follows them within it, and the value that they spell
pub data Spells : Scalars → Scalars → Scalars → Type 0 where
  spells_nothing : (rest : Scalars) → Spells [] rest []
  itself : (c : ℕ) (cs rest value : Scalars) → (c == 92) ≡ false → Spells cs rest value → Spells (c ∷ cs) rest (c ∷ value)
  escaped : (e cs rest given value : Scalars) → Escape e (cs ++ rest) given → Spells cs rest value → Spells (e ++ cs) rest (given ++ value)

-- At this backslash stands no escape.
pub record IsBadEscape (text : Scalars) : Type 0 where
  pub after : Scalars
  pub backslash : text ≡ 92 ∷ after
  pub none : (e rest given : Scalars) → text ≡ e ++ rest → Escape e rest given → ⊥
