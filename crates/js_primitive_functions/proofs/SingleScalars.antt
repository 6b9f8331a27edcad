-- The scalars of a text by their bytes.
use Rattle.std.specs.Prelude.{◌≡◌, ℕ, suc, ◌<◌, ◌≤◌, List, [], ◌∷◌, ◌++◌, length, take, drop, encode_utf8_all, refl}
use Rattle.std.specs.Str.{chars, IsAscii, IsCharBoundary, IsUtf8}
use Rattle.std.proofs.Common.{sym, ap, subst, ◌∙◌, arith, append-nil, take_at, drop_at}
use Rattle.std.proofs.Math.Utf8.{encode}
use Rattle.std.proofs.lemmas.List.{length-append}
use Rattle.std.proofs.lemmas.Str.{chars-nil, chars-append, chars-IsAscii, chars_past_char, encodes-IsAscii, encodes_same, IsAscii-drop, IsCharBoundary-from_ascii, IsCharBoundary-from_take, IsUtf8-drop, length-encode, len_utf8_bounds}
use Rattle.base_text.proofs.Utf8.{IsAscii-from_count}

-- a scalar has one to four bytes
pub encode_bounds : (c : ℕ) → (1 ≤ length (encode c)) × (length (encode c) ≤ 4)
encode_bounds c =
    let same = length-encode c in
    let bounds = len_utf8_bounds c in (omega (arith, same, bounds.0), omega (arith, same, bounds.1))

-- the bytes of one scalar are it alone
pub one_char : (c : ℕ) (bs : List ℕ) → IsUtf8 bs → bs ≡ encode c → chars bs ≡ c ∷ []
one_char c bs u e = chars_past_char bs [] c u (e ∙ sym (append-nil (encode c))) ∙ ap (λ (xs : List ℕ). c ∷ xs) chars-nil

-- no bytes are no scalars
pub no_chars : (bs : List ℕ) → length bs ≡ 0 → chars bs ≡ []
no_chars [] none = chars-nil
no_chars (b ∷ bs) none = absurd (omega (arith, none))

-- a scalar at the front or at the end takes at least one byte
pub shorter_after : (c : ℕ) (bs rest : List ℕ) → bs ≡ encode c ++ rest → length rest < length bs
shorter_after c bs rest e = omega (arith, ap length e, length-append (encode c) rest, (encode_bounds c).0)

pub shorter_before : (c : ℕ) (bs rest : List ℕ) → bs ≡ rest ++ encode c → length rest < length bs
shorter_before c bs rest e = omega (arith, ap length e, length-append rest (encode c), (encode_bounds c).0)

-- what follows a text in a text is one
pub IsUtf8-after : (bs front back : List ℕ) → IsUtf8 bs → IsUtf8 front → bs ≡ front ++ back → IsUtf8 back
IsUtf8-after bs front back u v e =
    let n = length front in
    let within : n ≤ length bs = omega (arith, length-append front back, ap length e) in
    let cut = IsCharBoundary-from_take bs n u within (subst IsUtf8 (sym (ap (take n) e ∙ take_at front back n refl)) v) in
    subst IsUtf8 (ap (drop n) e ∙ drop_at front back n refl) (IsUtf8-drop bs n u cut)

pub last_char : (c : ℕ) (bs rest : List ℕ) → IsUtf8 bs → IsUtf8 rest → bs ≡ rest ++ encode c → chars bs ≡ chars rest ++ c ∷ []
last_char c bs rest u v e =
    let last = IsUtf8-after bs rest (encode c) u v e in
    ap chars e ∙ (chars-append rest (encode c) v ∙ ap (λ (xs : List ℕ). chars rest ++ xs) (one_char c (encode c) last refl))

-- where each scalar is one byte, places of bytes are places of scalars
one_byte_each : (t whole : List ℕ) → whole ≡ encode_utf8_all t → length t ≡ length whole → IsAscii whole
one_byte_each t whole e len = subst IsAscii (sym e) (IsAscii-from_count t (len ∙ ap length e))

pub ascii_cut : (t whole : List ℕ) (p : ℕ) → whole ≡ encode_utf8_all t → length t ≡ length whole → p ≤ length t → IsCharBoundary whole p
ascii_cut t whole p e len within = IsCharBoundary-from_ascii whole p (one_byte_each t whole e len) (omega (arith, len, within))

pub ascii_rest : (t whole : List ℕ) (p : ℕ) → whole ≡ encode_utf8_all t → length t ≡ length whole → chars (drop p whole) ≡ drop p t
ascii_rest t whole p e len =
    let ascii = one_byte_each t whole e len in
    chars-IsAscii (drop p whole) (IsAscii-drop whole p ascii) ∙ ap (drop p) (encodes_same whole t (encodes-IsAscii whole ascii ∙ e))

-- one scalar less is to be dropped
pub one_dropped : (c : ℕ) (t cs : List ℕ) (n m : ℕ) → t ≡ c ∷ cs → n ≡ suc m → drop n t ≡ drop m cs
one_dropped c t cs n m e same = ap (drop n) e ∙ ap (λ (k : ℕ). drop k (c ∷ cs)) same
