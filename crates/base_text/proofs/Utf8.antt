-- How many bytes the scalars of a text take, and where each takes one.
use Rattle.std.specs.Prelude.{◌≡◌, ◌<◌, ◌≤◌, ◌+◌, ℕ, List, [], ◌∷◌, ◌++◌, length, take, drop, encode_utf8_all, slice_range, ◌-◌, String, Result, Ok, Err, IfOk}
use Rattle.std.specs.Str.{chars, IsAscii, IsUtf8}
use Rattle.std.specs.String.{string_bytes}
use Rattle.std.proofs.Common.{ap, ◌∙◌, sym, arith, length-append}
use Rattle.std.proofs.Math.Utf8.{encode}
use Rattle.std.proofs.lemmas.Bool.Decides.{nat_tests}
use Rattle.std.proofs.lemmas.List.{take-append-drop}
use Rattle.std.proofs.lemmas.Str.{encodes-append, encodes-chars, length-encode, len_utf8_bounds, length-le-encodes, encode_ascii, encodes_same, encodes-IsAscii, chars_from_encodes}
use Rattle.std.proofs.lemmas.Str.Ascii.{IsAscii-nil, IsAscii-cons}
use Rattle.base_text.specs.Scalars.{utf8_len}

-- a text's bytes are those of its first scalars and those of the others
pub utf8_len-append : (x y : List ℕ) → utf8_len (x ++ y) ≡ utf8_len x + utf8_len y
utf8_len-append x y = ap length (encodes-append x y) ∙ length-append (encode_utf8_all x) (encode_utf8_all y)

-- a part of a text has no more bytes than the text
pub utf8_len-take : (n : ℕ) (t : List ℕ) → utf8_len (take n t) ≤ utf8_len t
utf8_len-take n t =
    let split = sym (utf8_len-append (take n t) (drop n t)) ∙ ap utf8_len (take-append-drop n t) in omega arith

pub utf8_len-drop : (n : ℕ) (t : List ℕ) → utf8_len (drop n t) ≤ utf8_len t
utf8_len-drop n t =
    let split = sym (utf8_len-append (take n t) (drop n t)) ∙ ap utf8_len (take-append-drop n t) in omega arith

pub utf8_len-part : (n k : ℕ) (t : List ℕ) → utf8_len (take n (drop k t)) ≤ utf8_len t
utf8_len-part n k t = omega (arith, utf8_len-take n (drop k t), utf8_len-drop k t)

-- the scalars of a text are no more than its bytes
pub length-chars-le : (bs : List ℕ) → IsUtf8 bs → length (chars bs) ≤ length bs
length-chars-le bs u = omega (arith, length-le-encodes (chars bs), ap length (encodes-chars bs u))

-- a scalar that takes one byte is ASCII
one_byte : (c : ℕ) → length (encode c) ≤ 1 → c < 128
one_byte c short =
    let same = length-encode c in
    grind (arith, nat_tests)

-- where a text has as many scalars as bytes, each scalar is one byte
pub IsAscii-from_count : (cs : List ℕ) → length cs ≡ utf8_len cs → IsAscii (encode_utf8_all cs)
IsAscii-from_count [] same = IsAscii-nil
IsAscii-from_count (c ∷ cs) same =
    let parts = length-append (encode c) (encode_utf8_all cs) in
    let rest = length-le-encodes cs in
    let low = len_utf8_bounds c in
    let exact = length-encode c in
    let small : c < 128 = one_byte c (omega arith) in
    rw (encode_ascii c small) (IsAscii-cons c (encode_utf8_all cs) small (IsAscii-from_count cs (omega arith)))

-- where the bytes of a text are ASCII, it has as many scalars as bytes
pub count-from_ascii : (cs : List ℕ) → IsAscii (encode_utf8_all cs) → length cs ≡ utf8_len cs
count-from_ascii cs ascii =
    sym (ap length (encodes_same (encode_utf8_all cs) cs (encodes-IsAscii (encode_utf8_all cs) ascii)))

-- a text whose bytes are those of a list of scalars has these scalars
pub length-chars-encoded : (bs cs : List ℕ) → IsUtf8 bs → bs ≡ encode_utf8_all cs → length (chars bs) ≡ length cs
length-chars-encoded bs cs u e = sym (ap length (chars_from_encodes cs bs u (sym e)))

-- a part of a text that meets a limit meets it
pub part_within : {Z E : Type 0} (r : Result (String Z) E) (limit from to : ℕ) (bs : List ℕ) → IsUtf8 bs → length bs ≤ limit → IfOk r (λ t. string_bytes t ≡ encode_utf8_all (slice_range (chars bs) from to)) → IfOk r (λ t. length (string_bytes t) ≤ limit)
part_within (Err e) limit from to bs u within part = part
part_within (Ok t) limit from to bs u within part =
    let most = utf8_len-part (to - from) from (chars bs) in
    omega (arith, ap length part, ap length (encodes-chars bs u))
