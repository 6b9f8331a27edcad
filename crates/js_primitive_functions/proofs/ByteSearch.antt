-- What a search of bytes says of scalars.
use Rattle.std.specs.Prelude.{◌≡◌, ℕ, ◌+◌, ◌-◌, ◌<◌, ◌≤◌, Bool, true, false, List, ◌++◌, length, take, drop, Some, None, encode_utf8_all, refl}
use Rattle.std.specs.List.{slice_range}
use Rattle.std.specs.Str.{chars, IsCharBoundary, IsUtf8}
use Rattle.std.specs.Str.Pattern.{FindsText, LacksTextAt, MatchBeginsAt}
use Rattle.std.proofs.Common.{sym, ap, subst, ◌∙◌, arith}
use Rattle.std.proofs.Math.Seq.{drop-append_seam}
use Rattle.std.proofs.lemmas.List.{take-append-drop, take-append-le, length-take-le, length-drop, length-append}
use Rattle.std.proofs.lemmas.Str.{encodes-append, encodes-chars, chars-append, length-le-encodes, IsUtf8-take}
use Rattle.base_text.specs.Scalars.{utf8_len}
use Rattle.base_text.proofs.Utf8.{utf8_len-append, utf8_len-take}
use Rattle.js_semantics.specs.Texts.{begins, first_place}
use Rattle.js_primitive_functions.specs.Splits.{SplitsAtFirst}
use Rattle.js_primitive_functions.proofs.FirstPlaces.{begins-parts, first_found, none_found}

-- the bytes from a place on
drop-encoded : (t : List ℕ) (k : ℕ) → drop (utf8_len (take k t)) (encode_utf8_all t) ≡ encode_utf8_all (drop k t)
drop-encoded t k =
    let parts : encode_utf8_all t ≡ encode_utf8_all (take k t) ++ encode_utf8_all (drop k t) =
    sym (ap encode_utf8_all (take-append-drop k t)) ∙ encodes-append (take k t) (drop k t) in
    ap (drop (utf8_len (take k t))) parts ∙ drop-append_seam (encode_utf8_all (take k t)) (encode_utf8_all (drop k t))

-- where the bytes of a text don't stand, its scalars don't
lacks : (w t n s : List ℕ) (k : ℕ) → encode_utf8_all w ≡ n → encode_utf8_all t ≡ s → LacksTextAt n s (utf8_len (take k t)) → begins w (drop k t) ≡ false
lacks w t n s k wn ts none = decided (begins w (drop k t)) refl
  where
    decided : (b : Bool) → begins w (drop k t) ≡ b → b ≡ false
    decided true e =
        let rest = drop (length w) (drop k t) in
        absurd (none (encode_utf8_all rest)
        (sym (ap (drop (utf8_len (take k t))) ts) ∙ (drop-encoded t k ∙ (ap encode_utf8_all (begins-parts w (drop k t) e)
        ∙ (encodes-append w rest ∙ ap (λ (xs : List ℕ). xs ++ encode_utf8_all rest) wn)))))
    decided false e = refl

-- the bytes before a place are no more than all
len-le : (t s : List ℕ) (k : ℕ) → encode_utf8_all t ≡ s → utf8_len (take k t) ≤ length s
len-le t s k ts = omega (arith, utf8_len-take k t, ap length ts)

pub nowhere : (n s : List ℕ) → IsUtf8 n → IsUtf8 s → ((i : ℕ) → i ≤ length s → LacksTextAt n s i) → first_place (chars n) 0 0 (chars s) ≡ None
nowhere n s un us none =
    none_found (chars n) (chars s) 0 (λ k within. lacks (chars n) (chars s) n s k (encodes-chars n un) (encodes-chars s us)
    (none (utf8_len (take k (chars s))) (len-le (chars s) s k (encodes-chars s us))))

-- fewer scalars take fewer bytes
len-lt : (before rest : List ℕ) (k : ℕ) → k < length before → utf8_len (take k (before ++ rest)) < utf8_len before
len-lt before rest k below =
    let same : utf8_len (take k (before ++ rest)) ≡ utf8_len (take k before) = ap utf8_len (take-append-le k before rest (omega arith)) in
    let whole : utf8_len before ≡ utf8_len (take k before) + utf8_len (drop k before) =
    sym (ap utf8_len (take-append-drop k before)) ∙ utf8_len-append (take k before) (drop k before) in
    let most = length-le-encodes (drop k before) in
    let some = length-drop k before in
    omega (arith, same, whole, most, some)

pub somewhere : (n s front back : List ℕ) (at : ℕ) → IsUtf8 n → IsUtf8 s → IsUtf8 front → s ≡ front ++ (n ++ back) → length front ≡ at → ((i : ℕ) → i < at → LacksTextAt n s i) → SplitsAtFirst (chars s) (chars n) (chars front) (chars back)
somewhere n s front back at un us uf parts len none =
    let told : chars s ≡ chars front ++ (chars n ++ chars back) =
    ap chars parts ∙ (chars-append front (n ++ back) uf ∙ ap (λ (xs : List ℕ). chars front ++ xs) (chars-append n back un)) in
    let bytes : encode_utf8_all (chars front ++ (chars n ++ chars back)) ≡ s = sym (ap encode_utf8_all told) ∙ encodes-chars s us in
    let lens : utf8_len (chars front) ≡ at = ap length (encodes-chars front uf) ∙ len in
    let same : 0 + length (chars front) ≡ length (chars front) = omega arith in
    record {
      parts = told;
      first = ap (first_place (chars n) 0 0) told
          ∙ (first_found (chars n) (chars back) (chars front) 0 (λ k below.
          lacks (chars n) (chars front ++ (chars n ++ chars back)) n s k (encodes-chars n un) bytes
          (none (utf8_len (take k (chars front ++ (chars n ++ chars back)))) (omega (arith, len-lt (chars front) (chars n ++ chars back) k below, lens))))
          ∙ ap Some same);
    }

-- a text around where `find` found another
parts_there : (n s : List ℕ) (at : ℕ) → MatchBeginsAt (FindsText n) s at → s ≡ take at s ++ (n ++ drop (at + length n) s)
parts_there n s at m =
    sym (take-append-drop at s)
    ∙ ap (λ (xs : List ℕ). take at s ++ xs) (m.1.1.split ∙ ap (λ (j : ℕ). n ++ drop j s) m.1.1.ends)

pub split_there : (n s : List ℕ) (at : ℕ) → IsUtf8 n → IsUtf8 s → MatchBeginsAt (FindsText n) s at → SplitsAtFirst (chars s) (chars n) (chars (take at s)) (chars (drop (at + length n) s))
split_there n s at un us m =
    somewhere n s (take at s) (drop (at + length n) s) at un us (IsUtf8-take s at us m.3) (parts_there n s at m) (length-take-le at s m.3.0) m.1.0

pub lengths_there : (n s : List ℕ) (at : ℕ) → MatchBeginsAt (FindsText n) s at → length (take at s) + (length n + length (drop (at + length n) s)) ≡ length s
lengths_there n s at m =
    let whole = ap length (parts_there n s at m) in
    let first = length-append (take at s) (n ++ drop (at + length n) s) in
    let second = length-append n (drop (at + length n) s) in omega arith

pub end_there : (n s : List ℕ) (at : ℕ) → MatchBeginsAt (FindsText n) s at → IsCharBoundary s (at + length n)
end_there n s at m = m.1.1.after

-- the bytes up to a place
pub from_front : (s : List ℕ) (at : ℕ) → slice_range s 0 at ≡ take at s
from_front s at =
    let same : at - 0 ≡ at = omega arith in ap (λ (k : ℕ). take k s) same

-- the same of other names for the two parts
pub split_found : (n s before after : List ℕ) (at end : ℕ) → IsUtf8 n → IsUtf8 s → MatchBeginsAt (FindsText n) s at → before ≡ take at s → after ≡ drop end s → end ≡ at + length n → SplitsAtFirst (chars s) (chars n) (chars before) (chars after)
split_found n s before after at end un us m front back e =
    let same : after ≡ drop (at + length n) s = back ∙ ap (λ (k : ℕ). drop k s) e in
    let first : IsUtf8 before = subst IsUtf8 (sym front) (IsUtf8-take s at us m.3) in
    let parts : s ≡ before ++ (n ++ after) =
    parts_there n s at m
    ∙ (ap (λ (xs : List ℕ). xs ++ (n ++ drop (at + length n) s)) (sym front)
    ∙ ap (λ (xs : List ℕ). before ++ (n ++ xs)) (sym same)) in
    somewhere n s before after at un us first parts (ap length front ∙ length-take-le at s m.3.0) m.1.0
