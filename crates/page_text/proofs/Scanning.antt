-- Laws of the places in a text.
use Rattle.std.proofs.Common.{◌≡◌, ℕ, suc, zero, ◌+◌, ◌<◌, ◌≤◌, ◌⊎◌, inl, inr, Bool, true, false, cond, not, ◌||◌, ◌==◌, [], ◌∷◌, ◌++◌, length, get_or, take, drop, refl, ap, ◌∙◌, arith, add-one}
use Rattle.std.proofs.lemmas.List.{drop_more, drop_all, length-drop, length-take}
use Rattle.std.proofs.lemmas.Bool.{cases_lt, and_parts, not-false}
use Rattle.std.proofs.lemmas.Bool.Decides.{nat_tests}
use Rattle.std.specs.Str.{IsUtf8, IsCharBoundary}
use Rattle.std.proofs.lemmas.Str.{IsCharBoundary-start, IsCharBoundary-before_ascii, IsCharBoundary-after_ascii}
use Rattle.std.specs.Char.{to_ascii_lowercase}
use Rattle.page_text.specs.Bytes.{Bytes, opens, is_name_byte, is_attribute_byte}
use Rattle.dom_semantics.specs.Whitespace.{is_white_space}
use Rattle.page_text.specs.ScansModel.{before, from, stops, IsAsciiStop}
use Rattle.page_text.specs.declared.scan.Stop.{Stop}
use Rattle.page_text.specs.declared.scan.Stop.TheVariants.{AfterSpace, AfterName, AfterAttribute, AfterUnquoted, AtByte, AtCommentEnd, AtMarkup, AtEndOf}

pub opens_nothing : (w text : Bytes) (i j : ℕ) → i < length w → length text ≤ j → opens (drop i w) (drop j text) ≡ false
opens_nothing w text i j h e = rw (drop_more w i 0 h, drop_all j text e) refl

-- a text is no shorter than what it begins with
pub opens_length : (w text : Bytes) → opens w text ≡ true → length w ≤ length text
opens_length [] text h = omega arith
opens_length (x ∷ w) [] h = cc
opens_length (x ∷ w) (b ∷ text) h = omega (arith, opens_length w text (and_parts _ _ h).1)

pub before_here : (q : Bytes → Bool) (text : Bytes) → q text ≡ true → before q text ≡ []
unfolding before
before_here q [] h = refl
before_here q (b ∷ bs) h = rw h refl

pub from_here : (q : Bytes → Bool) (text : Bytes) → q text ≡ true → from q text ≡ text
unfolding from
from_here q [] h = refl
from_here q (b ∷ bs) h = rw h refl

pub before_on : (q : Bytes → Bool) (b : ℕ) (bs : Bytes) → q (b ∷ bs) ≡ false → before q (b ∷ bs) ≡ b ∷ before q bs
unfolding before
before_on q b bs h = rw h refl

pub from_on : (q : Bytes → Bool) (b : ℕ) (bs : Bytes) → q (b ∷ bs) ≡ false → from q (b ∷ bs) ≡ from q bs
unfolding from
from_on q b bs h = rw h refl

pub before_next : (q : Bytes → Bool) (text : Bytes) (i : ℕ) → i < length text → q (drop i text) ≡ false → before q (drop i text) ≡ get_or text i 0 ∷ before q (drop (i + 1) text)
before_next q text i h e =
    let d = drop_more text i 0 h in
    rw d (before_on q (get_or text i 0) (drop (i + 1) text) (rw d at e))

pub from_next : (q : Bytes → Bool) (text : Bytes) (i : ℕ) → i < length text → q (drop i text) ≡ false → from q (drop i text) ≡ from q (drop (i + 1) text)
from_next q text i h e =
    let d = drop_more text i 0 h in
    rw d (from_on q (get_or text i 0) (drop (i + 1) text) (rw d at e))

pub before_none : (q : Bytes → Bool) (text : Bytes) (n : ℕ) → length text ≤ n → before q (drop n text) ≡ []
unfolding before
before_none q text n h = rw (drop_all n text h) refl

pub from_none : (q : Bytes → Bool) (text : Bytes) (n : ℕ) → length text ≤ n → from q (drop n text) ≡ []
unfolding from
from_none q text n h = rw (drop_all n text h) refl

-- the two parts are the text
pub parts_join : (q : Bytes → Bool) (text : Bytes) → before q text ++ from q text ≡ text
unfolding before from
parts_join q [] = refl
parts_join q (b ∷ bs) = elim (q (b ∷ bs)) as (λ v. cond v [] (b ∷ before q bs) ++ cond v (b ∷ bs) (from q bs) ≡ b ∷ bs) [ true ↦ refl | false ↦ ap (λ xs. b ∷ xs) (parts_join q bs) ]

-- what stands behind is such a place, or nothing
from_stops_at : (q : Bytes → Bool) (b : ℕ) (bs : Bytes) (v : Bool) → q (b ∷ bs) ≡ v → ((from q bs ≡ []) ⊎ (q (from q bs) ≡ true)) → (cond v (b ∷ bs) (from q bs) ≡ []) ⊎ (q (cond v (b ∷ bs) (from q bs)) ≡ true)
from_stops_at q b bs true e h = inr e
from_stops_at q b bs false e h = h

pub from_stops : (q : Bytes → Bool) (text : Bytes) → (from q text ≡ []) ⊎ (q (from q text) ≡ true)
unfolding from
from_stops q [] = inl refl
from_stops q (b ∷ bs) = from_stops_at q b bs (q (b ∷ bs)) refl (from_stops q bs)

-- no place in front is such
before_clear_at : (q : Bytes → Bool) (b : ℕ) (bs : Bytes) (v : Bool) → q (b ∷ bs) ≡ v → (k : ℕ) → k < length (cond v [] (b ∷ before q bs)) → ((j : ℕ) → j < length (before q bs) → q (drop j bs) ≡ false) → q (drop k (b ∷ bs)) ≡ false
before_clear_at q b bs true e k h next = absurd (omega arith)
before_clear_at q b bs false e zero h next = e
before_clear_at q b bs false e (suc k) h next = next k (omega arith)

pub before_clear : (q : Bytes → Bool) (text : Bytes) (k : ℕ) → k < length (before q text) → q (drop k text) ≡ false
unfolding before
before_clear q [] k h = absurd (omega arith)
before_clear q (b ∷ bs) k h = before_clear_at q b bs (q (b ∷ bs)) refl k h (before_clear q bs)

-- where a text may be cut
name_byte_small : (b : ℕ) → is_name_byte b ≡ true → b < 128
name_byte_small b h = grind (arith, nat_tests)

space_small : (b : ℕ) → is_white_space b ≡ true → b < 128
space_small b h = grind (arith, nat_tests)

unquoted_small : (b : ℕ) → (is_white_space b || (b == 62)) ≡ true → b < 128
unquoted_small b h = grind (arith, nat_tests)

attribute_small : (b : ℕ) → not (is_attribute_byte b) ≡ true → b < 128
attribute_small b h = grind (arith, nat_tests)

byte_small : (d b : ℕ) → d < 128 → (b == d) ≡ true → b < 128
byte_small d b small h = grind (arith, nat_tests)

opens_small : (w b : ℕ) (ws bs : Bytes) → opens (w ∷ ws) (b ∷ bs) ≡ true → w < 65 → b < 128
opens_small w b ws bs h small =
    let e = (and_parts (to_ascii_lowercase b == w) (opens ws bs) h).0 in
    grind (arith, nat_tests)

module _ (q : Bytes → Bool) (text : Bytes) (n : ℕ) (utf8 : IsUtf8 text) (within : n ≤ length text) (front : take n text ≡ before q text) (back : drop n text ≡ from q text) where
  boundary_at_stop : ((b : ℕ) (bs : Bytes) → q (b ∷ bs) ≡ true → b < 128) → n < length text → ((from q text ≡ []) ⊎ (q (from q text) ≡ true)) → IsCharBoundary text n
  boundary_at_stop small h (inl e) = absurd (omega (arith, ap length (back ∙ e), length-drop n text))
  boundary_at_stop small h (inr e) =
      let d = drop_more text n 0 h in
      let e2 = rw (← back, d) at e in
      IsCharBoundary-before_ascii text n h (small (get_or text n 0) (drop (n + 1) text) e2)

  boundary_from : ((b : ℕ) (bs : Bytes) → q (b ∷ bs) ≡ true → b < 128) → ((n < length text) ⊎ (length text ≤ n)) → IsCharBoundary text n
  boundary_from small (inl h) = boundary_at_stop small h (from_stops q text)
  boundary_from small (inr h) = (within, λ less. absurd (omega arith))

  -- where all places such as this begin with ASCII
  pub boundary_before : ((b : ℕ) (bs : Bytes) → q (b ∷ bs) ≡ true → b < 128) → IsCharBoundary text n
  boundary_before small = boundary_from small (cases_lt n (length text))

  boundary_past : (m : ℕ) → suc m ≡ n → ((b : ℕ) (bs : Bytes) → q (b ∷ bs) ≡ false → b < 128) → IsCharBoundary text n
  boundary_past m e small =
      let in_text : m < length text = omega arith in
      let in_front : m < length (before q text) = omega (arith, ap length front, length-take n text) in
      let here = rw (drop_more text m 0 in_text) at (before_clear q text m in_front) in
      rw (← e, ← add-one m) (IsCharBoundary-after_ascii text m utf8 in_text (small (get_or text m 0) (drop (m + 1) text) here))

  boundary_count : (m : ℕ) → m ≡ n → ((b : ℕ) (bs : Bytes) → q (b ∷ bs) ≡ false → b < 128) → IsCharBoundary text n
  boundary_count zero e small = rw (← e) (IsCharBoundary-start text utf8)
  boundary_count (suc m) e small = boundary_past m e small

  -- where all in front is ASCII
  pub boundary_after : ((b : ℕ) (bs : Bytes) → q (b ∷ bs) ≡ false → b < 128) → IsCharBoundary text n
  boundary_after small = boundary_count n refl small

-- where a text may be cut: at each place of these kinds
pub boundary : (s : Stop) (text : Bytes) (n : ℕ) → IsUtf8 text → IsAsciiStop s → n ≤ length text → take n text ≡ before (stops s) text → drop n text ≡ from (stops s) text → IsCharBoundary text n
boundary AfterSpace text n u a h f b = boundary_after (stops AfterSpace) text n u h f b (λ c cs e. space_small c (not-false _ e))
boundary AfterName text n u a h f b = boundary_after (stops AfterName) text n u h f b (λ c cs e. name_byte_small c (not-false _ e))
boundary AfterAttribute text n u a h f b = boundary_before (stops AfterAttribute) text n u h f b (λ c cs e. attribute_small c e)
boundary AfterUnquoted text n u a h f b = boundary_before (stops AfterUnquoted) text n u h f b (λ c cs e. unquoted_small c e)
boundary (AtByte d) text n u a h f b = boundary_before (stops (AtByte d)) text n u h f b (λ c cs e. byte_small d c a e)
boundary AtCommentEnd text n u a h f b = boundary_before (stops AtCommentEnd) text n u h f b (λ c cs e. opens_small 45 c (45 ∷ (62 ∷ [])) cs e (omega arith))
boundary AtMarkup text n u a h f b = boundary_before (stops AtMarkup) text n u h f b (λ c cs e. byte_small 60 c (omega arith) (and_parts _ _ e).0)
boundary (AtEndOf raw) text n u a h f b = boundary_before (stops (AtEndOf raw)) text n u h f b (λ c cs e. opens_small 60 c (47 ∷ []) cs (and_parts _ _ e).0 (omega arith))
