-- No part of a text is longer than the text, so a text that isn't too long has no part that is.
use Rattle.std.proofs.Common.{ℕ, ◌≤◌, List, [], ◌∷◌, ◌++◌, length, codes, sym, subst, length-append, arith}
use Rattle.std.specs.List.{flat_map}
use Rattle.base_text.specs.declared.text.TheConstants.{TEXT_LIMIT}
use Rattle.small_forms.specs.declared.bytes.Class.TheVariants.{AlphanumericOrBlank}
use Rattle.small_forms.specs.declared.script.Part.{Part}
use Rattle.small_forms.specs.declared.script.Part.TheVariants.{Title, Number, Quoted}
use Rattle.small_forms.specs.declared.script.Sum.{Sum}
use Rattle.small_forms.specs.declared.script.Line.{Line}
use Rattle.small_forms.specs.declared.script.Line.TheVariants.{Log, SetTitle}
use Rattle.small_forms.specs.Scripts.{AreParts, IsPart, IsSum, added_text, line_text, part_text, sum_of, sum_text}
use Rattle.small_forms.proofs.AsciiTexts.{inside_ascii}
use Rattle.small_forms.proofs.RawTexts.{ascii_bytes}
use Rattle.small_scripts.proofs.Sums.{AreShort, IsShort, IsShortSum}

-- a text is at most so long as the limit
abbrev pub Fits : List ℕ → Type 0
Fits text = length text ≤ TEXT_LIMIT

pub left_fits : (xs ys : List ℕ) → Fits (xs ++ ys) → Fits xs
left_fits xs ys h = omega (arith, length-append xs ys)

pub right_fits : (xs ys : List ℕ) → Fits (xs ++ ys) → Fits ys
right_fits xs ys h = omega (arith, length-append xs ys)

pub rest_fits : (x : ℕ) (xs : List ℕ) → Fits (x ∷ xs) → Fits xs
rest_fits x xs h = omega arith

part_fits : (part : Part) → IsPart part → Fits (part_text part) → IsShort part
part_fits Title is h = tt
part_fits (Number n) is h = tt
part_fits (Quoted text) is h = subst (λ (bytes : List ℕ). length bytes ≤ TEXT_LIMIT) (sym (ascii_bytes text (inside_ascii AlphanumericOrBlank text is))) (left_fits text (34 ∷ []) (rest_fits 34 (text ++ 34 ∷ []) h))

more_fit : (parts : List Part) → AreParts parts → Fits (flat_map added_text parts) → AreShort parts
more_fit [] are h = tt
more_fit (part ∷ parts) are h =
    let here = right_fits (codes " + ") (part_text part) (left_fits (added_text part) (flat_map added_text parts) h) in
    (part_fits part are.0 here, more_fit parts are.1 (right_fits (added_text part) (flat_map added_text parts) h))

sum_fits : (sum : Sum) → IsSum sum → Fits (sum_text sum) → IsShortSum sum
sum_fits sum is h = record {
  first = part_fits sum.first is.first (left_fits (part_text sum.first) (flat_map added_text sum.more) h);
  more = more_fit sum.more is.more (right_fits (part_text sum.first) (flat_map added_text sum.more) h);
}

pub line_fits : (logs : List ℕ) (line : Line) → IsSum (sum_of line) → Fits (line_text logs line) → IsShortSum (sum_of line)
line_fits logs (Log sum) is h =
    sum_fits sum is (left_fits (sum_text sum) (codes ");") (rest_fits 40 (sum_text sum ++ codes ");") (right_fits logs (40 ∷ (sum_text sum ++ codes ");")) h)))
line_fits logs (SetTitle sum) is h = sum_fits sum is (left_fits (sum_text sum) (codes ";") (right_fits (codes "document.title = ") (sum_text sum ++ codes ";") h))
