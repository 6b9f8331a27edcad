-- Scripts of the forms that are read are ASCII, and have no `<`.
use Rattle.std.proofs.Common.{◌≡◌, ◌∙◌, sym, refl, subst, ℕ, inl, inr, List, [], ◌∷◌, ◌++◌, IsTrue, arith, codes, encode_utf8_all}
use Rattle.std.proofs.lemmas.Bool.Decides.{nat_tests}
use Rattle.std.proofs.lemmas.List.Folds.{list_all-append}
use Rattle.std.proofs.lemmas.Str.Ascii.{encodes-IsAscii}
use Rattle.std.specs.List.{flat_map, list_all}
use Rattle.std.specs.Fmt.{decimal}
use Rattle.std.specs.Char.{is_ascii}
use Rattle.small_forms.specs.Bytes.{are_in, is_in}
use Rattle.small_forms.specs.declared.bytes.Class.{Class}
use Rattle.small_forms.specs.declared.bytes.Class.TheVariants.{Digit, Alphanumeric, AlphanumericOrBlank, RawText}
use Rattle.small_forms.specs.declared.script.Part.{Part}
use Rattle.small_forms.specs.declared.script.Part.TheVariants.{Title, Number, Quoted}
use Rattle.small_forms.specs.declared.script.Sum.{Sum}
use Rattle.small_forms.specs.declared.script.Line.{Line}
use Rattle.small_forms.specs.declared.script.Line.TheVariants.{Log, SetTitle}
use Rattle.small_forms.specs.Readers.{IsLogger}
use Rattle.small_forms.specs.Scripts.{AreLines, AreParts, IsPageScript, IsPart, IsSum, IsUserscript, added_text, block_end, block_start, line_text, page_line, page_script_text, part_text, sum_of, sum_text, userscript_line}
use Rattle.small_forms.proofs.AsciiTexts.{ascii-IsAscii, inside_ascii}
use Rattle.small_forms.proofs.PartFronts.{digits_of}
use Rattle.small_forms.proofs.Runs.{both_true}

abbrev pub IsRaw : List ℕ → Type 0
IsRaw bytes = IsTrue (are_in RawText bytes)

both_raw : (xs ys : List ℕ) → IsRaw xs → IsRaw ys → IsRaw (xs ++ ys)
both_raw xs ys p q = list_all-append (is_in RawText) xs ys ∙ rw (p, q) refl

digit_raw : (b : ℕ) → IsTrue (is_in Digit b) → IsTrue (is_in RawText b)
digit_raw b h = grind (arith, nat_tests)

letter_raw : (b : ℕ) → IsTrue (is_in Alphanumeric b) → IsTrue (is_in RawText b)
letter_raw b h = grind (arith, nat_tests)

quoted_raw : (b : ℕ) → IsTrue (is_in AlphanumericOrBlank b) → IsTrue (is_in RawText b)
quoted_raw b h = grind (arith, nat_tests)

inside_raw : (class : Class) → ((b : ℕ) → IsTrue (is_in class b) → IsTrue (is_in RawText b)) → (bytes : List ℕ) → IsTrue (are_in class bytes) → IsRaw bytes
inside_raw class each [] h = refl
inside_raw class each (b ∷ bytes) h = let parts = both_true (is_in class b) (are_in class bytes) h in rw (each b parts.0) (inside_raw class each bytes parts.1)

part_raw : (part : Part) → IsPart part → IsRaw (part_text part)
part_raw Title is = refl
part_raw (Number n) is = inside_raw Digit digit_raw (decimal n) (digits_of n is)
part_raw (Quoted text) is = both_raw text (34 ∷ []) (inside_raw AlphanumericOrBlank quoted_raw text is) refl

more_raw : (more : List Part) → AreParts more → IsRaw (flat_map added_text more)
more_raw [] are = refl
more_raw (part ∷ more) are = both_raw (added_text part) (flat_map added_text more) (both_raw (codes " + ") (part_text part) refl (part_raw part are.0)) (more_raw more are.1)

sum_raw : (sum : Sum) → IsSum sum → IsRaw (sum_text sum)
sum_raw sum is = both_raw (part_text sum.first) (flat_map added_text sum.more) (part_raw sum.first is.first) (more_raw sum.more is.more)

logger_raw : (logs : List ℕ) → IsLogger logs → IsRaw logs
logger_raw logs (inl is) = subst IsRaw (sym is) refl
logger_raw logs (inr is) = subst IsRaw (sym is) refl

line_raw : (logs : List ℕ) (line : Line) → IsLogger logs → IsSum (sum_of line) → IsRaw (line_text logs line)
line_raw logs (Log sum) logger is = both_raw logs (40 ∷ (sum_text sum ++ codes ");")) (logger_raw logs logger) (both_raw (sum_text sum) (codes ");") (sum_raw sum is) refl)
line_raw logs (SetTitle sum) logger is = both_raw (codes "document.title = ") (sum_text sum ++ codes ";") refl (both_raw (sum_text sum) (codes ";") (sum_raw sum is) refl)

lines_raw : (lines : List Line) → AreLines lines → IsRaw (flat_map userscript_line lines)
lines_raw [] are = refl
lines_raw (line ∷ lines) are = both_raw (userscript_line line) (flat_map userscript_line lines) (both_raw (line_text (codes "GM_log") line) (10 ∷ []) (line_raw (codes "GM_log") line (inl refl) are.0) refl) (lines_raw lines are.1)

userscript_raw : (text name : List ℕ) (lines : List Line) → IsUserscript text name lines → IsRaw text
userscript_raw text name lines is =
    subst IsRaw (sym is.whole)
    (both_raw block_start (name ++ (block_end ++ flat_map userscript_line lines)) refl
    (both_raw name (block_end ++ flat_map userscript_line lines) (inside_raw Alphanumeric letter_raw name is.named.inside)
    (both_raw block_end (flat_map userscript_line lines) refl (lines_raw lines is.adds))))

page_lines_raw : (lines : List Line) → AreLines lines → IsRaw (page_script_text lines)
page_lines_raw [] are = refl
page_lines_raw (line ∷ []) are = line_raw (codes "console.log") line (inr refl) are.0
page_lines_raw (line ∷ (next ∷ lines)) are = both_raw (page_line line) (10 ∷ page_script_text (next ∷ lines)) (line_raw (codes "console.log") line (inr refl) are.0) (page_lines_raw (next ∷ lines) are.1)

-- the text of a script element has no `<`
pub page_script_raw : (text : List ℕ) (lines : List Line) → IsPageScript text lines → IsRaw text
page_script_raw text lines is = subst IsRaw (sym is.whole) (page_lines_raw lines is.adds)

pub userscript_ascii : (text name : List ℕ) (lines : List Line) → IsUserscript text name lines → IsTrue (list_all is_ascii text)
userscript_ascii text name lines is = inside_ascii RawText text (userscript_raw text name lines is)

pub page_script_ascii : (text : List ℕ) (lines : List Line) → IsPageScript text lines → IsTrue (list_all is_ascii text)
page_script_ascii text lines is = inside_ascii RawText text (page_script_raw text lines is)

-- the bytes of a text of ASCII
pub ascii_bytes : (text : List ℕ) → IsTrue (list_all is_ascii text) → encode_utf8_all text ≡ text
ascii_bytes text h = encodes-IsAscii text (ascii-IsAscii text h)
