-- The texts that small scripts make and log are texts of the language.
use Rattle.std.proofs.Common.{subst, ap, ℕ, ◌*◌, ◌≤◌, ◌<◌, List, [], ◌∷◌, ◌++◌, length, length-append, arith, codes}
use Rattle.std.specs.Fmt.{decimal}
use Rattle.std.specs.List.{flat_map}
use Rattle.std.specs.Prelude.{encode_utf8_all}
use Rattle.std.proofs.Math.Utf8.{encode}
use Rattle.std.proofs.lemmas.Fmt.{length-decimal-le}
use Rattle.std.proofs.lemmas.Str.{length-encode, len_utf8_bounds}
use Rattle.base_text.specs.Scalars.{utf8_len}
use Rattle.door.specs.declared.zones.Zone.{Zone}
use Rattle.door.specs.declared.zones.Zone.TheVariants.{Host, Page, XrayScript, PlainScript}
use Rattle.small_forms.specs.declared.limits.TheConstants.{SMALL_PAGE_LIMIT}
use Rattle.small_forms.specs.declared.script.Part.{Part}
use Rattle.small_forms.specs.declared.script.Part.TheVariants.{Title, Number, Quoted}
use Rattle.small_forms.specs.declared.script.Sum.{Sum}
use Rattle.small_forms.specs.declared.script.Line.{Line}
use Rattle.small_forms.specs.declared.script.Line.TheVariants.{Log, SetTitle}
use Rattle.small_forms.specs.Scripts.{AreLines, AreParts, IsPart, IsSum, IsUserscript, added_text, line_text, page_line, page_script_text, part_text, sum_of, sum_text, userscript_line, block_start, block_end}
use Rattle.small_meaning.specs.Rows.{Reads}
use Rattle.small_meaning.specs.Shows.{IsText}

-- a scalar takes at most four bytes
pub four_bytes : (t : List ℕ) → utf8_len t ≤ 4 * length t
four_bytes [] = omega arith
four_bytes (c ∷ cs) = omega (arith, four_bytes cs, length-append (encode c) (encode_utf8_all cs), length-encode c, (len_utf8_bounds c).1)

pub short_text : (t : List ℕ) → length t ≤ SMALL_PAGE_LIMIT → IsText t
short_text t h = omega (arith, four_bytes t)

pub number_text : (n : ℕ) → n < 10000 → IsText (decimal n)
number_text n h = short_text (decimal n) (omega (arith, length-decimal-le 4 n (omega arith) (omega arith) (omega arith)))

-- ---- the parts of the lines that are read

-- a number of a part is small and a quoted text is one of the language
abbrev pub IsSound : Part → Type 0
IsSound Title = Unit {0}
IsSound (Number n) = n ≤ 999
IsSound (Quoted text) = IsText text

abbrev pub AreSound : List Part → Type 0
AreSound [] = Unit {0}
AreSound (part ∷ parts) = IsSound part × AreSound parts

-- a sum has few parts, and they are sound
pub record IsSoundSum (sum : Sum) : Type 0 where
  pub first : IsSound sum.first
  pub more : AreSound sum.more
  pub few : length sum.more ≤ 7

abbrev pub AreSoundLines : List Line → Type 0
AreSoundLines [] = Unit {0}
AreSoundLines (line ∷ lines) = IsSoundSum (sum_of line) × AreSoundLines lines

sound_part : (part : Part) → IsPart part → length (part_text part) ≤ SMALL_PAGE_LIMIT → IsSound part
sound_part Title h short = tt
sound_part (Number n) h short = h
sound_part (Quoted text) h short = short_text text (omega (arith, length-append text (34 ∷ [])))

sound_parts : (parts : List Part) → AreParts parts → length (flat_map added_text parts) ≤ SMALL_PAGE_LIMIT → AreSound parts
sound_parts [] h short = tt
sound_parts (part ∷ parts) h short =
    let all = length-append (added_text part) (flat_map added_text parts) in
    let one = length-append (codes " + ") (part_text part) in
    (sound_part part h.0 (omega arith), sound_parts parts h.1 (omega arith))

sound_sum : (sum : Sum) → IsSum sum → length (sum_text sum) ≤ SMALL_PAGE_LIMIT → IsSoundSum sum
sound_sum sum h short =
    let all = length-append (part_text sum.first) (flat_map added_text sum.more) in
    record { first = sound_part sum.first h.first (omega arith); more = sound_parts sum.more h.more (omega arith); few = h.few }

sound_line : (logs : List ℕ) (line : Line) → IsSum (sum_of line) → length (line_text logs line) ≤ SMALL_PAGE_LIMIT → IsSoundSum (sum_of line)
sound_line logs (Log sum) h short =
    let all = length-append logs (40 ∷ (sum_text sum ++ codes ");")) in
    let rest = length-append (sum_text sum) (codes ");") in
    sound_sum sum h (omega arith)
sound_line logs (SetTitle sum) h short =
    let all = length-append (codes "document.title = ") (sum_text sum ++ codes ";") in
    let rest = length-append (sum_text sum) (codes ";") in
    sound_sum sum h (omega arith)

page_lines : (lines : List Line) → AreLines lines → length (page_script_text lines) ≤ SMALL_PAGE_LIMIT → AreSoundLines lines
page_lines [] h short = tt
page_lines (line ∷ []) h short = (sound_line (codes "console.log") line h.0 short, tt)
page_lines (line ∷ (next ∷ lines)) h short =
    let all = length-append (page_line line) (10 ∷ page_script_text (next ∷ lines)) in
    (sound_line (codes "console.log") line h.0 (omega arith), page_lines (next ∷ lines) h.1 (omega arith))

script_lines : (lines : List Line) → AreLines lines → length (flat_map userscript_line lines) ≤ SMALL_PAGE_LIMIT → AreSoundLines lines
script_lines [] h short = tt
script_lines (line ∷ lines) h short =
    let all = length-append (userscript_line line) (flat_map userscript_line lines) in
    let one = length-append (line_text (codes "GM_log") line) (10 ∷ []) in
    (sound_line (codes "GM_log") line h.0 (omega arith), script_lines lines h.1 (omega arith))

userscript_lines : (text name : List ℕ) (lines : List Line) → IsUserscript text name lines → AreSoundLines lines
userscript_lines text name lines h =
    let whole = ap length h.whole in
    let front = length-append block_start (name ++ (block_end ++ flat_map userscript_line lines)) in
    let named = length-append name (block_end ++ flat_map userscript_line lines) in
    let rest = length-append block_end (flat_map userscript_line lines) in
    script_lines lines h.adds (omega (arith, h.short))

-- the lines of a text that is short enough
pub lines_sound : (zone : Zone) (text : List ℕ) (lines : List Line) → Reads zone text lines → length text ≤ SMALL_PAGE_LIMIT → AreSoundLines lines
lines_sound Page text lines h short = page_lines lines h.adds (subst (λ (t : List ℕ). length t ≤ SMALL_PAGE_LIMIT) h.whole short)
lines_sound XrayScript text lines h short = userscript_lines text h.0 lines h.1
lines_sound Host text lines h short = absurd h
lines_sound PlainScript text lines h short = absurd h
