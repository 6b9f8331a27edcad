-- What a small script is shown in a genuine run; this project's own.
use Rattle.std.specs.Prelude.{◌≡◌, ◌≤◌, ℕ, suc, true, List, [], ◌∷◌, length}
use Rattle.base_text.specs.Scalars.{utf8_len}
use Rattle.base_text.specs.declared.text.TheConstants.{TEXT_LIMIT}
use Rattle.door.specs.declared.grants.GrantSet.{GrantSet}
use Rattle.door.specs.declared.zones.Zone.{Zone}
use Rattle.door.specs.declared.zones.Zone.TheVariants.{Page, XrayScript}
use Rattle.door.specs.declared.values.Kind.TheVariants.{Document}
use Rattle.door.specs.declared.values.Value.{Value}
use Rattle.door.specs.declared.values.Value.TheVariants.{Thing as ThingValue, Str as StrValue}
use Rattle.door.specs.declared.requests.Answer.{Answer}
use Rattle.door.specs.declared.requests.Answer.TheVariants.{Value as ValueAnswer}
use Rattle.door.specs.declared.marks.Entry.{Entry}
use Rattle.door.specs.declared.marks.Entry.TheVariants.{Script}
use Rattle.small_forms.specs.declared.limits.TheConstants.{SMALL_PAGE_LIMIT}
use Rattle.small_forms.specs.declared.script.Line.{Line}
use Rattle.js_semantics.specs.Entries.{Spells}
use Rattle.small_meaning.specs.Rows.{Reads}
use Rattle.solo_model.specs.Solo.{Show, Enters, Answers, Backs}
use Rattle.solo_model.specs.Things.{thing_of}
use Rattle.small_scripts.specs.Trees.{body_of}

-- the page, or a userscript to which the log is granted
abbrev pub MayRun : Zone → GrantSet → Type 0
MayRun Page grants = Unit {0}
MayRun XrayScript grants = grants.log ≡ true
MayRun zone grants = ⊥

-- no text of the language is longer
abbrev pub IsText : List ℕ → Type 0
IsText text = utf8_len text ≤ TEXT_LIMIT

-- a thing is the document, which is the second thing that was met, and a text is one of the language
abbrev pub FitsValue : Value → Type 0
FitsValue (ThingValue thing) = thing ≡ thing_of Document 1
FitsValue (StrValue text) = IsText text
FitsValue value = Unit {0}

abbrev pub FitsAnswer : Answer → Type 0
FitsAnswer (ValueAnswer value) = FitsValue value
FitsAnswer answer = Unit {0}

-- a script is at most as long as a page, and where it is read as lines it spells their statements
abbrev pub FitsEntry : Zone → Entry → Type 0
FitsEntry zone (Script text) = (length text ≤ SMALL_PAGE_LIMIT) × ((lines : List Line) → Reads zone text lines → Spells text (body_of zone lines))
FitsEntry zone entry = Unit {0}

abbrev pub FitsShow : Zone → Show → Type 0
FitsShow zone (Enters entry) = FitsEntry zone entry
FitsShow zone (Answers answer) = FitsAnswer answer
FitsShow zone (Backs answer) = Unit {0}

-- each show fits
abbrev pub AreFit : Zone → List Show → Type 0
AreFit zone [] = Unit {0}
AreFit zone (show ∷ shows) = FitsShow zone show × AreFit zone shows

-- how many entries are shown
abbrev pub entries_in : List Show → ℕ
entries_in [] = 0
entries_in (Enters entry ∷ shows) = suc (entries_in shows)
entries_in (show ∷ shows) = entries_in shows
