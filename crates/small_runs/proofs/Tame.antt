-- What small scripts ask fits the table, whatever true answers they are given, and they end without a fault of syntax.
use Rattle.std.proofs.Common.{◌≡◌, ◌⊎◌, inl, inr, sym, refl, subst, ℕ, ◌+◌, ◌-◌, ◌*◌, ◌≤◌, Bool, true, false, List, [], ◌∷◌, ◌++◌, arith, length, nat_le, nat_lt, if◌then◌else◌}
use Rattle.std.proofs.lemmas.Bool.Decides.{nat_tests}
use Rattle.std.specs.Fmt.{decimal}
use Rattle.base_text.specs.Scalars.{utf8_len}
use Rattle.base_text.specs.declared.text.TheConstants.{TEXT_LIMIT}
use Rattle.door.specs.declared.zones.Zone.{Zone}
use Rattle.door.specs.declared.zones.Zone.TheVariants.{Page, XrayScript}
use Rattle.door.specs.declared.values.Kind.TheVariants.{Document}
use Rattle.door.specs.declared.values.Thing.{Thing}
use Rattle.door.specs.declared.values.Value.TheVariants.{Thing as ThingValue, Str as StrValue, Undefined}
use Rattle.door.specs.declared.members.Member.TheVariants.{WindowDocument, DocumentTitle, DocumentSetTitle, GmLog, ConsoleLog}
use Rattle.door.specs.declared.requests.ErrorKind.{ErrorKind}
use Rattle.door.specs.declared.requests.ErrorKind.TheVariants.{Limit, TooDeep, TooLong}
use Rattle.door.specs.declared.requests.Request.{Request}
use Rattle.door.specs.declared.requests.Request.TheVariants.{Native}
use Rattle.door.specs.declared.requests.Answer.{Answer}
use Rattle.door.specs.declared.requests.Answer.TheVariants.{Value as ValueAnswer, Throw as ThrowAnswer}
use Rattle.door.specs.declared.marks.StopKind.{StopKind}
use Rattle.door.specs.declared.marks.StopKind.TheVariants.{Fuel}
use Rattle.door.specs.declared.marks.Outcome.TheVariants.{Done as DoneOutcome, Throw, Stop}
use Rattle.dom_semantics.specs.Things.{the_window, thing_of}
use Rattle.small_forms.specs.declared.script.Part.{Part}
use Rattle.small_forms.specs.declared.script.Part.TheVariants.{Title, Number, Quoted}
use Rattle.small_forms.specs.declared.script.Sum.{Sum}
use Rattle.small_forms.specs.declared.script.Line.{Line}
use Rattle.small_forms.specs.declared.script.Line.TheVariants.{Log, SetTitle}
use Rattle.js_semantics.specs.Solo.{Act, Asks, Emits, Leaves, Program, Stuck}
use Rattle.small_meaning.specs.declared.prim.Prim.{Prim}
use Rattle.small_meaning.specs.declared.prim.Prim.TheVariants.{Number as NumberPrim, Str as StrPrim}
use Rattle.small_meaning.specs.Rows.{Addition, Bare, Cont, Gives, Halts, Lone, Next, Plus, Throws, added, addition_row, argument_units, ask, bind, call_units, charge, document_row, follow, joined_row, leave, line_row, lines_row, log_member, logged_row, part_row, plus_row, sum_row, text_of, text_units, with_document, with_nothing, with_text, with_title, written_row}
use Rattle.small_meaning.specs.Shows.{IsText}
use Rattle.small_meaning.proofs.Texts.{AreSound, AreSoundLines, IsSound, IsSoundSum, number_text}

-- ---- requests and answers

-- a request of a small script of this zone
abbrev pub IsTame : Zone → Request → Type 0
IsTame zone (Native WindowDocument thing []) = Unit {0}
IsTame zone (Native DocumentTitle thing []) = Unit {0}
IsTame zone (Native DocumentSetTitle thing (StrValue text ∷ [])) = IsText text
IsTame zone (Native GmLog thing (StrValue text ∷ [])) = IsText text × (zone ≡ XrayScript)
IsTame zone (Native ConsoleLog thing (StrValue text ∷ [])) = IsText text
IsTame zone request = ⊥

-- a text, unless it would be too long
abbrev pub IsTextReply : Answer → Type 0
IsTextReply answer = ((text : List ℕ) × IsText text × (answer ≡ ValueAnswer (StrValue text))) ⊎ (answer ≡ ThrowAnswer TooLong)

-- nothing, unless there would be too many nodes, or one too deep
abbrev pub IsTitleReply : Answer → Type 0
IsTitleReply answer = (answer ≡ ValueAnswer Undefined) ⊎ (answer ≡ ThrowAnswer Limit) ⊎ (answer ≡ ThrowAnswer TooDeep)

-- a true answer as its asker sees it
abbrev pub IsReply : Request → Answer → Type 0
IsReply (Native WindowDocument thing arguments) answer = answer ≡ ValueAnswer (ThingValue (thing_of Document 1))
IsReply (Native DocumentTitle thing arguments) answer = IsTextReply answer
IsReply (Native DocumentSetTitle thing arguments) answer = IsTitleReply answer
IsReply request answer = answer ≡ ValueAnswer Undefined

-- an entry ends without a fault of syntax
abbrev pub IsEnd : Act → Type 0
IsEnd (Leaves DoneOutcome units) = Unit {0}
IsEnd (Leaves (Throw text) units) = Unit {0}
IsEnd (Leaves (Stop stop) units) = Unit {0}
IsEnd act = ⊥

-- what is left to do asks tamely and ends so
unfoldable pub Tame : Zone → Program Bare → Type 0
Tame zone (Asks request next) = IsTame zone request × ((answer : Answer) → IsReply request answer → Tame zone (next answer))
Tame zone (Emits act levels m back) = IsEnd act
Tame zone Stuck = ⊥

-- ---- what follows

-- throws and stops are followed tamely
pub record Ends (zone : Zone) (c : Cont) : Type 0 where
  pub throws : (reason : ErrorKind) (f : ℕ) → Tame zone (c (Throws reason) f)
  pub halts : (stop : StopKind) (f : ℕ) → Tame zone (c (Halts stop) f)

-- a number of so many parts is small, and a text is one of the language
abbrev pub Fine : ℕ → Prim → Type 0
Fine parts (NumberPrim n) = n ≤ 999 * parts
Fine parts (StrPrim text) = IsText text

-- and so is a value
abbrev Follows : Zone → ℕ → Cont → Type 0
Follows zone parts c = (value : Prim) (f : ℕ) → Fine parts value → Tame zone (c (Gives value) f)

charged : (zone : Zone) (units : ℕ) (k : ℕ → Program Bare) (c : Cont) (f : ℕ) → Ends zone c → ((g : ℕ) → Tame zone (k g)) → Tame zone (charge units k c f)
unfolding charge
charged zone units k c f e h =
    elim (nat_le units f) as (λ b. Tame zone (if b then k (f - units) else c (Halts Fuel) 0)) [
      | true ↦ h (f - units)
      | false ↦ e.halts Fuel 0
    ]

asked : (zone : Zone) (request : Request) (k : Answer → ℕ → Program Bare) (c : Cont) (f : ℕ) → Ends zone c → IsTame zone request
    → ((answer : Answer) (g : ℕ) → IsReply request answer → Tame zone (k answer g)) → Tame zone (ask request k c f)
unfolding Tame
asked zone request k c f e tame h = charged zone 1 (λ fuel. Asks request (λ given. k given fuel)) c f e (λ g. (tame, λ answer reply. h answer g reply))

-- ---- rows

document_tame : (zone : Zone) (k : Thing → ℕ → Program Bare) (c : Cont) (f : ℕ) → Ends zone c → ((thing : Thing) (g : ℕ) → Tame zone (k thing g)) → Tame zone (document_row k c f)
document_tame zone k c f e h =
    charged zone 1 (ask (Native WindowDocument the_window []) (with_document k) c) c f e
    (λ g. asked zone (Native WindowDocument the_window []) (with_document k) c g e tt
    (λ answer j reply. subst (λ (a : Answer). Tame zone (with_document k a j)) (sym reply) (h (thing_of Document 1) j)))

text_tame : (zone : Zone) (k : List ℕ → ℕ → Program Bare) (c : Cont) (answer : Answer) (f : ℕ) → Ends zone c → ((text : List ℕ) (g : ℕ) → IsText text → Tame zone (k text g))
    → IsTextReply answer → Tame zone (with_text k c answer f)
text_tame zone k c answer f e h (inl (text, short, is)) = subst (λ (a : Answer). Tame zone (with_text k c a f)) (sym is) (h text f short)
text_tame zone k c answer f e h (inr is) = subst (λ (a : Answer). Tame zone (with_text k c a f)) (sym is) (e.throws TooLong f)

nothing_tame : (zone : Zone) (k : ℕ → Program Bare) (answer : Answer) (f : ℕ) → ((g : ℕ) → Tame zone (k g)) → answer ≡ ValueAnswer Undefined → Tame zone (with_nothing k answer f)
nothing_tame zone k answer f h is = subst (λ (a : Answer). Tame zone (with_nothing k a f)) (sym is) (h f)

title_tame : (zone : Zone) (k : ℕ → Program Bare) (c : Cont) (answer : Answer) (f : ℕ) → Ends zone c → ((g : ℕ) → Tame zone (k g)) → IsTitleReply answer → Tame zone (with_title k c answer f)
title_tame zone k c answer f e h (inl is) = subst (λ (a : Answer). Tame zone (with_title k c a f)) (sym is) (h f)
title_tame zone k c answer f e h (inr (inl is)) = subst (λ (a : Answer). Tame zone (with_title k c a f)) (sym is) (e.throws Limit f)
title_tame zone k c answer f e h (inr (inr is)) = subst (λ (a : Answer). Tame zone (with_title k c a f)) (sym is) (e.throws TooDeep f)

part_tame : (zone : Zone) (part : Part) (c : Cont) (f : ℕ) → IsSound part → Ends zone c → Follows zone 1 c → Tame zone (part_row part c f)
part_tame zone Title c f sound e h =
    charged zone 1 (document_row (λ document. ask (Native DocumentTitle document []) (with_text (λ text. c (Gives (StrPrim text))) c) c) c) c f e
    (λ g. document_tame zone (λ document. ask (Native DocumentTitle document []) (with_text (λ text. c (Gives (StrPrim text))) c) c) c g e
    (λ thing j. asked zone (Native DocumentTitle thing []) (with_text (λ text. c (Gives (StrPrim text))) c) c j e tt
    (λ answer l reply. text_tame zone (λ text. c (Gives (StrPrim text))) c answer l e (λ text o short. h (StrPrim text) o short) reply)))
part_tame zone (Number n) c f sound e h = charged zone 1 (c (Gives (NumberPrim n))) c f e (λ g. h (NumberPrim n) g (omega (arith, sound)))
part_tame zone (Quoted text) c f sound e h = charged zone 1 (c (Gives (StrPrim text))) c f e (λ g. h (StrPrim text) g sound)

within : (n m : ℕ) → nat_lt m n ≡ false → n ≤ m
within n m e = grind (arith, nat_tests)

joined_tame : (zone : Zone) (text : List ℕ) (c : Cont) (f : ℕ) → Ends zone c → ((g : ℕ) → IsText text → Tame zone (c (Gives (StrPrim text)) g)) → Tame zone (joined_row text c f)
joined_tame zone text c f e h = by (nat_lt TEXT_LIMIT (utf8_len text)) refl
  where
    by : (b : Bool) → nat_lt TEXT_LIMIT (utf8_len text) ≡ b → Tame zone (if b then c (Throws TooLong) f else charge (text_units text) (c (Gives (StrPrim text))) c f)
    by true k = e.throws TooLong f
    by false k = charged zone (text_units text) (c (Gives (StrPrim text))) c f e (λ g. h g (within (utf8_len text) TEXT_LIMIT k))

plus_tame : (zone : Zone) (parts : ℕ) (x y : Prim) (c : Cont) (f : ℕ) → Fine parts x → Fine 1 y → Ends zone c → Follows zone (parts + 1) c → Tame zone (plus_row x y c f)
plus_tame zone parts (NumberPrim a) (NumberPrim b) c f p q e h = h (NumberPrim (a + b)) f (omega (arith, p, q))
plus_tame zone parts (NumberPrim a) (StrPrim b) c f p q e h = joined_tame zone (decimal a ++ b) c f e (λ g short. h (StrPrim (decimal a ++ b)) g short)
plus_tame zone parts (StrPrim a) (NumberPrim b) c f p q e h = joined_tame zone (a ++ decimal b) c f e (λ g short. h (StrPrim (a ++ decimal b)) g short)
plus_tame zone parts (StrPrim a) (StrPrim b) c f p q e h = joined_tame zone (a ++ b) c f e (λ g short. h (StrPrim (a ++ b)) g short)

bind_ends : (zone : Zone) (k : Prim → ℕ → Program Bare) (c : Cont) → Ends zone c → Ends zone (bind k c)
bind_ends zone k c e = record { throws = λ reason f. e.throws reason f; halts = λ stop f. e.halts stop f }

-- ---- sums

abbrev SoundAddition : Addition → Type 0
SoundAddition (Lone part) = IsSound part
SoundAddition (Plus left part) = SoundAddition left × IsSound part

-- the parts of a sum
abbrev parts_in : Addition → ℕ
parts_in (Lone part) = 1
parts_in (Plus left part) = parts_in left + 1

addition_tame : (zone : Zone) (addition : Addition) (c : Cont) (f : ℕ) → SoundAddition addition → Ends zone c → Follows zone (parts_in addition) c → Tame zone (addition_row addition c f)
unfolding addition_row
addition_tame zone (Lone part) c f sound e h = part_tame zone part c f sound e h
addition_tame zone (Plus left part) c f (sound, right) e h =
    let inner : Prim → Cont = λ x. bind (λ y. plus_row x y c) c in
    charged zone 1 (addition_row left (bind (λ x. part_row part (inner x)) c)) c f e
    (λ g. addition_tame zone left (bind (λ x. part_row part (inner x)) c) g sound (bind_ends zone (λ x. part_row part (inner x)) c e)
    (λ x j fine. part_tame zone part (inner x) j right (bind_ends zone (λ y. plus_row x y c) c e) (λ y l other. plus_tame zone (parts_in left) x y c l fine other e h)))

added_sound : (left : Addition) (parts : List Part) → SoundAddition left → AreSound parts → SoundAddition (added left parts)
added_sound left [] h k = h
added_sound left (part ∷ parts) h k = added_sound (Plus left part) parts (h, k.0) k.1

added_many : (left : Addition) (parts : List Part) → parts_in (added left parts) ≡ parts_in left + length parts
added_many left [] = omega arith
added_many left (part ∷ parts) = omega (arith, added_many (Plus left part) parts)

fine_more : (n m : ℕ) (value : Prim) → n ≤ m → Fine n value → Fine m value
fine_more n m (NumberPrim k) le h = omega (arith, le, h)
fine_more n m (StrPrim text) le h = h

sum_tame : (zone : Zone) (sum : Sum) (c : Cont) (f : ℕ) → IsSoundSum sum → Ends zone c → Follows zone 8 c → Tame zone (sum_row sum c f)
sum_tame zone sum c f sound e h =
    let few : parts_in (added (Lone sum.first) sum.more) ≤ 8 = omega (arith, added_many (Lone sum.first) sum.more, sound.few) in
    addition_tame zone (added (Lone sum.first) sum.more) c f (added_sound (Lone sum.first) sum.more sound.first sound.more) e (λ value g fine. h value g (fine_more _ 8 value few fine))

value_text : (value : Prim) → Fine 8 value → IsText (text_of value)
value_text (NumberPrim n) h = number_text n (omega (arith, h))
value_text (StrPrim text) h = h

-- ---- lines

-- small scripts are of the page or see it through Xrays
abbrev pub IsSmallZone : Zone → Type 0
IsSmallZone Page = Unit {0}
IsSmallZone XrayScript = Unit {0}
IsSmallZone zone = ⊥

logs : (zone : Zone) (text : List ℕ) → IsSmallZone zone → IsText text → IsTame zone (Native (log_member zone) the_window (StrValue text ∷ []))
logs Page text small short = short
logs XrayScript text small short = (short, refl)
logs zone text small short = absurd small

logs_reply : (zone : Zone) (text : List ℕ) (answer : Answer) → IsSmallZone zone → IsReply (Native (log_member zone) the_window (StrValue text ∷ [])) answer
    → answer ≡ ValueAnswer Undefined
logs_reply Page text answer small h = h
logs_reply XrayScript text answer small h = h
logs_reply zone text answer small h = absurd small

-- a statement is followed tamely where it ends so and goes on
abbrev pub GoesOn : Zone → Cont → Type 0
GoesOn zone c = Ends zone c × ((f : ℕ) → Tame zone (c Next f))

logged_tame : (zone : Zone) (value : Prim) (c : Cont) (f : ℕ) → IsSmallZone zone → Fine 8 value → GoesOn zone c → Tame zone (logged_row zone value c f)
logged_tame zone value c f small fine (e, next) =
    let request : Request = Native (log_member zone) the_window (StrValue (text_of value) ∷ []) in
    charged zone (text_units (text_of value)) (ask request (with_nothing (c Next)) c) c f e
    (λ g. asked zone request (with_nothing (c Next)) c g e (logs zone (text_of value) small (value_text value fine))
    (λ answer j reply. nothing_tame zone (c Next) answer j next (logs_reply zone (text_of value) answer small reply)))

written_tame : (zone : Zone) (document : Thing) (value : Prim) (c : Cont) (f : ℕ) → Fine 8 value → GoesOn zone c → Tame zone (written_row document value c f)
written_tame zone document value c f fine (e, next) =
    let request : Request = Native DocumentSetTitle document (StrValue (text_of value) ∷ []) in
    charged zone (argument_units value) (ask request (with_title (c Next) c) c) c f e
    (λ g. asked zone request (with_title (c Next) c) c g e (value_text value fine) (λ answer j reply. title_tame zone (c Next) c answer j e next reply))

line_tame : (zone : Zone) (line : Line) (c : Cont) (f : ℕ) → IsSmallZone zone → IsSoundSum (Rattle.small_forms.specs.Scripts.sum_of line) → GoesOn zone c → Tame zone (line_row zone line c f)
line_tame zone (Log sum) c f small sound (e, next) =
    charged zone (call_units zone) (sum_row sum (bind (λ value. logged_row zone value c) c)) c f e
    (λ g. sum_tame zone sum (bind (λ value. logged_row zone value c) c) g sound (bind_ends zone (λ value. logged_row zone value c) c e) (λ value j fine. logged_tame zone value c j small fine (e, next)))
line_tame zone (SetTitle sum) c f small sound (e, next) =
    charged zone 2 (document_row (λ document. sum_row sum (bind (λ value. written_row document value c) c)) c) c f e
    (λ g. document_tame zone (λ document. sum_row sum (bind (λ value. written_row document value c) c)) c g e
    (λ thing j. sum_tame zone sum (bind (λ value. written_row thing value c) c) j sound (bind_ends zone (λ value. written_row thing value c) c e) (λ value l fine. written_tame zone thing value c l fine (e, next))))

lines_tame : (zone : Zone) (lines : List Line) (c : Cont) (f : ℕ) → IsSmallZone zone → AreSoundLines lines → GoesOn zone c → Tame zone (lines_row zone lines c f)
unfolding lines_row
lines_tame zone [] c f small sound (e, next) = next f
lines_tame zone (line ∷ lines) c f small sound (e, next) =
    line_tame zone line (follow (lines_row zone lines c) c) f small sound.0
    (record { throws = λ reason g. e.throws reason g; halts = λ stop g. e.halts stop g }, λ g. lines_tame zone lines c g small sound.1 (e, next))

leave_goes : (zone : Zone) (levels : ℕ) (m : Bare) (back : Bare → Answer → Program Bare) → GoesOn zone (leave levels m back)
unfolding Tame
leave_goes zone levels m back = (record { throws = λ reason f. tt; halts = λ stop f. tt }, λ f. tt)

-- a whole script
pub script_tame : (zone : Zone) (lines : List Line) (levels : ℕ) (m : Bare) (back : Bare → Answer → Program Bare) (f : ℕ) → IsSmallZone zone → AreSoundLines lines
    → Tame zone (lines_row zone lines (leave levels m back) f)
script_tame zone lines levels m back f small sound = lines_tame zone lines (leave levels m back) f small sound (leave_goes zone levels m back)
