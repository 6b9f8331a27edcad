-- How an entry goes on with a machine that waits (HTML, 8.1.4 and 8.6; DOM, 2.9). A script's text is read by the token grammar and the
-- grammar of scripts; where it spells none, the entry is left at once with the first fault, and uses nothing.
use Rattle.std.specs.Prelude.{◌≡◌, ◌⊎◌, ◌&&◌, ℕ, Bool, List, [], ◌∷◌, codes}
use Rattle.door.specs.declared.values.TheConstants.{PAGE}
use Rattle.door.specs.declared.values.Kind.TheVariants.{Event}
use Rattle.door.specs.declared.values.Thing.{Thing}
use Rattle.door.specs.declared.requests.Answer.{Answer}
use Rattle.door.specs.declared.marks.Entry.TheVariants as entry
use Rattle.door.specs.declared.marks.Outcome.TheVariants.{Syntax}
use Rattle.js_syntax.specs.declared.token.Token.{Token}
use Rattle.js_syntax.specs.declared.token_fault.LexKind.{LexKind}
use Rattle.js_syntax.specs.declared.token_fault.LexKind.TheVariants as lex
use Rattle.js_syntax.specs.declared.parse_fault.ParseFault.{ParseFault}
use Rattle.js_syntax.specs.declared.parse_fault.ParseKind.{ParseKind}
use Rattle.js_syntax.specs.declared.parse_fault.ParseKind.TheVariants as parse
use Rattle.js_syntax.specs.declared.tree.Stmt.{Stmt}
use Rattle.js_syntax.specs.Tokens.{AreTokens}
use Rattle.js_syntax.specs.TokenFaults.{IsFault}
use Rattle.js_syntax.specs.Scripts.{IsScript, IsFirstFault}
use Rattle.js_syntax.specs.declared.limits.TheConstants.{CHAIN_LIMIT, LEVEL_LIMIT}
use Rattle.js_semantics.specs.Machine.{Machine, Refers, Own}
use Rattle.js_semantics.specs.Solo.{Program, Emits, Stuck, State, Awaits, Leaves, Entering}
use Rattle.door.specs.declared.limits.TheConstants.{FUEL_LIMIT, LEVEL_LIMIT as CALL_LIMIT}
use Rattle.dom_semantics.specs.Fits.{OfTarget, is_receiver}
use Rattle.dom_semantics.specs.Things.{is_kind}
use Rattle.js_semantics.specs.Evaluator.{Meaning, bind, choose}
use Rattle.js_semantics.specs.Meetings.{misfit, met_row}
use Rattle.js_semantics.specs.Intrinsics.{Setup, fresh}
use Rattle.js_semantics.specs.Meaning.{with_level, leave, at_callback, script_entry, timer_entry}

-- the units of an entry, and the levels of an actor over all its unfinished entries
abbrev pub FUEL : ℕ
FUEL = FUEL_LIMIT

abbrev pub LEVELS : ℕ
LEVELS = CALL_LIMIT

-- ---- a script's text

-- the statements that a text spells
abbrev pub Spells : List ℕ → List Stmt → Type 0
Spells text body = (ts : List Token) × AreTokens text ts × IsScript CHAIN_LIMIT LEVEL_LIMIT ts (record { body = body })

abbrev pub lex_name : LexKind → List ℕ
lex_name lex.BadScalar = codes "BadScalar"
lex_name lex.UnclosedText = codes "UnclosedText"
lex_name lex.UnclosedComment = codes "UnclosedComment"
lex_name lex.WideNumber = codes "WideNumber"
lex_name lex.TooLong = codes "TooLong"

abbrev pub parse_name : ParseKind → List ℕ
parse_name parse.Unexpected = codes "Unexpected"
parse_name parse.TooDeep = codes "TooDeep"

-- a text has no tokens, and this is its first fault, by place and name
abbrev pub HasNoTokens : List ℕ → ℕ → List ℕ → Type 0
HasNoTokens text at name = (kind : LexKind) × IsFault text at kind × (name ≡ lex_name kind)

-- a text has tokens, but they spell no script
abbrev pub HasNoScript : List ℕ → ℕ → List ℕ → Type 0
HasNoScript text at name =
    (ts : List Token) × (fault : ParseFault) × AreTokens text ts × IsFirstFault CHAIN_LIMIT LEVEL_LIMIT ts fault × (at ≡ fault.at) × (name ≡ parse_name fault.kind)

-- ---- entries

-- a script runs
abbrev pub Runs : List ℕ → (levels : ℕ) → Machine → (Machine → Answer → Program Machine) → Program Machine → Type 0
Runs text levels m back tree = (body : List Stmt) × Spells text body × (tree ≡ script_entry FUEL levels body m back)

-- or it is left with its fault
abbrev pub Refuses : List ℕ → (levels : ℕ) → Machine → (Machine → Answer → Program Machine) → Program Machine → Type 0
Refuses text levels m back tree =
    (at : ℕ) × (name : List ℕ) × (HasNoTokens text at name ⊎ HasNoScript text at name) × (tree ≡ Emits (Leaves (Syntax at name) 0) levels m back)

-- a listener is called on the current target with the event; both are met first, also where no level is left for the entry
abbrev pub called_on : (levels : ℕ) → ℕ → Thing → Thing → Meaning
called_on levels place event current m f c = met_row event m f (bind (λ event m f. met_row current m f (bind (λ target m f.
    with_level levels (λ ev. ev.call (Refers (Own place)) target (event ∷ [])) m f c) c)) c)

-- what is listened for is an event, and where, is the window or a node
abbrev pub is_listened : Thing → Thing → Bool
is_listened event current = is_kind Event event.kind && is_receiver PAGE OfTarget current

abbrev pub listener_row : (levels : ℕ) → ℕ → Thing → Thing → Meaning
listener_row levels place event current m f c =
    choose (is_listened event current) (λ m f. at_callback place (λ m f c. called_on levels place event current m f c) m f c) misfit m f

abbrev pub listener_entry : (fuel levels : ℕ) → (place : ℕ) → Thing → Thing → Machine → (Machine → Answer → Program Machine) → Program Machine
listener_entry fuel levels place event current m back = listener_row levels place event current m fuel (leave fuel levels back)

-- how each entry goes on; serving others isn't built yet
abbrev pub enters : Entering Machine
enters (entry.Script text) levels m back tree = Runs text levels m back tree ⊎ Refuses text levels m back tree
enters (entry.Listener place event current) levels m back tree = tree ≡ listener_entry FUEL levels place event current m back
enters (entry.Timer place) levels m back tree = tree ≡ timer_entry FUEL levels place m back
enters (entry.Serve value operation) levels m back tree = ⊥

-- before anything the machine waits for an entry; nothing is unfinished, so nothing comes back
abbrev pub beginning : Setup → State Machine
beginning setup = Awaits LEVELS (fresh setup) (λ m answer. Stuck)
