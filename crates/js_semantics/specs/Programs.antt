-- Small programs of the page, and what they do: their log, how they end, and the units that they use.
use Rattle.std.specs.Prelude.{◌≡◌, ℕ, List, [], ◌∷◌, ◌++◌, Option, Some, None, true, false, pos, codes}
use Rattle.door.specs.declared.zones.Zone.TheVariants.{Page, XrayScript}
use Rattle.door.specs.declared.values.Value.TheVariants as door
use Rattle.door.specs.declared.values.Kind.TheVariants.{Event}
use Rattle.door.specs.declared.members.Member.TheVariants.{ConsoleLog, EventTargetDispatchEvent}
use Rattle.door.specs.declared.requests.Request.{Request}
use Rattle.door.specs.declared.requests.Request.TheVariants.{Native}
use Rattle.door.specs.declared.requests.Answer.{Answer}
use Rattle.door.specs.declared.requests.Answer.TheVariants.{Value as ValueAnswer}
use Rattle.door.specs.declared.marks.Outcome.{Outcome}
use Rattle.door.specs.declared.marks.Outcome.TheVariants.{Done as DoneOutcome}
use Rattle.js_syntax.specs.declared.tree.Expr.{Expr}
use Rattle.js_syntax.specs.declared.tree.Expr.TheVariants as ex
use Rattle.js_syntax.specs.declared.tree.Stmt.{Stmt}
use Rattle.js_syntax.specs.declared.tree.Stmt.TheVariants as st
use Rattle.dom_semantics.specs.Things.{thing_of}
use Rattle.js_semantics.specs.Machine.{Machine}
use Rattle.js_semantics.specs.Solo.{Program, Asks, Emits, Stuck, Dispatches, Leaves}
use Rattle.js_semantics.specs.Intrinsics.{Setup, fresh}
use Rattle.js_semantics.specs.Meaning.{script_entry}

-- a program's log, how it ends, and its units
pub record Ran : Type 0 where
  pub log : List (List ℕ)
  pub outcome : Outcome
  pub units : ℕ

-- what ran, and the machine that an entry leaves
pub record Left : Type 0 where
  pub last : Ran
  pub machine : Machine

-- what a tree leaves where each line that it logs, after these, is answered, and it asks for nothing else
unfoldable pub left : Program Machine → List (List ℕ) → Option Left
left (Asks (Native ConsoleLog thing (door.Str line ∷ [])) next) log = left (next (ValueAnswer door.Undefined)) (log ++ line ∷ [])
left (Emits (Leaves outcome units) levels m back) log = Some (record { last = record { log = log; outcome = outcome; units = units }; machine = m })
left tree log = None

-- an entry on a machine
abbrev pub EntryOn : Type 0
EntryOn = Machine → Program Machine

-- entries one after the other, each on the machine that the one before it left
abbrev pub left_by : List EntryOn → Option Left → Option Ran
left_by entries None = None
left_by [] (Some it) = Some it.last
left_by (entry ∷ entries) (Some it) = left_by entries (left (entry it.machine) it.last.log)

-- before anything
abbrev pub nothing_ran : Machine → Left
nothing_ran m = record { last = record { log = []; outcome = DoneOutcome; units = 0 }; machine = m }

-- what a program asks for, how it ends, and its units
pub record Acted : Type 0 where
  pub asked : List Request
  pub outcome : Outcome
  pub units : ℕ

-- what a tree does when these answers are given, in order; a dispatch counts as the request for it, and its answer is what comes back
unfoldable pub acted : List Answer → List Request → Program Machine → Option Acted
acted answers asked (Emits (Leaves outcome units) levels m back) = Some (record { asked = asked; outcome = outcome; units = units })
acted (answer ∷ answers) asked (Asks request next) = acted answers (asked ++ request ∷ []) (next answer)
acted (answer ∷ answers) asked (Emits (Dispatches event target) levels m back) =
    acted answers (asked ++ Native EventTargetDispatchEvent target (door.Thing (thing_of Event event) ∷ []) ∷ []) (back m answer)
acted answers asked tree = None

-- the page's set-up
abbrev pub the_page : Setup
the_page = record {
  zone = Page;
  grants = record { no_grant = false; unsafe_window = false; get_value = false; set_value = false; delete_value = false; list_values = false; log = false };
  address = codes "http://example.com/";
}

-- a userscript's set-up, with the log granted
abbrev pub a_userscript : Setup
a_userscript = record the_page { zone = XrayScript; grants = record { no_grant = false; unsafe_window = false; get_value = false; set_value = false; delete_value = false; list_values = false; log = true } }

-- what a script of this set-up does when these answers are given
abbrev pub acted_in : Setup → (fuel levels : ℕ) → List Stmt → List Answer → Option Acted
acted_in setup fuel levels body answers = acted answers [] (script_entry fuel levels body (fresh setup) (λ m answer. Stuck))

-- it asks for this
abbrev pub AsksIn : Setup → (fuel levels : ℕ) → List Stmt → List Answer → List Request → Outcome → (units : ℕ) → Type 0
AsksIn setup fuel levels body answers asked outcome units =
    acted_in setup fuel levels body answers ≡ Some (record { asked = asked; outcome = outcome; units = units })

-- a userscript asks for this when it is given these answers
abbrev pub AsksFor : (fuel levels : ℕ) → List Stmt → List Answer → List Request → Outcome → (units : ℕ) → Type 0
AsksFor fuel levels body answers asked outcome units = AsksIn a_userscript fuel levels body answers asked outcome units

-- these answers are none of a run
abbrev pub Misfits : (fuel levels : ℕ) → List Stmt → List Answer → Type 0
Misfits fuel levels body answers = acted_in a_userscript fuel levels body answers ≡ None

-- a script does this on a machine, with so much fuel and so many levels
abbrev pub DoesIn : Machine → (fuel levels : ℕ) → List Stmt → List (List ℕ) → Outcome → (units : ℕ) → Type 0
DoesIn m fuel levels body log outcome units =
    left_by ((λ m. script_entry fuel levels body m (λ m answer. Stuck)) ∷ []) (Some (nothing_ran m)) ≡ Some (record { log = log; outcome = outcome; units = units })

-- the same of the page's first script
abbrev pub Does : (fuel levels : ℕ) → List Stmt → List (List ℕ) → Outcome → (units : ℕ) → Type 0
Does fuel levels body log outcome units = DoesIn (fresh the_page) fuel levels body log outcome units

-- ---- how programs are written

abbrev pub n : ℕ → Expr
n k = ex.Number (pos k)

abbrev pub do_ : Expr → Stmt
do_ e = st.Expression e

abbrev pub name : List ℕ → Expr
name x = ex.Name x

abbrev pub member : Expr → List ℕ → Expr
member e key = ex.Member e key

abbrev pub call : Expr → List Expr → Expr
call e es = ex.Call e es

abbrev pub assign : Expr → Expr → Expr
assign a b = ex.Assign a b

-- `console.log(a);`
abbrev pub console_log : Expr
console_log = ex.Member (ex.Name (codes "console")) (codes "log")

abbrev pub say : Expr → Stmt
say e = st.Expression (ex.Call console_log (e ∷ []))

-- `var a = b;`
abbrev pub var_ : List ℕ → Expr → Stmt
var_ name e = st.Var (record { name = name; value = Some e } ∷ [])

-- `function (a) { .. }` and `function f(a) { .. }`
abbrev pub lambda : List (List ℕ) → List Stmt → Expr
lambda params body = ex.Function (record { name = None; params = params; body = body })

abbrev pub declared : List ℕ → List (List ℕ) → List Stmt → Stmt
declared name params body = st.Function (record { name = Some name; params = params; body = body })
