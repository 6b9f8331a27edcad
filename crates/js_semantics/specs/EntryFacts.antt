-- What entries do one after the other on one machine, computed by the definitions alone. A script's first cell has the place 300.
use Rattle.std.specs.Prelude.{◌≡◌, ℕ, List, [], ◌∷◌, Some, true, codes}
use Rattle.base_text.specs.declared.operators.BinaryOp.TheVariants as binary
use Rattle.base_text.specs.declared.operators.UnaryOp.TheVariants as unary
use Rattle.door.specs.declared.values.Kind.TheVariants.{Window, Event}
use Rattle.door.specs.declared.values.Thing.{Thing}
use Rattle.door.specs.declared.marks.Outcome.TheVariants.{Done, Throw}
use Rattle.js_syntax.specs.declared.tree.Expr.TheVariants as ex
use Rattle.js_syntax.specs.declared.tree.Stmt.{Stmt}
use Rattle.js_syntax.specs.declared.tree.Stmt.TheVariants as st
use Rattle.js_semantics.specs.Solo.{Stuck}
use Rattle.js_semantics.specs.Meaning.{script_entry, timer_entry}
use Rattle.js_semantics.specs.Entries.{listener_entry}
use Rattle.js_semantics.specs.Intrinsics.{fresh}
use Rattle.js_semantics.specs.Programs.{Ran, EntryOn, left_by, nothing_ran, the_page, n, name, do_, say, var_, assign, member, declared}

-- entries of the page one after the other, of 50 units and 12 levels each
abbrev script : List Stmt → EntryOn
script body m = script_entry 50 12 body m (λ m answer. Stuck)

abbrev timer : ℕ → EntryOn
timer place m = timer_entry 50 12 place m (λ m answer. Stuck)

abbrev listener : ℕ → Thing → Thing → EntryOn
listener place event current m = listener_entry 50 12 place event current m (λ m answer. Stuck)

abbrev window : Thing
window = record { kind = Window; number = 0 }

abbrev event : Thing
event = record { kind = Event; number = 1 }

-- what was logged by all, and how the last one ended
abbrev Do : List EntryOn → Ran → Type 0
Do entries last = left_by entries (Some (nothing_ran (fresh the_page))) ≡ Some last

pub record Entries : Type 0 where
  -- var k = 1; function f() { k = k + 1; console.log(k); } and two timers that call f
  pub timers : Do (script (var_ (codes "k") (n 1) ∷ declared (codes "f") [] (do_ (assign (name (codes "k")) (ex.Binary binary.Add (name (codes "k")) (n 1))) ∷ say (name (codes "k")) ∷ []) ∷ [])
      ∷ timer 300 ∷ timer 300 ∷ []) (record { log = codes "2" ∷ codes "3" ∷ []; outcome = Done; units = 12 })
  -- function f(e) { console.log(this === e); console.log(typeof e); } and a listener that calls f on the window with an event
  pub listeners : Do (script (declared (codes "f") (codes "e" ∷ []) (say (ex.Binary binary.Same ex.This (name (codes "e"))) ∷ say (ex.Unary unary.TypeOf (name (codes "e"))) ∷ []) ∷ [])
      ∷ listener 300 event window ∷ []) (record { log = codes "false" ∷ codes "object" ∷ []; outcome = Done; units = 18 })
  -- function f() { throw 1; } while (true) { } which stops, and then a timer that calls f
  pub after_stop : Do (script (declared (codes "f") [] (st.Throw (n 1) ∷ []) ∷ st.While (ex.Bool true) (st.Block []) ∷ []) ∷ timer 300 ∷ [])
      (record { log = []; outcome = Throw (codes "1"); units = 2 })
  -- this.k = 2; in one script is k in the next
  pub kept : Do (script (do_ (assign (member ex.This (codes "k")) (n 2)) ∷ []) ∷ script (say (name (codes "k")) ∷ []) ∷ [])
      (record { log = codes "2" ∷ []; outcome = Done; units = 7 })
