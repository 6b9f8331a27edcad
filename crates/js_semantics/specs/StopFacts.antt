-- What small programs do, computed by the definitions alone: stops and uncaught throws. The expected values are those of ECMAScript and of the costs of this
-- project.
use Rattle.std.specs.Prelude.{[], ◌∷◌, Some, None, true, codes}
use Rattle.door.specs.declared.marks.Outcome.TheVariants.{Done, Throw, Stop}
use Rattle.door.specs.declared.marks.StopKind.TheVariants.{Fuel, Levels, Cells}
use Rattle.js_syntax.specs.declared.tree.Expr.TheVariants as ex
use Rattle.js_syntax.specs.declared.tree.Stmt.TheVariants as st
use Rattle.js_semantics.specs.Programs.{Does, DoesIn, the_page, n, name, do_, say, call, declared}
use Rattle.js_semantics.specs.Intrinsics.{fresh}

-- stops, and what is shown of a thrown value
pub record Stops : Type 0 where
  -- while (true) { }
  pub endless : Does 20 6 (st.While (ex.Bool true) (st.Block []) ∷ []) [] (Stop Fuel) 20
  -- try { while (true) { } } finally { console.log(1); }
  pub no_finally : Does 20 8 (st.Try (st.Block (st.While (ex.Bool true) (st.Block []) ∷ [])) None (Some (st.Block (say (n 1) ∷ []))) ∷ []) [] (Stop Fuel) 20
  -- console.log(1); with the units that it needs, and with one less
  pub enough : Does 7 6 (say (n 1) ∷ []) (codes "1" ∷ []) Done 7
  pub too_few : Does 6 6 (say (n 1) ∷ []) [] (Stop Fuel) 6
  -- console.log(1); with three levels: those of the entry, the statement and the call
  pub shallow : Does 20 3 (say (n 1) ∷ []) [] (Stop Levels) 2
  -- function f() { f(); } f();
  pub recursion : Does 20 6 (declared (codes "f") [] (do_ (call (name (codes "f")) []) ∷ []) ∷ do_ (call (name (codes "f")) []) ∷ []) [] (Stop Levels) 6
  -- []; []; where there is room for one cell
  pub full : DoesIn (record (fresh the_page) { room = 1 }) 20 6 (do_ (ex.Array []) ∷ do_ (ex.Array []) ∷ []) [] (Stop Cells) 4
  -- try { []; } catch (e) { console.log(1); } where there is none
  pub uncaught : DoesIn (record (fresh the_page) { room = 0 }) 20 8 (st.Try (st.Block (do_ (ex.Array []) ∷ [])) (Some (record { name = codes "e"; block = st.Block (say (n 1) ∷ []) })) None ∷ [])
      [] (Stop Cells) 4
  -- throw new TypeError("no");
  pub error : Does 20 6 (st.Throw (ex.New (name (codes "TypeError")) (ex.Str (codes "no") ∷ [])) ∷ []) [] (Throw (codes "TypeError: no")) 4
  -- throw {};
  pub object : Does 20 6 (st.Throw (ex.Object []) ∷ []) [] (Throw (codes "[object]")) 2
