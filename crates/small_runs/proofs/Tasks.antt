-- The tasks of a small run are the same by both definitions.
use Rattle.std.proofs.Common.{◌≡◌, ◌∙◌, ap, refl, ℕ, ◌+◌, ◌<◌, ◌≤◌, List, [], ◌∷◌, ◌++◌, arith, length, map, slice_get, Option, Some}
use Prim.Native.Nat.{zero, suc}
use Rattle.std.specs.Prelude.{option_and_then}
use Rattle.std.proofs.lemmas.List.{length-map}
use Rattle.door.specs.declared.limits.TheConstants.{USERSCRIPT_LIMIT}
use Rattle.door.specs.declared.marks.Task.{Task}
use Rattle.door.specs.declared.marks.Task.TheVariants.{Start, Piece as PieceTask, Ready, Load}
use Rattle.dom_semantics.specs.declared.selectors.Compound.{Compound}
use Rattle.small_forms.specs.declared.userscript.Userscript.{Userscript}
use Rattle.small_meaning.proofs.Shown.{tasks_length}
use Rattle.solo_model.specs.Given as given
use Rattle.solo_model.specs.Given.{DocumentEnd, DocumentIdle, DocumentStart, Given, Starter}
use Rattle.solo_model.specs.Lawful.{Piece, numbered, tasks_of}
use Rattle.solo_model.specs.Tasks.{TASK_LIMIT, first_tasks, pieces_from, starts_at}
use Rattle.small_runs.proofs.Turning.{Of}
use Rattle.small_runs.specs.SmallGiven.{given_of, input_of, piece_given, script_given}

none_first : (n : ℕ) (scripts : List Userscript) → starts_at DocumentStart n (map script_given scripts) ≡ []
none_first n [] = refl
none_first n (script ∷ scripts) = none_first (n + 1) scripts

none_idle : (n : ℕ) (scripts : List Userscript) → starts_at DocumentIdle n (map script_given scripts) ≡ []
none_idle n [] = refl
none_idle n (script ∷ scripts) = none_idle (n + 1) scripts

all_at_end : (n : ℕ) (scripts : List Userscript) → starts_at DocumentEnd n (map script_given scripts) ≡ numbered Start n (map (λ (script : Userscript). script.text) scripts)
all_at_end n [] = refl
all_at_end n (script ∷ scripts) = ap (λ ts. Start n ∷ ts) (all_at_end (n + 1) scripts)

pieces_same : (n : ℕ) (pieces : List Piece) → pieces_from n (map piece_given pieces) ≡ numbered PieceTask n pieces
pieces_same n [] = refl
pieces_same n (piece ∷ pieces) = ap (λ ts. PieceTask n ∷ ts) (pieces_same (n + 1) pieces)

pub tasks_same : (address : List ℕ) (pieces : List Piece) (scripts : List Userscript) (read : List ℕ → Option (List (List Compound)))
    → first_tasks (given_of address pieces scripts read) ≡ tasks_of (input_of pieces scripts)
tasks_same address pieces scripts read =
    let end : List Task = starts_at DocumentEnd 0 (map script_given scripts) in
    let idle : List Task = starts_at DocumentIdle 0 (map script_given scripts) in
    let written : List Task = pieces_from 0 (map piece_given pieces) in
    let texts : List (List ℕ) = map (λ (script : Userscript). script.text) scripts in
    ap (λ ts. ts ++ (written ++ (Ready ∷ (end ++ (Load ∷ idle))))) (none_first 0 scripts)
    ∙ ap (λ ts. written ++ (Ready ∷ (end ++ (Load ∷ ts)))) (none_idle 0 scripts)
    ∙ ap (λ ts. written ++ (Ready ∷ (ts ++ (Load ∷ [])))) (all_at_end 0 scripts)
    ∙ ap (λ ts. ts ++ (Ready ∷ (numbered Start 0 texts ++ (Load ∷ [])))) (pieces_same 0 pieces)

same_some : (x y : List ℕ) → Some x ≡ Some y → x ≡ y
same_some x y e = cc

starters : (scripts : List Userscript) (m : ℕ) (text : List ℕ) → slice_get (map (λ (script : Userscript). script.text) scripts) m ≡ Some text
    → option_and_then (λ (script : given.Userscript). script.starter) (slice_get (map script_given scripts) m) ≡ Some (record { text = text; moment = DocumentEnd })
starters [] m text e = absurd cc
starters (script ∷ scripts) zero text e = ap (λ t. Some (record { text = t; moment = DocumentEnd })) (same_some script.text text e)
starters (script ∷ scripts) (suc m) text e = starters scripts m text e

few_tasks : (address : List ℕ) (pieces : List Piece) (scripts : List Userscript) (read : List ℕ → Option (List (List Compound))) → length pieces ≤ 1000
    → length scripts ≤ USERSCRIPT_LIMIT → length (first_tasks (given_of address pieces scripts read)) < TASK_LIMIT
unfolding TASK_LIMIT
few_tasks address pieces scripts read h k =
    let same = ap length (tasks_same address pieces scripts read) in
    let count = tasks_length (input_of pieces scripts) in
    let texts : length (map (λ (script : Userscript). script.text) scripts) ≡ length scripts = length-map scripts (λ (script : Userscript). script.text) in
    omega (arith, h, k, same, count, texts)

pub small_of : (address : List ℕ) (pieces : List Piece) (scripts : List Userscript) (read : List ℕ → Option (List (List Compound))) → length pieces ≤ 1000
    → length scripts ≤ USERSCRIPT_LIMIT → Of (given_of address pieces scripts read) (input_of pieces scripts)
small_of address pieces scripts read h k = record {
  pieces = refl;
  starts = starters scripts;
  lines = refl;
  few = few_tasks address pieces scripts read h k;
}
