-- What is read of a whole file, and why it is refused.
use Rattle.std.specs.Prelude.{◌≡◌, ℕ, List, Result, Ok, Err, IfOk}
use Rattle.std.specs.Borrow.{Bor}
use Rattle.std.specs.Str.Lines.{lines}
use Rattle.std.proofs.Common.{ap, ◌∙◌, subst, inr}
use Rattle.base_text.specs.Answers.{IfFault, FaultOrMemory}
use Rattle.base_text.specs.declared.memory.OrMemory.{OrMemory}
use Rattle.base_text.specs.declared.memory.OrMemory.TheVariants.{Fault, NoMemory}
use Rattle.scenario.specs.declared.line.Line.{Line}
use Rattle.scenario.specs.declared.fault.EventsFault.{EventsFault}
use Rattle.scenario.specs.Parts.{texts}
use Rattle.scenario.specs.Scenarios.{SayAll, FailsFirst, IsFile, IsScenario, IsRefused}
use Rattle.scenario.proofs.Readings.{one_refusal, one_scenario, scenario_or_refused}

pub same_lines : (bytes s : List ℕ) (all slice : List (Bor (List ℕ))) → s ≡ bytes → texts all ≡ lines s → slice ≡ all → texts slice ≡ lines bytes
same_lines bytes s all slice p e q = ap texts q ∙ e ∙ ap lines p

pub whole_ok : {V : Type 0} (r : Result V (OrMemory EventsFault)) (items : V → List Line) (bytes : List ℕ) (slice : List (Bor (List ℕ))) → IsFile bytes → texts slice ≡ lines bytes
    → IfOk r (λ v. SayAll 1 (texts slice) (items v)) → IfOk r (λ v. IsScenario bytes (items v))
whole_ok (Ok v) items bytes slice file same h = (file, subst (λ (ls : List (List ℕ)). SayAll 1 ls (items v)) same h)
whole_ok (Err e) items bytes slice file same h = tt

pub whole_fault : {V : Type 0} (bytes : List ℕ) (slice : List (Bor (List ℕ))) (r : Result V (OrMemory EventsFault)) → IsFile bytes → texts slice ≡ lines bytes
    → IfFault r (FailsFirst 1 (texts slice)) → IfFault r (IsRefused bytes)
whole_fault bytes slice (Ok v) file same h = tt
whole_fault bytes slice (Err (Fault f)) file same h = inr (inr (file, subst (λ (ls : List (List ℕ)). FailsFirst 1 ls f) same h))
whole_fault bytes slice (Err NoMemory) file same h = tt

pub only_read : {V : Type 0} (r : Result V (OrMemory EventsFault)) (items : V → List Line) (bytes : List ℕ) → IfOk r (λ v. IsScenario bytes (items v)) → (read : List Line) → IsScenario bytes read
    → IfOk r (λ v. items v ≡ read)
only_read (Ok v) items bytes h read s = one_scenario bytes (items v) read h s
only_read (Err e) items bytes h read s = tt

pub taken_read : {V : Type 0} (bytes : List ℕ) (r : Result V (OrMemory EventsFault)) → IfFault r (IsRefused bytes) → (read : List Line) → IsScenario bytes read → IfFault r (λ f. ⊥)
taken_read bytes (Ok v) h read s = tt
taken_read bytes (Err (Fault f)) h read s = scenario_or_refused bytes read f s h
taken_read bytes (Err NoMemory) h read s = tt

pub first_refused : {V : Type 0} (r : Result V (OrMemory EventsFault)) (items : V → List Line) (bytes : List ℕ) → IfOk r (λ v. IsScenario bytes (items v)) → IfFault r (IsRefused bytes)
    → (f : EventsFault) → IsRefused bytes f → FaultOrMemory r f
first_refused (Ok v) items bytes ok h f s = absurd (scenario_or_refused bytes (items v) f ok s)
first_refused (Err (Fault g)) items bytes ok h f s = one_refusal bytes g f h s
first_refused (Err NoMemory) items bytes ok h f s = tt
