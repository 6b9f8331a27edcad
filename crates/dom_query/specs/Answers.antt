-- What `parse_selector` answers, where memory doesn't run out.
use Rattle.std.specs.Prelude.{◌≡◌, ℕ, List, Result, Ok, Err}
use Rattle.dom_query.specs.declared.fault.SelectorFault.{SelectorFault}
use Rattle.dom_query.specs.declared.fault.SelectorFault.TheVariants.{BadSelector, NoMemory}
use Rattle.dom_semantics.specs.declared.selectors.Compound.{Compound}

abbrev pub Chains : Type 0
Chains = List (List Compound)

abbrev pub Answer : Type 0
Answer = Result Chains SelectorFault

-- this is answered, or that no memory was found
abbrev pub OkOrMemory : Answer → Chains → Type 0
OkOrMemory (Ok read) chains = read ≡ chains
OkOrMemory (Err (BadSelector at)) chains = ⊥
OkOrMemory (Err NoMemory) chains = Unit {0}

abbrev pub IfFault : Answer → (ℕ → Type 0) → Type 0
IfFault (Ok read) P = Unit {0}
IfFault (Err (BadSelector at)) P = P at
IfFault (Err NoMemory) P = Unit {0}

abbrev pub FaultOrMemory : Answer → ℕ → Type 0
FaultOrMemory (Ok read) at = ⊥
FaultOrMemory (Err (BadSelector place)) at = place ≡ at
FaultOrMemory (Err NoMemory) at = Unit {0}
