-- What a call answers that may also find no memory; this project's own. Each clause on such an answer is one of these shapes.
use Rattle.std.specs.Prelude.{◌≡◌, Result, Ok, Err}
use Rattle.base_text.specs.declared.memory.OrMemory.{OrMemory}
use Rattle.base_text.specs.declared.memory.OrMemory.TheVariants.{Fault, NoMemory}

-- this value, unless no memory was found
abbrev pub OkOrMemory : {T F : Type 0} → Result T (OrMemory F) → T → Type 0
OkOrMemory (Ok value) expected = value ≡ expected
OkOrMemory (Err (Fault fault)) expected = ⊥
OkOrMemory (Err NoMemory) expected = Unit {0}

-- where it is a fault, the fault has this property
abbrev pub IfFault : {T F : Type 0} → Result T (OrMemory F) → (F → Type 0) → Type 0
IfFault (Ok value) Property = Unit {0}
IfFault (Err (Fault fault)) Property = Property fault
IfFault (Err NoMemory) Property = Unit {0}

-- this fault, unless no memory was found
abbrev pub FaultOrMemory : {T F : Type 0} → Result T (OrMemory F) → F → Type 0
FaultOrMemory (Ok value) expected = ⊥
FaultOrMemory (Err (Fault fault)) expected = fault ≡ expected
FaultOrMemory (Err NoMemory) expected = Unit {0}
