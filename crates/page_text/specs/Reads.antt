-- What a reader's answer says of the pieces, or of the fault, that were to come.
use Rattle.std.specs.Prelude.{◌≡◌, List, [], ◌∷◌, Option, Some, None, Result, Ok, Err}
use Rattle.base_text.specs.declared.memory.OrMemory.{OrMemory}
use Rattle.base_text.specs.declared.memory.OrMemory.TheVariants.{Fault, NoMemory}
use Rattle.page_text.specs.declared.faults.PageFault.{PageFault}
use Rattle.page_text.specs.declared.pieces.Piece.{Piece}
use Rattle.page_text.specs.declared.reader.Over.{Over}
use Rattle.page_text.specs.declared.reader.Over.TheVariants.{No, Ended, Refused}
use Rattle.page_text.specs.Page.{Progress, Pieces, Faulty}

-- where these pieces were to come, the answer is the first of them, or none where there is none
abbrev pub AreRead : List Piece → Progress → Result (Option Piece) (OrMemory PageFault) → Type 0
AreRead pieces q (Ok None) = pieces ≡ []
AreRead pieces q (Ok (Some piece)) = (more : List Piece) × (pieces ≡ piece ∷ more) × Pieces q more
AreRead pieces q (Err (Fault f)) = ⊥
AreRead pieces q (Err NoMemory) = Unit {0}

-- where this fault was to come, it is the answer, or is to come behind the piece
abbrev pub IsMet : PageFault → Progress → Result (Option Piece) (OrMemory PageFault) → Type 0
IsMet f q (Ok None) = ⊥
IsMet f q (Ok (Some piece)) = Faulty q f
IsMet f q (Err (Fault g)) = g ≡ f
IsMet f q (Err NoMemory) = Unit {0}

-- with the answer, whatever pieces come afterwards
abbrev pub with_answer : Option Piece → List Piece → List Piece
with_answer None pieces = pieces
with_answer (Some piece) pieces = piece ∷ pieces

-- a fault that is answered was to come
abbrev pub IsFault : Progress → OrMemory PageFault → Type 0
IsFault p (Fault f) = Faulty p f
IsFault p NoMemory = Unit {0}

-- a reading that is over has one answer, which takes no memory: none after the last piece, and the same fault again
abbrev pub IsSettled : Over → Result (Option Piece) (OrMemory PageFault) → Type 0
IsSettled No answer = Unit {0}
IsSettled Ended answer = answer ≡ Ok None
IsSettled (Refused f) answer = answer ≡ Err (Fault f)
