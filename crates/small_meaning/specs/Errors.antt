-- An error that a script can see, as a text.
use Rattle.std.specs.Prelude.{ℕ, List, ◌++◌, codes}
use Rattle.door.specs.declared.requests.ErrorKind.{ErrorKind}
use Rattle.js_semantics.specs.Faults.{refusal_fault}

-- its name and message, with a colon and a space between (ECMAScript, Error.prototype.toString)
abbrev pub error_text : ErrorKind → List ℕ
error_text reason = (refusal_fault reason).name ++ (codes ": " ++ (refusal_fault reason).message)
