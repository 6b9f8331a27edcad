use Rattle.std.proofs.Common.{◌≡◌, List, ℕ, ◌++◌, encode_utf8_all}
use Rattle.std.specs.String.{string_bytes}
use Rattle.small_eval.specs.Words.{Reads}
use Rattle.small_eval.proofs.title.push_all.Given as goal

abbrev pub invariant-loop-c : goal.invariant-loop-c
invariant-loop-c l = (done : List ℕ) × (string_bytes l.words.text ≡ string_bytes l.fn.words.text ++ encode_utf8_all done) × Reads l.fn.words.begun l.fn.words.gap l.yielded l.words.begun l.words.gap done
