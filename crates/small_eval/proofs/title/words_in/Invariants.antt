use Rattle.std.proofs.Common.{◌≡◌, List, ℕ, false, take, encode_utf8_all}
use Rattle.std.specs.List.{flat_map}
use Rattle.std.specs.String.{string_bytes}
use Rattle.dom_semantics.specs.Forest.{form_at, own_text}
use Rattle.small_eval.specs.Words.{Reads}
use Rattle.small_eval.proofs.title.words_in.Given as goal

abbrev pub invariant-loop-child : goal.invariant-loop-child
invariant-loop-child l = (done : List ℕ) × (string_bytes l.words.text ≡ encode_utf8_all done) × Reads false false (flat_map (λ child. own_text (form_at l.tree child)) (take l.child-index l.child-items)) l.words.begun l.words.gap done
