-- Turns and lawful and genuine journals that grow by a mark.
use Rattle.std.proofs.Common.{◌≡◌, ◌+◌, ℕ, List, [], ◌∷◌, ◌++◌, length, ap, sym, ◌∙◌, arith, subst}
use Rattle.std.proofs.lemmas.List.{append_assoc, append-nil}
use Prim.Native.Nat.{suc}
use Rattle.door.specs.declared.marks.Mark.{Mark}
use Rattle.dom_semantics.specs.Stage.{Setting}
use Rattle.solo_model.specs.Given.{Given}
use Rattle.solo_model.specs.Nesting.{Progress, advanced, progress_from}
use Rattle.solo_model.specs.NextMark.{Allows, AreAllowed, next_of}
use Rattle.solo_model.specs.Acts.{Setups}
use Rattle.solo_model.specs.Genuine.{AreTrueMarks, IsTrueMark}

-- the progress of two journals, one behind the other
pub progress_from-append : (at : ℕ) (p : Progress) (front marks : List Mark) → progress_from at p (front ++ marks) ≡ progress_from (at + length front) (progress_from at p front) marks
unfolding progress_from
progress_from-append at p [] marks =
    let place : at ≡ at + 0 = omega arith in ap (λ n. progress_from n p marks) place
progress_from-append at p (mark ∷ front) marks =
    let place : suc at + length front ≡ at + suc (length front) = omega arith in
    progress_from-append (suc at) (advanced at p mark) front marks ∙ ap (λ n. progress_from n (progress_from (suc at) (advanced at p mark) front) marks) place

-- a mark more that may come
pub allowed-more : (given : Given) (setting : Setting) (before marks : List Mark) (mark : Mark) → AreAllowed given setting before marks
    → Allows given (before ++ marks) (next_of given setting (before ++ marks)) mark → AreAllowed given setting before (marks ++ mark ∷ [])
unfolding AreAllowed
allowed-more given setting before [] mark h may = (subst (λ front. Allows given front (next_of given setting front) mark) (append-nil before) may, tt)
allowed-more given setting before (m ∷ marks) mark h may =
    (h.0, allowed-more given setting (before ++ m ∷ []) marks mark h.1 (subst (λ front. Allows given front (next_of given setting front) mark) (sym (append_assoc before (m ∷ []) marks)) may))

-- a mark more that is true
pub genuine-more : (setups : Setups) (setting : Setting) (before marks : List Mark) (mark : Mark) → AreTrueMarks setups setting before marks
    → IsTrueMark setups setting (before ++ marks) mark → AreTrueMarks setups setting before (marks ++ mark ∷ [])
unfolding AreTrueMarks
genuine-more setups setting before [] mark h true = (subst (λ front. IsTrueMark setups setting front mark) (append-nil before) true, tt)
genuine-more setups setting before (m ∷ marks) mark h true =
    (h.0, genuine-more setups setting (before ++ m ∷ []) marks mark h.1 (subst (λ front. IsTrueMark setups setting front mark) (sym (append_assoc before (m ∷ []) marks)) true))
