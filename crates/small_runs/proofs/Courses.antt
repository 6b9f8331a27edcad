-- How stage, walks and progress of a journal go on with a mark more, where no line of a scenario sets the clock.
use Rattle.std.proofs.Common.{◌≡◌, ◌∙◌, ap, refl, ℕ, ◌+◌, List, [], ◌∷◌, ◌++◌, length, take, arith}
use Prim.Native.Nat.{suc}
use Rattle.door.specs.declared.marks.Task.TheVariants.{Line, Start, Piece, Ready, Load, Timer}
use Rattle.door.specs.declared.marks.Mark.{Mark}
use Rattle.door.specs.declared.marks.Mark.TheVariants.{Turn, Build, Enter, Ask, Dispatch, Back, Leave, Serve, Served}
use Rattle.dom_semantics.specs.Stage.{Origin, Setting, Stage}
use Rattle.dom_semantics.specs.StageOf.{Course, after, begun, course_from, course_of, timed}
use Rattle.solo_model.specs.Nesting.{advanced, at_first, progress_from, progress_of}
use Rattle.solo_model.proofs.Growing.{progress_from-append}
use Rattle.solo_model.specs.Given.{clocks_from}

-- a setting of no clock and an empty store
abbrev pub quiet : Origin → Setting
quiet origin = record { origin = origin; stores = []; clocks = [] }

still : (origin : Origin) (at : ℕ) (s : Stage) → timed (quiet origin) at s ≡ s
still origin at s = refl

from-more : (origin : Origin) (at : ℕ) (c : Course) (marks : List Mark) (mark : Mark)
    → course_from (quiet origin) at c (marks ++ mark ∷ []) ≡ after (quiet origin) (course_from (quiet origin) at c marks).stage (course_from (quiet origin) at c marks).walks mark
unfolding course_from
from-more origin at c [] mark = refl
from-more origin at c (m ∷ marks) mark = from-more origin (suc at) (after (quiet origin) c.stage c.walks m) marks mark

-- the course after a mark more
pub course-more : (origin : Origin) (marks : List Mark) (mark : Mark)
    → course_of (quiet origin) (marks ++ mark ∷ []) ≡ after (quiet origin) (course_of (quiet origin) marks).stage (course_of (quiet origin) marks).walks mark
course-more origin marks mark = from-more origin 0 (begun (quiet origin)) marks mark

-- the progress after a mark more
pub progress-more : (marks : List Mark) (mark : Mark) → progress_of (marks ++ mark ∷ []) ≡ advanced (length marks) (progress_of marks) mark
unfolding progress_from
progress-more marks mark = progress_from-append 0 at_first marks (mark ∷ []) ∙ ap (λ at. advanced at (progress_of marks) mark) at_length
  where
    at_length : 0 + length marks ≡ length marks
    at_length = omega arith

-- no line of a scenario had its turn
abbrev pub IsNoLine : Mark → Type 0
IsNoLine (Turn (Line k)) = ⊥
IsNoLine mark = Unit {0}

abbrev pub AreNoLines : List Mark → Type 0
AreNoLines [] = Unit {0}
AreNoLines (mark ∷ marks) = IsNoLine mark × AreNoLines marks

pub no_lines-append : (xs ys : List Mark) → AreNoLines xs → AreNoLines ys → AreNoLines (xs ++ ys)
no_lines-append [] ys h k = k
no_lines-append (x ∷ xs) ys h k = (h.0, no_lines-append xs ys h.1 k)

pub no_clocks : (at : ℕ) (marks : List Mark) → AreNoLines marks → clocks_from [] at marks ≡ []
no_clocks at [] h = refl
no_clocks at (Turn (Line k) ∷ marks) h = absurd h.0
no_clocks at (Turn (Start n) ∷ marks) h = no_clocks (suc at) marks h.1
no_clocks at (Turn (Piece n) ∷ marks) h = no_clocks (suc at) marks h.1
no_clocks at (Turn Ready ∷ marks) h = no_clocks (suc at) marks h.1
no_clocks at (Turn Load ∷ marks) h = no_clocks (suc at) marks h.1
no_clocks at (Turn (Timer i n) ∷ marks) h = no_clocks (suc at) marks h.1
no_clocks at (Build request ∷ marks) h = no_clocks (suc at) marks h.1
no_clocks at (Enter i entry ∷ marks) h = no_clocks (suc at) marks h.1
no_clocks at (Ask i request answer ∷ marks) h = no_clocks (suc at) marks h.1
no_clocks at (Dispatch i event target ∷ marks) h = no_clocks (suc at) marks h.1
no_clocks at (Back i answer ∷ marks) h = no_clocks (suc at) marks h.1
no_clocks at (Leave i outcome units ∷ marks) h = no_clocks (suc at) marks h.1
no_clocks at (Serve i owner v operation ∷ marks) h = no_clocks (suc at) marks h.1
no_clocks at (Served i answer ∷ marks) h = no_clocks (suc at) marks h.1

-- the front of so many marks
pub front_is : (before done : List Mark) → take (length before) (before ++ done) ≡ before
front_is [] done = refl
front_is (x ∷ before) done = ap (λ xs. x ∷ xs) (front_is before done)
