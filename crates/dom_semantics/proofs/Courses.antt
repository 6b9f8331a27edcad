-- The course of a journal that grows.
use Rattle.std.proofs.Common.{◌≡◌, ◌+◌, ◌<◌, ℕ, false, List, [], ◌∷◌, ◌++◌, length, refl, ap, sym, ◌∙◌, arith, ⊎_elim}
use Rattle.std.specs.Prelude.{nat_eq, if◌then◌else◌}
use Prim.Native.Nat.{suc}
use Rattle.std.proofs.lemmas.Bool.{cases_Bool, ne_eqb}
use Rattle.door.specs.declared.marks.Mark.{Mark}
use Rattle.dom_semantics.specs.Stage.{Stage, Setting}
use Rattle.dom_semantics.specs.StageOf.{Course, after, clock_at, course_from, course_of, begun, stage_of, timed}

-- a clock that is set at a place is set there once
pub clock_at-again : (clocks : List (ℕ × ℕ)) (at clock : ℕ) → clock_at clocks at (clock_at clocks at clock) ≡ clock_at clocks at clock
clock_at-again [] at clock = refl
clock_at-again (c ∷ cs) at clock =
    ⊎_elim (λ yes. rw yes refl) (λ no. rw no (clock_at-again cs at clock)) (cases_Bool (nat_eq c.0 at))

timed-again : (given : Setting) (at : ℕ) (s : Stage) → timed given at (timed given at s) ≡ timed given at s
timed-again given at s = ap (λ clock. record s { timers = record s.timers { clock = clock } }) (clock_at-again given.clocks at s.timers.clock)

again : (given : Setting) (at : ℕ) (c : Course) (marks : List Mark)
    → course_from given at (record c { stage = timed given at c.stage }) marks ≡ course_from given at c marks
unfolding course_from
again given at c [] = ap (λ (s : Stage). record c { stage = s }) (timed-again given at c.stage)
again given at c (mark ∷ marks) = ap (λ (s : Stage). course_from given (suc at) (after given s c.walks mark) marks) (timed-again given at c.stage)

-- a journal's course goes on from that of its front
pub course_from-append : (given : Setting) (at : ℕ) (c : Course) (front marks : List Mark) → course_from given at c (front
    ++ marks) ≡ course_from given (at + length front) (course_from given at c front) marks
unfolding course_from
course_from-append given at c [] marks =
    let place : at ≡ at + 0 = omega arith in
    sym (again given at c marks) ∙ ap (λ n. course_from given n (record c { stage = timed given at c.stage }) marks) place
course_from-append given at c (mark ∷ front) marks =
    let place : suc at + length front ≡ at + suc (length front) = omega arith in
    course_from-append given (suc at) (after given (timed given at c.stage) c.walks mark) front marks
    ∙ ap (λ n. course_from given n (course_from given (suc at) (after given (timed given at c.stage) c.walks mark) front) marks) place

-- one more mark
pub course_of-push : (given : Setting) (front : List Mark) (mark : Mark) → course_of given (front ++ mark
    ∷ []) ≡ course_from given (length front) (course_of given front) (mark ∷ [])
course_of-push given front mark =
    let place : 0 + length front ≡ length front = omega arith in
    course_from-append given 0 (begun given) front (mark ∷ []) ∙ ap (λ n. course_from given n (course_of given front) (mark ∷ [])) place

-- a clock that is set later
abbrev pub later : Setting → ℕ × ℕ → Setting
later given c = record given { clocks = given.clocks ++ c ∷ [] }

clock_at-later : (clocks : List (ℕ × ℕ)) (c : ℕ × ℕ) (at clock : ℕ) → at < c.0 → clock_at (clocks ++ c ∷ []) at clock ≡ clock_at clocks at clock
clock_at-later [] c at clock lt = let apart : nat_eq c.0 at ≡ false = ne_eqb c.0 at (λ e. omega arith) in rw apart refl
clock_at-later (d ∷ ds) c at clock lt = clock_at-later ds c at (if nat_eq d.0 at then d.1 else clock) lt

timed-later : (given : Setting) (c : ℕ × ℕ) (at : ℕ) (s : Stage) → at < c.0 → timed (later given c) at s ≡ timed given at s
timed-later given c at s lt = ap (λ clock. record s { timers = record s.timers { clock = clock } }) (clock_at-later given.clocks c at s.timers.clock lt)

-- the course of a front doesn't change where a clock is set behind it
pub course_from-later : (given : Setting) (c : ℕ × ℕ) (at : ℕ) (course : Course) (marks : List Mark) → at + length marks < c.0
    → course_from (later given c) at course marks ≡ course_from given at course marks
unfolding course_from
course_from-later given c at course [] lt = ap (λ (s : Stage). record course { stage = s }) (timed-later given c at course.stage (omega arith))
course_from-later given c at course (mark ∷ marks) lt =
    let here : timed (later given c) at course.stage ≡ timed given at course.stage = timed-later given c at course.stage (omega arith) in
    ap (λ (s : Stage). course_from (later given c) (suc at) (after given s course.walks mark) marks) here
    ∙ course_from-later given c (suc at) (after given (timed given at course.stage) course.walks mark) marks (omega arith)

-- the clock of a course is what the host set last
stands : (given : Setting) (at : ℕ) (c : Course) (marks : List Mark)
    → timed given (at + length marks) (course_from given at c marks).stage ≡ (course_from given at c marks).stage
unfolding course_from
stands given at c [] =
    let place : at + 0 ≡ at = omega arith in
    ap (λ n. timed given n (timed given at c.stage)) place ∙ timed-again given at c.stage
stands given at c (mark ∷ marks) =
    let place : at + suc (length marks) ≡ suc at + length marks = omega arith in
    ap (λ n. timed given n (course_from given (suc at) (after given (timed given at c.stage) c.walks mark) marks).stage) place
    ∙ stands given (suc at) (after given (timed given at c.stage) c.walks mark) marks

stage-stands : (given : Setting) (marks : List Mark) → timed given (length marks) (stage_of given marks) ≡ stage_of given marks
stage-stands given marks =
    let place : length marks ≡ 0 + length marks = omega arith in
    ap (λ n. timed given n (stage_of given marks)) place ∙ stands given 0 (begun given) marks

-- no clock is set where so many marks stand
abbrev pub IsUnset : Setting → ℕ → Type 0
IsUnset given at = (clock : ℕ) → clock_at given.clocks at clock ≡ clock

timed-unset : (given : Setting) (at : ℕ) (s : Stage) → IsUnset given at → timed given at s ≡ s
timed-unset given at s unset = ap (λ clock. record s { timers = record s.timers { clock = clock } }) (unset s.timers.clock)

-- a mark more, behind which no clock is set yet: its course is what the mark makes of stage and walks
pub course_of-one : (given : Setting) (front : List Mark) (mark : Mark) → IsUnset given (suc (length front)) → course_of given (front ++ mark
    ∷ []) ≡ after given (stage_of given front) (course_of given front).walks mark
unfolding course_from
course_of-one given front mark unset =
    let walks = (course_of given front).walks in
    course_of-push given front mark
    ∙ (ap (λ (s : Stage). record (after given s walks mark) { stage = timed given (suc (length front)) (after given s walks mark).stage })
    (stage-stands given front)
    ∙ ap (λ (s : Stage). record (after given (stage_of given front) walks mark) { stage = s }) (timed-unset given (suc (length front)) (after given
    (stage_of given front) walks mark).stage unset))
