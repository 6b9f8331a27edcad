-- How a journal grows, mark by mark and turn by turn.
use Rattle.std.proofs.Common.{◌≡◌, ◌≢◌, ◌∙◌, ap, sym, refl, subst, not, ℕ, false, List, [], ◌∷◌, ◌++◌, append_assoc, arith, nat_eq}
use Rattle.std.proofs.lemmas.Bool.Decides.{nat_tests}
use Rattle.std.proofs.lemmas.List.{append-nil}
use Rattle.std.proofs.lemmas.List.Sums.{take_while-cons}
use Rattle.door.specs.declared.values.Actor.{Actor}
use Rattle.door.specs.declared.requests.Request.{Request}
use Rattle.door.specs.declared.requests.Request.TheVariants.{Native, Peek, PeekKeys, Reach}
use Rattle.door.specs.declared.marks.Task.{Task}
use Rattle.door.specs.declared.marks.Mark.{Mark}
use Rattle.door.specs.declared.marks.Mark.TheVariants.{Turn, Build, Enter, Ask, Dispatch, Back, Leave, Serve, Served}
use Rattle.solo_model.specs.View.{Met, is_actor, met_of, view_of}
use Rattle.solo_model.specs.Stage.{Stage, after, stage_from, stage_of, start}
use Rattle.solo_model.specs.Truth.{IsGenuine, IsGenuineAfter, IsTrueAfter}
use Rattle.js_semantics.specs.Entries.{beginning, enters}
use Rattle.solo_model.specs.Solo.{Deed, IsSoloFrom, deeds_of, shows_of}
use Rattle.solo_model.specs.Closed.{ActsAreSolo, Setups, closed_front, is_plain, opens, reach_in}
use Rattle.solo_model.specs.Lawful.{AreAsksOf, AreBuilds, AreTurns, Input, placed_request}

-- the marks of one part, and then of another
pub stage_from-append : (s : Stage) (xs ys : List Mark) → stage_from s (xs ++ ys) ≡ stage_from (stage_from s xs) ys
unfolding stage_from
stage_from-append s [] ys = refl
stage_from-append s (x ∷ xs) ys = stage_from-append (after s x) xs ys

-- the stage after a mark more
pub stage-more : (marks : List Mark) (mark : Mark) → stage_of (marks ++ mark ∷ []) ≡ after (stage_of marks) mark
unfolding stage_from
stage-more marks mark = stage_from-append start marks (mark ∷ [])

genuine-then : (before xs ys : List Mark) → IsGenuineAfter before xs → IsGenuineAfter (before ++ xs) ys → IsGenuineAfter before (xs ++ ys)
genuine-then before [] ys h k = let P : List Mark → Type 0 = λ marks. IsGenuineAfter marks ys in subst P (append-nil before) k
genuine-then before (x ∷ xs) ys h k =
    let P : List Mark → Type 0 = λ marks. IsGenuineAfter marks ys in
    (h.0, genuine-then (before ++ x ∷ []) xs ys h.1 (subst P (sym (append_assoc before (x ∷ []) xs)) k))

-- a true mark more
pub genuine-more : (marks : List Mark) (mark : Mark) → IsGenuine marks → IsTrueAfter marks mark → IsGenuine (marks ++ mark ∷ [])
genuine-more marks mark h k = genuine-then [] marks (mark ∷ []) h (k, tt)

-- two actors are told apart
pub is_other : (i j : Actor) → i ≢ j → is_actor i j ≡ false
is_other i j apart = differs i.0 j.0 (λ e. apart (same_actor e))
  where
    same_actor : i.0 ≡ j.0 → i ≡ j
    same_actor e = let wrap : ℕ → Actor = λ n. record { 0 = n } in ap wrap e

    differs : (n m : ℕ) → (n ≡ m → ⊥) → nat_eq n m ≡ false
    differs n m h = grind (arith, nat_tests)

-- no script runs among the page's own
abbrev pub AreApart : Setups → Type 0
AreApart setups = (j : Actor) → is_plain (setups j).zone ≡ false

-- whom no true mark opens
unopened : (setups : Setups) (i : Actor) (before : List Mark) (mark : Mark) → AreApart setups → IsTrueAfter before mark → opens setups i mark ≡ false
unopened setups i before (Ask j (Native member thing arguments) given) apart h = refl
unopened setups i before (Ask j (Peek owner place key) given) apart h = refl
unopened setups i before (Ask j (PeekKeys owner place) given) apart h = refl
unopened setups i before (Ask j (Reach operation) given) apart h = absurd h
unopened setups i before (Enter j entry) apart h = rw (apart j) refl
unopened setups i before (Turn task) apart h = refl
unopened setups i before (Build request) apart h = refl
unopened setups i before (Dispatch j event target) apart h = refl
unopened setups i before (Back j given) apart h = refl
unopened setups i before (Leave j outcome units) apart h = refl
unopened setups i before (Serve j owner value operation) apart h = refl
unopened setups i before (Served j given) apart h = refl

-- in a genuine journal of today's requests every script is closed to the end
all_closed : (setups : Setups) (i : Actor) (before marks : List Mark) → AreApart setups → IsGenuineAfter before marks → closed_front setups i marks ≡ marks
all_closed setups i before [] apart h = refl
all_closed setups i before (mark ∷ marks) apart h = take_while-cons (λ m. not (opens setups i m)) mark marks ∙ rw (unopened setups i before mark apart h.0) (ap (λ xs. mark ∷ xs) (all_closed setups i (before ++ mark ∷ []) marks apart h.1))

none_reached : (setups : Setups) (i : Actor) (met : Met) (before marks : List Mark) → AreApart setups → IsGenuineAfter before marks → reach_in setups i met marks ≡ []
none_reached setups i met before [] apart h = refl
none_reached setups i met before (mark ∷ marks) apart h = rw (unopened setups i before mark apart h.0) (none_reached setups i met (before ++ mark ∷ []) marks apart h.1)

-- what an actor does over a whole journal by its own machine, it does while it is closed
pub solo-acts : (setups : Setups) (i : Actor) (marks : List Mark) → AreApart setups → IsGenuine marks → IsSoloFrom enters (beginning (setups i)) (shows_of (view_of i marks)) (deeds_of (view_of i marks))
    → ActsAreSolo setups i marks
solo-acts setups i marks apart h solo =
    let whole = all_closed setups i [] marks apart h in
    let Shown : List Mark → Type 0 = λ front. IsSoloFrom enters (beginning (setups i)) (shows_of (view_of i front)) (deeds_of (view_of i front) ++ reach_in setups i (met_of i front) marks) in
    let Done : List Deed → Type 0 = λ deeds. IsSoloFrom enters (beginning (setups i)) (shows_of (view_of i marks)) deeds in
    let none = none_reached setups i (met_of i marks) [] marks apart h in
    let plain : deeds_of (view_of i marks) ++ reach_in setups i (met_of i marks) marks ≡ deeds_of (view_of i marks) = ap (λ reach. deeds_of (view_of i marks) ++ reach) none ∙ append-nil (deeds_of (view_of i marks)) in
    subst Shown (sym whole) (subst Done (sym plain) solo)

-- the turns of tasks, and then of others
pub turns-then : (input : Input) (before : List Mark) (tasks others : List Task) (xs ys : List Mark) → AreTurns input before tasks xs → AreTurns input (before ++ xs) others ys → AreTurns input before (tasks ++ others) (xs ++ ys)
unfolding AreTurns
turns-then input before [] others xs ys h k =
    let P : List Mark → Type 0 = λ more. AreTurns input (before ++ more) others ys in
    let Q : List Mark → Type 0 = λ marks. AreTurns input marks others ys in
    let R : List Mark → Type 0 = λ more. AreTurns input before others (more ++ ys) in
    subst R (sym h) (subst Q (append-nil before) (subst P h k))
turns-then input before (task ∷ tasks) others xs ys (turn, more, e, is, rest) k =
    let Q : List Mark → Type 0 = λ marks. AreTurns input marks others ys in
    let whole : before ++ xs ≡ (before ++ Turn task ∷ turn) ++ more = ap (λ zs. before ++ zs) e ∙ sym (append_assoc before (Turn task ∷ turn) more) in
    (turn, more ++ ys, ap (λ zs. zs ++ ys) e ∙ ap (λ zs. Turn task ∷ zs) (append_assoc turn more ys), is, turns-then input (before ++ Turn task ∷ turn) tasks others more ys rest (subst Q whole k))

-- one turn
pub turn-alone : (input : Input) (before : List Mark) (task : Task) (turn : List Mark) → Rattle.solo_model.specs.Lawful.IsTurn input (before ++ Turn task ∷ []) task turn → AreTurns input before (task ∷ []) (Turn task ∷ turn)
unfolding AreTurns
turn-alone input before task turn is = (turn, [], ap (λ zs. Turn task ∷ zs) (sym (append-nil turn)), is, refl)

-- the builds of requests, and then of others
pub builds-then : (before : List Mark) (requests others : List Request) (xs ys : List Mark) → AreBuilds before requests xs → AreBuilds (before ++ xs) others ys → AreBuilds before (requests ++ others) (xs ++ ys)
unfolding AreBuilds
builds-then before [] others xs ys h k =
    let P : List Mark → Type 0 = λ more. AreBuilds (before ++ more) others ys in
    let Q : List Mark → Type 0 = λ marks. AreBuilds marks others ys in
    let R : List Mark → Type 0 = λ more. AreBuilds before others (more ++ ys) in
    subst R (sym h) (subst Q (append-nil before) (subst P h k))
builds-then before (request ∷ requests) others xs ys (more, e, rest) k =
    let build = Build (placed_request (stage_of before).nodes request) in
    let Q : List Mark → Type 0 = λ marks. AreBuilds marks others ys in
    let whole : before ++ xs ≡ (before ++ build ∷ []) ++ more = ap (λ zs. before ++ zs) e ∙ sym (append_assoc before (build ∷ []) more) in
    (more ++ ys, ap (λ zs. zs ++ ys) e, builds-then (before ++ build ∷ []) requests others more ys rest (subst Q whole k))

-- the requests of an actor, and then others of it
pub asks-then : (i : Actor) (xs ys : List Mark) → AreAsksOf i xs → AreAsksOf i ys → AreAsksOf i (xs ++ ys)
unfolding AreAsksOf
asks-then i [] ys p q = q
asks-then i (Ask k request given ∷ xs) ys p q = (p.0, asks-then i xs ys p.1 q)
asks-then i (Turn task ∷ xs) ys p q = absurd p
asks-then i (Build request ∷ xs) ys p q = absurd p
asks-then i (Enter k entry ∷ xs) ys p q = absurd p
asks-then i (Dispatch k event target ∷ xs) ys p q = absurd p
asks-then i (Back k given ∷ xs) ys p q = absurd p
asks-then i (Leave k outcome units ∷ xs) ys p q = absurd p
asks-then i (Serve k owner value operation ∷ xs) ys p q = absurd p
asks-then i (Served k given ∷ xs) ys p q = absurd p
