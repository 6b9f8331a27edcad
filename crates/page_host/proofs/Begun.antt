-- What holds of a whole journal holds of one that was cut off.
use Rattle.std.proofs.Common.{◌≡◌, sym, refl, subst, ℕ, List, [], inl, inr, arith, Option}
use Rattle.std.proofs.lemmas.List.{append-nil}
use Rattle.outside.specs.Contents.{Files}
use Rattle.door.specs.declared.marks.Mark.{Mark}
use Rattle.door.specs.declared.values.Actor.{Actor}
use Rattle.solo_model.specs.Acts.{ActsAreSolo, ActsAreSoloSoFar, AreSolo, Setups, closed_deeds}
use Rattle.solo_model.specs.Given as run
use Rattle.solo_model.specs.Right as journal
use Rattle.solo_model.specs.Solo.{Deed}
use Rattle.page_host.specs.Run.{IsRightOver, IsRightSoFar}

acts_begun : (setups : Setups) (i : Actor) (marks : List Mark) → ActsAreSolo setups i marks → ActsAreSoloSoFar setups i marks
acts_begun setups i marks is =
    let P : List Deed → Type 0 = λ deeds. AreSolo setups i marks deeds in
    record { due = []; one = omega arith; none = λ idle. refl; same = subst P (sym (append-nil (closed_deeds setups i marks))) is }

journal_begun : (given : run.Given) (marks : List Mark) → journal.IsRight given marks → journal.IsRightSoFar given marks
journal_begun given marks right =
    record { in_order = right.in_order; lawful = right.lawful.so_far; genuine = right.genuine; acts = λ i one. acts_begun _ i marks (right.acts i one) }

-- the empty journal
pub empty_right : (words : List (List ℕ)) (told : Option Files) (marks : List Mark) → marks ≡ [] → IsRightSoFar words told marks
empty_right words told marks none = inl none

-- a whole journal
pub whole_right : (words : List (List ℕ)) (told : Option Files) (marks other : List Mark) (bytes : List ℕ) → other ≡ marks → IsRightOver words told marks bytes → IsRightSoFar words told other
whole_right words told marks other bytes same over =
    let P : List Mark → Type 0 = λ ms. IsRightSoFar words told ms in
    subst P (sym same)
    (inr (record { files = over.files; known = over.known; given = over.right.given; right = journal_begun _ marks over.right.right }))
