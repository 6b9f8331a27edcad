-- A machine of its own does the same when it is shown the same.
use Rattle.std.proofs.Common.{◌≡◌, ◌∙◌, ap, sym, refl, subst, ℕ, List, [], ◌∷◌, take}
use Prim.Native.Nat.{zero, suc}
use Rattle.door.specs.declared.requests.Answer.{Answer}
use Rattle.door.specs.declared.requests.Request.{Request}
use Rattle.door.specs.declared.marks.Entry.{Entry}
use Rattle.js_semantics.specs.Solo.{Act, Program, Asks, Emits, Stuck, Runs, Awaits, Entering}
use Rattle.solo_model.specs.Solo.{Show, Enters, Answers, Backs, Deed, Requests, Says, IsSoloFrom}

-- an entry goes on in one way
abbrev pub OneWay : {M : Type 0} → Entering M → Type 0
OneWay {M} enters = (entry : Entry) (levels : ℕ) (m : M) (back : M → Answer → Program M) (t u : Program M) → enters entry levels m back t → enters entry levels m back u → t ≡ u

no_take : {A : Type 0} {B : Type 0} (k : ℕ) (x : A) (xs : List A) → [] ≡ take (suc k) (x ∷ xs) → B
no_take k x xs e = absurd cc

same_head : {A : Type 0} {x y : A} {xs ys : List A} → x ∷ xs ≡ y ∷ ys → x ≡ y
same_head e = cc

same_tail : {A : Type 0} {x y : A} {xs ys : List A} → x ∷ xs ≡ y ∷ ys → xs ≡ ys
same_tail e = cc

-- the same first deed, and then the same
both_first : (k : ℕ) (deed : Deed) (xs ys more others : List Deed) → xs ≡ deed ∷ more → ys ≡ deed ∷ others → take k more ≡ take k others → take (suc k) xs ≡ take (suc k) ys
both_first k deed xs ys more others e f rest = rw (e, f) (ap (λ ds. deed ∷ ds) rest)

-- whatever is shown, the first deed is the tree's own
first_asked : {M : Type 0} (enters : Entering M) (request : Request) (next : Answer → Program M) (shows : List Show) (deeds : List Deed) → IsSoloFrom enters (Runs (Asks request next)) shows deeds → (more : List Deed) × (deeds ≡ Requests request ∷ more)
unfolding IsSoloFrom
first_asked enters request next [] deeds (more, e, _) = (more, e)
first_asked enters request next (Answers s ∷ shows) deeds (more, e, _) = (more, e)
first_asked enters request next (Enters s ∷ shows) deeds a = absurd a
first_asked enters request next (Backs s ∷ shows) deeds a = absurd a

first_told : {M : Type 0} (enters : Entering M) (act : Act) (levels : ℕ) (m : M) (back : M → Answer → Program M) (shows : List Show) (deeds : List Deed) → IsSoloFrom enters (Runs (Emits act levels m back)) shows deeds → (more : List Deed) × (deeds ≡ Says act ∷ more)
unfolding IsSoloFrom
first_told enters act levels m back [] deeds (more, e, _) = (more, e)
first_told enters act levels m back (Answers s ∷ shows) deeds a = absurd a
first_told enters act levels m back (Enters s ∷ shows) deeds (more, e, _) = (more, e)
first_told enters act levels m back (Backs s ∷ shows) deeds (more, e, _) = (more, e)

-- the law for what is left after a show
abbrev Rest : {M : Type 0} → Entering M → List Show → Type 0
Rest {M} enters shows = (k : ℕ) (t : Program M) (others : List Show) (deeds more : List Deed) → IsSoloFrom enters (Runs t) shows deeds → IsSoloFrom enters (Runs t) others more → take k shows ≡ take k others → take (suc k) deeds ≡ take (suc k) more

-- one show, the same for both
asked_once : {M : Type 0} (enters : Entering M) (k : ℕ) (request : Request) (next : Answer → Program M) (s : Show) (shows others : List Show) (deeds more : List Deed) → Rest enters shows
    → IsSoloFrom enters (Runs (Asks request next)) (s ∷ shows) deeds → IsSoloFrom enters (Runs (Asks request next)) (s ∷ others) more → take k shows ≡ take k others → take (suc (suc k)) deeds ≡ take (suc (suc k)) more
unfolding IsSoloFrom
asked_once enters k request next (Answers s) shows others deeds more rest (d, p, a) (m, q, b) e = both_first (suc k) (Requests request) deeds more d m p q (rest k (next s) others d m a b e)
asked_once enters k request next (Enters s) shows others deeds more rest a b e = absurd a
asked_once enters k request next (Backs s) shows others deeds more rest a b e = absurd a

told_once : {M : Type 0} (enters : Entering M) → OneWay enters → (k : ℕ) (act : Act) (levels : ℕ) (m : M) (back : M → Answer → Program M) (s : Show) (shows others : List Show) (deeds more : List Deed) → Rest enters shows
    → IsSoloFrom enters (Runs (Emits act levels m back)) (s ∷ shows) deeds → IsSoloFrom enters (Runs (Emits act levels m back)) (s ∷ others) more → take k shows ≡ take k others → take (suc (suc k)) deeds ≡ take (suc (suc k)) more
unfolding IsSoloFrom
told_once {M} enters one k act levels n back (Enters s) shows others deeds more rest (d, p, (t, entered, a)) (m, q, (u, also, b)) e =
    let P : Program M → Type 0 = λ tree. IsSoloFrom enters (Runs tree) others m in
    let at_t = subst P (sym (one s levels n back t u entered also)) b in
    both_first (suc k) (Says act) deeds more d m p q (rest k t others d m a at_t e)
told_once enters one k act levels n back (Backs s) shows others deeds more rest (d, p, a) (m, q, b) e = both_first (suc k) (Says act) deeds more d m p q (rest k (back n s) others d m a b e)
told_once enters one k act levels n back (Answers s) shows others deeds more rest a b e = absurd a

waited_once : {M : Type 0} (enters : Entering M) → OneWay enters → (k : ℕ) (levels : ℕ) (m : M) (back : M → Answer → Program M) (s : Show) (shows others : List Show) (deeds more : List Deed) → Rest enters shows
    → IsSoloFrom enters (Awaits levels m back) (s ∷ shows) deeds → IsSoloFrom enters (Awaits levels m back) (s ∷ others) more → take k shows ≡ take k others → take (suc k) deeds ≡ take (suc k) more
unfolding IsSoloFrom
waited_once {M} enters one k levels n back (Enters s) shows others deeds more rest (t, entered, a) (u, also, b) e =
    let P : Program M → Type 0 = λ tree. IsSoloFrom enters (Runs tree) others more in
    rest k t others deeds more a (subst P (sym (one s levels n back t u entered also)) b) e
waited_once enters one k levels n back (Backs s) shows others deeds more rest a b e = rest k (back n s) others deeds more a b e
waited_once enters one k levels n back (Answers s) shows others deeds more rest a b e = absurd a

-- where nothing more is shown, all that is done is the same
asked_last : {M : Type 0} (enters : Entering M) (k : ℕ) (request : Request) (next : Answer → Program M) (deeds more : List Deed) → IsSoloFrom enters (Runs (Asks request next)) [] deeds → IsSoloFrom enters (Runs (Asks request next)) [] more → take k deeds ≡ take k more
unfolding IsSoloFrom
asked_last enters k request next deeds more (d, p, a) (m, q, b) = ap (λ ds. take k ds) (p ∙ ap (λ ds. Requests request ∷ ds) (a ∙ sym b) ∙ sym q)

told_last : {M : Type 0} (enters : Entering M) (k : ℕ) (act : Act) (levels : ℕ) (m : M) (back : M → Answer → Program M) (deeds more : List Deed) → IsSoloFrom enters (Runs (Emits act levels m back)) [] deeds → IsSoloFrom enters (Runs (Emits act levels m back)) [] more → take k deeds ≡ take k more
unfolding IsSoloFrom
told_last enters k act levels n back deeds more (d, p, a) (m, q, b) = ap (λ ds. take k ds) (p ∙ ap (λ ds. Says act ∷ ds) (a ∙ sym b) ∙ sym q)

waited_last : {M : Type 0} (enters : Entering M) (k : ℕ) (levels : ℕ) (m : M) (back : M → Answer → Program M) (deeds more : List Deed) → IsSoloFrom enters (Awaits levels m back) [] deeds → IsSoloFrom enters (Awaits levels m back) [] more → take k deeds ≡ take k more
unfolding IsSoloFrom
waited_last enters k levels n back deeds more a b = ap (λ ds. take k ds) (a ∙ sym b)

-- the law of one more show, however the first show is told
asked_more : {M : Type 0} (enters : Entering M) (k : ℕ) (request : Request) (next : Answer → Program M) (shows others : List Show) (deeds more : List Deed) → ((s : Show) (rest : List Show) → shows ≡ s ∷ rest → Rest enters rest)
    → IsSoloFrom enters (Runs (Asks request next)) shows deeds → IsSoloFrom enters (Runs (Asks request next)) others more → take k shows ≡ take k others → take (suc k) deeds ≡ take (suc k) more
asked_more enters zero request next shows others deeds more rest a b e =
    let x = first_asked enters request next shows deeds a in
    let y = first_asked enters request next others more b in
    both_first zero (Requests request) deeds more x.0 y.0 x.1 y.1 refl
asked_more enters (suc k) request next [] [] deeds more rest a b e = asked_last enters (suc (suc k)) request next deeds more a b
asked_more enters (suc k) request next [] (o ∷ others) deeds more rest a b e = no_take k o others e
asked_more enters (suc k) request next (s ∷ shows) [] deeds more rest a b e = no_take k s shows (sym e)
asked_more enters (suc k) request next (s ∷ shows) (o ∷ others) deeds more rest a b e =
    let P : Show → Type 0 = λ x. IsSoloFrom enters (Runs (Asks request next)) (x ∷ others) more in
    asked_once enters k request next s shows others deeds more (rest s shows refl) a (subst P (sym (same_head e)) b) (same_tail e)

told_more : {M : Type 0} (enters : Entering M) → OneWay enters → (k : ℕ) (act : Act) (levels : ℕ) (m : M) (back : M → Answer → Program M) (shows others : List Show) (deeds more : List Deed) → ((s : Show) (rest : List Show) → shows ≡ s ∷ rest → Rest enters rest)
    → IsSoloFrom enters (Runs (Emits act levels m back)) shows deeds → IsSoloFrom enters (Runs (Emits act levels m back)) others more → take k shows ≡ take k others → take (suc k) deeds ≡ take (suc k) more
told_more enters one zero act levels n back shows others deeds more rest a b e =
    let x = first_told enters act levels n back shows deeds a in
    let y = first_told enters act levels n back others more b in
    both_first zero (Says act) deeds more x.0 y.0 x.1 y.1 refl
told_more enters one (suc k) act levels n back [] [] deeds more rest a b e = told_last enters (suc (suc k)) act levels n back deeds more a b
told_more enters one (suc k) act levels n back [] (o ∷ others) deeds more rest a b e = no_take k o others e
told_more enters one (suc k) act levels n back (s ∷ shows) [] deeds more rest a b e = no_take k s shows (sym e)
told_more {M} enters one (suc k) act levels n back (s ∷ shows) (o ∷ others) deeds more rest a b e =
    let P : Show → Type 0 = λ x. IsSoloFrom enters (Runs (Emits act levels n back)) (x ∷ others) more in
    told_once enters one k act levels n back s shows others deeds more (rest s shows refl) a (subst P (sym (same_head e)) b) (same_tail e)

-- what is left after a show
rest_same : {M : Type 0} (enters : Entering M) → OneWay enters → (shows : List Show) → Rest enters shows
unfolding IsSoloFrom
rest_same enters one shows k Stuck others deeds more a b e = absurd a
rest_same enters one [] k (Asks request next) others deeds more a b e = asked_more enters k request next [] others deeds more (λ s rest q. no_take zero s rest (ap (λ xs. take 1 xs) q)) a b e
rest_same enters one (s ∷ shows) k (Asks request next) others deeds more a b e =
    let ih = rest_same enters one shows in
    asked_more enters k request next (s ∷ shows) others deeds more (λ t rest q. subst (Rest enters) (same_tail q) ih) a b e
rest_same enters one [] k (Emits act levels n back) others deeds more a b e = told_more enters one k act levels n back [] others deeds more (λ s rest q. no_take zero s rest (ap (λ xs. take 1 xs) q)) a b e
rest_same enters one (s ∷ shows) k (Emits act levels n back) others deeds more a b e =
    let ih = rest_same enters one shows in
    told_more enters one k act levels n back (s ∷ shows) others deeds more (λ t rest q. subst (Rest enters) (same_tail q) ih) a b e

-- a machine that waits does the same up to the k-th deed where it is shown the same up to the k-th show
pub same_deeds : {M : Type 0} (enters : Entering M) → OneWay enters → (k : ℕ) (levels : ℕ) (m : M) (back : M → Answer → Program M) (shows others : List Show) (deeds more : List Deed) → IsSoloFrom enters (Awaits levels m back) shows deeds → IsSoloFrom enters (Awaits levels m back) others more → take k shows ≡ take k others → take k deeds ≡ take k more
same_deeds enters one zero levels n back shows others deeds more a b e = refl
same_deeds enters one (suc k) levels n back [] [] deeds more a b e = waited_last enters (suc k) levels n back deeds more a b
same_deeds enters one (suc k) levels n back [] (o ∷ others) deeds more a b e = no_take k o others e
same_deeds enters one (suc k) levels n back (s ∷ shows) [] deeds more a b e = no_take k s shows (sym e)
same_deeds enters one (suc k) levels n back (s ∷ shows) (o ∷ others) deeds more a b e =
    let P : Show → Type 0 = λ x. IsSoloFrom enters (Awaits levels n back) (x ∷ others) more in
    waited_once enters one k levels n back s shows others deeds more (rest_same enters one shows) a (subst P (sym (same_head e)) b) (same_tail e)
