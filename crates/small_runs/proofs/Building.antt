-- A piece of a page is written in a small run.
use Rattle.std.proofs.Common.{◌≡◌, ◌∙◌, ap, sym, refl, subst, ℕ, ◌+◌, ◌<◌, ◌≤◌, suc, Bool, true, false, List, [], ◌∷◌, ◌++◌, append_assoc, append-nil, arith, length, length-append, map, slice_get, if◌then◌else◌, Some, None}
use Rattle.door.specs.declared.limits.TheConstants.{NODE_LIMIT}
use Rattle.door.specs.declared.values.Kind.{Kind}
use Rattle.door.specs.declared.values.Kind.TheVariants.{Document}
use Rattle.door.specs.declared.requests.Request.{Request}
use Rattle.door.specs.declared.marks.Task.{Task}
use Rattle.door.specs.declared.marks.Mark.{Mark}
use Rattle.door.specs.declared.marks.Mark.TheVariants.{Build}
use Rattle.dom_semantics.specs.Changes.{create_refusal}
use Rattle.dom_semantics.specs.Forest.{Forest, the_host}
use Rattle.dom_semantics.specs.StageOf.{stage_of}
use Rattle.dom_semantics.specs.Things.{is_actor, kind_of_form}
use Rattle.small_eval.proofs.Own.{host_makes}
use Rattle.solo_model.specs.Given.{Given}
use Rattle.solo_model.specs.Lawful as old_lawful
use Rattle.solo_model.specs.Lawful.{AreBuilds, own_nodes}
use Rattle.solo_model.specs.Stage as old
use Rattle.solo_model.specs.Turns.{Places, Step, steps_of}
use Rattle.small_runs.proofs.Going.{InTurn, build-more, setting}
use Rattle.small_runs.proofs.Made.{own_kinds}
use Rattle.small_runs.proofs.Same.{Begins, old_placed, placed_write, write_placed}
use Rattle.small_runs.proofs.Sound.{Sound, sound_write}
use Rattle.small_runs.proofs.Writes.{AreWrites, Write, Creates, Texts, Identifies, Appends, kinds_after, kinds_after_all, request_of}

-- ---- the host has nodes left

count_by : (b : Bool) (n : ℕ) (kind : Kind) (ns : List ℕ) (ks : List Kind) → length ns ≡ length ks → length (if b then n ∷ ns else ns) ≡ length (if b then kind ∷ ks else ks)
count_by true n kind ns ks e = ap (λ k. suc k) e
count_by false n kind ns ks e = e

own_many : (n : ℕ) (f : Forest) → length (old_lawful.numbers_from n the_host f) ≡ length (own_kinds f)
own_many n [] = refl
own_many n (node ∷ f) = count_by (is_actor node.maker the_host) n (kind_of_form node.form) (old_lawful.numbers_from (n + 1) the_host f) (own_kinds f) (own_many (n + 1) f)

free_host : (kinds : List Kind) (f : Forest) → own_kinds f ≡ kinds → length kinds < NODE_LIMIT → create_refusal f the_host ≡ None
free_host kinds f e few = host_makes f (omega (arith, own_many 0 f, ap length e, few))

-- ---- the page's own nodes

first_stays : (kinds more : List Kind) → Begins kinds → Begins (kinds ++ more)
first_stays [] more h = absurd cc
first_stays (kind ∷ kinds) more h = h

pub begins_after : (kinds : List Kind) (w : Write) → Begins kinds → Begins (kinds_after kinds w)
begins_after kinds (Creates tag) h = first_stays kinds _ h
begins_after kinds (Texts text) h = first_stays kinds _ h
begins_after kinds (Identifies n id) h = h
begins_after kinds (Appends kind n child m) h = h

pub begins_all : (kinds : List Kind) (ws : List Write) → Begins kinds → Begins (kinds_after_all kinds ws)
begins_all kinds [] h = h
begins_all kinds (w ∷ ws) h = begins_all (kinds_after kinds w) ws (begins_after kinds w h)

-- a write makes at most one of them
few_after : (kinds : List Kind) (w : Write) → length (kinds_after kinds w) ≤ length kinds + 1
few_after kinds (Creates tag) = omega (arith, length-append kinds (Rattle.door.specs.declared.values.Kind.TheVariants.Element ∷ []))
few_after kinds (Texts text) = omega (arith, length-append kinds (Rattle.door.specs.declared.values.Kind.TheVariants.Str ∷ []))
few_after kinds (Identifies n id) = omega arith
few_after kinds (Appends kind n child m) = omega arith

pub few_after_all : (kinds : List Kind) (ws : List Write) → length (kinds_after_all kinds ws) ≤ length kinds + length ws
few_after_all kinds [] = omega arith
few_after_all kinds (w ∷ ws) = omega (arith, few_after kinds w, few_after_all (kinds_after kinds w) ws)

-- ---- steps

pub got_behind : {A : Type 0} (xs : List A) (y : A) (ys : List A) → slice_get (xs ++ y ∷ ys) (length xs) ≡ Some y
got_behind [] y ys = refl
got_behind (x ∷ xs) y ys = got_behind xs y ys

pub got_past : {A : Type 0} (xs : List A) → slice_get xs (length xs) ≡ None
got_past [] = refl
got_past (x ∷ xs) = got_past xs

-- the steps of requests of a piece
abbrev pub write_steps : List Write → List Step
write_steps ws = map (λ request. Places request) (map request_of ws)

-- what was written, and how far the turn is
pub record Written (given : Given) (before : List Mark) (n : ℕ) (task : Task) (kinds : List Kind) (marks : List Mark) (k : ℕ) : Type 0 where
  pub sound : Sound given kinds marks
  pub turn : InTurn given before n task marks k []

next_place : (front rest : List Step) (step : Step) (k : ℕ) → length front ≡ k → length (front ++ step ∷ []) ≡ k + 1
next_place front rest step k e = length-append front (step ∷ []) ∙ ap (λ j. j + 1) e

pub writes_more : (given : Given) (before : List Mark) (n : ℕ) (task : Task) (kinds : List Kind) (front rest : List Step) (ws : List Write) (marks : List Mark) (k : ℕ) (builds : List Mark)
    → Written given before n task kinds marks k → steps_of given (stage_of (setting given) before) task ≡ front ++ (write_steps ws ++ rest) → length front ≡ k → AreWrites kinds ws
    → Begins kinds → length kinds + length ws < NODE_LIMIT → AreBuilds marks (map request_of ws) builds
    → Written given before n task (kinds_after_all kinds ws) (marks ++ builds) (k + length ws)
unfolding AreBuilds
writes_more given before n task kinds front rest [] marks k builds w steps long are begins few built =
    let P : List Mark → Type 0 = λ ms. Written given before n task kinds ms (k + 0) in
    let Q : ℕ → Type 0 = λ j. Written given before n task kinds marks j in
    let same : k ≡ k + 0 = omega arith in
    subst P (sym (ap (λ ms. marks ++ ms) built ∙ append-nil marks)) (subst Q same w)
writes_more given before n task kinds front rest (write ∷ ws) marks k builds w steps long are begins few (more, whole, built) =
    let stage = stage_of (setting given) marks in
    let f : Forest = stage.nodes in
    let request : Request = request_of write in
    let placed : Request = placed_write f write in
    let told : old_lawful.placed_request (old.stage_of marks).nodes request ≡ placed =
    ap (λ g. old_lawful.placed_request g request) (sym w.sound.same.nodes) ∙ old_placed kinds f write are.0 ∙ write_placed kinds f write are.0 in
    let step : Step = Places request in
    let got : slice_get (steps_of given (stage_of (setting given) before) task) k ≡ Some step =
    ap (λ ss. slice_get ss k) steps ∙ ap (slice_get (front ++ step ∷ (write_steps ws ++ rest))) (sym long) ∙ got_behind front step (write_steps ws ++ rest) in
    let free : create_refusal f the_host ≡ None = free_host kinds f w.sound.same.own (omega (arith, few)) in
    let next : Written given before n task (kinds_after kinds write) (marks ++ Build placed ∷ []) (k + 1) = record {
      sound = sound_write given kinds marks write w.sound begins free are.0;
      turn = build-more given before n task marks k step placed w.turn got (ap (λ r. Build r) (sym (write_placed kinds f write are.0)));
    } in
    let P : List Mark → Type 0 = λ ms. Written given before n task (kinds_after_all (kinds_after kinds write) ws) ms (k + suc (length ws)) in
    let Q : ℕ → Type 0 = λ j. Written given before n task (kinds_after_all (kinds_after kinds write) ws) ((marks ++ Build placed ∷ []) ++ more) j in
    let R : Request → Type 0 = λ r. AreBuilds (marks ++ Build r ∷ []) (map request_of ws) more in
    let along : k + 1 + length ws ≡ k + suc (length ws) = omega arith in
    let shift : steps_of given (stage_of (setting given) before) task ≡ (front ++ step ∷ []) ++ (write_steps ws ++ rest) = steps ∙ sym (append_assoc front (step ∷ []) (write_steps ws ++ rest)) in
    subst P (append_assoc marks (Build placed ∷ []) more ∙ ap (λ r. marks ++ (Build r ∷ more)) (sym told) ∙ ap (λ ms. marks ++ ms) (sym whole))
    (subst Q along (writes_more given before n task (kinds_after kinds write) (front ++ step ∷ []) rest ws (marks ++ Build placed ∷ []) (k + 1) more next shift (next_place front rest step k long)
    are.1 (begins_after kinds write begins) (omega (arith, few, few_after kinds write)) (subst R told built)))
