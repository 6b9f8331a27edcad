-- A turn of a small run that was cut off.
use Rattle.std.proofs.Common.{◌≡◌, ◌⊎◌, ◌∙◌, inl, inr, ap, sym, refl, subst, ℕ, ◌+◌, ◌<◌, false, List, [], ◌∷◌, ◌++◌, append_assoc, append-nil, arith, length, map, slice_get, Option, Some, None}
use Rattle.door.specs.declared.limits.TheConstants.{NODE_LIMIT}
use Rattle.door.specs.declared.values.Actor.{Actor}
use Rattle.door.specs.declared.values.Kind.{Kind}
use Rattle.door.specs.declared.values.TheConstants.{PAGE}
use Rattle.door.specs.declared.requests.Request.{Request}
use Rattle.door.specs.declared.marks.Task.{Task}
use Rattle.door.specs.declared.marks.Task.TheVariants.{Start, Piece as PieceTask}
use Rattle.door.specs.declared.marks.Entry.TheVariants.{Script}
use Rattle.door.specs.declared.marks.Mark.{Mark}
use Rattle.door.specs.declared.marks.Mark.TheVariants.{Turn, Enter, Ask, Leave}
use Rattle.dom_semantics.specs.Forest.{the_host}
use Rattle.dom_semantics.specs.Stage.{Setting}
use Rattle.dom_semantics.specs.StageOf.{stage_of}
use Rattle.dom_semantics.specs.Things.{is_actor}
use Rattle.solo_model.specs.Acts.{Setups, setups_of}
use Rattle.solo_model.specs.Genuine.{AreTrueMarks}
use Rattle.solo_model.specs.Given.{Given}
use Rattle.solo_model.specs.Lawful.{AreAsksOf, AreBuilds, Input, IsEntry, IsPieceTurn, IsScripted, Piece}
use Rattle.solo_model.specs.Nesting.{Running}
use Rattle.solo_model.specs.NextMark.{AreAllowed}
use Rattle.solo_model.specs.Tasks.{first_tasks}
use Rattle.solo_model.specs.Things.{the_page, userscript}
use Rattle.solo_model.specs.Truth.{IsGenuineAfter}
use Rattle.solo_model.specs.Turns.{Enters, Places, script_steps, start_steps, steps_of}
use Rattle.solo_model.specs.Turns as turns
use Rattle.small_runs.proofs.Building.{Written, got_behind, write_steps, writes_more}
use Rattle.small_runs.proofs.Courses.{AreNoLines}
use Rattle.small_runs.proofs.Entering.{AllFit, asks_more, entry_fits, entry_more, fit_split, genuine_split, sound_asks, sound_entry}
use Rattle.small_runs.proofs.Going.{InTurn, enter-more, setting}
use Rattle.small_runs.proofs.Same.{Begins}
use Rattle.small_runs.proofs.Sound.{Sound, sound_enter}
use Rattle.small_runs.proofs.Turning.{Of, Stopped, begun, got_map, no_host, steps_long}
use Rattle.small_runs.proofs.Writes.{AreWrites, Write, kinds_after_all, request_of}
use Rattle.small_runs.specs.SmallGiven.{piece_given}

-- ---- fronts

-- the marks may come so, and all that they say is true
pub record Partly (given : Given) (marks : List Mark) : Type 0 where
  pub allowed : AreAllowed given (setting given) [] marks
  pub genuine : AreTrueMarks (setups_of given) (setting given) [] marks
  pub no_lines : AreNoLines marks

allowed_front : (given : Given) (s : Setting) (before xs ys : List Mark) → AreAllowed given s before (xs ++ ys) → AreAllowed given s before xs
unfolding AreAllowed
allowed_front given s before [] ys h = tt
allowed_front given s before (x ∷ xs) ys h = (h.0, allowed_front given s (before ++ x ∷ []) xs ys h.1)

true_front : (setups : Setups) (s : Setting) (before xs ys : List Mark) → AreTrueMarks setups s before (xs ++ ys) → AreTrueMarks setups s before xs
unfolding AreTrueMarks
true_front setups s before [] ys h = tt
true_front setups s before (x ∷ xs) ys h = (h.0, true_front setups s (before ++ x ∷ []) xs ys h.1)

lines_front : (xs ys : List Mark) → AreNoLines (xs ++ ys) → AreNoLines xs
lines_front [] ys h = tt
lines_front (x ∷ xs) ys h = (h.0, lines_front xs ys h.1)

pub partly_front : (given : Given) (xs ys : List Mark) → Partly given (xs ++ ys) → Partly given xs
partly_front given xs ys p = record {
  allowed = allowed_front given (setting given) [] xs ys p.allowed;
  genuine = true_front (setups_of given) (setting given) [] xs ys p.genuine;
  no_lines = lines_front xs ys p.no_lines;
}

-- the front of what follows
partly_within : (given : Given) (marks xs ys : List Mark) → Partly given (marks ++ (xs ++ ys)) → Partly given (marks ++ xs)
partly_within given marks xs ys p = let P : List Mark → Type 0 = λ ms. Partly given ms in partly_front given (marks ++ xs) ys (subst P (sym (append_assoc marks xs ys)) p)

pub partly_stopped : (given : Given) (kinds : List Kind) (marks : List Mark) (n : ℕ) → Stopped given kinds marks n → Partly given marks
partly_stopped given kinds marks n s = record { allowed = s.between.going.allowed; genuine = s.sound.genuine; no_lines = s.sound.no_lines }

partly_in : (given : Given) (before : List Mark) (n : ℕ) (task : Task) (kinds : List Kind) (marks : List Mark) (k : ℕ) (unfinished : List _) → Sound given kinds marks
    → InTurn given before n task marks k unfinished → Partly given marks
partly_in given before n task kinds marks k unfinished s t = record { allowed = t.going.allowed; genuine = s.genuine; no_lines = s.no_lines }

-- two ways to cut one list
abbrev pub Cut : (xs ys ps qs : List Mark) → Type 0
Cut xs ys ps qs = ((cs : List Mark) × (ps ≡ xs ++ cs) × (ys ≡ cs ++ qs)) ⊎ ((cs : List Mark) × (xs ≡ ps ++ cs) × (qs ≡ cs ++ ys))

same_first : (x y : Mark) (xs ys : List Mark) → x ∷ xs ≡ y ∷ ys → x ≡ y
same_first x y xs ys e = cc

same_rest : (x y : Mark) (xs ys : List Mark) → x ∷ xs ≡ y ∷ ys → xs ≡ ys
same_rest x y xs ys e = cc

cut_more : (x a : Mark) (xs ys ps qs : List Mark) → x ≡ a → Cut xs ys ps qs → Cut (x ∷ xs) ys (a ∷ ps) qs
cut_more x a xs ys ps qs e (inl (cs, h, k)) = inl (cs, ap (λ m. m ∷ ps) (sym e) ∙ ap (λ ms. x ∷ ms) h, k)
cut_more x a xs ys ps qs e (inr (cs, h, k)) = inr (cs, ap (λ m. m ∷ xs) e ∙ ap (λ ms. a ∷ ms) h, k)

pub cut : (xs ys ps qs : List Mark) → xs ++ ys ≡ ps ++ qs → Cut xs ys ps qs
cut [] ys ps qs e = inl (ps, refl, e)
cut (x ∷ xs) ys [] qs e = inr (x ∷ xs, refl, sym e)
cut (x ∷ xs) ys (a ∷ ps) qs e = cut_more x a xs ys ps qs (same_first x a (xs ++ ys) (ps ++ qs) e) (cut xs ys ps qs (same_rest x a (xs ++ ys) (ps ++ qs) e))

-- ---- an entry that was cut off

asks_front : (i : Actor) (xs ys : List Mark) → AreAsksOf i (xs ++ ys) → AreAsksOf i xs
unfolding AreAsksOf
asks_front i [] ys h = tt
asks_front i (Ask j request answer ∷ xs) ys h = (h.0, asks_front i xs ys h.1)
asks_front i (mark ∷ xs) ys h = absurd h

asks_partly : (given : Given) (before : List Mark) (n : ℕ) (task : Task) (kinds : List Kind) (marks : List Mark) (k : ℕ) (i : Actor) (text : List ℕ) (asks : List Mark)
    → is_actor i the_host ≡ false → AreAsksOf i asks → Written given before n task kinds marks k
    → slice_get (steps_of given (stage_of (setting given) before) task) k ≡ Some (Enters i (Script text)) → AllFit given asks → IsGenuineAfter (marks ++ Enter i (Script text) ∷ []) asks
    → Partly given (marks ++ (Enter i (Script text) ∷ asks))
asks_partly given before n task kinds marks k i text asks other own w got fits said =
    let after : List Mark = marks ++ Enter i (Script text) ∷ [] in
    let entered : InTurn given before n task after (k + 1) (Running i (Script text) ∷ []) = enter-more given before n task marks k (Enters i (Script text)) i (Script text) w.turn got refl in
    let asked = asks_more given before n task after (k + 1) i (Script text) asks own entered in
    let sound = sound_asks given kinds after i asks other own fits said (sound_enter given kinds marks i text w.sound) in
    let P : List Mark → Type 0 = λ ms. Partly given ms in
    subst P (append_assoc marks (Enter i (Script text) ∷ []) asks) (partly_in given before n task kinds (after ++ asks) (k + 1) (Running i (Script text) ∷ []) sound asked)

-- what is left of the last mark
last_cut : (leave : Mark) (ds rest : List Mark) → leave ∷ [] ≡ ds ++ rest → (ds ≡ []) ⊎ ((ds ≡ leave ∷ []) × (rest ≡ []))
last_cut leave [] rest e = inl refl
last_cut leave (d ∷ ds) rest e = inr (both leave d ds rest e)
  where
    none : (xs ys : List Mark) → [] ≡ xs ++ ys → (xs ≡ []) × (ys ≡ [])
    none [] ys h = (refl, sym h)
    none (x ∷ xs) ys h = absurd cc

    both : (leave d : Mark) (ds rest : List Mark) → leave ∷ [] ≡ d ∷ (ds ++ rest) → (d ∷ ds ≡ leave ∷ []) × (rest ≡ [])
    both leave d ds rest h =
        let parts = none ds rest (same_rest leave d [] (ds ++ rest) h) in
        (ap (λ m. m ∷ ds) (sym (same_first leave d [] (ds ++ rest) h)) ∙ ap (λ ms. leave ∷ ms) parts.0, parts.1)

entry_partly : (given : Given) (before : List Mark) (n : ℕ) (task : Task) (kinds : List Kind) (marks : List Mark) (k : ℕ) (i : Actor) (text : List ℕ) (xs rest : List Mark)
    → IsEntry i text (xs ++ rest) → is_actor i the_host ≡ false → Written given before n task kinds marks k
    → slice_get (steps_of given (stage_of (setting given) before) task) k ≡ Some (Enters i (Script text)) → AllFit given xs → IsGenuineAfter marks xs
    → Partly given (marks ++ xs)
entry_partly given before n task kinds marks k i text [] rest e other w got fits said =
    let P : List Mark → Type 0 = λ ms. Partly given ms in subst P (sym (append-nil marks)) (partly_in given before n task kinds marks k [] w.sound w.turn)
entry_partly given before n task kinds marks k i text (x ∷ xs) rest e other w got fits said =
    let first : x ≡ Enter i (Script text) = same_first x (Enter i (Script text)) (xs ++ rest) (e.asks ++ Leave i e.outcome e.units ∷ []) e.whole in
    let tail : xs ++ rest ≡ e.asks ++ Leave i e.outcome e.units ∷ [] = same_rest x (Enter i (Script text)) (xs ++ rest) (e.asks ++ Leave i e.outcome e.units ∷ []) e.whole in
    let P : Mark → Type 0 = λ m. Partly given (marks ++ (m ∷ xs)) in
    let Q : Mark → Type 0 = λ m. AllFit given (m ∷ xs) in
    let R : Mark → Type 0 = λ m. IsGenuineAfter marks (m ∷ xs) in
    subst P (sym first) (by (subst Q first fits).1 (subst R first said).1 (cut xs rest e.asks (Leave i e.outcome e.units ∷ []) tail))
  where
    enter : Mark
    enter = Enter i (Script text)

    front : (asks : List Mark) → xs ≡ asks → AreAsksOf i asks → AllFit given xs → IsGenuineAfter (marks ++ enter ∷ []) xs → Partly given (marks ++ (enter ∷ xs))
    front asks same own fit true_so =
        let S : List Mark → Type 0 = AreAsksOf i in
        asks_partly given before n task kinds marks k i text xs other (subst S (sym same) own) w got fit true_so

    whole : (xs ≡ e.asks ++ Leave i e.outcome e.units ∷ []) → AllFit given xs → IsGenuineAfter (marks ++ enter ∷ []) xs → Partly given (marks ++ (enter ∷ xs))
    whole same fit true_so =
        let full : IsEntry i text (enter ∷ xs) = record { asks = e.asks; outcome = e.outcome; units = e.units; own = e.own; whole = ap (λ ms. enter ∷ ms) same } in
        let fit_all : AllFit given (enter ∷ xs) = (tt, fit) in
        let said_all : IsGenuineAfter marks (enter ∷ xs) = (tt, true_so) in
        let ends = entry_fits given i text (enter ∷ xs) full fit_all in
        partly_in given before n task kinds (marks ++ (enter ∷ xs)) (k + 1) [] (sound_entry given kinds marks i text (enter ∷ xs) full other fit_all said_all w.sound)
        (entry_more given before n task marks k i text (enter ∷ xs) full ends.1 w.turn got)

    by : AllFit given xs → IsGenuineAfter (marks ++ enter ∷ []) xs → Cut xs rest e.asks (Leave i e.outcome e.units ∷ []) → Partly given (marks ++ (enter ∷ xs))
    by fit true_so (inl (cs, h, l)) = let S : List Mark → Type 0 = AreAsksOf i in front xs refl (asks_front i xs cs (subst S h e.own)) fit true_so
    by fit true_so (inr (cs, h, l)) = last (last_cut (Leave i e.outcome e.units) cs rest l)
      where
        last : (cs ≡ []) ⊎ ((cs ≡ Leave i e.outcome e.units ∷ []) × (rest ≡ [])) → Partly given (marks ++ (enter ∷ xs))
        last (inl none) = front e.asks (h ∙ ap (λ ms. e.asks ++ ms) none ∙ append-nil e.asks) e.own fit true_so
        last (inr (one, none)) = whole (h ∙ ap (λ ms. e.asks ++ ms) one) fit true_so

-- ---- turns that were cut off

-- the marks behind the begin of the turn
behind : (given : Given) (marks xs : List Mark) (task : Task) → Partly given ((marks ++ Turn task ∷ []) ++ xs) → Partly given (marks ++ (Turn task ∷ xs))
behind given marks xs task p = let P : List Mark → Type 0 = λ ms. Partly given ms in subst P (append_assoc marks (Turn task ∷ []) xs) p

scripted_partly : (given : Given) (before : List Mark) (n : ℕ) (task : Task) (kinds : List Kind) (ws : List Write) (script : Option (List ℕ)) (marks xs rest : List Mark)
    → Written given before n task kinds marks (0 + length ws) → steps_of given (stage_of (setting given) before) task ≡ write_steps ws ++ script_steps script
    → IsScripted script (xs ++ rest) → AllFit given xs → IsGenuineAfter marks xs → Partly given (marks ++ xs)
scripted_partly given before n task kinds ws None marks [] rest w steps is fits said =
    let P : List Mark → Type 0 = λ ms. Partly given ms in subst P (sym (append-nil marks)) (partly_in given before n task kinds marks (0 + length ws) [] w.sound w.turn)
scripted_partly given before n task kinds ws None marks (x ∷ xs) rest w steps is fits said = absurd cc
scripted_partly given before n task kinds ws (Some text) marks xs rest w steps is fits said =
    let here : length (write_steps ws) ≡ 0 + length ws = omega (arith, steps_long ws) in
    let got : slice_get (steps_of given (stage_of (setting given) before) task) (0 + length ws) ≡ Some (Enters PAGE (Script text)) =
    ap (λ ss. slice_get ss (0 + length ws)) steps ∙ ap (slice_get (write_steps ws ++ Enters PAGE (Script text) ∷ [])) (sym here) ∙ got_behind (write_steps ws) (Enters PAGE (Script text)) [] in
    entry_partly given before n task kinds marks (0 + length ws) the_page text xs rest is refl w got fits said

pub piece_partly : (given : Given) (input : Input) (kinds : List Kind) (marks : List Mark) (n m : ℕ) (piece : Piece) (ws : List Write) (xs rest : List Mark) → Of given input
    → Stopped given kinds marks n → slice_get (first_tasks given) n ≡ Some (PieceTask m) → slice_get input.pieces m ≡ Some piece → piece.writes ≡ map request_of ws
    → AreWrites kinds ws → Begins kinds → length kinds + length ws < NODE_LIMIT → IsPieceTurn (marks ++ Turn (PieceTask m) ∷ []) piece (xs ++ rest) → AllFit given xs
    → IsGenuineAfter (marks ++ Turn (PieceTask m) ∷ []) xs
    → Partly given (marks ++ (Turn (PieceTask m) ∷ xs))
piece_partly given input kinds marks n m piece ws xs rest of s got known writes are begins few is fits said = by (cut xs rest is.builds is.entry is.whole)
  where
    task : Task
    task = PieceTask m

    after : List Mark
    after = marks ++ Turn task ∷ []

    w : Written given marks n task kinds after 0
    w = begun given input kinds marks n task of s got tt tt

    steps : steps_of given (stage_of (setting given) marks) task ≡ write_steps ws ++ script_steps piece.script
    steps =
        ap turns.piece_steps (ap (λ ps. slice_get ps m) of.pieces ∙ got_map piece_given input.pieces m piece known) ∙ ap (λ rs. map (λ request. Places request) rs ++ script_steps piece.script) writes

    built : Written given marks n task (kinds_after_all kinds ws) (after ++ is.builds) (0 + length ws)
    built =
        let P : List Request → Type 0 = λ rs. AreBuilds after rs is.builds in
        writes_more given marks n task kinds [] (script_steps piece.script) ws after 0 is.builds w steps refl are begins few (subst P writes is.built)

    by : Cut xs rest is.builds is.entry → Partly given (marks ++ (Turn task ∷ xs))
    by (inl (cs, h, k)) =
        let P : List Mark → Type 0 = λ ms. Partly given (after ++ ms) in
        behind given marks xs task (partly_within given after xs cs (subst P h (partly_in given marks n task (kinds_after_all kinds ws) (after ++ is.builds) (0 + length ws) [] built.sound built.turn)))
    by (inr (cs, h, k)) =
        let P : List Mark → Type 0 = λ ms. Partly given (after ++ ms) in
        let Q : List Mark → Type 0 = λ ms. Partly given ms in
        let R : List Mark → Type 0 = λ ms. IsScripted piece.script ms in
        let fit = fit_split given is.builds cs (subst (AllFit given) h fits) in
        let S : List Mark → Type 0 = λ ms. IsGenuineAfter after ms in
        let parts = genuine_split after is.builds cs (subst S h said) in
        behind given marks xs task
        (subst P (sym h) (subst Q (append_assoc after is.builds cs)
        (scripted_partly given marks n task (kinds_after_all kinds ws) ws piece.script (after ++ is.builds) cs rest built steps (subst R k is.scripted) fit.1 parts.1)))

pub start_partly : (given : Given) (input : Input) (kinds : List Kind) (marks : List Mark) (n m : ℕ) (text : List ℕ) (xs rest : List Mark) → Of given input
    → Stopped given kinds marks n → slice_get (first_tasks given) n ≡ Some (Start m) → slice_get input.starts m ≡ Some text → IsEntry (userscript m) text (xs ++ rest)
    → AllFit given xs → IsGenuineAfter (marks ++ Turn (Start m) ∷ []) xs
    → Partly given (marks ++ (Turn (Start m) ∷ xs))
start_partly given input kinds marks n m text xs rest of s got known is fits said =
    let task : Task = Start m in
    let after : List Mark = marks ++ Turn task ∷ [] in
    let w : Written given marks n task kinds after 0 = begun given input kinds marks n task of s got tt tt in
    let steps : steps_of given (stage_of (setting given) marks) task ≡ Enters (userscript m) (Script text) ∷ [] = ap (start_steps m) (of.starts m text known) in
    behind given marks xs task (entry_partly given marks n task kinds after 0 (userscript m) text xs rest is (no_host m) w (ap (λ ss. slice_get ss 0) steps) fits said)

-- the front of a turn that was played whole
pub turn_partly : (given : Given) (kinds : List Kind) (marks : List Mark) (n : ℕ) (task : Task) (xs rest : List Mark) → Stopped given kinds (marks ++ (Turn task ∷ (xs ++ rest))) (n + 1)
    → Partly given (marks ++ (Turn task ∷ xs))
turn_partly given kinds marks n task xs rest s = partly_within given marks (Turn task ∷ xs) rest (partly_stopped given kinds (marks ++ (Turn task ∷ (xs ++ rest))) (n + 1) s)
