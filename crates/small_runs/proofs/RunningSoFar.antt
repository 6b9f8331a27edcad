-- A small run that was cut off is lawful and genuine by the whole definitions, as far as it came.
use Rattle.std.proofs.Common.{◌≡◌, ◌⊎◌, ◌∙◌, inl, inr, ap, sym, refl, subst, ℕ, ◌+◌, List, [], ◌∷◌, ◌++◌, append_assoc, append-nil, length, length-append, slice_get, Some}
use Rattle.door.specs.declared.values.Kind.{Kind}
use Rattle.door.specs.declared.values.Kind.TheVariants.{Document}
use Rattle.door.specs.declared.marks.Task.{Task}
use Rattle.door.specs.declared.marks.Task.TheVariants.{Start, Piece as PieceTask, Ready, Load}
use Rattle.door.specs.declared.marks.Mark.{Mark}
use Rattle.door.specs.declared.marks.Mark.TheVariants.{Turn}
use Rattle.solo_model.specs.Given.{Given}
use Rattle.solo_model.specs.Lawful as old_lawful
use Rattle.solo_model.specs.Lawful.{AreTurns, AreTurnsSoFar, Input, IsTurn, Piece, numbered, tasks_of}
use Rattle.solo_model.specs.Tasks.{first_tasks}
use Rattle.solo_model.specs.Truth.{IsGenuineAfter}
use Rattle.small_runs.proofs.Building.{begins_all, got_behind}
use Rattle.small_runs.proofs.Entering.{AllFit, fit_split, genuine_split}
use Rattle.small_runs.proofs.Going.{between_first}
use Rattle.small_runs.proofs.Partly.{Partly, partly_stopped, piece_partly, start_partly, turn_partly}
use Rattle.small_runs.proofs.Running.{Paged}
use Rattle.small_runs.proofs.Same.{Begins}
use Rattle.small_runs.proofs.Sound.{sound_first}
use Rattle.small_runs.proofs.Turning.{Of, Stopped, load_turn, piece_turn, ready_turn, start_turn}
use Rattle.small_runs.proofs.Writes.{kinds_after_all}

-- a front of the journal is played, and the turns of these tasks are left, as far as they came
pub record Left (given : Given) (input : Input) (kinds : List Kind) (tail : List Task) (all : List Mark) : Type 0 where
  pub marks : List Mark
  pub n : ℕ
  pub front : List Task
  pub more : List Mark
  pub stopped : Stopped given kinds marks n
  pub tasks : first_tasks given ≡ front ++ tail
  pub long : length front ≡ n
  pub turns : AreTurnsSoFar input marks tail more
  pub fits : AllFit given more
  pub said : IsGenuineAfter marks more
  pub whole : all ≡ marks ++ more

-- the next of these turns, which is whole
pub record Due (given : Given) (input : Input) (kinds : List Kind) (task : Task) (tail : List Task) (all : List Mark) : Type 0 where
  pub marks : List Mark
  pub n : ℕ
  pub front : List Task
  pub turn : List Mark
  pub more : List Mark
  pub stopped : Stopped given kinds marks n
  pub got : slice_get (first_tasks given) n ≡ Some task
  pub tasks : first_tasks given ≡ (front ++ task ∷ []) ++ tail
  pub long : length (front ++ task ∷ []) ≡ n + 1
  pub is : IsTurn input (marks ++ Turn task ∷ []) task turn
  pub turns : AreTurnsSoFar input (marks ++ Turn task ∷ turn) tail more
  pub fits_turn : AllFit given turn
  pub said_turn : IsGenuineAfter (marks ++ Turn task ∷ []) turn
  pub fits : AllFit given more
  pub said : IsGenuineAfter (marks ++ Turn task ∷ turn) more
  pub whole : all ≡ (marks ++ Turn task ∷ turn) ++ more

-- what holds of a turn that was cut off
abbrev Cuts : (given : Given) (input : Input) (kinds : List Kind) (task : Task) → Type 0
Cuts given input kinds task =
    (marks : List Mark) (n : ℕ) (turn rest : List Mark) → Stopped given kinds marks n → slice_get (first_tasks given) n ≡ Some task → IsTurn input (marks ++ Turn task ∷ []) task (turn ++ rest)
    → AllFit given turn → IsGenuineAfter (marks ++ Turn task ∷ []) turn → Partly given (marks ++ (Turn task ∷ turn))

step : (given : Given) (input : Input) (kinds : List Kind) (task : Task) (tail : List Task) (all : List Mark) → Cuts given input kinds task → Left given input kinds (task ∷ tail) all
    → Partly given all ⊎ Due given input kinds task tail all
unfolding AreTurnsSoFar
step given input kinds task tail all cuts l = by l.turns
  where
    got : slice_get (first_tasks given) l.n ≡ Some task
    got = ap (λ ts. slice_get ts l.n) l.tasks ∙ ap (slice_get (l.front ++ task ∷ tail)) (sym l.long) ∙ got_behind l.front task tail

    by : AreTurnsSoFar input l.marks (task ∷ tail) l.more → Partly given all ⊎ Due given input kinds task tail all
    by (inl none) =
        let P : List Mark → Type 0 = λ ms. Partly given ms in
        inl (subst P (sym (l.whole ∙ ap (λ ms. l.marks ++ ms) none ∙ append-nil l.marks)) (partly_stopped given kinds l.marks l.n l.stopped))
    by (inr (inl (turn, rest, e, is))) =
        let P : List Mark → Type 0 = λ ms. Partly given ms in
        let Q : List Mark → Type 0 = λ ms. IsGenuineAfter l.marks ms in
        let fits : AllFit given (Turn task ∷ turn) = subst (AllFit given) e l.fits in
        let said : IsGenuineAfter l.marks (Turn task ∷ turn) = subst Q e l.said in
        inl (subst P (sym (l.whole ∙ ap (λ ms. l.marks ++ ms) e)) (cuts l.marks l.n turn rest l.stopped got is fits.1 said.1))
    by (inr (inr (turn, more, e, is, rest))) =
        let P : List Mark → Type 0 = λ ms. IsGenuineAfter l.marks ms in
        let Q : List Mark → Type 0 = λ ms. IsGenuineAfter ms more in
        let fits : AllFit given (Turn task ∷ (turn ++ more)) = subst (AllFit given) e l.fits in
        let said : IsGenuineAfter l.marks (Turn task ∷ (turn ++ more)) = subst P e l.said in
        let fit = fit_split given turn more fits.1 in
        let parts = genuine_split (l.marks ++ Turn task ∷ []) turn more said.1 in
        inr (record {
          marks = l.marks;
          n = l.n;
          front = l.front;
          turn = turn;
          more = more;
          stopped = l.stopped;
          got = got;
          tasks = l.tasks ∙ sym (append_assoc l.front (task ∷ []) tail);
          long = length-append l.front (task ∷ []) ∙ ap (λ k. k + 1) l.long;
          is = is;
          turns = rest;
          fits_turn = fit.0;
          said_turn = parts.0;
          fits = fit.1;
          said = subst Q (append_assoc l.marks (Turn task ∷ []) turn) parts.1;
          whole = l.whole ∙ ap (λ ms. l.marks ++ ms) e ∙ sym (append_assoc l.marks (Turn task ∷ turn) more);
        })

next : (given : Given) (input : Input) (kinds after : List Kind) (task : Task) (tail : List Task) (all : List Mark) (d : Due given input kinds task tail all)
    → Stopped given after (d.marks ++ Turn task ∷ d.turn) (d.n + 1) → Left given input after tail all
next given input kinds after task tail all d s = record {
  marks = d.marks ++ Turn task ∷ d.turn;
  n = d.n + 1;
  front = d.front ++ task ∷ [];
  more = d.more;
  stopped = s;
  tasks = d.tasks;
  long = d.long;
  turns = d.turns;
  fits = d.fits;
  said = d.said;
  whole = d.whole;
}

-- the journal ends here, or these turns are left
abbrev Or : Given → Input → List Task → List Mark → Type 0
Or given input tail all = Partly given all ⊎ ((kinds : List Kind) × Left given input kinds tail all)

same_some : {A : Type 0} (x y : A) → Some x ≡ Some y → x ≡ y
same_some x y e = cc

pieces_so_far : (given : Given) (input : Input) (kinds : List Kind) (front pieces : List Piece) (m : ℕ) (tail : List Task) (all : List Mark) → Of given input → Begins kinds → Paged kinds pieces
    → input.pieces ≡ front ++ pieces → length front ≡ m → Left given input kinds (numbered PieceTask m pieces ++ tail) all → Or given input tail all
pieces_so_far given input kinds front [] m tail all of begins paged e long l = inr (kinds, l)
pieces_so_far given input kinds front (piece ∷ pieces) m tail all of begins (ws, writes, are, few, paged) e long l =
    by (step given input kinds (PieceTask m) (numbered PieceTask (m + 1) pieces ++ tail) all cuts l)
    (λ d s. pieces_so_far given input (kinds_after_all kinds ws) (front ++ piece ∷ []) pieces (m + 1) tail all of (begins_all kinds ws begins) paged
    (e ∙ sym (append_assoc front (piece ∷ []) pieces)) (length-append front (piece ∷ []) ∙ ap (λ k. k + 1) long)
    (next given input kinds (kinds_after_all kinds ws) (PieceTask m) (numbered PieceTask (m + 1) pieces ++ tail) all d s))
  where
    known : slice_get input.pieces m ≡ Some piece
    known = ap (λ ps. slice_get ps m) e ∙ ap (slice_get (front ++ piece ∷ pieces)) (sym long) ∙ got_behind front piece pieces

    cuts : Cuts given input kinds (PieceTask m)
    cuts marks n turn rest s got (p, has, is) fits said =
        let P : Piece → Type 0 = λ q. old_lawful.IsPieceTurn (marks ++ Turn (PieceTask m) ∷ []) q (turn ++ rest) in
        piece_partly given input kinds marks n m piece ws turn rest of s got known writes are begins few (subst P (same_some p piece (sym has ∙ known)) is) fits said

    by : Partly given all ⊎ Due given input kinds (PieceTask m) (numbered PieceTask (m + 1) pieces ++ tail) all
        → ((d : Due given input kinds (PieceTask m) (numbered PieceTask (m + 1) pieces ++ tail) all)
        → Stopped given (kinds_after_all kinds ws) (d.marks ++ Turn (PieceTask m) ∷ d.turn) (d.n + 1) → Or given input tail all)
        → Or given input tail all
    by (inl p) later = inl p
    by (inr d) later =
        let P : Piece → Type 0 = λ q. old_lawful.IsPieceTurn (d.marks ++ Turn (PieceTask m) ∷ []) q d.turn in
        let found : d.is.0 ≡ piece = same_some d.is.0 piece (sym d.is.1 ∙ known) in
        later d (piece_turn given input kinds d.marks d.n m piece ws d.turn of d.stopped d.got known writes are begins few (subst P found d.is.2) d.fits_turn d.said_turn)

starts_so_far : (given : Given) (input : Input) (kinds : List Kind) (front starts : List (List ℕ)) (m : ℕ) (tail : List Task) (all : List Mark) → Of given input
    → input.starts ≡ front ++ starts → length front ≡ m → Left given input kinds (numbered Start m starts ++ tail) all → Or given input tail all
starts_so_far given input kinds front [] m tail all of e long l = inr (kinds, l)
starts_so_far given input kinds front (text ∷ starts) m tail all of e long l =
    by (step given input kinds (Start m) (numbered Start (m + 1) starts ++ tail) all cuts l)
    (λ d s. starts_so_far given input kinds (front ++ text ∷ []) starts (m + 1) tail all of (e ∙ sym (append_assoc front (text ∷ []) starts)) (length-append front (text ∷ []) ∙ ap (λ k. k + 1) long)
    (next given input kinds kinds (Start m) (numbered Start (m + 1) starts ++ tail) all d s))
  where
    cuts : Cuts given input kinds (Start m)
    cuts marks n turn rest s got (words, has, is) fits said = start_partly given input kinds marks n m words turn rest of s got has is fits said

    by : Partly given all ⊎ Due given input kinds (Start m) (numbered Start (m + 1) starts ++ tail) all
        → ((d : Due given input kinds (Start m) (numbered Start (m + 1) starts ++ tail) all) → Stopped given kinds (d.marks ++ Turn (Start m) ∷ d.turn) (d.n + 1) → Or given input tail all)
        → Or given input tail all
    by (inl p) later = inl p
    by (inr d) later = later d (start_turn given input kinds d.marks d.n m d.is.0 d.turn of d.stopped d.got d.is.1 d.is.2 d.fits_turn d.said_turn)

ready_so_far : (given : Given) (input : Input) (tail : List Task) (all : List Mark) → Of given input → Or given input (Ready ∷ tail) all → Or given input tail all
ready_so_far given input tail all of (inl p) = inl p
ready_so_far given input tail all of (inr (kinds, l)) = by (step given input kinds Ready tail all cuts l)
  where
    cuts : Cuts given input kinds Ready
    cuts marks n turn rest s got is fits said = turn_partly given kinds marks n Ready turn rest (ready_turn given input kinds marks n (turn ++ rest) of s got is)

    by : Partly given all ⊎ Due given input kinds Ready tail all → Or given input tail all
    by (inl p) = inl p
    by (inr d) = inr (kinds, next given input kinds kinds Ready tail all d (ready_turn given input kinds d.marks d.n d.turn of d.stopped d.got d.is))

load_so_far : (given : Given) (input : Input) (tail : List Task) (all : List Mark) → Of given input → Or given input (Load ∷ tail) all → Or given input tail all
load_so_far given input tail all of (inl p) = inl p
load_so_far given input tail all of (inr (kinds, l)) = by (step given input kinds Load tail all cuts l)
  where
    cuts : Cuts given input kinds Load
    cuts marks n turn rest s got is fits said = turn_partly given kinds marks n Load turn rest (load_turn given input kinds marks n (turn ++ rest) of s got is)

    by : Partly given all ⊎ Due given input kinds Load tail all → Or given input tail all
    by (inl p) = inl p
    by (inr d) = inr (kinds, next given input kinds kinds Load tail all d (load_turn given input kinds d.marks d.n d.turn of d.stopped d.got d.is))

over : (given : Given) (input : Input) (all : List Mark) → Or given input [] all → Partly given all
unfolding AreTurnsSoFar
over given input all (inl p) = p
over given input all (inr (kinds, l)) =
    let none : l.more ≡ [] = l.turns in
    let P : List Mark → Type 0 = λ ms. Partly given ms in
    subst P (sym (l.whole ∙ ap (λ ms. l.marks ++ ms) none ∙ append-nil l.marks)) (partly_stopped given kinds l.marks l.n l.stopped)

starts_or : (given : Given) (input : Input) (tail : List Task) (all : List Mark) → Of given input → Or given input (numbered Start 0 input.starts ++ tail) all → Or given input tail all
starts_or given input tail all of (inl p) = inl p
starts_or given input tail all of (inr (kinds, l)) = starts_so_far given input kinds [] input.starts 0 tail all of refl refl l

-- the turns are played one after another, as far as they came
pub played_so_far : (given : Given) (input : Input) (marks : List Mark) → Of given input → first_tasks given ≡ tasks_of input → Paged (Document ∷ []) input.pieces → AllFit given marks
    → old_lawful.IsLawfulSoFar input marks → IsGenuineAfter [] marks → Partly given marks
played_so_far given input marks of tasks paged fits lawful said =
    let starts : List Task = numbered Start 0 input.starts ++ Load ∷ [] in
    let first : Left given input (Document ∷ []) (numbered PieceTask 0 input.pieces ++ (Ready ∷ starts)) marks = record {
      marks = [];
      n = 0;
      front = [];
      more = marks;
      stopped = record { sound = sound_first given; between = between_first given };
      tasks = tasks;
      long = refl;
      turns = lawful;
      fits = fits;
      said = said;
      whole = refl;
    } in
    over given input marks (load_so_far given input [] marks of (starts_or given input (Load ∷ []) marks of (ready_so_far given input starts marks of
    (pieces_so_far given input (Document ∷ []) [] input.pieces 0 (Ready ∷ starts) marks of refl paged refl refl first))))
