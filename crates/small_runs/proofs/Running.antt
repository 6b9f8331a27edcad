-- A whole small run is lawful and genuine by the whole definitions.
use Rattle.std.proofs.Common.{◌≡◌, ◌∙◌, ap, sym, refl, subst, ℕ, ◌+◌, ◌<◌, List, [], ◌∷◌, ◌++◌, append_assoc, append-nil, length, length-append, map, slice_get, Some}
use Rattle.door.specs.declared.limits.TheConstants.{NODE_LIMIT}
use Rattle.door.specs.declared.values.Kind.{Kind}
use Rattle.door.specs.declared.values.Kind.TheVariants.{Document}
use Rattle.door.specs.declared.marks.Task.{Task}
use Rattle.door.specs.declared.marks.Task.TheVariants.{Start, Piece as PieceTask, Ready, Load}
use Rattle.door.specs.declared.marks.Mark.{Mark}
use Rattle.door.specs.declared.marks.Mark.TheVariants.{Turn}
use Rattle.solo_model.specs.Given.{Given}
use Rattle.solo_model.specs.Lawful as old_lawful
use Rattle.solo_model.specs.Lawful.{AreTurns, Input, IsTurn, Piece, numbered, tasks_of}
use Rattle.solo_model.specs.Tasks.{first_tasks}
use Rattle.solo_model.specs.Truth.{IsGenuineAfter}
use Rattle.small_runs.proofs.Building.{begins_all, got_behind}
use Rattle.small_runs.proofs.Entering.{AllFit, fit_split, genuine_split}
use Rattle.small_runs.proofs.Going.{Between, between_first}
use Rattle.small_runs.proofs.Same.{Begins}
use Rattle.small_runs.proofs.Sound.{Sound, sound_first}
use Rattle.small_runs.proofs.Turning.{Of, Stopped, load_turn, piece_turn, ready_turn, start_turn}
use Rattle.small_runs.proofs.Writes.{AreWrites, Write, kinds_after_all, request_of}

-- pieces that are written so, from these of the page's own nodes on
abbrev pub Paged : List Kind → List Piece → Type 0
Paged kinds [] = Unit {0}
Paged kinds (piece ∷ pieces) =
    (ws : List Write) × (piece.writes ≡ map request_of ws) × AreWrites kinds ws × (length kinds + length ws < NODE_LIMIT) × Paged (kinds_after_all kinds ws) pieces

-- a front of the journal is played, and the turns of these tasks are left
pub record Left (given : Given) (input : Input) (kinds : List Kind) (tail : List Task) (all : List Mark) : Type 0 where
  pub marks : List Mark
  pub n : ℕ
  pub front : List Task
  pub more : List Mark
  pub stopped : Stopped given kinds marks n
  pub tasks : first_tasks given ≡ front ++ tail
  pub long : length front ≡ n
  pub turns : AreTurns input marks tail more
  pub fits : AllFit given more
  pub said : IsGenuineAfter marks more
  pub whole : all ≡ marks ++ more

-- the next of these turns
pub record Due (given : Given) (input : Input) (kinds : List Kind) (task : Task) (tail : List Task) (all : List Mark) : Type 0 where
  pub marks : List Mark
  pub n : ℕ
  pub front : List Task
  pub turn : List Mark
  pub more : List Mark
  pub stopped : Stopped given kinds marks n
  pub got : slice_get (first_tasks given) n ≡ Some task
  pub tasks : first_tasks given ≡ (front ++ task ∷ []) ++ tail
  pub long : length (front ++ task ∷ []) ≡ n + 1
  pub is : IsTurn input (marks ++ Turn task ∷ []) task turn
  pub turns : AreTurns input (marks ++ Turn task ∷ turn) tail more
  pub fits_turn : AllFit given turn
  pub said_turn : IsGenuineAfter (marks ++ Turn task ∷ []) turn
  pub fits : AllFit given more
  pub said : IsGenuineAfter (marks ++ Turn task ∷ turn) more
  pub whole : all ≡ (marks ++ Turn task ∷ turn) ++ more

due : (given : Given) (input : Input) (kinds : List Kind) (task : Task) (tail : List Task) (all : List Mark) → Left given input kinds (task ∷ tail) all → Due given input kinds task tail all
unfolding AreTurns
due given input kinds task tail all l = by l.turns
  where
    by : AreTurns input l.marks (task ∷ tail) l.more → Due given input kinds task tail all
    by (turn, more, e, is, rest) =
        let P : List Mark → Type 0 = λ ms. IsGenuineAfter l.marks ms in
        let Q : List Mark → Type 0 = λ ms. IsGenuineAfter ms more in
        let fits : AllFit given (Turn task ∷ (turn ++ more)) = subst (AllFit given) e l.fits in
        let said : IsGenuineAfter l.marks (Turn task ∷ (turn ++ more)) = subst P e l.said in
        let fit = fit_split given turn more fits.1 in
        let parts = genuine_split (l.marks ++ Turn task ∷ []) turn more said.1 in
        record {
          marks = l.marks;
          n = l.n;
          front = l.front;
          turn = turn;
          more = more;
          stopped = l.stopped;
          got = ap (λ ts. slice_get ts l.n) l.tasks ∙ ap (slice_get (l.front ++ task ∷ tail)) (sym l.long) ∙ got_behind l.front task tail;
          tasks = l.tasks ∙ sym (append_assoc l.front (task ∷ []) tail);
          long = length-append l.front (task ∷ []) ∙ ap (λ k. k + 1) l.long;
          is = is;
          turns = rest;
          fits_turn = fit.0;
          said_turn = parts.0;
          fits = fit.1;
          said = subst Q (append_assoc l.marks (Turn task ∷ []) turn) parts.1;
          whole = l.whole ∙ ap (λ ms. l.marks ++ ms) e ∙ sym (append_assoc l.marks (Turn task ∷ turn) more);
        }

next : (given : Given) (input : Input) (kinds after : List Kind) (task : Task) (tail : List Task) (all : List Mark) (d : Due given input kinds task tail all)
    → Stopped given after (d.marks ++ Turn task ∷ d.turn) (d.n + 1) → Left given input after tail all
next given input kinds after task tail all d s = record {
  marks = d.marks ++ Turn task ∷ d.turn;
  n = d.n + 1;
  front = d.front ++ task ∷ [];
  more = d.more;
  stopped = s;
  tasks = d.tasks;
  long = d.long;
  turns = d.turns;
  fits = d.fits;
  said = d.said;
  whole = d.whole;
}

-- some kinds of the page's own nodes, with which these turns are left
abbrev pub SomeLeft : Given → Input → List Task → List Mark → Type 0
SomeLeft given input tail all = (kinds : List Kind) × Left given input kinds tail all

same_some : {A : Type 0} (x y : A) → Some x ≡ Some y → x ≡ y
same_some x y e = cc

pieces_played : (given : Given) (input : Input) (kinds : List Kind) (front pieces : List Piece) (m : ℕ) (tail : List Task) (all : List Mark) → Of given input → Begins kinds → Paged kinds pieces
    → input.pieces ≡ front ++ pieces → length front ≡ m → Left given input kinds (numbered PieceTask m pieces ++ tail) all → SomeLeft given input tail all
pieces_played given input kinds front [] m tail all of begins paged e long l = (kinds, l)
pieces_played given input kinds front (piece ∷ pieces) m tail all of begins (ws, writes, are, few, paged) e long l =
    let d : Due given input kinds (PieceTask m) (numbered PieceTask (m + 1) pieces ++ tail) all = due given input kinds (PieceTask m) (numbered PieceTask (m + 1) pieces ++ tail) all l in
    let known : slice_get input.pieces m ≡ Some piece = ap (λ ps. slice_get ps m) e ∙ ap (slice_get (front ++ piece ∷ pieces)) (sym long) ∙ got_behind front piece pieces in
    let found : d.is.0 ≡ piece = same_some d.is.0 piece (sym d.is.1 ∙ known) in
    let P : Piece → Type 0 = λ p. old_lawful.IsPieceTurn (d.marks ++ Turn (PieceTask m) ∷ []) p d.turn in
    let stopped : Stopped given (kinds_after_all kinds ws) (d.marks ++ Turn (PieceTask m) ∷ d.turn) (d.n + 1) =
    piece_turn given input kinds d.marks d.n m piece ws d.turn of d.stopped d.got known writes are begins few (subst P found d.is.2) d.fits_turn d.said_turn in
    pieces_played given input (kinds_after_all kinds ws) (front ++ piece ∷ []) pieces (m + 1) tail all of (begins_all kinds ws begins) paged
    (e ∙ sym (append_assoc front (piece ∷ []) pieces)) (length-append front (piece ∷ []) ∙ ap (λ k. k + 1) long)
    (next given input kinds (kinds_after_all kinds ws) (PieceTask m) (numbered PieceTask (m + 1) pieces ++ tail) all d stopped)

starts_played : (given : Given) (input : Input) (kinds : List Kind) (front starts : List (List ℕ)) (m : ℕ) (tail : List Task) (all : List Mark) → Of given input
    → input.starts ≡ front ++ starts → length front ≡ m → Left given input kinds (numbered Start m starts ++ tail) all → Left given input kinds tail all
starts_played given input kinds front [] m tail all of e long l = l
starts_played given input kinds front (text ∷ starts) m tail all of e long l =
    let d : Due given input kinds (Start m) (numbered Start (m + 1) starts ++ tail) all = due given input kinds (Start m) (numbered Start (m + 1) starts ++ tail) all l in
    let stopped : Stopped given kinds (d.marks ++ Turn (Start m) ∷ d.turn) (d.n + 1) =
    start_turn given input kinds d.marks d.n m d.is.0 d.turn of d.stopped d.got d.is.1 d.is.2 d.fits_turn d.said_turn in
    starts_played given input kinds (front ++ text ∷ []) starts (m + 1) tail all of (e ∙ sym (append_assoc front (text ∷ []) starts)) (length-append front (text ∷ []) ∙ ap (λ k. k + 1) long)
    (next given input kinds kinds (Start m) (numbered Start (m + 1) starts ++ tail) all d stopped)

-- what holds of a whole run
pub record Ran (given : Given) (marks : List Mark) : Type 0 where
  pub kinds : List Kind
  pub sound : Sound given kinds marks
  pub between : Between given marks (length (first_tasks given))

at_end : (given : Given) (input : Input) (kinds : List Kind) (all : List Mark) → Left given input kinds [] all → Ran given all
unfolding AreTurns
at_end given input kinds all l =
    let none : l.more ≡ [] = l.turns in
    let whole : all ≡ l.marks = l.whole ∙ ap (λ ms. l.marks ++ ms) none ∙ append-nil l.marks in
    let count : l.n ≡ length (first_tasks given) = sym l.long ∙ ap length (sym (append-nil l.front)) ∙ ap length (sym l.tasks) in
    let P : List Mark → Type 0 = λ ms. Sound given kinds ms in
    let Q : List Mark → Type 0 = λ ms. Between given ms (length (first_tasks given)) in
    let R : ℕ → Type 0 = λ k. Between given l.marks k in
    record { kinds = kinds; sound = subst P (sym whole) l.stopped.sound; between = subst Q (sym whole) (subst R count l.stopped.between) }

-- the turns are played one after another
pub played : (given : Given) (input : Input) (marks : List Mark) → Of given input → first_tasks given ≡ tasks_of input → Paged (Document ∷ []) input.pieces → AllFit given marks
    → old_lawful.IsLawful input marks → IsGenuineAfter [] marks → Ran given marks
played given input marks of tasks paged fits lawful said =
    let starts : List Task = numbered Start 0 input.starts ++ Load ∷ [] in
    let first : Left given input (Document ∷ []) (numbered PieceTask 0 input.pieces ++ (Ready ∷ starts)) marks = record {
      marks = [];
      n = 0;
      front = [];
      more = marks;
      stopped = record { sound = sound_first given; between = between_first given };
      tasks = tasks;
      long = refl;
      turns = lawful;
      fits = fits;
      said = said;
      whole = refl;
    } in
    let pieces : SomeLeft given input (Ready ∷ starts) marks = pieces_played given input (Document ∷ []) [] input.pieces 0 (Ready ∷ starts) marks of refl paged refl refl first in
    let kinds : List Kind = pieces.0 in
    let ready : Due given input kinds Ready starts marks = due given input kinds Ready starts marks pieces.1 in
    let begun : Left given input kinds starts marks =
    next given input kinds kinds Ready starts marks ready (ready_turn given input kinds ready.marks ready.n ready.turn of ready.stopped ready.got ready.is) in
    let started : Left given input kinds (Load ∷ []) marks = starts_played given input kinds [] input.starts 0 (Load ∷ []) marks of refl refl begun in
    let load : Due given input kinds Load [] marks = due given input kinds Load [] marks started in
    at_end given input kinds marks (next given input kinds kinds Load [] marks load (load_turn given input kinds load.marks load.n load.turn of load.stopped load.got load.is))
