-- A small run that was cut off and was right so far is so by the whole definitions.
use Rattle.std.proofs.Common.{◌≡◌, ◌⊎◌, ◌∙◌, inl, inr, ap, sym, refl, subst, ℕ, ◌≤◌, List, [], ◌∷◌, ◌++◌, append_assoc, append-nil, arith, drop, length, take, Option, Some, None}
use Rattle.std.specs.List.{list_any}
use Rattle.std.proofs.lemmas.List.{length-append}
use Rattle.door.specs.declared.values.Actor.{Actor}
use Rattle.door.specs.declared.zones.Zone.{Zone}
use Rattle.door.specs.declared.zones.Zone.TheVariants.{Page}
use Rattle.door.specs.declared.marks.Task.{Task}
use Rattle.door.specs.declared.marks.Entry.TheVariants.{Script}
use Rattle.door.specs.declared.marks.Mark.{Mark}
use Rattle.door.specs.declared.marks.Mark.TheVariants.{Turn, Build, Enter, Ask, Dispatch, Back, Leave, Serve, Served}
use Rattle.dom_semantics.specs.declared.selectors.Compound.{Compound}
use Rattle.dom_semantics.specs.Stage.{Setting}
use Rattle.js_semantics.specs.Intrinsics.{Setup}
use Rattle.small_eval.specs.Pieces.{pieces_of}
use Rattle.small_forms.specs.declared.page.Page.{Page as OnePage}
use Rattle.small_forms.specs.declared.userscript.Userscript.{Userscript}
use Rattle.small_forms.specs.Pages.{IsPage}
use Rattle.small_meaning.specs.Shows.{FitsEntry}
use Rattle.small_meaning.proofs.Shown.{AllEnter, EntersOnly, entered, turns_enter}
use Rattle.solo_model.specs.Acts as acts
use Rattle.solo_model.specs.Acts.{ActsAreSoloSoFar, setups_of}
use Rattle.solo_model.specs.Closed as old
use Rattle.solo_model.specs.Genuine.{IsGenuine}
use Rattle.solo_model.specs.Given.{Given, setting_of}
use Rattle.solo_model.specs.Lawful as old_lawful
use Rattle.solo_model.specs.Lawful.{AreTurns, AreTurnsSoFar, Input, tasks_of}
use Rattle.solo_model.specs.Right.{IsRightSoFar}
use Rattle.solo_model.specs.Truth as truth
use Rattle.solo_model.specs.View as old_view
use Rattle.solo_model.proofs.Journals.{turn-alone}
use Rattle.small_runs.proofs.Acting.{AllOf, By, Ordered, turns_arranged}
use Rattle.small_runs.proofs.Closing.{old_whole, whole_acts_due}
use Rattle.small_runs.proofs.Courses.{no_clocks}
use Rattle.small_runs.proofs.Entering.{AllFit}
use Rattle.small_runs.proofs.Givens.{given_in_order}
use Rattle.small_runs.proofs.Going.{setting}
use Rattle.small_runs.proofs.Paging.{page_cut, page_paged}
use Rattle.small_runs.proofs.Partly.{Partly}
use Rattle.small_runs.proofs.Readings.{all_fit}
use Rattle.small_runs.proofs.Right.{Journal, Laws, SoloView, SoloWhole, few_pieces, few_tasks, host_apart, journal_fits, no_host, nothing_done, same_setting, same_setup, unseen, whole_of}
use Rattle.small_runs.proofs.RunningSoFar.{played_so_far}
use Rattle.small_runs.proofs.Seeing.{all_plain}
use Rattle.small_runs.proofs.Setups.{acts_or_rests, given_apart, small_apart}
use Rattle.small_runs.proofs.Tasks.{small_of, tasks_same}
use Rattle.small_runs.specs.SmallGiven.{AllActsAreSoloSoFar, IsSmall, given_of, input_of, small_setups}

-- ---- a journal that was cut off is the front of a whole one

-- behind these marks there may be others, so that they are the whole turns of the first of these tasks
pub record Begins (input : Input) (before : List Mark) (tasks : List Task) (marks : List Mark) : Type 0 where
  pub rest : List Mark
  pub front : List Task
  pub tail : List Task
  pub split : tasks ≡ front ++ tail
  pub turns : AreTurns input before front (marks ++ rest)

begins : (input : Input) (before : List Mark) (tasks : List Task) (marks : List Mark) → AreTurnsSoFar input before tasks marks → Begins input before tasks marks
unfolding AreTurnsSoFar AreTurns
begins input before [] marks h = record { rest = []; front = []; tail = []; split = refl; turns = append-nil marks ∙ h }
begins input before (task ∷ tasks) marks (inl none) = record { rest = []; front = []; tail = task ∷ tasks; split = refl; turns = append-nil marks ∙ none }
begins input before (task ∷ tasks) marks (inr (inl (turn, rest, e, is))) =
    let P : List Mark → Type 0 = λ ms. AreTurns input before (task ∷ []) ms in
    record { rest = rest; front = task ∷ []; tail = tasks; split = refl; turns = subst P (sym (ap (λ ms. ms ++ rest) e)) (turn-alone input before task (turn ++ rest) is) }
begins input before (task ∷ tasks) marks (inr (inr (turn, more, e, is, later))) =
    let b = begins input (before ++ Turn task ∷ turn) tasks more later in
    record {
      rest = b.rest;
      front = task ∷ b.front;
      tail = b.tail;
      split = ap (λ ts. task ∷ ts) b.split;
      turns = (turn, more ++ b.rest, ap (λ ms. ms ++ b.rest) e ∙ ap (λ ms. Turn task ∷ ms) (append_assoc turn more b.rest), is, b.turns);
    }

-- ---- fronts

abbrev SomeOrder : Option Actor → List Mark → Type 0
SomeOrder x marks = (y : Option Actor) × Ordered x marks y

with_first : (j k : Actor) (x : Option Actor) (marks : List Mark) → k ≡ j → SomeOrder x marks → (y : Option Actor) × ((k ≡ j) × Ordered x marks y)
with_first j k x marks e (y, h) = (y, (e, h))

order_front : (x z : Option Actor) (xs ys : List Mark) → Ordered x (xs ++ ys) z → SomeOrder x xs
order_front x z [] ys h = (x, refl)
order_front None z (Turn task ∷ xs) ys h = order_front None z xs ys h
order_front None z (Build request ∷ xs) ys h = order_front None z xs ys h
order_front None z (Dispatch i event target ∷ xs) ys h = order_front None z xs ys h
order_front None z (Back i answer ∷ xs) ys h = order_front None z xs ys h
order_front None z (Enter j (Script text) ∷ xs) ys h = order_front (Some j) z xs ys h
order_front (Some j) z (Ask k request answer ∷ xs) ys h = with_first j k (Some j) xs h.0 (order_front (Some j) z xs ys h.1)
order_front (Some j) z (Leave k outcome units ∷ xs) ys h = with_first j k None xs h.0 (order_front None z xs ys h.1)
order_front x z (mark ∷ xs) ys h = absurd h

of_front : (input : Input) (xs ys : List Mark) → AllOf input (xs ++ ys) → AllOf input xs
of_front input [] ys h = tt
of_front input (x ∷ xs) ys h = (h.0, of_front input xs ys h.1)

enter_front : (P : List ℕ → Type 0) (xs ys : List Mark) → AllEnter P (xs ++ ys) → AllEnter P xs
enter_front P [] ys h = tt
enter_front P (Enter j (Script text) ∷ xs) ys h = (h.0, enter_front P xs ys h.1)
enter_front P (Enter j entry ∷ xs) ys h = absurd h
enter_front P (mark ∷ xs) ys h = enter_front P xs ys h

entered_less : (xs ys : List Mark) → entered xs ≤ entered (xs ++ ys)
entered_less [] ys = omega arith
entered_less (Enter j entry ∷ xs) ys = omega (arith, entered_less xs ys)
entered_less (mark ∷ xs) ys = entered_less xs ys

enters_front : (P : List ℕ → Type 0) (n m : ℕ) (xs ys : List Mark) → n ≤ m → EntersOnly P n (xs ++ ys) → EntersOnly P m xs
enters_front P n m xs ys le h = record { texts = enter_front P xs ys h.texts; few = omega (arith, h.few, entered_less xs ys, le) }

journal_so_far : (address bytes : List ℕ) (page : OnePage) (scripts : List Userscript) (read : List ℕ → Option (List (List Compound))) (marks : List Mark) → Laws → IsSmall address scripts read
    → IsPage bytes page → old_lawful.IsLawfulSoFar (input_of (pieces_of page) scripts) marks → truth.IsGenuine marks → Journal address bytes page scripts marks
journal_so_far address bytes page scripts read marks laws small is lawful said =
    let input : Input = input_of (pieces_of page) scripts in
    let b : Begins input [] (tasks_of input) marks = begins input [] (tasks_of input) marks lawful in
    let few : length b.front ≤ 1000 = omega (arith, few_tasks bytes page scripts is small.few, ap length b.split, length-append b.front b.tail) in
    let entries : (zone : Zone) → EntersOnly (λ text. FitsEntry zone (Script text)) 1000 marks = λ zone.
    enters_front (λ text. FitsEntry zone (Script text)) (length b.front) 1000 marks b.rest few
    (turns_enter (λ text. FitsEntry zone (Script text)) input [] b.front (marks ++ b.rest) (all_fit laws.small zone bytes page scripts is small.forms) b.turns) in
    let arranged = turns_arranged input [] b.front (marks ++ b.rest) b.turns in
    let order = order_front None None marks b.rest arranged.order in
    record {
      is_page = is;
      laws = laws;
      said = said;
      plain = all_plain (λ text. FitsEntry Page (Script text)) [] marks said (entries Page).texts;
      running = order.0;
      order = order.1;
      actors = of_front input marks b.rest arranged.actors;
      enters = entries;
      forms = small.forms;
    }

-- ---- acts

entered_same : (outer : List Actor) (marks : List Mark) → acts.entered_in outer marks ≡ old.entered_in outer marks
entered_same outer [] = refl
entered_same outer (Enter j entry ∷ marks) = entered_same (j ∷ outer) marks
entered_same outer (Leave j outcome units ∷ marks) = entered_same (drop 1 outer) marks
entered_same outer (Turn task ∷ marks) = entered_same outer marks
entered_same outer (Build request ∷ marks) = entered_same outer marks
entered_same outer (Ask j request answer ∷ marks) = entered_same outer marks
entered_same outer (Dispatch j event target ∷ marks) = entered_same outer marks
entered_same outer (Back j answer ∷ marks) = entered_same outer marks
entered_same outer (Serve j owner value operation ∷ marks) = entered_same outer marks
entered_same outer (Served j answer ∷ marks) = entered_same outer marks

running_same : (i : Actor) (marks : List Mark) → acts.is_running i marks ≡ old.is_running i marks
running_same i marks = ap (λ actors. list_any (old_view.is_actor i) (take 1 actors)) (entered_same [] marks)

view_so_far : (address : List ℕ) (marks : List Mark) (i : Actor) (so_far : old.ActsAreSoloSoFar (small_setups address) i marks) → Rattle.small_runs.proofs.Views.ArePlain marks
    → SoloView (small_setups address i) i marks so_far.due
view_so_far address marks i so_far plain = old_whole (small_setups address) i marks so_far.due (small_apart address) plain so_far.same

acts_so_far : (address bytes : List ℕ) (page : OnePage) (scripts : List Userscript) (read : List ℕ → Option (List (List Compound))) (marks : List Mark) → Journal address bytes page scripts marks
    → AllActsAreSoloSoFar address marks → (i : Actor) → 1 ≤ i.0 → ActsAreSoloSoFar (setups_of (given_of address (pieces_of page) scripts read)) i marks
acts_so_far address bytes page scripts read marks jo solo i one = by (acts_or_rests (pieces_of page) scripts i one)
  where
    given : Given
    given = given_of address (pieces_of page) scripts read

    so_far : old.ActsAreSoloSoFar (small_setups address) i marks
    so_far = solo i (no_host i one)

    by : By (input_of (pieces_of page) scripts) i ⊎ (By (input_of (pieces_of page) scripts) i → ⊥) → ActsAreSoloSoFar (setups_of given) i marks
    by (inl actor) =
        let P : Setup → Type 0 = λ s. SoloWhole s i marks so_far.due in
        let whole : SoloWhole (setups_of given i) i marks so_far.due =
        subst P (same_setup address (pieces_of page) scripts read i actor) (whole_of (small_setups address i) i marks so_far.due jo.plain (view_so_far address marks i so_far jo.plain)) in
        record {
          due = so_far.due;
          one = so_far.one;
          none = λ idle. so_far.none (sym (running_same i marks) ∙ idle);
          same = whole_acts_due (setups_of given) i marks so_far.due (given_apart address (pieces_of page) scripts read) jo.plain whole;
        }
    by (inr none) = record {
      due = [];
      one = omega arith;
      none = λ idle. refl;
      same =
          whole_acts_due (setups_of given) i marks [] (given_apart address (pieces_of page) scripts read) jo.plain
          (nothing_done (setups_of given i) i marks jo.plain (unseen (input_of (pieces_of page) scripts) i old_view.at_start [] marks (host_apart i one) none jo.plain jo.actors jo.said));
    }

-- ---- a run that was cut off

pub cut_right : (address bytes : List ℕ) (page : OnePage) (scripts : List Userscript) (read : List ℕ → Option (List (List Compound))) (marks : List Mark) → Laws → IsSmall address scripts read
    → IsPage bytes page → old_lawful.IsLawfulSoFar (input_of (pieces_of page) scripts) marks → truth.IsGenuine marks → AllActsAreSoloSoFar address marks
    → IsRightSoFar (given_of address (pieces_of page) scripts read) marks
cut_right address bytes page scripts read marks laws small is lawful said solo =
    let input : Input = input_of (pieces_of page) scripts in
    let given : Given = given_of address (pieces_of page) scripts read in
    let jo = journal_so_far address bytes page scripts read marks laws small is lawful said in
    let fits : AllFit given marks = journal_fits address bytes page scripts read marks jo (λ i other. ((solo i other).due, view_so_far address marks i (solo i other) jo.plain)) in
    let partly : Partly given marks =
    played_so_far given input marks (small_of address (pieces_of page) scripts read (few_pieces bytes page is) small.few) (tasks_same address (pieces_of page) scripts read) (page_paged bytes page is) fits lawful said in
    let same : setting_of given marks ≡ setting given = same_setting given marks refl (no_clocks 0 marks partly.no_lines) in
    let Allowed : Setting → Type 0 = λ s. Rattle.solo_model.specs.NextMark.AreAllowed given s [] marks in
    let True : Setting → Type 0 = λ s. IsGenuine (setups_of given) s marks in
    record {
      in_order = given_in_order address (pieces_of page) scripts read small (page_cut page);
      lawful = subst Allowed (sym same) partly.allowed;
      genuine = subst True (sym same) partly.genuine;
      acts = acts_so_far address bytes page scripts read marks jo solo;
    }
