-- The fault that is read is the first.
use Rattle.std.proofs.Common.{◌≡◌, ◌+◌, ◌-◌, ◌<◌, ◌≤◌, ℕ, Bool, true, false, ◌==◌, cond, [], ◌∷◌, ◌++◌, length, take, drop, get_or, refl, ap, sym, subst, ◌∙◌, arith, append_assoc, length-append}
use Rattle.std.specs.Prelude.{Option, Some, None, Ok, Err, IfOk}
use Rattle.std.proofs.lemmas.List.{take_at, take-append-drop, take-take, drop_more, at_drop_all, length-drop}
use Rattle.std.proofs.lemmas.Bool.Decides.{nat_tests}
use Rattle.dom_query.specs.declared.fault.SelectorFault.TheVariants.{BadSelector, NoMemory}
use Rattle.dom_query.specs.declared.state.State.{State}
use Rattle.dom_query.specs.declared.state.State.TheVariants as s
use Rattle.dom_query.specs.declared.built.Built.{Built}
use Rattle.dom_semantics.specs.SelectorNames.{Scalars}
use Rattle.dom_semantics.specs.SelectorGrammar.{IsSelector}
use Rattle.dom_semantics.specs.SelectorFaults.{IsFront, IsFault}
use Rattle.dom_query.specs.Answers.{Chains, Answer, OkOrMemory, IfFault, FaultOrMemory}
use Rattle.dom_query.specs.ReadingModel.{Outcome, kind_of, next, build, finish, run, go_on, or_stuck, Tells}
use Rattle.dom_query.proofs.Again.{base, read_again, run_step}
use Rattle.dom_query.proofs.Ways.{read_sound}

-- the text may end in this state
abbrev may_end : State → Bool
may_end s.Gap = true
may_end (s.Name so from) = true
may_end s.Whole = true
may_end st = false

abbrev leave_on : Scalars → (State → Option Scalars) → Option State → Option Scalars
leave_on rest later (Some q) = later q
leave_on rest later None = Some rest

-- what is left from the fault on
unfoldable leaves : State → ℕ → Scalars → Option Scalars
leaves st at [] = cond (may_end st) None (Some [])
leaves st at (c ∷ cs) = leave_on (c ∷ cs) (λ q. leaves q (at + 1) cs) (next st at c)

abbrev fault_in : Outcome → Option Scalars
fault_in (Ok chains) = None
fault_in (Err rest) = Some rest

fault_end : (text : Scalars) (st : State) (at : ℕ) (b : Built) → fault_in (or_stuck [] (finish text st at b)) ≡ cond (may_end st) None (Some [])
unfolding finish
fault_end text s.Gap at b = refl
fault_end text (s.Name so from) at b = refl
fault_end text s.Whole at b = refl
fault_end text st at b = refl

fault_on : (rest : Scalars) (later : State → Outcome) (left : State → Option Scalars) (o : Option State) → ((q : State) → fault_in (later q) ≡ left q) → fault_in (go_on rest later o) ≡ leave_on rest left o
fault_on rest later left None h = refl
fault_on rest later left (Some q) h = h q

fault_left : (text suffix : Scalars) (st : State) (at : ℕ) (b : Built) → fault_in (run text st at b suffix) ≡ leaves st at suffix
unfolding run leaves
fault_left text [] st at b = fault_end text st at b
fault_left text (c ∷ cs) st at b =
    fault_on (c ∷ cs) (λ (q : State). run text q (at + 1) (build text st at (kind_of c) b) cs) (λ (q : State). leaves q (at + 1) cs) (next st at c)
    (λ q. fault_left text cs q (at + 1) (build text st at (kind_of c) b))

-- nothing goes on with the rest
abbrev Stops : State → ℕ → Scalars → Type 0
Stops st at [] = may_end st ≡ false
Stops st at (c ∷ cs) = next st at c ≡ None

record Stuck (st : State) (at : ℕ) (suffix rest : Scalars) : Type 0 where
  pub used : Scalars
  pub state : State
  pub place : ℕ
  pub split : suffix ≡ used ++ rest
  pub same : (m : Scalars) → leaves st at (used ++ m) ≡ leaves state place m
  pub stop : Stops state place rest

here : (st : State) (at : ℕ) (suffix rest : Scalars) → suffix ≡ rest → Stops st at suffix → Stuck st at suffix rest
here st at suffix rest e stop = subst (λ (r : Scalars). Stuck st at suffix r) e (record { used = []; state = st; place = at; split = refl; same = λ m. refl; stop = stop })

stuck_end : (b : Bool) (st : State) (at : ℕ) (rest : Scalars) → may_end st ≡ b → cond b None (Some []) ≡ Some rest → Stuck st at [] rest
stuck_end true st at rest e h = absurd (cc)
stuck_end false st at rest e h = here st at [] rest (cc) e

stuck_on : (o : Option State) (st : State) (at c : ℕ) (cs rest : Scalars) → next st at c ≡ o → leave_on (c ∷ cs) (λ (q : State). leaves q (at + 1) cs) o ≡ Some rest
    → ((q : State) → leaves q (at + 1) cs ≡ Some rest → Stuck q (at + 1) cs rest) → Stuck st at (c ∷ cs) rest
unfolding leaves
stuck_on None st at c cs rest e h more = here st at (c ∷ cs) rest (cc) e
stuck_on (Some q) st at c cs rest e h more =
    let further = more q h in
    record {
      used = c ∷ further.used;
      state = further.state;
      place = further.place;
      split = ap (λ x. c ∷ x) further.split;
      same = λ m. ap (leave_on (c ∷ (further.used ++ m)) (λ (p : State). leaves p (at + 1) (further.used ++ m))) e ∙ further.same m;
      stop = further.stop;
    }

stuck : (suffix : Scalars) (st : State) (at : ℕ) (rest : Scalars) → leaves st at suffix ≡ Some rest → Stuck st at suffix rest
unfolding leaves
stuck [] st at rest h = stuck_end (may_end st) st at rest refl h
stuck (c ∷ cs) st at rest h = stuck_on (next st at c) st at c cs rest refl h (λ q e. stuck cs q (at + 1) rest e)

-- ---- each state can be completed

abbrev completion : State → Scalars
completion s.Before = 97 ∷ []
completion s.Gap = []
completion (s.Begun so) = 97 ∷ []
completion (s.Name so from) = []
completion s.Whole = []
completion s.Opened = 97 ∷ (93 ∷ [])
completion (s.Attribute from) = 93 ∷ []
completion (s.Equals name) = 97 ∷ (93 ∷ [])
completion (s.Quoted name q from) = q ∷ (93 ∷ [])
completion (s.Bare name from) = 93 ∷ []
completion (s.Closing name value) = 93 ∷ []

quote_same : (q : ℕ) → (q == q) ≡ true
quote_same q = grind (arith, nat_tests)

completes : (st : State) (at : ℕ) → leaves st at (completion st) ≡ None
unfolding leaves next
completes s.Before at = refl
completes s.Gap at = refl
completes (s.Begun so) at = refl
completes (s.Name so from) at = refl
completes s.Whole at = refl
completes s.Opened at = refl
completes (s.Attribute from) at = refl
completes (s.Equals name) at = refl
completes (s.Quoted name q from) at = ap (λ b. leaves (cond b (s.Closing name (record { from = from; to = at })) (s.Quoted name q from)) (at + 1) (93 ∷ [])) (quote_same q)
completes (s.Bare name from) at = refl
completes (s.Closing name value) at = refl

-- ---- the whole text

abbrev err_of : Scalars → Outcome
err_of rest = Err rest

abbrev pub whole : Scalars → Outcome
whole text = run text s.Before 0 (base [] []) text

ok_of : (o : Outcome) → fault_in o ≡ None → (chains : Chains) × (o ≡ Ok chains)
ok_of (Ok chains) e = (chains, refl)
ok_of (Err rest) e = absurd (cc)

front_of : (text : Scalars) → leaves s.Before 0 text ≡ None → (chains : Chains) × IsSelector chains text
front_of text e = let read = ok_of (whole text) (fault_left text text s.Before 0 (base [] []) ∙ e) in (read.0, read_sound read.0 text read.1)

stops_on : (st : State) (at c : ℕ) (cs : Scalars) → next st at c ≡ None → leaves st at (c ∷ cs) ≡ Some (c ∷ cs)
unfolding leaves
stops_on st at c cs e = ap (leave_on (c ∷ cs) (λ (q : State). leaves q (at + 1) cs)) e

not_both : (o : Option Scalars) (rest : Scalars) → o ≡ None → o ≡ Some rest → ⊥
not_both o rest e h = cc

reads_none : (chains : Chains) (text : Scalars) → IsSelector chains text → leaves s.Before 0 text ≡ None
reads_none chains text i = sym (fault_left text text s.Before 0 (base [] [])) ∙ ap fault_in (read_again chains text i)

-- none begins with what is used and a scalar with which the state doesn't go on
never : (text rest used : Scalars) (st : State) (at c : ℕ) → ((m : Scalars) → leaves s.Before 0 (used ++ m) ≡ leaves st at m) → next st at c ≡ None → IsFront (used ++ c ∷ []) → ⊥
never text rest used st at c same stop f =
    let whole_text = subst (λ (x : Scalars). IsSelector f.1 x) (append_assoc used (c ∷ []) f.0) f.2 in
    not_both (leaves s.Before 0 (used ++ c ∷ f.0)) (c ∷ f.0) (reads_none f.1 (used ++ c ∷ f.0) whole_text) (same (c ∷ f.0) ∙ stops_on st at c f.0 stop)

fault_at : (text used rest : Scalars) (st : State) (place at : ℕ) → text ≡ used ++ rest → ((m : Scalars) → leaves s.Before 0 (used ++ m) ≡ leaves st place m) → Stops st place rest
    → at + length rest ≡ length text → ((chains : Chains) → IsSelector chains text → ⊥) → IsFault text at
fault_at text used [] st place at split same stop size none =
    let long = ap length split ∙ length-append used [] in
    let count : length used ≡ at = omega arith in
    let full = front_of (used ++ completion st) (same (completion st) ∙ completes st place) in
    let front = sym (ap (take at) split ∙ take_at used [] at count) in
    record {
      refused = none;
      within = omega arith;
      before = subst IsFront front (completion st, full.0, full.1);
      here = λ lt. absurd (omega arith);
    }
fault_at text used (c ∷ cs) st place at split same stop size none =
    let long = ap length split ∙ length-append used (c ∷ cs) in
    let count : length used ≡ at = omega arith in
    let full = front_of (used ++ completion st) (same (completion st) ∙ completes st place) in
    let front = sym (ap (take at) split ∙ take_at used (c ∷ cs) at count) in
    let one : length (used ++ c ∷ []) ≡ at + 1 = let l = length-append used (c ∷ []) in omega arith in
    let through = ap (take (at + 1)) (split ∙ sym (append_assoc used (c ∷ []) cs)) ∙ take_at (used ++ c ∷ []) cs (at + 1) one in
    record {
      refused = none;
      within = omega arith;
      before = subst IsFront front (completion st, full.0, full.1);
      here = λ lt f. never text cs used st place c same stop (subst IsFront through f);
    }

ok_or_err : (o : Outcome) (chains : Chains) (rest : Scalars) → o ≡ Ok chains → o ≡ Err rest → ⊥
ok_or_err o chains rest e h = cc

first_fault : (text rest : Scalars) (at : ℕ) → whole text ≡ Err rest → at + length rest ≡ length text → IsFault text at
first_fault text rest at e size =
    let st = stuck text s.Before 0 rest (sym (fault_left text text s.Before 0 (base [] [])) ∙ ap fault_in e) in
    fault_at text st.used rest st.state st.place at st.split st.same st.stop size (λ chains i. ok_or_err (whole text) chains rest (read_again chains text i) e)

-- ---- the answer

pub ok_clause : (text : Scalars) (r : Answer) → Tells (whole text) (length text) r → IfOk r (λ chains. IsSelector chains text)
ok_clause text (Ok chains) t = read_sound chains text t
ok_clause text (Err (BadSelector at)) t = tt
ok_clause text (Err NoMemory) t = tt

same_read : (x y : Chains) (o : Outcome) → o ≡ Ok x → o ≡ Ok y → y ≡ x
same_read x y o e h = cc

pub only_clause : (text : Scalars) (r : Answer) → Tells (whole text) (length text) r → (chains : Chains) → IsSelector chains text → OkOrMemory r chains
only_clause text (Ok read) t chains i = same_read chains read (whole text) (read_again chains text i) t
only_clause text (Err (BadSelector at)) t chains i = ok_or_err (whole text) chains t.0 (read_again chains text i) t.1
only_clause text (Err NoMemory) t chains i = tt

pub fault_clause : (text : Scalars) (r : Answer) → Tells (whole text) (length text) r → IfFault r (λ at. IsFault text at)
fault_clause text (Ok chains) t = tt
fault_clause text (Err (BadSelector at)) t = first_fault text t.0 at t.1 t.2
fault_clause text (Err NoMemory) t = tt

shorter_front : (x y z : Scalars) → x ≡ y ++ z → IsFront x → IsFront y
shorter_front x y z e f = (z ++ f.0, f.1, subst (λ (t : Scalars). IsSelector f.1 t) (ap (λ t. t ++ f.0) e ∙ append_assoc y z f.0) f.2)

take_more : (text : Scalars) (m n : ℕ) → m ≤ n → take n text ≡ take m text ++ drop m (take n text)
take_more text m n le = sym (take-append-drop m (take n text)) ∙ ap (λ y. y ++ drop m (take n text)) (take-take m n text le)

-- no fault stands before another
not_before : (text : Scalars) (m n : ℕ) → IsFault text m → IsFault text n → m < n → ⊥
not_before text m n first other lt =
    let in_text : m < length text = let w = other.within in omega arith in
    let le : m + 1 ≤ n = omega arith in
    first.here in_text (shorter_front (take n text) (take (m + 1) text) (drop (m + 1) (take n text)) (take_more text (m + 1) n le) other.before)

one_fault : (text : Scalars) (m n : ℕ) → IsFault text m → IsFault text n → m ≡ n
one_fault text m n first other =
    let low : ¬ (m < n) = not_before text m n first other in
    let high : ¬ (n < m) = not_before text n m other first in
    omega arith

pub first_clause : (text : Scalars) (r : Answer) → Tells (whole text) (length text) r → (at : ℕ) → IsFault text at → FaultOrMemory r at
first_clause text (Ok chains) t at f = f.refused chains (read_sound chains text t)
first_clause text (Err (BadSelector place)) t at f = one_fault text place at (first_fault text t.0 place t.1 t.2) f
first_clause text (Err NoMemory) t at f = tt

-- ---- the steps of the reading

-- it stops at this scalar
pub stops_here : (text : Scalars) (st : State) (at : ℕ) (b : Built) (c : ℕ) → at < length text → c ≡ get_or text at c → next st at c ≡ None
    → run text st at b (drop at text) ≡ whole text → Tells (whole text) (length text) (Err (BadSelector at))
unfolding run
stops_here text st at b c lt is stop e =
    let split = drop_more text at c lt ∙ ap (λ x. x ∷ drop (at + 1) text) (sym is) in
    let stuck_there = ap (run text st at b) split
    ∙ ap (go_on (c ∷ drop (at + 1) text) (λ (q : State). run text q (at + 1) (build text st at (kind_of c) b) (drop (at + 1) text))) stop in
    let size : at + length (drop at text) ≡ length text = let l = length-drop at text in omega arith in
    (drop at text, sym e ∙ (stuck_there ∙ ap err_of (sym split)), size)

-- it goes on with the scalar
pub goes_on : (text : Scalars) (st q : State) (at : ℕ) (b : Built) (c : ℕ) → at < length text → c ≡ get_or text at c → next st at c ≡ Some q
    → run text st at b (drop at text) ≡ whole text → run text q (at + 1) (build text st at (kind_of c) b) (drop (at + 1) text) ≡ whole text
goes_on text st q at b c lt is later e =
    let split = drop_more text at c lt ∙ ap (λ x. x ∷ drop (at + 1) text) (sym is) in
    sym (ap (run text st at b) split ∙ run_step text st q at b c (drop (at + 1) text) later) ∙ e

-- the text ends
pub ends_here : (text : Scalars) (st : State) (at : ℕ) (b : Built) (r : Answer) → length text ≤ at → run text st at b (drop at text) ≡ whole text
    → Tells (or_stuck [] (finish text st at b)) (length text) r → Tells (whole text) (length text) r
unfolding run
ends_here text st at b r past e t = subst (λ (o : Outcome). Tells o (length text) r) (ap (run text st at b) (sym (at_drop_all (λ (x : Scalars). x) text at past)) ∙ e) t

none_after : (at size : ℕ) → at ≡ size → at + length {A = ℕ} [] ≡ size
none_after at size e = omega arith

pub stuck_at_end : (at size : ℕ) → at ≡ size → Tells (Err []) size (Err (BadSelector at))
stuck_at_end at size e = ([], refl, none_after at size e)
