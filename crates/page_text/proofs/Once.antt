-- A text has one reading.
use Rattle.std.proofs.Common.{◌≡◌, ℕ, List, [], Option, Some, None, Result, Ok, Err, IfOk, IfErr, refl, ap, sym, ◌∙◌, subst}
use Rattle.std.proofs.lemmas.Bool.{both_ways}
use Rattle.base_text.specs.declared.memory.OrMemory.{OrMemory}
use Rattle.base_text.specs.declared.memory.OrMemory.TheVariants.{Fault, NoMemory}
use Rattle.page_text.specs.declared.faults.PageFault.{PageFault}
use Rattle.page_text.specs.declared.faults.PageKind.{PageKind}
use Rattle.page_text.specs.declared.pieces.Piece.{Piece}
use Rattle.page_text.specs.declared.reader.Over.{Over}
use Rattle.page_text.specs.declared.reader.Over.TheVariants.{No, Ended, Refused}
use Rattle.page_text.specs.declared.tags.Attribute.{Attribute}
use Rattle.page_text.specs.Bytes.{Bytes}
use Rattle.page_text.specs.Outcomes.{Outcome}
use Rattle.page_text.specs.TagsModel as t
use Rattle.page_text.specs.TagsModel.{Attributes, StartTag, Tag, tagged}
use Rattle.page_text.specs.StepsModel as s
use Rattle.page_text.specs.StepsModel.{State, Stepped, Next, Script, End, Front, ElementStep, StepsAt, Steps}
use Rattle.page_text.specs.Pieces as p
use Rattle.page_text.specs.Pieces.{PieceEnd, PieceFrom}
use Rattle.page_text.specs.Page.{Progress, IsNext, IsStuck, Pieces, Faulty, Goes, Stops, Refuses, no_more, next, refused, here, later}
use Rattle.page_text.specs.Reads.{AreRead, IsFault, IsMet, with_answer}

-- the parts of an answer
found_in : Outcome (Option Attribute × Bytes) → Option Attribute
found_in (Ok x) = x.0
found_in (Err e) = None

left_in : Outcome (Option Attribute × Bytes) → Bytes
left_in (Ok x) = x.1
left_in (Err e) = []

same_found : (o : Outcome (Option Attribute × Bytes)) (a b : Option Attribute) (x y : Bytes) → o ≡ Ok (a, x) → o ≡ Ok (b, y) → a ≡ b
unfolding found_in
same_found o a b x y h g = ap found_in (sym h ∙ g)

same_left : (o : Outcome (Option Attribute × Bytes)) (a b : Option Attribute) (x y : Bytes) → o ≡ Ok (a, x) → o ≡ Ok (b, y) → x ≡ y
unfolding left_in
same_left o a b x y h g = ap left_in (sym h ∙ g)

none_some : {A : Type 0} (a : A) → None ≡ Some a → ⊥
none_some a h = cc

some_same : {A : Type 0} (a b : A) → Some a ≡ Some b → a ≡ b
some_same a b h = cc

ok_err : {A E : Type 0} (o : Result A E) (a : A) (e : E) → o ≡ Ok a → o ≡ Err e → ⊥
ok_err o a e h g = cc

module _ (start : Bytes) where
  again : List Attribute → Bytes → Outcome (List Attribute × Bytes) → Type 0
  again found text a = (b : Outcome (List Attribute × Bytes)) → Attributes start found text b → a ≡ b

  closed_once : (found : List Attribute) (text rest : Bytes) → t.next_at start text ≡ Ok (None, rest) → (b : Outcome (List Attribute × Bytes)) → Attributes start found text b → Ok (found, rest) ≡ b
  closed_once found text rest h b (t.closed found' text' rest' g) = ap (λ r. Ok (found, r)) (same_left _ _ _ _ _ h g)
  closed_once found text rest h b (t.more found' a text' rest' out g m) = absurd (none_some a (same_found _ _ _ _ _ h g))
  closed_once found text rest h b (t.stuck found' text' e g) = absurd (ok_err _ _ _ h g)

  more_once : (found : List Attribute) (a : Attribute) (text rest : Bytes) (out : Outcome (List Attribute × Bytes)) → t.next_at start text ≡ Ok (Some a, rest) → ((b : Outcome (List Attribute × Bytes)) → Attributes start (t.with_attribute found a) rest b → out ≡ b) → (b : Outcome (List Attribute × Bytes)) → Attributes start found text b → out ≡ b
  more_once found a text rest out h n b (t.closed found' text' rest' g) = absurd (none_some a (sym (same_found _ _ _ _ _ h g)))
  more_once found a text rest out h n b (t.more found' a' text' rest' out' g m) =
      let e = some_same a a' (same_found _ _ _ _ _ h g) in
      let r = same_left _ _ _ _ _ h g in
      n b (rw (e, r) m)
  more_once found a text rest out h n b (t.stuck found' text' e g) = absurd (ok_err _ _ _ h g)

  stuck_once : (found : List Attribute) (text : Bytes) (e : PageKind × Bytes) → t.next_at start text ≡ Err e → (b : Outcome (List Attribute × Bytes)) → Attributes start found text b → Err e ≡ b
  stuck_once found text e h b (t.closed found' text' rest' g) = absurd (ok_err _ _ _ g h)
  stuck_once found text e h b (t.more found' a text' rest' out g m) = absurd (ok_err _ _ _ g h)
  stuck_once found text e h b (t.stuck found' text' e' g) = cc

  pub attributes_once : (found : List Attribute) (text : Bytes) (a : Outcome (List Attribute × Bytes)) → Attributes start found text a → (b : Outcome (List Attribute × Bytes)) → Attributes start found text b → a ≡ b
  attributes_once found text a (t.closed found' text' rest h) = closed_once found text rest h
  attributes_once found text a (t.more found' x text' rest out h m) = more_once found x text rest a h (attributes_once (t.with_attribute found x) rest a m)
  attributes_once found text a (t.stuck found' text' e h) = stuck_once found text e h

pub start_once : (text : Bytes) (a b : Outcome Tag) → StartTag text a → StartTag text b → a ≡ b
start_once text a b (t.long e h) (t.long e' g) = cc
start_once text a b (t.long e h) (t.read name out g m) = absurd (ok_err _ _ _ g h)
start_once text a b (t.read name out h m) (t.long e g) = absurd (ok_err _ _ _ h g)
start_once text a b (t.read name out h m) (t.read name' out' g n) =
    let same : name ≡ name' = cc in
    let outs = attributes_once text [] _ out m out' n in
    rw (same, outs) refl

pub element_once : (st : State) (a b : Outcome Stepped) → ElementStep st a → ElementStep st b → a ≡ b
element_once st a b (s.no_room e h) (s.no_room e' g) = cc
element_once st a b (s.no_room e h) (s.no_tag e' g m) = absurd (ok_err _ _ _ g h)
element_once st a b (s.no_room e h) (s.element x g m) = absurd (ok_err _ _ _ g h)
element_once st a b (s.no_tag e h m) (s.no_room e' g) = absurd (ok_err _ _ _ h g)
element_once st a b (s.no_tag e h m) (s.no_tag e' g n) = let x = start_once st.rest _ _ m n in cc
element_once st a b (s.no_tag e h m) (s.element x g n) = absurd (ok_err (Err e) x e (start_once st.rest _ _ m n) refl)
element_once st a b (s.element x h m) (s.no_room e' g) = absurd (ok_err _ _ _ h g)
element_once st a b (s.element x h m) (s.no_tag e' g n) = absurd (ok_err (Ok x) x e' refl (start_once st.rest _ _ m n))
element_once st a b (s.element x h m) (s.element y g n) =
    let e = start_once st.rest _ _ m n in
    let same : x ≡ y = cc in
    ap (s.tag_step st) same

pub steps_once : (st : State) (f : Front) (a b : Outcome Stepped) → StepsAt st f a → StepsAt st f b → a ≡ b
steps_once st f a b s.over_end s.over_end = refl
steps_once st f a b s.over_text s.over_text = refl
steps_once st f a b s.over_comment s.over_comment = refl
steps_once st f a b s.over_doctype s.over_doctype = refl
steps_once st f a b s.over_end_tag s.over_end_tag = refl
steps_once st f a b s.over_bad s.over_bad = refl
steps_once st f a b (s.over_second h) (s.over_second g) = refl
steps_once st f a b (s.over_second h) (s.over_element out g m) = absurd (both_ways _ g h)
steps_once st f a b (s.over_element out h m) (s.over_second g) = absurd (both_ways _ h g)
steps_once st f a b (s.over_element out h m) (s.over_element out' g n) = element_once st _ _ m n

-- ---- pieces

cut_script : Outcome Stepped → List ℕ
cut_script (Ok (Next t)) = []
cut_script (Ok (Script x t)) = x
cut_script (Ok (End t)) = []
cut_script (Err e) = []

state_in : State → Outcome Stepped → State
state_in d (Ok (Next t)) = t
state_in d (Ok (Script x t)) = t
state_in d (Ok (End t)) = t
state_in d (Err e) = d

same_state_went : (t u : State) → ◌≡◌ {A = Outcome Stepped} (Ok (Next t)) (Ok (Next u)) → t ≡ u
same_state_went t u h = cc

module _ (st : State) where
  went_once : (t : State) (out : Outcome PieceEnd) → Steps st (Ok (Next t)) → ((b : Outcome PieceEnd) → PieceFrom t b → out ≡ b) → (b : Outcome PieceEnd) → PieceFrom st b → out ≡ b
  went_once t out h n b (p.past_step st' u out' g m) =
      let e = same_state_went t u (steps_once st _ _ _ h g) in
      n b (rw e m)
  went_once t out h n b (p.at_script st' u x g) = let e = steps_once st _ _ _ h g in absurd (cc)
  went_once t out h n b (p.at_end st' u g) = let e = steps_once st _ _ _ h g in absurd (cc)
  went_once t out h n b (p.at_fault st' e' g) = let e = steps_once st _ _ _ h g in absurd (cc)

  cut_once : (t : State) (x : List ℕ) → Steps st (Ok (Script x t)) → (b : Outcome PieceEnd) → PieceFrom st b → Ok (Some x, t) ≡ b
  cut_once t x h b (p.past_step st' u out' g m) = let e = steps_once st _ _ _ h g in absurd (cc)
  cut_once t x h b (p.at_script st' u y g) =
      let e = steps_once st _ _ _ h g in
      let same : x ≡ y = cc in
      let states : t ≡ u = cc in
      rw (same, states) refl
  cut_once t x h b (p.at_end st' u g) = let e = steps_once st _ _ _ h g in absurd (cc)
  cut_once t x h b (p.at_fault st' e' g) = let e = steps_once st _ _ _ h g in absurd (cc)

  done_once : (t : State) → Steps st (Ok (End t)) → (b : Outcome PieceEnd) → PieceFrom st b → Ok (None, t) ≡ b
  done_once t h b (p.past_step st' u out' g m) = let e = steps_once st _ _ _ h g in absurd (cc)
  done_once t h b (p.at_script st' u y g) = let e = steps_once st _ _ _ h g in absurd (cc)
  done_once t h b (p.at_end st' u g) =
      let e = steps_once st _ _ _ h g in
      let states : t ≡ u = cc in
      rw states refl
  done_once t h b (p.at_fault st' e' g) = let e = steps_once st _ _ _ h g in absurd (cc)

  stuck_piece_once : (e : PageKind × Bytes) → Steps st (Err e) → (b : Outcome PieceEnd) → PieceFrom st b → Err e ≡ b
  stuck_piece_once e h b (p.past_step st' u out' g m) = let f = steps_once st _ _ _ h g in absurd (cc)
  stuck_piece_once e h b (p.at_script st' u y g) = let f = steps_once st _ _ _ h g in absurd (cc)
  stuck_piece_once e h b (p.at_end st' u g) = let f = steps_once st _ _ _ h g in absurd (cc)
  stuck_piece_once e h b (p.at_fault st' e' g) = let f = steps_once st _ _ _ h g in cc

pub piece_once : (st : State) (a : Outcome PieceEnd) → PieceFrom st a → (b : Outcome PieceEnd) → PieceFrom st b → a ≡ b
piece_once st a (p.past_step st' t out h m) = went_once st t a h (piece_once t a m)
piece_once st a (p.at_script st' t x h) = cut_once st t x h
piece_once st a (p.at_end st' t h) = done_once st t h
piece_once st a (p.at_fault st' e h) = stuck_piece_once st e h

-- ---- a reader's progress

script_in : Outcome PieceEnd → Option (List ℕ)
script_in (Ok x) = x.0
script_in (Err e) = None

end_in : State → Outcome PieceEnd → State
end_in d (Ok x) = x.1
end_in d (Err e) = d

same_script : (x y : Option (List ℕ)) (t u : State) → ◌≡◌ {A = Outcome PieceEnd} (Ok (x, t)) (Ok (y, u)) → x ≡ y
unfolding script_in
same_script x y t u h = ap script_in h

same_end : (x y : Option (List ℕ)) (t u : State) → ◌≡◌ {A = Outcome PieceEnd} (Ok (x, t)) (Ok (y, u)) → t ≡ u
unfolding end_in
same_end x y t u h = ap (end_in t) h

next_once : (r q q' : Progress) (a b : Piece) → IsNext r a q → IsNext r b q' → (a ≡ b) × (q ≡ q')
next_once r q q' a b n m =
    let e = piece_once r.state _ n.read _ m.read in
    let scripts = same_script n.script m.script n.state m.state e in
    let states = same_end n.script m.script n.state m.state e in
    (rw (n.is_piece, m.is_piece, scripts, states) refl, rw (n.is_behind, m.is_behind, scripts, states) refl)

next_or_stuck : (r q : Progress) (a : Piece) (f : PageFault) → IsNext r a q → IsStuck r f → ⊥
next_or_stuck r q a f n m = let e = piece_once r.state _ n.read _ m.read in cc

kind_in : PageKind → Outcome PieceEnd → PageKind
kind_in d (Ok x) = d
kind_in d (Err e) = e.0

fault_rest_in : Outcome PieceEnd → Bytes
fault_rest_in (Ok x) = []
fault_rest_in (Err e) = e.1

same_kind : (k l : PageKind) (x y : Bytes) → ◌≡◌ {A = Outcome PieceEnd} (Err (k, x)) (Err (l, y)) → k ≡ l
unfolding kind_in
same_kind k l x y h = ap (kind_in k) h

same_fault_rest : (k l : PageKind) (x y : Bytes) → ◌≡◌ {A = Outcome PieceEnd} (Err (k, x)) (Err (l, y)) → x ≡ y
unfolding fault_rest_in
same_fault_rest k l x y h = ap fault_rest_in h

stuck_progress_once : (r : Progress) (f g : PageFault) → IsStuck r f → IsStuck r g → f ≡ g
stuck_progress_once r f g n m =
    let e = piece_once r.state _ n.read _ m.read in
    rw (n.is_fault, m.is_fault, same_kind n.kind m.kind n.rest m.rest e, same_fault_rest n.kind m.kind n.rest m.rest e) refl

-- ---- the answers of next_piece

over_clash : (r : Progress) (a b : Over) → r.over ≡ a → r.over ≡ b → a ≡ b
over_clash r a b h g = sym h ∙ g

module _ (r q : Progress) where
  read_at : (o : Over) → r.over ≡ o → (a : Option Piece) → Goes o r a q → (pieces : List Piece) → Pieces r pieces → AreRead pieces q (Ok a)
  read_at No e None g pieces h = absurd g
  read_at No e (Some x) g pieces (no_more r' h) = let c = over_clash r _ _ e h in absurd (cc)
  read_at No e (Some x) g pieces (next r' q' y more h n m) =
      let same = next_once r q q' x y g n in
      (more, rw same.0 refl, rw same.1 m)
  read_at Ended e None g pieces (no_more r' h) = refl
  read_at Ended e None g pieces (next r' q' y more h n m) = let c = over_clash r _ _ e h in absurd (cc)
  read_at Ended e (Some x) g pieces h = absurd g
  read_at (Refused f) e a g pieces h = absurd g

  pub are_read : (a : Option Piece) → Goes r.over r a q → (pieces : List Piece) → Pieces r pieces → AreRead pieces q (Ok a)
  are_read a g = read_at r.over refl a g

  met_at : (o : Over) → r.over ≡ o → (a : Option Piece) → Goes o r a q → (f : PageFault) → Faulty r f → IsMet f q (Ok a)
  met_at No e None g f h = absurd g
  met_at No e (Some x) g f (refused r' f' h) = let c = over_clash r _ _ e h in absurd (cc)
  met_at No e (Some x) g f (here r' f' h n) = absurd (next_or_stuck r q x f g n)
  met_at No e (Some x) g f (later r' q' y f' h n m) = rw (next_once r q q' x y g n).1 m
  met_at Ended e None g f (refused r' f' h) = let c = over_clash r _ _ e h in absurd (cc)
  met_at Ended e None g f (here r' f' h n) = let c = over_clash r _ _ e h in absurd (cc)
  met_at Ended e None g f (later r' q' y f' h n m) = let c = over_clash r _ _ e h in absurd (cc)
  met_at Ended e (Some x) g f h = absurd g
  met_at (Refused k) e a g f h = absurd g

  pub is_met : (a : Option Piece) → Goes r.over r a q → (f : PageFault) → Faulty r f → IsMet f q (Ok a)
  is_met a g = met_at r.over refl a g

  goes_at : (o : Over) → r.over ≡ o → (a : Option Piece) → Goes o r a q → (pieces : List Piece) → Pieces q pieces → Pieces r (with_answer a pieces)
  goes_at No e None g pieces h = absurd g
  goes_at No e (Some x) g pieces h = next r q x pieces e g h
  goes_at Ended e None g pieces h = rw (← g) h
  goes_at Ended e (Some x) g pieces h = absurd g
  goes_at (Refused f) e a g pieces h = absurd g

  pub goes_on : (a : Option Piece) → Goes r.over r a q → (pieces : List Piece) → Pieces q pieces → Pieces r (with_answer a pieces)
  goes_on a g = goes_at r.over refl a g

  faulty_at : (o : Over) → r.over ≡ o → (a : Option Piece) → Goes o r a q → (f : PageFault) → Faulty q f → Faulty r f
  faulty_at No e None g f h = absurd g
  faulty_at No e (Some x) g f h = later r q x f e g h
  faulty_at Ended e None g f h = rw (← g) h
  faulty_at Ended e (Some x) g f h = absurd g
  faulty_at (Refused k) e a g f h = absurd g

  pub stays_faulty : (a : Option Piece) → Goes r.over r a q → (f : PageFault) → Faulty q f → Faulty r f
  stays_faulty a g = faulty_at r.over refl a g

stops_faulty_at : (r : Progress) (o : Over) → r.over ≡ o → (f : PageFault) → Stops o r f → Faulty r f
stops_faulty_at r No e f h = here r f e h
stops_faulty_at r Ended e f h = absurd h
stops_faulty_at r (Refused g) e f h = refused r f (rw h e)

pub stops_faulty : (r : Progress) (f : PageFault) → Stops r.over r f → Faulty r f
stops_faulty r f h = stops_faulty_at r r.over refl f h

-- a progress with a fault to come has no pieces to come, and one fault
not_both_at : (r : Progress) (o : Over) → r.over ≡ o → (f : PageFault) → Stops o r f → (pieces : List Piece) → Pieces r pieces → ⊥
not_both_at r No e f h pieces (no_more r' g) = let c = over_clash r _ _ e g in cc
not_both_at r No e f h pieces (next r' q y more g n m) = next_or_stuck r q y f n h
not_both_at r Ended e f h pieces m = h
not_both_at r (Refused k) e f h pieces (no_more r' g) = let c = over_clash r _ _ e g in cc
not_both_at r (Refused k) e f h pieces (next r' q y more g n m) = let c = over_clash r _ _ e g in cc

pub not_both : (r : Progress) (f : PageFault) → Stops r.over r f → (pieces : List Piece) → Pieces r pieces → ⊥
not_both r f h = not_both_at r r.over refl f h

one_fault_at : (r : Progress) (o : Over) → r.over ≡ o → (f : PageFault) → Stops o r f → (g : PageFault) → Faulty r g → f ≡ g
one_fault_at r No e f h g (refused r' g' k) = let c = over_clash r _ _ e k in absurd (cc)
one_fault_at r No e f h g (here r' g' k n) = stuck_progress_once r f g h n
one_fault_at r No e f h g (later r' q y g' k n m) = absurd (next_or_stuck r q y f n h)
one_fault_at r Ended e f h g m = absurd h
one_fault_at r (Refused x) e f h g (refused r' g' k) = let c = over_clash r _ _ e k in cc
one_fault_at r (Refused x) e f h g (here r' g' k n) = let c = over_clash r _ _ e k in absurd (cc)
one_fault_at r (Refused x) e f h g (later r' q y g' k n m) = let c = over_clash r _ _ e k in absurd (cc)

pub one_fault : (r : Progress) (f : PageFault) → Stops r.over r f → (g : PageFault) → Faulty r g → f ≡ g
one_fault r f h = one_fault_at r r.over refl f h

-- ---- the clauses of next_piece

pub only_of : (r q : Progress) (a : Result (Option Piece) (OrMemory PageFault)) → IfOk a (λ o. Goes r.over r o q) → IfErr a (λ e. Refuses r e q) → (pieces : List Piece) → Pieces r pieces → AreRead pieces q a
only_of r q (Ok None) g e pieces h = are_read r q None g pieces h
only_of r q (Ok (Some x)) g e pieces h = are_read r q (Some x) g pieces h
only_of r q (Err (Fault f)) g e pieces h = not_both r f e.0 pieces h
only_of r q (Err NoMemory) g e pieces h = tt

pub fault_of : (r q : Progress) (a : Result (Option Piece) (OrMemory PageFault)) → IfOk a (λ o. Goes r.over r o q) → IfErr a (λ e. Refuses r e q) → (f : PageFault) → Faulty r f → IsMet f q a
fault_of r q (Ok None) g e f h = is_met r q None g f h
fault_of r q (Ok (Some x)) g e f h = is_met r q (Some x) g f h
fault_of r q (Err (Fault k)) g e f h = one_fault r k e.0 f h
fault_of r q (Err NoMemory) g e f h = tt

pub read_of : (r q : Progress) (a : Result (Option Piece) (OrMemory PageFault)) → IfOk a (λ o. Goes r.over r o q) → IfOk a (λ o. (pieces : List Piece) → Pieces q pieces → Pieces r (with_answer o pieces))
read_of r q (Ok o) g = goes_on r q o g
read_of r q (Err e) g = tt

pub faulty_of : (r q : Progress) (a : Result (Option Piece) (OrMemory PageFault)) → IfOk a (λ o. Goes r.over r o q) → IfOk a (λ o. (f : PageFault) → Faulty q f → Faulty r f)
faulty_of r q (Ok o) g = stays_faulty r q o g
faulty_of r q (Err e) g = tt

pub met_of : (r q : Progress) (a : Result (Option Piece) (OrMemory PageFault)) → IfErr a (λ e. Refuses r e q) → IfErr a (λ e. IsFault r e)
met_of r q (Ok o) e = tt
met_of r q (Err (Fault f)) e = stops_faulty r f e.0
met_of r q (Err NoMemory) e = tt

-- ---- a page has one reading

stops_refused : (r : Progress) (f : PageFault) → r.over ≡ Refused f → Stops r.over r f
stops_refused r f h = subst (λ o. Stops o r f) (sym h) refl

stops_here : (r : Progress) (f : PageFault) → r.over ≡ No → IsStuck r f → Stops r.over r f
stops_here r f h n = subst (λ o. Stops o r f) (sym h) n

pub pieces_once : (r : Progress) (xs : List Piece) → Pieces r xs → (ys : List Piece) → Pieces r ys → xs ≡ ys
pieces_once r xs (no_more r' h) ys (no_more r'' g) = refl
pieces_once r xs (no_more r' h) ys (next r'' q y more g n m) = let c = over_clash r _ _ h g in absurd (cc)
pieces_once r xs (next r' q x more h n m) ys (no_more r'' g) = let c = over_clash r _ _ h g in absurd (cc)
pieces_once r xs (next r' q x more h n m) ys (next r'' q' y more' g n' m') =
    let same = next_once r q q' x y n n' in
    let rest = pieces_once q more m more' (rw same.1 m') in
    rw (same.0, rest) refl

pub fault_once : (r : Progress) (f : PageFault) → Faulty r f → (g : PageFault) → Faulty r g → f ≡ g
fault_once r f (refused r' f' h) g m = one_fault r f (stops_refused r f h) g m
fault_once r f (here r' f' h n) g m = one_fault r f (stops_here r f h n) g m
fault_once r f (later r' q x f' h n k) g (refused r'' g' e) = let c = over_clash r _ _ h e in absurd (cc)
fault_once r f (later r' q x f' h n k) g (here r'' g' e s) = absurd (next_or_stuck r q x g n s)
fault_once r f (later r' q x f' h n k) g (later r'' q' y g' e n' m) = fault_once q f k g (rw (next_once r q q' x y n n').1 m)

pub page_or_fault : (r : Progress) (f : PageFault) → Faulty r f → (xs : List Piece) → Pieces r xs → ⊥
page_or_fault r f (refused r' f' h) xs m = not_both r f (stops_refused r f h) xs m
page_or_fault r f (here r' f' h n) xs m = not_both r f (stops_here r f h n) xs m
page_or_fault r f (later r' q x f' h n k) xs (no_more r'' g) = let c = over_clash r _ _ h g in cc
page_or_fault r f (later r' q x f' h n k) xs (next r'' q' y more g n' m) = page_or_fault q f k more (rw (next_once r q q' x y n n').1 m)
