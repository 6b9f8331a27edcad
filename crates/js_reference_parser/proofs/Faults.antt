-- The first fault, by what is read.
use Rattle.std.proofs.Common.{◌≡◌, ℕ, ◌+◌, ◌<◌, ◌≤◌, Bool, true, false, cond, List, [], ◌∷◌, ◌++◌, length, Result, Ok, Err, refl, sym, ap, subst, ◌∙◌, append_assoc, arith}
use Rattle.std.proofs.lemmas.List.{length-append, append-nil}
use Rattle.js_syntax.specs.declared.token.Token.{Token}
use Rattle.js_syntax.specs.declared.token.TokenKind.TheVariants as kind
use Rattle.js_syntax.specs.declared.symbol.Symbol.TheVariants as s
use Rattle.js_syntax.specs.declared.parse_fault.ParseKind.{ParseKind}
use Rattle.js_syntax.specs.declared.parse_fault.ParseKind.TheVariants.{Unexpected, TooDeep}
use Rattle.js_syntax.specs.declared.tree.Script.{Script}
use Rattle.js_syntax.specs.declared.tree.Stmt.{Stmt}
use Rattle.js_syntax.specs.Symbols.{Tokens, is, symbol_of}
use Rattle.js_syntax.specs.Scripts.{EndsWell}
use Rattle.js_combinators.specs.Readers.{Outcome}
use Rattle.js_combinators.proofs.Laws.{Law, Passed, Refused, NoEnd, Completable}
use Rattle.js_combinators.proofs.Wider.{Grows, Further, GrowsAtFault}
use Rattle.js_combinators.proofs.Sets.{May}
use Rattle.js_reference_parser.specs.StatementsModel.{top, finish, finish_after, script}
use Rattle.js_reference_parser.proofs.Samples.{end, is_end}
use Rattle.js_reference_parser.proofs.Lists.{ender}
use Rattle.js_reference_parser.proofs.Tops.{sane_top, wider_top, top_nothing, end_may}

abbrev Ender : Tokens → Type 0
Ender ts = May ender ts

end_kind : (t : Token) → t.kind ≡ kind.End → is s.End t ≡ true
unfolding symbol_of
end_kind t h = rw h refl

not_plain : (used : Tokens) → NoEnd used → EndsWell used → ⊥
not_plain [] h w = w
not_plain (t ∷ []) h w = let e = h.0 in let f = end_kind t w in cc
not_plain (t ∷ (u ∷ used)) h w = not_plain (u ∷ used) h.1 w

not_all : (ts used : Tokens) → ts ≡ used ++ [] → NoEnd used → EndsWell ts → ⊥
not_all ts used e h w = not_plain used h (subst EndsWell (e ∙ append-nil used) w)

abbrev made : List Stmt → Script
made all = record { body = all }

-- reading, as a function on lists
abbrev pub Reads : Type 0
Reads = Tokens → Result Script (ParseKind × Tokens)

-- The fault is at a token, whatever comes after it; and what stands before it is the front of a script.
pub record FaultAt (reads : Reads) (ts : Tokens) (kind : ParseKind) (rest : Tokens) : Type 0 where
  pub used : Tokens
  pub here : Token
  pub after : Tokens
  pub split : ts ≡ used ++ here ∷ after
  pub is_rest : rest ≡ here ∷ after
  pub again : (other : Tokens) → reads (used ++ here ∷ other) ≡ Err (kind, here ∷ other)
  pub more : Tokens
  pub value : Script
  pub completes : reads (used ++ more) ≡ Ok value

finish_end : (a : List Stmt) → finish a (end ∷ []) ≡ Ok (made a)
unfolding finish
finish_end a = ap (λ b. cond b (Ok (made a)) (Err (Unexpected, end ∷ []))) is_end

-- what may be completed is the front of a script
front : (chains left : ℕ) (used : Tokens) → Completable Ender (top chains left) used → (more : Tokens) × (value : Script) × (script chains left (used ++ more) ≡ Ok value)
unfolding script
front chains left [] c = (end ∷ [], made [], ap finish_after (top_nothing chains left) ∙ finish_end [])
front chains left (t ∷ used) c = (c.more ++ end ∷ [], made c.value, ap finish_after (c.reads (end ∷ []) end_may) ∙ finish_end c.value)

refused_at : (chains left : ℕ) (ts : Tokens) → EndsWell ts → (kind : ParseKind) (rest : Tokens) → Refused Ender (top chains left) ts kind rest → FaultAt (script chains left) ts kind rest
unfolding script
refused_at chains left ts well kind [] p = absurd (not_all ts p.used p.split p.plain well)
refused_at chains left ts well kind (t ∷ rest) p =
    let f = front chains left p.used p.completable in
    record {
      used = p.used;
      here = t;
      after = rest;
      split = p.split;
      is_rest = refl;
      again = λ other. ap finish_after (p.again (t ∷ other) refl);
      more = f.0;
      value = f.1;
      completes = f.2;
    }

finish_other : (a : List Stmt) (t : Token) (other : Tokens) → is s.End t ≡ false → finish a (t ∷ other) ≡ Err (Unexpected, t ∷ other)
unfolding finish
finish_other a t [] h = ap (λ b. cond b (Ok (made a)) (Err (Unexpected, t ∷ []))) h
finish_other a t (u ∷ other) h = ap (λ b. cond b (Err (Unexpected, u ∷ other)) (Err (Unexpected, t ∷ (u ∷ other)))) h

-- the statements end before a token that is no End
passed_at : (chains left : ℕ) (ts : Tokens) (a : List Stmt) (t : Token) (after : Tokens) → Passed Ender (top chains left) ts a (t ∷ after) → is s.End t ≡ false → FaultAt (script chains left) ts Unexpected (t ∷ after)
unfolding script
passed_at chains left ts a t after p h = record {
  used = p.used;
  here = t;
  after = after;
  split = p.split;
  is_rest = refl;
  again = λ other. ap finish_after (p.again (t ∷ other) refl) ∙ finish_other a t other h;
  more = end ∷ [];
  value = made a;
  completes = ap finish_after (p.closed (end ∷ []) end_may) ∙ finish_end a;
}

finish_past : (a : List Stmt) (t u : Token) (other : Tokens) → is s.End t ≡ true → finish a (t ∷ (u ∷ other)) ≡ Err (Unexpected, u ∷ other)
unfolding finish
finish_past a t u other h = ap (λ b. cond b (Err (Unexpected, u ∷ other)) (Err (Unexpected, t ∷ (u ∷ other)))) h

finish_here : (a : List Stmt) (t : Token) → is s.End t ≡ true → finish a (t ∷ []) ≡ Ok (made a)
unfolding finish
finish_here a t h = ap (λ b. cond b (Ok (made a)) (Err (Unexpected, t ∷ []))) h

-- or something stands behind an End
past_end : (chains left : ℕ) (ts : Tokens) (a : List Stmt) (t u : Token) (after : Tokens) → Passed Ender (top chains left) ts a (t ∷ (u ∷ after)) → is s.End t ≡ true → FaultAt (script chains left) ts Unexpected (u ∷ after)
unfolding script
past_end chains left ts a t u after p h = record {
  used = p.used ++ t ∷ [];
  here = u;
  after = after;
  split = p.split ∙ sym (append_assoc p.used (t ∷ []) (u ∷ after));
  is_rest = refl;
  again = λ other. ap (script chains left) (append_assoc p.used (t ∷ []) (u ∷ other)) ∙ ap finish_after (p.again (t ∷ (u ∷ other)) refl) ∙ finish_past a t u other h;
  more = [];
  value = made a;
  completes = ap (script chains left) (append_assoc p.used (t ∷ []) []) ∙ ap finish_after (p.again (t ∷ []) refl) ∙ finish_here a t h;
}

abbrev fault_of : ParseKind × Tokens → Result Script (ParseKind × Tokens)
fault_of v = Err v

fault_is : (v w : ParseKind × Tokens) → fault_of v ≡ fault_of w → v ≡ w
fault_is v w e = cc

to_fault : (chains left : ℕ) (ts : Tokens) (v w : ParseKind × Tokens) → fault_of v ≡ Err w → FaultAt (script chains left) ts v.0 v.1 → FaultAt (script chains left) ts w.0 w.1
to_fault chains left ts v w e f = let P : ParseKind × Tokens → Type 0 = λ x. FaultAt (script chains left) ts x.0 x.1 in subst P (fault_is v w e) f

last_cases : (chains left : ℕ) (ts : Tokens) (a : List Stmt) (t : Token) (after : Tokens) → Passed Ender (top chains left) ts a (t ∷ after) → (v : ParseKind × Tokens) → (b : Bool) → is s.End t ≡ b → cond b (Ok (made a)) (Err (Unexpected, t ∷ after)) ≡ Err v → FaultAt (script chains left) ts v.0 v.1
last_cases chains left ts a t after p v true h e = absurd cc
last_cases chains left ts a t after p v false h e = to_fault chains left ts (Unexpected, t ∷ after) v e (passed_at chains left ts a t after p h)

past_cases : (chains left : ℕ) (ts : Tokens) (a : List Stmt) (t u : Token) (after : Tokens) → Passed Ender (top chains left) ts a (t ∷ (u ∷ after)) → (v : ParseKind × Tokens) → (b : Bool) → is s.End t ≡ b
    → cond b (fault_of (Unexpected, u ∷ after)) (Err (Unexpected, t ∷ (u ∷ after))) ≡ Err v → FaultAt (script chains left) ts v.0 v.1
past_cases chains left ts a t u after p v true h e = to_fault chains left ts (Unexpected, u ∷ after) v e (past_end chains left ts a t u after p h)
past_cases chains left ts a t u after p v false h e = to_fault chains left ts (Unexpected, t ∷ (u ∷ after)) v e (passed_at chains left ts a t (u ∷ after) p h)

passed_cases : (chains left : ℕ) (ts : Tokens) → EndsWell ts → (a : List Stmt) (mid : Tokens) → Passed Ender (top chains left) ts a mid → (v : ParseKind × Tokens) → finish a mid ≡ Err v → FaultAt (script chains left) ts v.0 v.1
unfolding finish
passed_cases chains left ts well a [] p v e = absurd (not_all ts p.used p.split p.plain well)
passed_cases chains left ts well a (t ∷ []) p v e = last_cases chains left ts a t [] p v (is s.End t) refl e
passed_cases chains left ts well a (t ∷ (u ∷ after)) p v e = past_cases chains left ts a t u after p v (is s.End t) refl e

first_fault : (chains left : ℕ) (ts : Tokens) → EndsWell ts → (o : Outcome (List Stmt)) → Law Ender (top chains left) ts o → (v : ParseKind × Tokens) → finish_after o ≡ Err v → FaultAt (script chains left) ts v.0 v.1
first_fault chains left ts well (Err w) l v e = to_fault chains left ts w v e (refused_at chains left ts well w.0 w.1 l)
first_fault chains left ts well (Ok p) l v e = passed_cases chains left ts well p.0 p.1 l v e

pub fault_at : (chains left : ℕ) → 1 ≤ chains → (ts : Tokens) → EndsWell ts → (kind : ParseKind) (rest : Tokens) → script chains left ts ≡ Err (kind, rest) → FaultAt (script chains left) ts kind rest
unfolding script
fault_at chains left some ts well kind rest e = first_fault chains left ts well (top chains left ts) ((sane_top chains left some).law ts) (kind, rest) e

-- ---- with wider limits

abbrev cons_of : Token → Tokens → Tokens
cons_of t ts = t ∷ ts

tail_is : (t u : Token) (a b : Tokens) → cons_of t a ≡ cons_of u b → a ≡ b
tail_is t u a b e = cc

head_is : (t u : Token) (a b : Tokens) → cons_of t a ≡ cons_of u b → t ≡ u
head_is t u a b e = cc

-- a front that leaves less goes further
extends : (used : Tokens) (t : Token) (after used' mid : Tokens) → used ++ t ∷ after ≡ used' ++ mid → length mid < length (t ∷ after) → (x : Tokens) × (used' ≡ used ++ t ∷ x)
extends [] t after [] mid e lt = let k : length (t ∷ after) ≡ length mid = ap length e in absurd (omega arith)
extends [] t after (u ∷ used') mid e lt = (used', ap (λ v. v ∷ used') (sym (head_is t u after (used' ++ mid) e)))
extends (v ∷ used) t after [] mid e lt = let k : length ((v ∷ used) ++ t ∷ after) ≡ length mid = ap length e in absurd (omega (arith, length-append (v ∷ used) (t ∷ after)))
extends (v ∷ used) t after (u ∷ used') mid e lt =
    let r = extends used t after used' mid (tail_is v u (used ++ t ∷ after) (used' ++ mid) e) lt in
    (r.0, ap (λ x. x ∷ used') (sym (head_is v u (used ++ t ∷ after) (used' ++ mid) e)) ∙ ap (λ x. v ∷ x) r.1)

reached : (chains left : ℕ) (used : Tokens) (t : Token) (used' x more : Tokens) (value : Script) → used' ≡ used ++ t ∷ x → script chains left (used' ++ more) ≡ Ok value
    → (rest : Tokens) × (value : Script) × (script chains left (used ++ t ∷ rest) ≡ Ok value)
reached chains left used t used' x more value e h = (x ++ more, value, ap (script chains left) (sym (append_assoc used (t ∷ x) more) ∙ ap (λ y. y ++ more) (sym e)) ∙ h)

goes_further : (chains left : ℕ) (used : Tokens) (t : Token) (after : Tokens) (o : Outcome (List Stmt)) → Law Ender (top chains left) (used ++ t ∷ after) o → Further o (t ∷ after)
    → (rest : Tokens) × (value : Script) × (script chains left (used ++ t ∷ rest) ≡ Ok value)
unfolding script
goes_further chains left used t after (Ok p) l f =
    let x = extends used t after l.used p.1 l.split f in
    reached chains left used t l.used x.0 (end ∷ []) (made p.0) x.1 (ap finish_after (l.closed (end ∷ []) end_may) ∙ finish_end p.0)
goes_further chains left used t after (Err v) l f =
    let x = extends used t after l.used v.1 l.split f in
    let r = front chains left l.used l.completable in
    reached chains left used t l.used x.0 r.0 r.1 x.1 r.2

kinds_apart : (a b : Tokens) → fault_of (Unexpected, a) ≡ fault_of (TooDeep, b) → ⊥
kinds_apart a b e = let k : Unexpected ≡ TooDeep = ap (λ (x : ParseKind × Tokens). x.0) (fault_is (Unexpected, a) (TooDeep, b) e) in cc

finish_kind_last : (b : Bool) (a : List Stmt) (mid rest : Tokens) → cond b (Ok (made a)) (fault_of (Unexpected, mid)) ≡ Err (TooDeep, rest) → ⊥
finish_kind_last true a mid rest e = cc
finish_kind_last false a mid rest e = kinds_apart mid rest e

finish_kind_past : (b : Bool) (mid mid' rest : Tokens) → cond b (fault_of (Unexpected, mid)) (Err (Unexpected, mid')) ≡ Err (TooDeep, rest) → ⊥
finish_kind_past true mid mid' rest e = kinds_apart mid rest e
finish_kind_past false mid mid' rest e = kinds_apart mid' rest e

finish_kind : (a : List Stmt) (mid : Tokens) (rest : Tokens) → finish a mid ≡ Err (TooDeep, rest) → ⊥
unfolding finish
finish_kind a [] rest e = kinds_apart [] rest e
finish_kind a (t ∷ []) rest e = finish_kind_last (is s.End t) a (t ∷ []) rest e
finish_kind a (t ∷ (u ∷ mid)) rest e = finish_kind_past (is s.End t) (u ∷ mid) (t ∷ (u ∷ mid)) rest e

too_deep : (o o' : Outcome (List Stmt)) (rest : Tokens) → Grows o o' → finish_after o ≡ Err (TooDeep, rest) → Further o' rest
too_deep (Ok p) o' rest g e = absurd (finish_kind p.0 p.1 rest e)
too_deep (Err v) o' rest g e =
    let P : ParseKind × Tokens → Type 0 = λ x. GrowsAtFault x.0 x.1 o' in
    subst P (fault_is v (TooDeep, rest) e) g

-- A script with wider limits has the tokens through a fault that is TooDeep.
pub deeper : (chains left : ℕ) → 1 ≤ chains → (used : Tokens) (t : Token) (after : Tokens) → script chains left (used ++ t ∷ after) ≡ Err (TooDeep, t ∷ after)
    → (rest : Tokens) × (value : Script) × (script (chains + 2) (left + 2) (used ++ t ∷ rest) ≡ Ok value)
unfolding script
deeper chains left some used t after e =
    let w = (wider_top chains (chains + 2) left (left + 2) some (omega arith) (omega arith) (omega arith)).grows (used ++ t ∷ after) in
    goes_further (chains + 2) (left + 2) used t after (top (chains + 2) (left + 2) (used ++ t ∷ after)) ((sane_top (chains + 2) (left + 2) (omega arith)).law (used ++ t ∷ after))
    (too_deep (top chains left (used ++ t ∷ after)) (top (chains + 2) (left + 2) (used ++ t ∷ after)) (t ∷ after) w e)

unexpected_grows : (o o' : Outcome (List Stmt)) (rest : Tokens) → Grows o o' → finish_after o ≡ Err (Unexpected, rest) → finish_after o' ≡ Err (Unexpected, rest)
unexpected_grows (Ok p) o' rest g e = ap finish_after g ∙ e
unexpected_grows (Err v) o' rest g e =
    let P : ParseKind × Tokens → Type 0 = λ x. GrowsAtFault x.0 x.1 o' in
    ap finish_after (subst P (fault_is v (Unexpected, rest) e) g)

-- An unexpected token stays unexpected with wider limits.
pub unexpected_stays : (chains chains' left left' : ℕ) → 1 ≤ chains → 1 ≤ chains' → chains + 2 ≤ chains' → left + 2 ≤ left' → (ts rest : Tokens) → script chains left ts ≡ Err (Unexpected, rest) → script chains' left' ts ≡ Err (Unexpected, rest)
unfolding script
unexpected_stays chains chains' left left' some some' lt le ts rest e = unexpected_grows (top chains left ts) (top chains' left' ts) rest ((wider_top chains chains' left left' some some' lt le).grows ts) e
