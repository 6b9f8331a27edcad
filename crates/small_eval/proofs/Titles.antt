-- A title that is written leaves the world what its journal makes.
use Rattle.std.proofs.Common.{◌≡◌, ◌≢◌, ◌∙◌, ap, sym, refl, subst, ℕ, ◌≤◌, ◌+◌, Bool, true, false, List, [], ◌∷◌, arith, length, length-append, length-set, nat_eq, nat_le, nat_lt, not, ◌||◌, slice_set, Option, Some, None, MatchOption, if◌then◌else◌}
use Prim.Native.Nat.{zero, suc}
use Rattle.std.proofs.lemmas.Bool.Decides.{nat_tests}
use Rattle.std.proofs.lemmas.List.{append-nil}
use Rattle.std.specs.Option.{option_map_or}
use Rattle.door.specs.declared.values.Actor.{Actor}
use Rattle.door.specs.declared.values.Value.{Value}
use Rattle.door.specs.declared.values.Value.TheVariants.{Str as StrValue, Undefined}
use Rattle.door.specs.declared.members.Member.TheVariants.{DocumentSetTitle}
use Rattle.door.specs.declared.requests.ErrorKind.{ErrorKind}
use Rattle.door.specs.declared.requests.ErrorKind.TheVariants.{Limit, TooDeep}
use Rattle.door.specs.declared.requests.Request.TheVariants.{Native}
use Rattle.door.specs.declared.requests.Answer.TheVariants.{Value as ValueAnswer, Throw}
use Rattle.door.specs.declared.marks.Mark.TheVariants.{Ask}
use Rattle.dom_semantics.specs.Forest.{DEPTH_LIMIT, Form, Root, Tagged, Written, Noted, Forest, NODE_LIMIT, Node, depth_of, form_at, is_element, made_by, new_node, node_at, the_host}
use Rattle.dom_semantics.specs.Changes.{created, is_empty, text_refusal, with_text}
use Rattle.solo_model.specs.Things.{the_document}
use Rattle.dom_semantics.specs.Titles.{append_refusal, head_element, new_nodes, title_element, title_refusal, titled}
use Rattle.solo_model.specs.Stage.{stage_of}
use Rattle.solo_model.specs.Lawful.{numbers_from, own_nodes}
use Rattle.js_semantics.specs.Solo.{Program}
use Rattle.small_meaning.specs.Rows.{Bare, Cont, Throws, with_title}
use Rattle.small_eval.specs.declared.world.World.{World}
use Rattle.small_eval.specs.Heads.{IsHeaded}
use Rattle.small_eval.specs.Worlds.{IsReady, IsSound}
use Rattle.small_eval.proofs.Heads.{headed_text, headed_title, numbers-append}

-- a node that is set keeps its maker
numbers-set : (k : ℕ) (maker : Actor) (f : Forest) (n : ℕ) (x : Node) → x.maker ≡ (node_at f n).maker → numbers_from k maker (slice_set f n x) ≡ numbers_from k maker f
numbers-set k maker [] n x e = refl
numbers-set k maker (y ∷ f) zero x e = rw e refl
numbers-set k maker (y ∷ f) (suc n) x e = ap (λ ks. if nat_eq y.maker.0 maker.0 then k ∷ ks else ks) (numbers-set (k + 1) maker f n x e)

differs : (n m : ℕ) → (n ≡ m → ⊥) → nat_eq n m ≡ false
differs n m h = grind (arith, nat_tests)

own_created : (f : Forest) (maker : Actor) (form : Form) → maker.0 ≢ 0 → own_nodes (created f maker form) ≡ own_nodes f
own_created f maker form h = numbers-append 0 the_host f (new_node maker form) ∙ rw (differs maker.0 0 h) (append-nil (own_nodes f))

-- the text that is written makes a node more at most, and none of the page's own
pub record Writes (f g : Forest) : Type 0 where
  pub own : own_nodes g ≡ own_nodes f
  pub few : length g ≤ length f + 1

writes_text : (f : Forest) (maker : Actor) (n : ℕ) (text : List ℕ) → maker.0 ≢ 0 → Writes f (with_text f maker n text)
writes_text f maker n text h = by (form_at f n) (is_empty text) refl refl
  where
    by : (form : Form) (empty : Bool) → form_at f n ≡ form → is_empty text ≡ empty → Writes f (with_text f maker n text)
    by Root empty e k = rw e (record { own = refl; few = omega arith })
    by (Written old) empty e k = rw e (record { own = numbers-set 0 the_host f n (record (node_at f n) { form = Written text }) refl; few = simp length-set (omega arith) })
    by (Noted old) empty e k = rw e (record { own = numbers-set 0 the_host f n (record (node_at f n) { form = Noted text }) refl; few = simp length-set (omega arith) })
    by (Tagged tag) true e k = rw (e, k) (record { own = numbers-set 0 the_host f n (record (node_at f n) { children = [] }) refl; few = simp length-set (omega arith) })
    by (Tagged tag) false e k =
        let g = created f maker (Written text) in
        rw (e, k) (record {
          own = numbers-set 0 the_host g n (record (node_at g n) { children = length f ∷ [] }) refl ∙ own_created f maker (Written text) h;
          few = simp (length-set, length-append) (omega arith);
        })

titled_is : (f : Forest) (maker : Actor) (text : List ℕ) → IsHeaded f → titled f maker text ≡ with_text f maker 3 text
titled_is f maker text h = rw (headed_title f h) refl

pub headed_set : (f : Forest) (maker : Actor) (text : List ℕ) → IsHeaded f → IsHeaded (titled f maker text)
headed_set f maker text h = subst IsHeaded (sym (titled_is f maker text h)) (headed_text f maker text h)

writes_titled : (f : Forest) (maker : Actor) (text : List ℕ) → IsHeaded f → maker.0 ≢ 0 → Writes f (titled f maker text)
writes_titled f maker text h k = subst (Writes f) (sym (titled_is f maker text h)) (writes_text f maker 3 text k)

-- the world is ready for the answer to a title that was written
pub set_ready_none : (world : World) (i : Actor) (text : List ℕ) (values : List Value) (g : Forest) → IsSound world → IsHeaded world.tree → i.0 ≢ 0 → values ≡ StrValue text ∷ [] → None ≡ title_refusal world.tree i text → g ≡ titled world.tree i text
    → IsReady (record world { tree = g }) (Ask i (Native DocumentSetTitle the_document values) (ValueAnswer Undefined))
set_ready_none world i text values g s h guest v r t =
    let writes = writes_titled world.tree i text h guest in
    let stage : world.tree ≡ (stage_of world.journal.marks).nodes = s.nodes in
    let refused : title_refusal (stage_of world.journal.marks).nodes i text ≡ None = sym (r ∙ ap (λ f. title_refusal f i text) stage) in
    rw v (record {
      genuine = s.genuine;
      truth = rw refused refl;
      nodes = t ∙ ap (λ f. titled f i text) stage;
      own = s.own ∙ sym writes.own ∙ ap own_nodes (sym t);
      events = s.events;
      few = less (length world.tree) (length (titled world.tree i text)) (length g) (length world.journal.marks) s.few writes.few (ap length t);
    })
  where
    less : (a b d m : ℕ) → a ≤ m + 1 → b ≤ a + 1 → d ≡ b → d ≤ m + 2
    less a b d m x y z = omega (arith, x, y, z)

-- and to one that was refused
pub set_ready_some : (world : World) (i : Actor) (text : List ℕ) (values : List Value) (g : Forest) (reason : ErrorKind) → IsSound world → values ≡ StrValue text ∷ [] → Some reason ≡ title_refusal world.tree i text → g ≡ world.tree
    → IsReady (record world { tree = g }) (Ask i (Native DocumentSetTitle the_document values) (Throw reason))
set_ready_some world i text values g reason s v r t =
    let stage : world.tree ≡ (stage_of world.journal.marks).nodes = s.nodes in
    let refused : title_refusal (stage_of world.journal.marks).nodes i text ≡ Some reason = sym (r ∙ ap (λ f. title_refusal f i text) stage) in
    rw (v, t) (record { genuine = s.genuine; truth = rw refused refl; nodes = stage; own = s.own; events = s.events; few = omega (arith, s.few) })

pub on_none : {A : Type 0} (P Q : Type 0) (o : Option A) → o ≡ None → MatchOption o P (λ _. Q) → P
on_none P Q None e h = h
on_none P Q (Some x) e h = absurd cc

pub on_some : {A : Type 0} (P Q : Type 0) (o : Option A) (x : A) → o ≡ Some x → MatchOption o P (λ _. Q) → Q
on_some P Q None x e h = absurd cc
on_some P Q (Some y) x e h = h

-- ---- why it is refused

-- there would be too many nodes, or one too deep
abbrev pub IsRefusal : Option ErrorKind → Type 0
IsRefusal None = Unit {0}
IsRefusal (Some Limit) = Unit {0}
IsRefusal (Some TooDeep) = Unit {0}
IsRefusal (Some reason) = ⊥

refuses_if : (b : Bool) (x y : Option ErrorKind) → IsRefusal x → IsRefusal y → IsRefusal (if b then x else y)
refuses_if true x y h k = h
refuses_if false x y h k = k

refuses_text : (f : Forest) (maker : Actor) (n : ℕ) (text : List ℕ) → IsRefusal (text_refusal f maker n text)
refuses_text f maker n text =
    let deep = if nat_lt (depth_of f n) DEPTH_LIMIT then None else Some TooDeep in
    let full = if not (nat_lt (made_by f maker) NODE_LIMIT) then Some Limit else deep in
    refuses_if (not (is_element (form_at f n)) || is_empty text) None full tt
    (refuses_if (not (nat_lt (made_by f maker) NODE_LIMIT)) (Some Limit) deep tt (refuses_if (nat_lt (depth_of f n) DEPTH_LIMIT) None (Some TooDeep) tt tt))

refuses_append : (f : Forest) (maker : Actor) (n : ℕ) (text : List ℕ) → IsRefusal (append_refusal f maker n text)
refuses_append f maker n text =
    let deep = if not (nat_le (depth_of f n + new_nodes text) DEPTH_LIMIT) then Some TooDeep else None in
    refuses_if (not (nat_le (made_by f maker + new_nodes text) NODE_LIMIT)) (Some Limit) deep tt
    (refuses_if (not (nat_le (depth_of f n + new_nodes text) DEPTH_LIMIT)) (Some TooDeep) None tt tt)

pub refuses_title : (f : Forest) (maker : Actor) (text : List ℕ) → IsRefusal (title_refusal f maker text)
refuses_title f maker text = by (title_element f) (head_element f)
  where
    by : (t h : Option ℕ) → IsRefusal (option_map_or (λ n. text_refusal f maker n text) t (option_map_or (λ n. append_refusal f maker n text) h None))
    by (Some n) h = refuses_text f maker n text
    by None (Some n) = refuses_append f maker n text
    by None None = tt

-- so a script is thrown the refusal that it is told
pub title_thrown : (f : Forest) (maker : Actor) (text : List ℕ) (reason : ErrorKind) (k : ℕ → Program Bare) (c : Cont) (fuel : ℕ) → title_refusal f maker text ≡ Some reason → with_title k c (Throw reason) fuel ≡ c (Throws reason) fuel
title_thrown f maker text reason k c fuel e = by reason (subst IsRefusal e (refuses_title f maker text))
  where
    by : (reason : ErrorKind) → IsRefusal (Some reason) → with_title k c (Throw reason) fuel ≡ c (Throws reason) fuel
    by Limit h = refl
    by TooDeep h = refl
    by reason h = absurd h
