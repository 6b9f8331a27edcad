-- The title element stays where it was built, and the page's own nodes stay its own.
use Rattle.std.proofs.Common.{◌≡◌, ◌≢◌, ◌∙◌, ap, sym, refl, subst, ℕ, ◌<◌, ◌≤◌, ◌+◌, Bool, true, false, List, [], ◌∷◌, ◌++◌, arith, codes, length, length-append, length-set, nat_eq, slice_set, Some, None, if◌then◌else◌}
use Prim.Native.Nat.{suc}
use Rattle.std.proofs.lemmas.Bool.Decides.{nat_tests}
use Rattle.door.specs.declared.values.Actor.{Actor}
use Rattle.dom_semantics.specs.Forest.{DEPTH_LIMIT, Form, Root, Tagged, Written, Noted, Forest, Node, children_of, form_at, is_tagged, new_node, node_at}
use Rattle.dom_semantics.specs.Changes.{created, inserted, is_empty, placed, removed, with_children, with_text, without}
use Rattle.dom_tree.proofs.NodeLemmas.{length-removed, node_at-pushed_other, node_at-removed, node_at-set_other, node_at-set_same}
use Rattle.dom_semantics.specs.Titles.{title_element}
use Rattle.solo_model.specs.Lawful.{numbers_from}
use Rattle.small_eval.specs.Heads.{IsHeaded}

-- the title element is node 3
pub headed_title : (f : Forest) → IsHeaded f → title_element f ≡ Some 3
unfolding DEPTH_LIMIT
headed_title f h = rw (h.no_root, h.root, h.no_html, h.html.1, h.no_head, h.head, h.title) refl

-- nodes 0 to 3 as they were, but for the children of the title
pub record IsAlike (f g : Forest) : Type 0 where
  pub longer : length f ≤ length g
  pub zero_ : node_at g 0 ≡ node_at f 0
  pub one : node_at g 1 ≡ node_at f 1
  pub two : node_at g 2 ≡ node_at f 2
  pub three : form_at g 3 ≡ form_at f 3

pub headed_alike : (f g : Forest) → IsHeaded f → IsAlike f g → IsHeaded g
headed_alike f g h a = record {
  long = omega (arith, h.long, a.longer);
  root = ap (λ (x : Node). x.children) a.zero_ ∙ h.root;
  html = (h.html.0, ap (λ (x : Node). x.children) a.one ∙ h.html.1);
  head = ap (λ (x : Node). x.children) a.two ∙ h.head;
  no_root = ap (λ (x : Node). is_tagged (codes "title") x.form) a.zero_ ∙ h.no_root;
  no_html = ap (λ (x : Node). is_tagged (codes "title") x.form) a.one ∙ h.no_html;
  no_head = ap (λ (x : Node). is_tagged (codes "title") x.form) a.two ∙ h.no_head;
  title = ap (is_tagged (codes "title")) a.three ∙ h.title;
}

pub alike_then : (f g h : Forest) → IsAlike f g → IsAlike g h → IsAlike f h
alike_then f g h a b = record { longer = omega (arith, a.longer, b.longer); zero_ = b.zero_ ∙ a.zero_; one = b.one ∙ a.one; two = b.two ∙ a.two; three = b.three ∙ a.three }

-- a node more
pub alike_created : (f : Forest) (maker : Actor) (form : Form) → 3 < length f → IsAlike f (created f maker form)
alike_created f maker form h =
    let other : (q : ℕ) → q < length f → node_at (f ++ new_node maker form ∷ []) q ≡ node_at f q = λ q less. node_at-pushed_other f (new_node maker form) q (λ e. omega (arith, e, less)) in
    record {
      longer = simp length-append (omega arith);
      zero_ = other 0 (omega (arith, h));
      one = other 1 (omega (arith, h));
      two = other 2 (omega (arith, h));
      three = ap (λ (x : Node). x.form) (other 3 h);
    }

-- other children of the title
pub alike_title : (f : Forest) (children : List ℕ) → 3 < length f → IsAlike f (with_children f 3 children)
alike_title f children h =
    let x : Node = record (node_at f 3) { children = children } in
    let other : (q : ℕ) → q < 3 → node_at (slice_set f 3 x) q ≡ node_at f q = λ q less. node_at-set_other f 3 x q (λ e. omega (arith, e, less)) in
    record {
      longer = simp length-set (omega arith);
      zero_ = other 0 (omega arith);
      one = other 1 (omega arith);
      two = other 2 (omega arith);
      three = ap (λ (y : Node). y.form) (node_at-set_same f 3 x h);
    }

-- a later node is set
pub alike_set : (f : Forest) (n : ℕ) (x : Node) → 3 < n → 3 < length f → IsAlike f (slice_set f n x)
alike_set f n x late h =
    let other : (q : ℕ) → q < 4 → node_at (slice_set f n x) q ≡ node_at f q = λ q less. node_at-set_other f n x q (λ e. omega (arith, e, less, late)) in
    record {
      longer = simp length-set (omega arith);
      zero_ = other 0 (omega arith);
      one = other 1 (omega arith);
      two = other 2 (omega arith);
      three = ap (λ (y : Node). y.form) (other 3 (omega arith));
    }

-- the title's text is replaced
pub headed_text : (f : Forest) (maker : Actor) (text : List ℕ) → IsHeaded f → IsHeaded (with_text f maker 3 text)
headed_text f maker text h = headed_alike f (with_text f maker 3 text) h (by (form_at f 3) (is_empty text) refl refl h.title)
  where
    by : (form : Form) (empty : Bool) → form_at f 3 ≡ form → is_empty text ≡ empty → is_tagged (codes "title") (form_at f 3) ≡ true → IsAlike f (with_text f maker 3 text)
    by (Tagged tag) true e k t = rw (e, k) (alike_title f [] h.long)
    by (Tagged tag) false e k t =
        let more = alike_created f maker (Written text) h.long in
        rw (e, k) (alike_then f (created f maker (Written text)) _ more (alike_title (created f maker (Written text)) (length f ∷ []) (omega (arith, h.long, more.longer))))
    by Root empty e k t = absurd (no_title (sym (ap (is_tagged (codes "title")) e) ∙ t))
      where
        no_title : false ≡ true → ⊥
        no_title x = cc
    by (Written text_) empty e k t = absurd (no_title (sym (ap (is_tagged (codes "title")) e) ∙ t))
      where
        no_title : false ≡ true → ⊥
        no_title x = cc
    by (Noted text_) empty e k t = absurd (no_title (sym (ap (is_tagged (codes "title")) e) ∙ t))
      where
        no_title : false ≡ true → ⊥
        no_title x = cc

without_other : (n c : ℕ) (cs : List ℕ) → n ≢ c → without n (c ∷ cs) ≡ c ∷ without n cs
without_other n c cs h = rw (differs n c h) refl
  where
    differs : (n m : ℕ) → (n ≡ m → ⊥) → nat_eq n m ≡ false
    differs n m h = grind (arith, nat_tests)

-- a later node is moved to a later parent
pub headed_inserted : (f : Forest) (parent n : ℕ) → 3 < parent → 3 < n → IsHeaded f → IsHeaded (inserted f parent n None)
headed_inserted f parent n late late_n h =
    let g = removed f n in
    let x : Node = record (node_at g parent) { children = placed n None (children_of g parent) } in
    let long : 3 < length g = subst (λ k. 3 < k) (sym (length-removed f n)) h.long in
    let kept : (q c : ℕ) (cs : List ℕ) → children_of f q ≡ c ∷ cs → n ≢ c → children_of g q ≡ c ∷ without n cs = λ q c cs e apart. ap (λ (y : Node). y.children) (node_at-removed f n q) ∙ ap (without n) e ∙ without_other n c cs apart in
    let form : (q : ℕ) → form_at g q ≡ form_at f q = λ q. ap (λ (y : Node). y.form) (node_at-removed f n q) in
    let headed : IsHeaded g = record {
      long = long;
      root = kept 0 1 [] h.root (λ e. omega (arith, e, late_n));
      html = (without n h.html.0, kept 1 2 h.html.0 h.html.1 (λ e. omega (arith, e, late_n)));
      head = kept 2 3 [] h.head (λ e. omega (arith, e, late_n));
      no_root = ap (is_tagged (codes "title")) (form 0) ∙ h.no_root;
      no_html = ap (is_tagged (codes "title")) (form 1) ∙ h.no_html;
      no_head = ap (is_tagged (codes "title")) (form 2) ∙ h.no_head;
      title = ap (is_tagged (codes "title")) (form 3) ∙ h.title;
    } in
    headed_alike g (slice_set g parent x) headed (alike_set g parent x late long)

-- the numbers of the nodes of a maker
pub numbers-append : (n : ℕ) (maker : Actor) (f : Forest) (x : Node) → numbers_from n maker (f ++ x ∷ []) ≡ numbers_from n maker f ++ (if nat_eq x.maker.0 maker.0 then (n + length f) ∷ [] else [])
numbers-append n maker [] x = by (nat_eq x.maker.0 maker.0) refl
  where
    by : (b : Bool) → nat_eq x.maker.0 maker.0 ≡ b → numbers_from n maker (x ∷ []) ≡ (if nat_eq x.maker.0 maker.0 then (n + 0) ∷ [] else [])
    by true e = rw e (ap (λ k. k ∷ []) (plain n))
      where
        plain : (k : ℕ) → k ≡ k + 0
        plain k = omega arith
    by false e = rw e refl
numbers-append n maker (y ∷ f) x = by (nat_eq y.maker.0 maker.0) refl (numbers-append (n + 1) maker f x)
  where
    last : Forest → ℕ → List ℕ
    last g k = if nat_eq x.maker.0 maker.0 then (k + length g) ∷ [] else []

    moved_on : (k : ℕ) → (k + 1) + length f ≡ k + suc (length f)
    moved_on k = omega arith

    by : (b : Bool) → nat_eq y.maker.0 maker.0 ≡ b → numbers_from (n + 1) maker (f ++ x ∷ []) ≡ numbers_from (n + 1) maker f ++ (if nat_eq x.maker.0 maker.0 then ((n + 1) + length f) ∷ [] else [])
        → numbers_from n maker ((y ∷ f) ++ x ∷ []) ≡ numbers_from n maker (y ∷ f) ++ (if nat_eq x.maker.0 maker.0 then (n + length (y ∷ f)) ∷ [] else [])
    by true e rest = rw e (ap (λ ks. n ∷ ks) (rest ∙ ap (λ k. numbers_from (n + 1) maker f ++ (if nat_eq x.maker.0 maker.0 then k ∷ [] else [])) (moved_on n)))
    by false e rest = rw e (rest ∙ ap (λ k. numbers_from (n + 1) maker f ++ (if nat_eq x.maker.0 maker.0 then k ∷ [] else [])) (moved_on n))
