-- By whom and as what the nodes were made: only the making of nodes changes that.
use Rattle.std.proofs.Common.{◌≡◌, ◌∙◌, ap, sym, refl, ℕ, Bool, true, false, List, [], ◌∷◌, ◌++◌, append_assoc, append-nil, codes, length, map, if◌then◌else◌, slice_set, Option, Some, None}
use Prim.Native.Nat.{zero, suc}
use Rattle.std.proofs.lemmas.List.{map-append}
use Rattle.std.specs.Option.{option_map_or}
use Rattle.door.specs.declared.values.Actor.{Actor}
use Rattle.door.specs.declared.values.Kind.{Kind}
use Rattle.dom_semantics.specs.Forest.{Form, Root, Tagged, Written, Noted, Node, Forest, children_of, form_at, node_at, new_node, the_host}
use Rattle.dom_semantics.specs.Changes.{created, inserted, is_empty, is_itself, moved, placed, removed, set_text_in, with_attribute, with_children, with_text, replaced_by}
use Rattle.dom_semantics.specs.Things.{is_actor, kind_of_form}
use Rattle.dom_semantics.specs.Titles.{head_element, title_appended, title_element, titled}

-- by whom and as what a node was made
abbrev pub mould : Node → Actor × Kind
mould node = (node.maker, kind_of_form node.form)

abbrev pub made : Forest → List (Actor × Kind)
made f = map mould f

-- a node of the same mould stands for another
pub made-set : (f : Forest) (n : ℕ) (node : Node) → mould node ≡ mould (node_at f n) → made (slice_set f n node) ≡ made f
made-set [] n node e = refl
made-set (x ∷ f) zero node e = ap (λ m. m ∷ made f) e
made-set (x ∷ f) (suc n) node e = ap (λ ms. mould x ∷ ms) (made-set f n node e)

pub made-removed : (f : Forest) (n : ℕ) → made (removed f n) ≡ made f
made-removed [] n = refl
made-removed (x ∷ f) n = ap (λ ms. mould x ∷ ms) (made-removed f n)

pub made-created : (f : Forest) (i : Actor) (form : Form) → made (created f i form) ≡ made f ++ (i, kind_of_form form) ∷ []
made-created f i form = map-append mould f (new_node i form ∷ [])

pub made-inserted : (f : Forest) (parent n : ℕ) (before : Option ℕ) → made (inserted f parent n before) ≡ made f
made-inserted f parent n before =
    elim (is_itself n before) as (λ b. made (if b then f else moved (removed f n) parent n before) ≡ made f) [
      | true ↦ refl
      | false ↦ made-set (removed f n) parent (record (node_at (removed f n) parent) { children = placed n before (children_of (removed f n) parent) }) refl ∙ made-removed f n
    ]

pub made-attribute : (f : Forest) (n : ℕ) (name value : List ℕ) → made (with_attribute f n name value) ≡ made f
made-attribute f n name value = made-set f n _ refl

-- nodes of the one are those of the other, and then ones that this actor made
abbrev pub Grows : Actor → Forest → Forest → Type 0
Grows i f g = (more : List Kind) × (made g ≡ made f ++ map (λ kind. (i, kind)) more)

pub same_grows : (i : Actor) (f g : Forest) → made g ≡ made f → Grows i f g
same_grows i f g e = ([], e ∙ sym (append-nil (made f)))

one_grows : (i : Actor) (f : Forest) (form : Form) (g : Forest) → made g ≡ made (created f i form) → Grows i f g
one_grows i f form g e = (kind_of_form form ∷ [], e ∙ made-created f i form)

then_grows : (i : Actor) (f g h : Forest) → Grows i f g → Grows i g h → Grows i f h
then_grows i f g h a b =
    let bones : List Kind → List (Actor × Kind) = λ kinds. map (λ kind. (i, kind)) kinds in
    (a.0 ++ b.0, b.1 ∙ ap (λ ms. ms ++ bones b.0) a.1 ∙ append_assoc (made f) (bones a.0) (bones b.0) ∙ ap (λ ms. made f ++ ms) (sym (map-append (λ kind. (i, kind)) a.0 b.0)))

replaced_grows : (f : Forest) (i : Actor) (n : ℕ) (text : List ℕ) → Grows i f (replaced_by f i n text)
replaced_grows f i n text =
    elim (is_empty text) as (λ b. Grows i f (if b then with_children f n [] else with_children (created f i (Written text)) n (length f ∷ []))) [
      | true ↦ same_grows i f _ (made-set f n _ refl)
      | false ↦ one_grows i f (Written text) _ (made-set (created f i (Written text)) n _ refl)
    ]

form_mould : (f : Forest) (n : ℕ) (form : Form) → kind_of_form form ≡ kind_of_form (form_at f n) → mould (record (node_at f n) { form = form }) ≡ mould (node_at f n)
form_mould f n form e = ap (λ kind. ((node_at f n).maker, kind)) e

text_grows : (form : Form) (f : Forest) (i : Actor) (n : ℕ) (text : List ℕ) → form ≡ form_at f n → Grows i f (set_text_in form f i n text)
text_grows Root f i n text e = same_grows i f f refl
text_grows (Written old) f i n text e = same_grows i f _ (made-set f n _ (form_mould f n (Written text) (ap kind_of_form e)))
text_grows (Noted old) f i n text e = same_grows i f _ (made-set f n _ (form_mould f n (Noted text) (ap kind_of_form e)))
text_grows (Tagged tag) f i n text e = replaced_grows f i n text

appended_grows : (f : Forest) (i : Actor) (text : List ℕ) (head : Option ℕ) → Grows i f (option_map_or (λ n. title_appended f i n text) head f)
appended_grows f i text None = same_grows i f f refl
appended_grows f i text (Some n) =
    let titles : Forest = created f i (Tagged (codes "title")) in
    let there : Forest = inserted titles n (length f) None in
    then_grows i f there _ (one_grows i f (Tagged (codes "title")) there (made-inserted titles n (length f) None)) (text_grows (form_at there (length f)) there i (length f) text refl)

-- a title is written by nodes of its writer's own
pub titled_grows : (f : Forest) (i : Actor) (text : List ℕ) → Grows i f (titled f i text)
titled_grows f i text = by (title_element f)
  where
    by : (title : Option ℕ) → Grows i f (option_map_or (λ n. with_text f i n text) title (option_map_or (λ n. title_appended f i n text) (head_element f) f))
    by None = appended_grows f i text (head_element f)
    by (Some n) = text_grows (form_at f n) f i n text refl

-- ---- the host's own

-- the kinds of the nodes that the host made, in order
abbrev pub kinds_in : List (Actor × Kind) → List Kind
kinds_in [] = []
kinds_in (m ∷ ms) = if is_actor m.0 the_host then m.1 ∷ kinds_in ms else kinds_in ms

abbrev pub own_kinds : Forest → List Kind
own_kinds f = kinds_in (made f)

put_first : (b : Bool) (kind : Kind) (xs ys : List Kind) → (if b then kind ∷ (xs ++ ys) else xs ++ ys) ≡ (if b then kind ∷ xs else xs) ++ ys
put_first true kind xs ys = refl
put_first false kind xs ys = refl

pub kinds-append : (ms ns : List (Actor × Kind)) → kinds_in (ms ++ ns) ≡ kinds_in ms ++ kinds_in ns
kinds-append [] ns = refl
kinds-append (m ∷ ms) ns =
    ap (λ ks. if is_actor m.0 the_host then m.1 ∷ ks else ks) (kinds-append ms ns) ∙ put_first (is_actor m.0 the_host) m.1 (kinds_in ms) (kinds_in ns)

others_none : (i : Actor) (kinds : List Kind) → is_actor i the_host ≡ false → kinds_in (map (λ kind. (i, kind)) kinds) ≡ []
others_none i [] other = refl
others_none i (kind ∷ kinds) other = rw other (others_none i kinds other)

-- what another makes is none of them
pub own-grown : (i : Actor) (f g : Forest) → is_actor i the_host ≡ false → Grows i f g → own_kinds g ≡ own_kinds f
own-grown i f g other (more, e) =
    ap kinds_in e ∙ kinds-append (made f) (map (λ kind. (i, kind)) more) ∙ ap (λ ks. own_kinds f ++ ks) (others_none i more other) ∙ append-nil (own_kinds f)

pub own-created : (f : Forest) (form : Form) → own_kinds (created f the_host form) ≡ own_kinds f ++ kind_of_form form ∷ []
own-created f form = ap kinds_in (made-created f the_host form) ∙ kinds-append (made f) ((the_host, kind_of_form form) ∷ [])
