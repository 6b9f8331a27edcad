-- The stage of a small run by both definitions is the same, and what is written of a page keeps it so.
use Rattle.std.proofs.Common.{◌≡◌, ◌∙◌, ap, sym, refl, subst, ℕ, ◌+◌, suc, true, List, [], ◌∷◌, ◌++◌, arith, codes, length, nat_eq, nat_lt, if◌then◌else◌, slice_get, slice_index_or, Option, Some, None}
use Rattle.std.proofs.lemmas.Bool.Decides.{nat_tests}
use Rattle.door.specs.declared.values.Actor.{Actor}
use Rattle.door.specs.declared.values.Kind.{Kind}
use Rattle.door.specs.declared.values.Kind.TheVariants.{Window, Document, Element, Str as StrKind, Comment, Event}
use Rattle.door.specs.declared.values.Value.TheVariants.{Thing as ThingValue, Str}
use Rattle.door.specs.declared.members.Member.TheVariants.{DocumentCreateElement, DocumentCreateTextNode, ElementSetAttribute, NodeAppendChild}
use Rattle.door.specs.declared.requests.ErrorKind.{ErrorKind}
use Rattle.door.specs.declared.requests.Request.{Request}
use Rattle.door.specs.declared.requests.Request.TheVariants.{Native}
use Rattle.dom_semantics.specs.Forest.{Forest, Tagged, Written, the_host}
use Rattle.dom_semantics.specs.Changes.{create_refusal, created, insert_refusal, with_attribute}
use Rattle.dom_semantics.specs.Stage.{Origin, Stage, has_node, with_nodes}
use Rattle.dom_semantics.specs.StageOf.{Course, built}
use Rattle.dom_semantics.specs.Things.{is_node_kind, thing_of, the_document}
use Rattle.small_eval.specs.Builds.{appended}
use Rattle.solo_model.specs.Lawful as old_lawful
use Rattle.solo_model.specs.Stage as old
use Rattle.solo_model.specs.Turns.{numbers_from, placed, placed_request}
use Rattle.small_runs.proofs.Made.{kinds_in, made, made-attribute, made-created, mould, own-created, own_kinds}
use Rattle.small_runs.proofs.Places.{placed_there, placed_thing}
use Rattle.small_runs.proofs.Writes.{IsOwn, IsWrite, Makes, Write, Creates, Texts, Identifies, Appends, built_is, kinds_after, makes_child, makes_element, makes_id, makes_text, old_appended, made-appended, request_of}

-- ---- the document is the first node

abbrev pub Rooted : Forest → Type 0
Rooted f = (rest : List (Actor × Kind)) × (made f ≡ (the_host, Document) ∷ rest)

pub rooted-grown : (f g : Forest) (more : List (Actor × Kind)) → made g ≡ made f ++ more → Rooted f → Rooted g
rooted-grown f g more e (rest, r) = (rest ++ more, e ∙ ap (λ ms. ms ++ more) r)

first_kind : (a b : Actor × Kind) (xs ys : List (Actor × Kind)) → a ∷ xs ≡ b ∷ ys → a.1 ≡ b.1
first_kind a b xs ys e = cc

no_first : (a : Actor × Kind) (xs : List (Actor × Kind)) → [] ≡ a ∷ xs → ⊥
no_first a xs e = cc

one_below : (n : ℕ) → nat_lt 0 (suc n) ≡ true
one_below n = grind (arith, nat_tests)

pub root_there : (f : Forest) → Rooted f → has_node f the_document ≡ true
root_there [] (rest, e) = absurd (no_first _ rest e)
root_there (node ∷ f) (rest, e) = rw (one_below (length f), first_kind (mould node) (the_host, Document) (made f) rest e) refl

-- ---- the same stage

-- the nodes are the same, and so many events are; nobody listens, no timer waits and no walk goes on; the page's own nodes have these kinds
pub record Same (kinds : List Kind) (s : old.Stage) (c : Course) : Type 0 where
  pub nodes : c.stage.nodes ≡ s.nodes
  pub events : length c.stage.events ≡ length s.events
  pub silent : c.stage.listeners.registered ≡ []
  pub waiting : c.stage.timers.waiting ≡ []
  pub walks : c.walks ≡ []
  pub rooted : Rooted c.stage.nodes
  pub own : own_kinds c.stage.nodes ≡ kinds

numbers_same : (n : ℕ) (f : Forest) → old_lawful.numbers_from n the_host f ≡ numbers_from n f
numbers_same n [] = refl
numbers_same n (node ∷ f) = ap (λ ns. if nat_eq node.maker.0 the_host.0 then n ∷ ns else ns) (numbers_same (n + 1) f)

thing_same : (f : Forest) (kind : Kind) (n : ℕ) → is_node_kind kind ≡ true → old_lawful.placed f (thing_of kind n) ≡ placed f (thing_of kind n)
thing_same f Window n node = absurd cc
thing_same f Event n node = absurd cc
thing_same f Document n node = ap (λ ns. thing_of Document (slice_index_or ns n (length f))) (numbers_same 0 f)
thing_same f Element n node = ap (λ ns. thing_of Element (slice_index_or ns n (length f))) (numbers_same 0 f)
thing_same f StrKind n node = ap (λ ns. thing_of StrKind (slice_index_or ns n (length f))) (numbers_same 0 f)
thing_same f Comment n node = ap (λ ns. thing_of Comment (slice_index_or ns n (length f))) (numbers_same 0 f)

-- the number of a node of the page among all
abbrev pub spot : Forest → ℕ → ℕ
spot f n = slice_index_or (numbers_from 0 f) n (length f)

-- a write as it is placed
abbrev pub placed_write : Forest → Write → Request
placed_write f (Creates tag) = Native DocumentCreateElement (thing_of Document (spot f 0)) (Str tag ∷ [])
placed_write f (Texts text) = Native DocumentCreateTextNode (thing_of Document (spot f 0)) (Str text ∷ [])
placed_write f (Identifies n id) = Native ElementSetAttribute (thing_of Element (spot f n)) (Str (codes "id") ∷ (Str id ∷ []))
placed_write f (Appends kind n child m) = Native NodeAppendChild (thing_of kind (spot f n)) (ThingValue (thing_of child (spot f m)) ∷ [])

pub write_placed : (kinds : List Kind) (f : Forest) (w : Write) → IsWrite kinds w → placed_request f (request_of w) ≡ placed_write f w
write_placed kinds f (Creates tag) h = refl
write_placed kinds f (Texts text) h = refl
write_placed kinds f (Identifies n id) h = refl
write_placed kinds f (Appends kind n child m) h =
    let parent : placed f (thing_of kind n) ≡ thing_of kind (spot f n) = placed_thing f kind n h.0.node in
    let below : placed f (thing_of child m) ≡ thing_of child (spot f m) = placed_thing f child m h.1.node in
    ap (λ t. Native NodeAppendChild t (ThingValue (placed f (thing_of child m)) ∷ [])) parent ∙ ap (λ t. Native NodeAppendChild (thing_of kind (spot f n)) (ThingValue t ∷ [])) below

pub old_placed : (kinds : List Kind) (f : Forest) (w : Write) → IsWrite kinds w → old_lawful.placed_request f (request_of w) ≡ placed_request f (request_of w)
old_placed kinds f (Creates tag) h = ap (λ t. Native DocumentCreateElement t (Str tag ∷ [])) (thing_same f Document 0 refl)
old_placed kinds f (Texts text) h = ap (λ t. Native DocumentCreateTextNode t (Str text ∷ [])) (thing_same f Document 0 refl)
old_placed kinds f (Identifies n id) h = ap (λ t. Native ElementSetAttribute t (Str (codes "id") ∷ (Str id ∷ []))) (thing_same f Element n refl)
old_placed kinds f (Appends kind n child m) h =
    ap (λ t. Native NodeAppendChild t (ThingValue (old_lawful.placed f (thing_of child m)) ∷ [])) (thing_same f kind n h.0.node)
    ∙ ap (λ t. Native NodeAppendChild (placed f (thing_of kind n)) (ThingValue t ∷ [])) (thing_same f child m h.1.node)

-- ---- a write

-- the nodes after it
abbrev pub nodes_after : Forest → Write → Forest
nodes_after f (Creates tag) = created f the_host (Tagged tag)
nodes_after f (Texts text) = created f the_host (Written text)
nodes_after f (Identifies n id) = with_attribute f (spot f n) (codes "id") id
nodes_after f (Appends kind n child m) = appended f (spot f n) (spot f m)

own_there : (kinds : List Kind) (f : Forest) (kind : Kind) (n : ℕ) → own_kinds f ≡ kinds → IsOwn kinds kind n → has_node f (thing_of kind (spot f n)) ≡ true
own_there kinds f kind n e h = placed_there f kind n (ap (λ ks. slice_get ks n) e ∙ h.there)

-- the document is the first of them
abbrev pub Begins : List Kind → Type 0
Begins kinds = slice_get kinds 0 ≡ Some Document

pub write_makes : (kinds : List Kind) (origin : Origin) (s : Stage) (w : Write) → own_kinds s.nodes ≡ kinds → Begins kinds → create_refusal s.nodes the_host ≡ None
    → IsWrite kinds w → Makes origin s (placed_write s.nodes w) (nodes_after s.nodes w)
write_makes kinds origin s (Creates tag) e begins free h = makes_element origin s (spot s.nodes 0) tag (own_there kinds s.nodes Document 0 e (record { node = refl; there = begins })) h free
write_makes kinds origin s (Texts text) e begins free h = makes_text origin s (spot s.nodes 0) text (own_there kinds s.nodes Document 0 e (record { node = refl; there = begins })) h free
write_makes kinds origin s (Identifies n id) e begins free h = makes_id origin s (spot s.nodes n) id (own_there kinds s.nodes Element n e h.0) h.1
write_makes kinds origin s (Appends kind n child m) e begins free h =
    makes_child origin s kind (spot s.nodes n) child (spot s.nodes m) h.0.node h.1.node (own_there kinds s.nodes kind n e h.0) (own_there kinds s.nodes child m e h.1)

old_makes : (s : old.Stage) (w : Write) → create_refusal s.nodes the_host ≡ None → (old.built s (placed_write s.nodes w)).nodes ≡ nodes_after s.nodes w
old_makes s (Creates tag) free = rw free refl
old_makes s (Texts text) free = rw free refl
old_makes s (Identifies n id) free = refl
old_makes s (Appends kind n child m) free = old_appended s kind (spot s.nodes n) child (spot s.nodes m)

old_events : (s : old.Stage) (w : Write) → (old.built s (placed_write s.nodes w)).events ≡ s.events
old_events s (Creates tag) = same (create_refusal s.nodes the_host) _
  where
    same : (reason : Option ErrorKind) (f : Forest) → (old.unless_refused reason s (old.with_nodes s f)).events ≡ s.events
    same None f = refl
    same (Some reason) f = refl
old_events s (Texts text) = same (create_refusal s.nodes the_host) _
  where
    same : (reason : Option ErrorKind) (f : Forest) → (old.unless_refused reason s (old.with_nodes s f)).events ≡ s.events
    same None f = refl
    same (Some reason) f = refl
old_events s (Identifies n id) = refl
old_events s (Appends kind n child m) = same (insert_refusal s.nodes (spot s.nodes n) (spot s.nodes m) None) _
  where
    same : (reason : Option ErrorKind) (f : Forest) → (old.unless_refused reason s (old.with_nodes s f)).events ≡ s.events
    same None f = refl
    same (Some reason) f = refl

own_after : (f : Forest) (w : Write) → own_kinds (nodes_after f w) ≡ kinds_after (own_kinds f) w
own_after f (Creates tag) = own-created f (Tagged tag)
own_after f (Texts text) = own-created f (Written text)
own_after f (Identifies n id) = ap kinds_in (made-attribute f (spot f n) (codes "id") id)
own_after f (Appends kind n child m) = ap kinds_in (made-appended f (spot f n) (spot f m))

rooted_after : (f : Forest) (w : Write) → Rooted f → Rooted (nodes_after f w)
rooted_after f (Creates tag) r = rooted-grown f _ ((the_host, Element) ∷ []) (made-created f the_host (Tagged tag)) r
rooted_after f (Texts text) r = rooted-grown f _ ((the_host, StrKind) ∷ []) (made-created f the_host (Written text)) r
rooted_after f (Identifies n id) (rest, e) = (rest, made-attribute f (spot f n) (codes "id") id ∙ e)
rooted_after f (Appends kind n child m) (rest, e) = (rest, made-appended f (spot f n) (spot f m) ∙ e)

new_built : (kinds : List Kind) (origin : Origin) (s : Stage) (w : Write) → Makes origin s (placed_write s.nodes w) (nodes_after s.nodes w)
    → built origin s (placed_write s.nodes w) ≡ with_nodes s (nodes_after s.nodes w)
new_built kinds origin s (Creates tag) m = built_is origin s DocumentCreateElement (thing_of Document (spot s.nodes 0)) (Str tag ∷ []) (created s.nodes the_host (Tagged tag)) m
new_built kinds origin s (Texts text) m = built_is origin s DocumentCreateTextNode (thing_of Document (spot s.nodes 0)) (Str text ∷ []) (created s.nodes the_host (Written text)) m
new_built kinds origin s (Identifies n id) m =
    built_is origin s ElementSetAttribute (thing_of Element (spot s.nodes n)) (Str (codes "id") ∷ (Str id ∷ [])) (with_attribute s.nodes (spot s.nodes n) (codes "id") id) m
new_built kinds origin s (Appends kind n child k) m =
    built_is origin s NodeAppendChild (thing_of kind (spot s.nodes n)) (ThingValue (thing_of child (spot s.nodes k)) ∷ []) (appended s.nodes (spot s.nodes n) (spot s.nodes k)) m

-- both stages after it are the same
pub same_written : (kinds : List Kind) (origin : Origin) (s : old.Stage) (c : Course) (w : Write) → Same kinds s c → Begins kinds → create_refusal c.stage.nodes the_host ≡ None
    → IsWrite kinds w
    → Same (kinds_after kinds w) (old.built s (placed_write c.stage.nodes w)) (record { stage = built origin c.stage (placed_write c.stage.nodes w); walks = c.walks })
same_written kinds origin s c w same begins free h =
    let f : Forest = c.stage.nodes in
    let P : Stage → Type 0 = λ t. Same (kinds_after kinds w) (old.built s (placed_write f w)) (record { stage = t; walks = c.walks }) in
    let Nodes : Forest → Type 0 = λ g. (old.built s (placed_write g w)).nodes ≡ nodes_after g w in
    let Count : Forest → Type 0 = λ g. (old.built s (placed_write g w)).events ≡ s.events in
    let Free : Forest → Type 0 = λ g. create_refusal g the_host ≡ None in
    let before : (old.built s (placed_write f w)).nodes ≡ nodes_after f w = subst Nodes (sym same.nodes) (old_makes s w (subst Free same.nodes free)) in
    let count : (old.built s (placed_write f w)).events ≡ s.events = subst Count (sym same.nodes) (old_events s w) in
    subst P (sym (new_built kinds origin c.stage w (write_makes kinds origin c.stage w same.own begins free h))) (record {
      nodes = sym before;
      events = same.events ∙ sym (ap length count);
      silent = same.silent;
      waiting = same.waiting;
      walks = same.walks;
      rooted = rooted_after f w same.rooted;
      own = own_after f w ∙ ap (λ ks. kinds_after ks w) same.own;
    })
