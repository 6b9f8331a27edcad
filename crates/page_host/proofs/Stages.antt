-- A stage has its document.
use Rattle.std.proofs.Common.{◌≡◌, ap, ℕ, ◌<◌, true, false, List, [], ◌∷◌, length, arith, Option, Some, None, codes, length-append, if◌then◌else◌}
use Rattle.std.specs.Prelude.{slice_set}
use Rattle.std.specs.Option.{option_map_or}
use Rattle.std.proofs.lemmas.List.{length-set}
use Rattle.door.specs.declared.values.Actor.{Actor}
use Rattle.door.specs.declared.values.Thing.{Thing}
use Rattle.door.specs.declared.values.Value.{Value}
use Rattle.door.specs.declared.values.Value.TheVariants.{Thing as ThingValue, Str, Bool as BoolValue}
use Rattle.door.specs.declared.members.Member.{Member}
use Rattle.door.specs.declared.members.Member.TheVariants.{DocumentCreateElement, DocumentCreateTextNode, DocumentCreateComment, DocumentSetTitle, ElementSetAttribute, NodeAppendChild, NewEvent}
use Rattle.door.specs.declared.requests.Request.{Request}
use Rattle.door.specs.declared.requests.Request.TheVariants.{Native}
use Rattle.door.specs.declared.requests.Answer.{Answer}
use Rattle.door.specs.declared.requests.ErrorKind.{ErrorKind}
use Rattle.door.specs.declared.marks.Task.{Task}
use Rattle.door.specs.declared.marks.Task.TheVariants.{Ready, Load}
use Rattle.door.specs.declared.marks.Mark.{Mark}
use Rattle.door.specs.declared.marks.Mark.TheVariants.{Turn, Build, Ask}
use Rattle.dom_semantics.specs.Forest.{Form, Root, Tagged, Written, Noted, Node, Forest, children_of, form_at, node_at, new_node}
use Rattle.dom_semantics.specs.Changes.{created, inserted, is_empty, is_itself, moved, placed, removed, set_text_in, with_children, with_text, replaced_by}
use Rattle.solo_model.specs.Stage.{Stage, after, asked, built, changed, is_refusal, stage_from, stage_of, start, turned, unless_refused}
use Rattle.dom_semantics.specs.Titles.{head_element, title_appended, title_element}

-- there is a node
abbrev pub HasNodes : Forest → Type 0
HasNodes f = 0 < length f

created_has : (f : Forest) (i : Actor) (form : Form) → HasNodes (created f i form)
created_has f i form = let both = length-append f (new_node i form ∷ []) in omega (arith, both)

set_has : (f : Forest) (n : ℕ) (node : Node) → HasNodes f → HasNodes (slice_set f n node)
set_has f n node h = let same = length-set f n node in omega (arith, h, same)

removed_has : (f : Forest) (n : ℕ) → HasNodes f → HasNodes (removed f n)
removed_has [] n h = absurd (omega (arith, h))
removed_has (x ∷ f) n h = omega arith

inserted_has : (f : Forest) (parent n : ℕ) (before : Option ℕ) → HasNodes f → HasNodes (inserted f parent n before)
inserted_has f parent n before h =
    elim (is_itself n before) as (λ b. HasNodes (if b then f else moved (removed f n) parent n before)) [
      | true ↦ h
      | false ↦ set_has (removed f n) parent (record (node_at (removed f n) parent) { children = placed n before (children_of (removed f n) parent) }) (removed_has f n h)
    ]

replaced_has : (f : Forest) (i : Actor) (n : ℕ) (text : List ℕ) → HasNodes f → HasNodes (replaced_by f i n text)
replaced_has f i n text h =
    elim (is_empty text) as (λ b. HasNodes (if b then with_children f n [] else with_children (created f i (Written text)) n (length f ∷ []))) [
      | true ↦ set_has f n _ h
      | false ↦ set_has (created f i (Written text)) n _ (created_has f i (Written text))
    ]

text_has : (form : Form) (f : Forest) (i : Actor) (n : ℕ) (text : List ℕ) → HasNodes f → HasNodes (set_text_in form f i n text)
text_has Root f i n text h = h
text_has (Written old) f i n text h = set_has f n _ h
text_has (Noted old) f i n text h = set_has f n _ h
text_has (Tagged tag) f i n text h = replaced_has f i n text h

appended_has : (f : Forest) (i : Actor) (text : List ℕ) (head : Option ℕ) → HasNodes f → HasNodes (option_map_or (λ n. title_appended f i n text) head f)
appended_has f i text None h = h
appended_has f i text (Some n) h = text_has (form_at (inserted (created f i (Tagged (codes "title"))) n (length f) None) (length f)) _ i (length f) text (inserted_has _ n (length f) None (created_has f i (Tagged (codes "title"))))

titled_has : (f : Forest) (i : Actor) (text : List ℕ) (title head : Option ℕ) → HasNodes f → HasNodes (option_map_or (λ n. with_text f i n text) title (option_map_or (λ n. title_appended f i n text) head f))
titled_has f i text None head h = appended_has f i text head h
titled_has f i text (Some n) head h = text_has (form_at f n) f i n text h

changed_has : (i : Actor) (s : Stage) (member : Member) (thing : Thing) (arguments : List Value) → HasNodes s.nodes → HasNodes (changed i s member thing arguments).nodes
changed_has i s DocumentCreateElement thing (Str tag ∷ []) h = created_has s.nodes i (Tagged tag)
changed_has i s DocumentCreateTextNode thing (Str text ∷ []) h = created_has s.nodes i (Written text)
changed_has i s DocumentCreateComment thing (Str text ∷ []) h = created_has s.nodes i (Noted text)
changed_has i s ElementSetAttribute thing (Str name ∷ (Str value ∷ [])) h = set_has s.nodes thing.number _ h
changed_has i s NodeAppendChild thing (ThingValue child ∷ []) h = inserted_has s.nodes thing.number child.number None h
changed_has i s DocumentSetTitle thing (Str text ∷ []) h = titled_has s.nodes i text (title_element s.nodes) (head_element s.nodes) h
changed_has i s NewEvent thing (Str kind ∷ (BoolValue bubbles ∷ (BoolValue cancelable ∷ (detail ∷ [])))) h = h
changed_has i s member thing arguments h = h

unless_has : (reason : Option ErrorKind) (s next : Stage) → HasNodes s.nodes → HasNodes next.nodes → HasNodes (unless_refused reason s next).nodes
unless_has None s next h k = k
unless_has (Some reason) s next h k = h

built_has : (s : Stage) (request : Request) → HasNodes s.nodes → HasNodes (built s request).nodes
built_has s (Native member thing arguments) h = unless_has _ s _ h (changed_has _ s member thing arguments h)
built_has s request h = h

asked_has : (i : Actor) (s : Stage) (request : Request) (given : Answer) → HasNodes s.nodes → HasNodes (asked i s request given).nodes
asked_has i s (Native member thing arguments) given h =
    elim (is_refusal given) as (λ b. HasNodes (if b then s else changed i s member thing arguments).nodes) [
      | true ↦ h
      | false ↦ changed_has i s member thing arguments h
    ]
asked_has i s request given h = h

turned_has : (s : Stage) (task : Task) → HasNodes s.nodes → HasNodes (turned s task).nodes
turned_has s Ready h = h
turned_has s Load h = h
turned_has s task h = h

after_has : (s : Stage) (mark : Mark) → HasNodes s.nodes → HasNodes (after s mark).nodes
after_has s (Turn task) h = turned_has s task h
after_has s (Build request) h = built_has s request h
after_has s (Ask i request given) h = asked_has i s request given h
after_has s mark h = h

from_has : (s : Stage) (marks : List Mark) → HasNodes s.nodes → HasNodes (stage_from s marks).nodes
unfolding stage_from
from_has s [] h = h
from_has s (mark ∷ marks) h = from_has (after s mark) marks (after_has s mark h)

pub stage_has : (marks : List Mark) → HasNodes (stage_of marks).nodes
stage_has marks = from_has start marks (omega arith)

-- and so has a tree that is the stage's
pub tree_has : (tree : Forest) (marks : List Mark) → tree ≡ (stage_of marks).nodes → 0 < length tree
tree_has tree marks is = let h = stage_has marks in let same = ap length is in omega (arith, h, same)
