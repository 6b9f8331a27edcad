-- No value of a mark is a cell of the host, which owns none; this project's own. So an actor's own cells can be named by the host's number, and
-- none that a mark names is taken for one of them.
use Rattle.std.specs.Prelude.{◌≡◌, ◌&&◌, Bool, true, not, List, nat_eq}
use Rattle.std.specs.List.{list_all}
use Rattle.door.specs.declared.values.Actor.{Actor}
use Rattle.door.specs.declared.values.Value.{Value}
use Rattle.door.specs.declared.values.Value.TheVariants as value
use Rattle.door.specs.declared.requests.Request.{Request}
use Rattle.door.specs.declared.requests.Request.TheVariants as request
use Rattle.door.specs.declared.requests.ReachOp.{ReachOp}
use Rattle.door.specs.declared.requests.ReachOp.TheVariants as reach
use Rattle.door.specs.declared.requests.ServeOp.{ServeOp}
use Rattle.door.specs.declared.requests.ServeOp.TheVariants as serve
use Rattle.door.specs.declared.requests.Answer.{Answer}
use Rattle.door.specs.declared.requests.Answer.TheVariants as answer
use Rattle.door.specs.declared.marks.Entry.{Entry}
use Rattle.door.specs.declared.marks.Entry.TheVariants as entry
use Rattle.door.specs.declared.marks.Mark.{Mark}
use Rattle.door.specs.declared.marks.Mark.TheVariants as mark

-- every actor but the host has cells
abbrev pub owns_cells : Actor → Bool
owns_cells i = not (nat_eq i.0 0)

-- a value that isn't a cell of the host
abbrev pub has_owner : Value → Bool
has_owner (value.Cell owner place shape waived) = owns_cells owner
has_owner v = true

abbrev pub have_owners : List Value → Bool
have_owners vs = list_all has_owner vs

-- the same of all that a way out, an operation on an object, a request and an answer name
abbrev pub reach_has_owners : ReachOp → Bool
reach_has_owners (reach.Waive v) = has_owner v
reach_has_owners (reach.Unwaive v) = has_owner v
reach_has_owners reach.UnsafeWindow = true
reach_has_owners (reach.Export f scope options) = has_owner f && has_owner scope && has_owner options
reach_has_owners (reach.CreateIn scope options) = has_owner scope && has_owner options
reach_has_owners (reach.Clone source scope options functions reflectors) = has_owner source && has_owner scope && has_owner options

abbrev pub serve_has_owners : ServeOp → Bool
serve_has_owners (serve.Set key v) = has_owner v
serve_has_owners (serve.Define key v) = has_owner v
serve_has_owners (serve.Call receiver arguments) = has_owner receiver && have_owners arguments
serve_has_owners (serve.New arguments) = have_owners arguments
serve_has_owners operation = true

abbrev pub request_has_owners : Request → Bool
request_has_owners (request.Native member thing arguments) = have_owners arguments
request_has_owners (request.Peek owner place key) = owns_cells owner
request_has_owners (request.PeekKeys owner place) = owns_cells owner
request_has_owners (request.Reach operation) = reach_has_owners operation

abbrev pub answer_has_owners : Answer → Bool
answer_has_owners (answer.Value v) = has_owner v
answer_has_owners (answer.List vs) = have_owners vs
answer_has_owners (answer.Thrown v) = has_owner v
answer_has_owners a = true

-- the same of an entry and of a mark
abbrev pub entry_has_owners : Entry → Bool
entry_has_owners (entry.Serve object operation) = has_owner object && serve_has_owners operation
entry_has_owners e = true

abbrev pub mark_has_owners : Mark → Bool
mark_has_owners (mark.Build r) = request_has_owners r
mark_has_owners (mark.Enter i e) = entry_has_owners e
mark_has_owners (mark.Ask i r a) = request_has_owners r && answer_has_owners a
mark_has_owners (mark.Back i a) = answer_has_owners a
mark_has_owners (mark.Serve i owner object operation) = has_owner object && serve_has_owners operation
mark_has_owners (mark.Served i a) = answer_has_owners a
mark_has_owners m = true

-- a journal without cells of the host
abbrev pub HasNoHostCells : List Mark → Type 0
HasNoHostCells marks = list_all mark_has_owners marks ≡ true
