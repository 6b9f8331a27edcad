-- The true reply to each request for a member, and what other requests may be answered; this project's own in form.
use Rattle.std.specs.Prelude.{◌≡◌, ◌&&◌, Bool, true, List, if◌then◌else◌, IsSome, Option, Some, None, is_some}
use Rattle.std.specs.List.{list_all}
use Rattle.door.specs.declared.values.Actor.{Actor}
use Rattle.door.specs.declared.values.Thing.{Thing}
use Rattle.door.specs.declared.values.Value.{Value}
use Rattle.door.specs.declared.values.Value.TheVariants.{Thing as ThingValue, WaivedThing}
use Rattle.door.specs.declared.members.Member.{Member}
use Rattle.door.specs.declared.requests.Answer.{Answer}
use Rattle.door.specs.declared.requests.Answer.TheVariants.{Value as ValueAnswer, List as ListAnswer, Thrown}
use Rattle.door.specs.declared.requests.Request.{Request}
use Rattle.door.specs.declared.requests.Request.TheVariants.{Native, Reach}
use Rattle.dom_semantics.specs.Fits.{is_request, is_request_of, is_answer_to_request, way_out}
use Rattle.dom_semantics.specs.Forest.{the_host}
use Rattle.dom_semantics.specs.Grants.{is_granted, may_ask}
use Rattle.dom_semantics.specs.Stage.{Stage, Origin, has_thing}
use Rattle.dom_semantics.specs.Reply.{Reply, Row, no_row, IsAnswered}
use Rattle.dom_semantics.specs.WindowReplies.{window_rows}
use Rattle.dom_semantics.specs.TargetReplies.{target_rows}
use Rattle.dom_semantics.specs.NodeReplies.{node_rows}
use Rattle.dom_semantics.specs.ElementReplies.{element_rows}
use Rattle.dom_semantics.specs.DocumentReplies.{document_rows}
use Rattle.dom_semantics.specs.EventReplies.{event_rows}
use Rattle.dom_semantics.specs.GmReplies.{gm_rows}

-- a row, or that of the next interfaces
abbrev pub or_row : Option Row → Option Row → Option Row
or_row (Some row) later = Some row
or_row None later = later

abbrev pub row_or_none : Option Row → Row
row_or_none (Some row) = row
row_or_none None = no_row

-- the row of a member, from the file of its interface
abbrev pub row_among : Member → Option Row
row_among member =
    or_row (window_rows member) (or_row (target_rows member) (or_row (node_rows member) (or_row (element_rows member) (or_row (document_rows member)
    (or_row (event_rows member) (gm_rows member))))))

-- none is left out
abbrev pub EachMemberHasARow : Type 0
EachMemberHasARow = (member : Member) → is_some (row_among member) ≡ true

abbrev pub row_of : Member → Row
row_of member = row_or_none (row_among member)

-- the things among the arguments are on the stage
abbrev pub has_value_thing : Stage → Value → Bool
has_value_thing s (ThingValue thing) = has_thing s thing
has_value_thing s (WaivedThing thing) = has_thing s thing
has_value_thing s v = true

abbrev pub has_all : Stage → Thing → List Value → Bool
has_all s thing arguments = has_thing s thing && list_all (has_value_thing s) arguments

-- what a request comes to; none where it doesn't fit the table, the actor lacks the grant, or a thing isn't on the stage
abbrev pub reply_of : Origin → Stage → Actor → Member → Thing → List Value → Option Reply
reply_of given s i member thing arguments =
    if is_request i member thing arguments && is_granted given i member && has_all s thing arguments then row_of member given s i thing arguments else None

-- the same of a whole request; none where it isn't for a member
abbrev pub reply_to : Origin → Stage → Actor → Request → Option Reply
reply_to given s i (Native member thing arguments) = reply_of given s i member thing arguments
reply_to given s i request = None

-- The request is one of a member that has a reply. A dispatch that isn't refused has none, since it is a mark of its own.
abbrev pub IsFit : Origin → Stage → Actor → Request → Type 0
IsFit given s i request = IsSome (reply_to given s i request)

-- What the host builds has a reply, be it a refusal, by which nothing changes. A request that has none is no mark of a run.
abbrev pub IsTrueBuild : Origin → Stage → Request → Type 0
IsTrueBuild given s request = IsFit given s the_host request

-- ---- looks and ways out

-- the things that a request and an answer name are on the stage
abbrev pub has_request : Stage → Request → Bool
has_request s (Native member thing arguments) = has_all s thing arguments
has_request s (Reach operation) = list_all (has_value_thing s) (way_out operation).arguments
has_request s request = true

abbrev pub has_answer : Stage → Answer → Bool
has_answer s (ValueAnswer v) = has_value_thing s v
has_answer s (ListAnswer vs) = list_all (has_value_thing s) vs
has_answer s (Thrown v) = has_value_thing s v
has_answer s answer = true

-- both fit the table, the actor has the grant, and what they name is there
abbrev pub is_possible : Origin → Stage → Actor → Request → Answer → Bool
is_possible given s i request answer =
    is_request_of i request && may_ask given i request && has_request s request && is_answer_to_request i request answer && has_answer s answer

-- A member is answered as its reply says. A look and a way out are answered within the table; which answer it is depends on another actor's
-- objects, so it isn't told here.
abbrev pub MayAnswer : Origin → Stage → Actor → Request → Answer → Type 0
MayAnswer given s i (Native member thing arguments) answer = IsAnswered (reply_of given s i member thing arguments) answer
MayAnswer given s i request answer = is_possible given s i request answer ≡ true
