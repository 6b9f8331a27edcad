-- What members read of an event and change in one, by name (DOM, 2.2 Interface Event).
use Rattle.std.specs.Prelude.{true, Option}
use Rattle.dom_semantics.specs.declared.events.Event.{Event}
use Rattle.dom_semantics.specs.EventReplies.{crossed}
use Rattle.dom_semantics.specs.Reply.{Reply, gives, gives_flag, gives_number, gives_text}
use Rattle.dom_semantics.specs.Stage.{Stage}
use Rattle.dom_semantics.specs.Things.{thing_or_null}

abbrev pub kind : Event → Stage → Option Reply
kind e = gives_text e.form.kind

abbrev pub target : Event → Stage → Option Reply
target e = gives (thing_or_null e.target)

abbrev pub current : Event → Stage → Option Reply
current e = gives (thing_or_null e.current)

abbrev pub phase : Event → Stage → Option Reply
phase e = gives_number e.phase

abbrev pub bubbles : Event → Stage → Option Reply
bubbles e = gives_flag e.form.bubbles

abbrev pub cancelable : Event → Stage → Option Reply
cancelable e = gives_flag e.form.cancelable

abbrev pub prevented : Event → Stage → Option Reply
prevented e = gives_flag e.prevented

abbrev pub trusted : Event → Stage → Option Reply
trusted e = gives_flag e.form.trusted

abbrev pub detail : Event → Stage → Option Reply
detail e = gives (crossed e.form.detail)

abbrev pub stopped : Event → Event
stopped e = record e { stop = true }

abbrev pub stopped_now : Event → Event
stopped_now e = record e { stop_now = true }
