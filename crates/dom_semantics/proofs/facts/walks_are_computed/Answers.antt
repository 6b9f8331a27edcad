use Rattle.std.proofs.Common.{refl}
use Rattle.std.specs.Char.{encode_utf8}
use Rattle.dom_semantics.specs.Forest.{DEPTH_LIMIT, NODE_LIMIT}
use Rattle.dom_semantics.specs.Listeners.{LISTENER_LIMIT}
use Rattle.dom_semantics.specs.Stage.{NESTED_DISPATCH_LIMIT, DISPATCH_LIMIT}
use Rattle.dom_semantics.specs.Plays.{played}
use Rattle.dom_semantics.proofs.facts.walks_are_computed.Goals as goal

pub returns : goal.returns
unfolding encode_utf8 DEPTH_LIMIT NODE_LIMIT LISTENER_LIMIT NESTED_DISPATCH_LIMIT DISPATCH_LIMIT played
returns c = record {
  whole = refl;
  unbubbling = refl;
  other_type = refl;
  every_one = refl;
  stop_capturing = refl;
  stop_now_capturing = refl;
  stop_first_at_target = refl;
  stop_at_target = refl;
  stop_now_at_target = refl;
  stop_bubbling = refl;
  stop_now_bubbling = refl;
  prevented = refl;
  unpreventable = refl;
  prevented_again = refl;
  removed = refl;
  added_again = refl;
  added_here = refl;
  added_later = refl;
  removed_later = refl;
  removes_itself = refl;
  added_at_target = refl;
  equal = refl;
  nested = refl;
  busy = refl;
  outside = refl;
  at_window = refl;
  at_document = refl;
  stopped_before = refl;
  stopped_now_before = refl;
  raised_once = refl;
  moved = refl;
  read = refl;
  sixty_four = refl;
  host_free = refl;
  trust = refl;
}
