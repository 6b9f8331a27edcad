use Rattle.std.proofs.Common.{refl}
use Rattle.std.specs.Char.{encode_utf8}
use Rattle.dom_semantics.specs.Forest.{DEPTH_LIMIT, NODE_LIMIT}
use Rattle.dom_semantics.specs.SelectorReadingModel.{next, build, finish, run}
use Rattle.dom_semantics.specs.ReplyFacts.{told_on, staged}
use Rattle.dom_semantics.proofs.facts.replies_are_computed.Goals as goal

pub returns : goal.returns
unfolding encode_utf8 DEPTH_LIMIT NODE_LIMIT next build finish run told_on staged
returns c = record {
  into_text = refl;
  into_itself = refl;
  not_a_child = refl;
  not_a_child_of_document = refl;
  second_element = refl;
  text_in_document = refl;
  document_elsewhere = refl;
  html_again = refl;
  comment_in_document = refl;
  before_itself = refl;
  moved = refl;
  undefined_is_last = refl;
  removed = refl;
  moves = refl;
  owners = refl;
  contained = refl;
  types = refl;
  names = refl;
  texts = refl;
  text_set = refl;
  data_set = refl;
  copies = refl;
  no_copy_of_document = refl;
  attributes = refl;
  bad_names = refl;
  dropped = refl;
  queries = refl;
  tags = refl;
  ids = refl;
  parts = refl;
  created = refl;
  titles = refl;
  events = refl;
  kept = refl;
  misfits = refl;
  nothing_deleted = refl;
  too_great = refl;
  no_text_as_head = refl;
  no_missing_child = refl;
  no_phase_below = refl;
  no_waived_detail = refl;
  no_cell_of_the_host = refl;
}
