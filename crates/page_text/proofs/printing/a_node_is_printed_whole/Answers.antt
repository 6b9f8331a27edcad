use Rattle.page_text.proofs.Wholes.{printed_whole}
use Rattle.page_text.proofs.printing.a_node_is_printed_whole.Goals as goal

pub returns : goal.returns
returns c = printed_whole
