use Rattle.solo_model.proofs.OneEntry.{one_entry}
use Rattle.solo_model.proofs.determinism.entries_go_on_one_way.Goals as goal

pub returns : goal.returns
returns c =
    one_entry (record {
      tokens = c.texts_have_one_list_of_tokens.ensures;
      apart = c.texts_have_tokens_or_one_fault.ensures.apart;
      fault = c.texts_have_tokens_or_one_fault.ensures.one;
      script = c.scripts_are_read_one_way.ensures;
    })
