use Rattle.js_lexer.proofs.OneReading.{one_list}
use Rattle.js_lexer.proofs.laws.texts_have_one_list_of_tokens.Goals as goal

pub returns : goal.returns
returns c = λ text tokens other a b. one_list text tokens other a b
