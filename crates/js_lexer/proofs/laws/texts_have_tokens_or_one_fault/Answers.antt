use Rattle.js_lexer.proofs.OneReading.{tokens_or_fault, not_both, one_fault}
use Rattle.js_lexer.proofs.laws.texts_have_tokens_or_one_fault.Goals as goal

pub returns-clause-whole : goal.returns-clause-whole
returns-clause-whole c = λ text. tokens_or_fault text

pub returns-clause-apart : goal.returns-clause-apart
returns-clause-apart c = λ text tokens at kind a b. not_both text tokens at kind a b

pub returns-clause-one : goal.returns-clause-one
returns-clause-one c = λ text at place kind other a b. one_fault text at place kind other a b
