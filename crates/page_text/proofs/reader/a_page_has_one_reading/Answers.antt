use Rattle.page_text.proofs.Once.{pieces_once, fault_once, page_or_fault}
use Rattle.page_text.specs.Page.{first}
use Rattle.page_text.proofs.reader.a_page_has_one_reading.Goals as goal

pub returns-clause-pieces : goal.returns-clause-pieces
returns-clause-pieces c = λ bytes xs ys h g. pieces_once (first bytes) xs h ys g

pub returns-clause-fault : goal.returns-clause-fault
returns-clause-fault c = λ bytes f g h k. fault_once (first bytes) f h g k

pub returns-clause-either : goal.returns-clause-either
returns-clause-either c = λ bytes xs f h k. page_or_fault (first bytes) f k xs h
