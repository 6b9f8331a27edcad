use Rattle.page_text.proofs.Once.{only_of, fault_of, read_of, faulty_of, met_of}
use Rattle.page_text.proofs.reader.PageReader.next_piece.Goals as goal

pub returns-clause-only : goal.returns-clause-only
returns-clause-only c = only_of _ _ c.advance.result c.advance.ensures.ok c.advance.ensures.err

pub returns-clause-read : goal.returns-clause-read
returns-clause-read c = read_of _ _ c.advance.result c.advance.ensures.ok

pub returns-clause-fault : goal.returns-clause-fault
returns-clause-fault c = fault_of _ _ c.advance.result c.advance.ensures.ok c.advance.ensures.err

pub returns-clause-faulty : goal.returns-clause-faulty
returns-clause-faulty c = faulty_of _ _ c.advance.result c.advance.ensures.ok

pub returns-clause-met : goal.returns-clause-met
returns-clause-met c = met_of _ _ c.advance.result c.advance.ensures.err
