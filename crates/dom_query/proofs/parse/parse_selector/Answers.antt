use Rattle.dom_query.proofs.Firsts.{ok_clause, only_clause, fault_clause, first_clause}
use Rattle.dom_query.proofs.parse.parse_selector.Goals as goal

pub returns-clause-ok : goal.returns-clause-ok
returns-clause-ok c = ok_clause c.args.s.now c.read.result c.read.ensures

pub returns-clause-only : goal.returns-clause-only
returns-clause-only c = only_clause c.args.s.now c.read.result c.read.ensures

pub returns-clause-fault : goal.returns-clause-fault
returns-clause-fault c = fault_clause c.args.s.now c.read.result c.read.ensures

pub returns-clause-first : goal.returns-clause-first
returns-clause-first c = first_clause c.args.s.now c.read.result c.read.ensures
