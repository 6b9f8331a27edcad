use Rattle.std.proofs.Common.{arith, ap, ◌∙◌}
use Rattle.std.specs.Str.{chars}
use Rattle.base_text.specs.Scalars.{utf8_len}
use Rattle.js_lexer.proofs.Answered.{bytes_of, ok_answer, fault_answer, only_answer, first_answer, tells_of}
use Rattle.js_lexer.proofs.tokens.lex.Goals as goal

pub read-requires : goal.read-requires
read-requires c =
    let same = ap utf8_len (c.deref.ensures.value ∙ c.in_ok-text.ensures) in
    let bytes = bytes_of c.args.s.now c.utf8.s in
    omega (arith, c.requires)

pub returns-clause-ok : goal.returns-clause-ok
returns-clause-ok c =
    ok_answer (chars c.args.s.now) c.read.result (tells_of (chars c.args.s.now) c.deref.result.now c.read.result (c.deref.ensures.value ∙ c.in_ok-text.ensures) c.read.ensures)

pub returns-clause-only : goal.returns-clause-only
returns-clause-only c =
    λ tokens are. only_answer (chars c.args.s.now) c.read.result tokens
    (tells_of (chars c.args.s.now) c.deref.result.now c.read.result (c.deref.ensures.value ∙ c.in_ok-text.ensures) c.read.ensures) are

pub returns-clause-fault : goal.returns-clause-fault
returns-clause-fault c =
    fault_answer (chars c.args.s.now) c.read.result (tells_of (chars c.args.s.now) c.deref.result.now c.read.result (c.deref.ensures.value ∙ c.in_ok-text.ensures) c.read.ensures)

pub returns-clause-first : goal.returns-clause-first
returns-clause-first c =
    λ at kind is. first_answer (chars c.args.s.now) c.read.result at kind
    (tells_of (chars c.args.s.now) c.deref.result.now c.read.result (c.deref.ensures.value ∙ c.in_ok-text.ensures) c.read.ensures) is
