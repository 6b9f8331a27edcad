use Rattle.std.proofs.Common.{List, Ok, Err, arith}
use Rattle.js_syntax.specs.declared.parse_fault.ParseKind.TheVariants.{Unexpected}
use Rattle.js_syntax.specs.declared.tree.Stmt.{Stmt}
use Rattle.js_syntax.specs.declared.tree.Script.{Script}
use Rattle.js_reference_parser.proofs.Tops.{script_sound, script_again}
use Rattle.js_reference_parser.proofs.Whole.{is_first}
use Rattle.js_reference_parser.proofs.OneFault.{script_has, one_fault}
use Rattle.js_reference_parser.proofs.Parsed.{parsed}
use Rattle.js_parser.proofs.Failing.{failed}
use Rattle.js_parser.proofs.entry.parse.Goals as goal

abbrev made : List Stmt → Script
made all = record { body = all }

pub returns-in-Ok-finish-clause-ok : goal.returns-in-Ok-finish-clause-ok
returns-in-Ok-finish-clause-ok c =
    script_sound 64 64 (omega arith) c.args.tokens.now (made c.in-Ok.body) (parsed 64 64 c.args.tokens.now c.new-cursor.result c.top.new.tokens c.in-Ok.body (Ok (made c.in-Ok.body)) c.new-cursor.ensures c.in-Ok.ensures (c.in-Ok-finish.ensures c.in-Ok.body))

pub returns-in-Ok-finish-clause-only : goal.returns-in-Ok-finish-clause-only
returns-in-Ok-finish-clause-only c = λ script tree.
    let a = script_again 64 64 (omega arith) c.args.tokens.now script tree in
    let b = parsed 64 64 c.args.tokens.now c.new-cursor.result c.top.new.tokens c.in-Ok.body (Ok (made c.in-Ok.body)) c.new-cursor.ensures c.in-Ok.ensures (c.in-Ok-finish.ensures c.in-Ok.body) in
    cc

pub returns-in-Ok-finish-clause-first : goal.returns-in-Ok-finish-clause-first
returns-in-Ok-finish-clause-first c = λ f first.
    let b = parsed 64 64 c.args.tokens.now c.new-cursor.result c.top.new.tokens c.in-Ok.body (Ok (made c.in-Ok.body)) c.new-cursor.ensures c.in-Ok.ensures (c.in-Ok-finish.ensures c.in-Ok.body) in
    script_has 64 64 c.args.tokens.now (made c.in-Ok.body) (script_sound 64 64 (omega arith) c.args.tokens.now (made c.in-Ok.body) b) f first

pub returns-in-Err-clause-only : goal.returns-in-Err-clause-only
returns-in-Err-clause-only c = λ script tree.
    let a = script_again 64 64 (omega arith) c.args.tokens.now script tree in
    let b = parsed 64 64 c.args.tokens.now c.new-cursor.result c.top.new.tokens c.in-Ok.body (Err (Unexpected, c.in-Err.rest.now)) c.new-cursor.ensures c.in-Ok.ensures (c.in-Err.ensures c.in-Ok.body) in
    absurd cc

pub returns-in-Err-clause-fault : goal.returns-in-Err-clause-fault
returns-in-Err-clause-fault c =
    let b = parsed 64 64 c.args.tokens.now c.new-cursor.result c.top.new.tokens c.in-Ok.body (Err (Unexpected, c.in-Err.rest.now)) c.new-cursor.ensures c.in-Ok.ensures (c.in-Err.ensures c.in-Ok.body) in
    rw c.place.ensures (is_first 64 64 (omega arith) c.args.tokens.now c.requires Unexpected c.in-Err.rest.now b)

pub returns-in-Err-clause-first : goal.returns-in-Err-clause-first
returns-in-Err-clause-first c = λ f first.
    let b = parsed 64 64 c.args.tokens.now c.new-cursor.result c.top.new.tokens c.in-Ok.body (Err (Unexpected, c.in-Err.rest.now)) c.new-cursor.ensures c.in-Ok.ensures (c.in-Err.ensures c.in-Ok.body) in
    rw c.place.ensures (one_fault 64 64 c.args.tokens.now _ f (is_first 64 64 (omega arith) c.args.tokens.now c.requires Unexpected c.in-Err.rest.now b) first)

pub returns-in-Err-Fault-clause-only : goal.returns-in-Err-Fault-clause-only
returns-in-Err-Fault-clause-only c = λ script tree.
    let a = script_again 64 64 (omega arith) c.args.tokens.now script tree in
    let b = failed 64 64 c.args.tokens.now c.new-cursor.result c.top.new.tokens c.in-Err-Fault.kind c.in-Err-Fault.field-0 c.new-cursor.ensures c.in-Err-Fault.field-0-is c.in-Err-Fault.ensures in
    absurd cc

pub returns-in-Err-Fault-clause-fault : goal.returns-in-Err-Fault-clause-fault
returns-in-Err-Fault-clause-fault c =
    let b = failed 64 64 c.args.tokens.now c.new-cursor.result c.top.new.tokens c.in-Err-Fault.kind c.in-Err-Fault.field-0 c.new-cursor.ensures c.in-Err-Fault.field-0-is c.in-Err-Fault.ensures in
    rw (c.place-in-Err-Fault.ensures, c.rest.ensures) (is_first 64 64 (omega arith) c.args.tokens.now c.requires c.in-Err-Fault.kind c.top.new.tokens b)

pub returns-in-Err-Fault-clause-first : goal.returns-in-Err-Fault-clause-first
returns-in-Err-Fault-clause-first c = λ f first.
    let b = failed 64 64 c.args.tokens.now c.new-cursor.result c.top.new.tokens c.in-Err-Fault.kind c.in-Err-Fault.field-0 c.new-cursor.ensures c.in-Err-Fault.field-0-is c.in-Err-Fault.ensures in
    rw (c.place-in-Err-Fault.ensures, c.rest.ensures) (one_fault 64 64 c.args.tokens.now _ f (is_first 64 64 (omega arith) c.args.tokens.now c.requires c.in-Err-Fault.kind c.top.new.tokens b) first)
