use Rattle.std.proofs.Common.{arith}
use Rattle.scenario.specs.Scenarios.{IsFile}
use Rattle.scenario.proofs.Whole.{first_refused, only_read, same_lines, taken_read, whole_fault, whole_ok}
use Rattle.scenario.proofs.read.read_events.Goals as goal

pub returns-clause-only : goal.returns-clause-only
returns-clause-only c =
    let file : IsFile c.args.bytes.now = record { within = omega arith; utf8 = c.in-Ok.ensures.cases.1 } in
    let same = same_lines c.args.bytes.now c.in-Ok.s.now c.in_ok-lines.lines.items c.as_slice.result.now c.in-Ok.ensures.cases.0 c.in_ok-lines.ensures.exact c.as_slice.ensures.value in
    only_read c.read_lines.result (λ v. v.items) c.args.bytes.now (whole_ok c.read_lines.result (λ v. v.items) c.args.bytes.now c.as_slice.result.now file same c.read_lines.ensures.ok)

pub returns-clause-taken : goal.returns-clause-taken
returns-clause-taken c =
    let file : IsFile c.args.bytes.now = record { within = omega arith; utf8 = c.in-Ok.ensures.cases.1 } in
    let same = same_lines c.args.bytes.now c.in-Ok.s.now c.in_ok-lines.lines.items c.as_slice.result.now c.in-Ok.ensures.cases.0 c.in_ok-lines.ensures.exact c.as_slice.ensures.value in
    taken_read c.args.bytes.now c.read_lines.result (whole_fault c.args.bytes.now c.as_slice.result.now c.read_lines.result file same c.read_lines.ensures.fault)

pub returns-clause-first : goal.returns-clause-first
returns-clause-first c =
    let file : IsFile c.args.bytes.now = record { within = omega arith; utf8 = c.in-Ok.ensures.cases.1 } in
    let same = same_lines c.args.bytes.now c.in-Ok.s.now c.in_ok-lines.lines.items c.as_slice.result.now c.in-Ok.ensures.cases.0 c.in_ok-lines.ensures.exact c.as_slice.ensures.value in
    first_refused c.read_lines.result (λ v. v.items) c.args.bytes.now (whole_ok c.read_lines.result (λ v. v.items) c.args.bytes.now c.as_slice.result.now file same c.read_lines.ensures.ok)
    (whole_fault c.args.bytes.now c.as_slice.result.now c.read_lines.result file same c.read_lines.ensures.fault)
