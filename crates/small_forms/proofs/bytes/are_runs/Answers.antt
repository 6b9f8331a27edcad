use Rattle.std.proofs.Common.{◌≡◌, ◌∙◌, sym, refl, false}
use Rattle.small_forms.specs.Bytes.{is_in}
use Rattle.small_forms.proofs.Runs.{all_told, refused_told}
use Rattle.small_forms.proofs.bytes.are_runs.Goals.{else-in_run-via-then-in_run+else-has-2, else-in_run-via-else-in_run}
use Rattle.small_forms.proofs.bytes.are_runs.Goals as goal

pub returns-else-in_run : goal.returns-else-in_run
returns-else-in_run c =
    let letter : is_in c.args.letter _ ≡ false = sym c.has.ensures ∙ c.if-has.false in
    elim c.else-in_run.branch [
      | else-in_run-via-then-in_run+else-has-2 w ↦ refused_told c.args.letter c.args.separator c.loop-byte.in_run c.loop-byte.byte-index c.args.bytes.now c.loop-byte-test.true letter (rw (w.if-in_run.true, sym w.has-then-in_run.ensures ∙ w.if-has-2.false) refl) c.loop-byte.invariant
      | else-in_run-via-else-in_run w ↦ refused_told c.args.letter c.args.separator c.loop-byte.in_run c.loop-byte.byte-index c.args.bytes.now c.loop-byte-test.true letter (rw w.if-in_run.false refl) c.loop-byte.invariant
    ]

pub returns : goal.returns
returns c = all_told c.args.letter c.args.separator c.loop-byte.in_run c.loop-byte.byte-index c.args.bytes.now c.loop-byte-test.false c.loop-byte.invariant
