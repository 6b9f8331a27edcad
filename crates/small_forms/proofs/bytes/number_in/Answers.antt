use Rattle.std.proofs.Common.{◌∙◌, sym, arith}
use Rattle.small_forms.proofs.Numerals.{numeral_is, decimal_is}
use Rattle.small_forms.proofs.Options.{false_true}
use Rattle.small_forms.proofs.bytes.number_in.Goals.{else-bytes-le4-via-then-bytes-le4+then-are_all+else-is_numeral, else-bytes-le4-via-then-bytes-le4+else-are_all, else-bytes-le4-via-else-bytes-le4}
use Rattle.small_forms.proofs.bytes.number_in.Goals as goal

pub returns-then-is_numeral-clause-some : goal.returns-then-is_numeral-clause-some
returns-then-is_numeral-clause-some c =
    let is = numeral_is c.args.bytes.now (sym c.are_all.ensures ∙ c.if-are_all.true) (c.is_numeral.ensures.0 c.if-is_numeral.true) c.if-bytes-le4.true in
    rw c.value_of.ensures is

pub returns-else-bytes-le4-clause-none : goal.returns-else-bytes-le4-clause-none
returns-else-bytes-le4-clause-none c n h e =
    let is = decimal_is c.args.bytes.now n h e in
    elim c.else-bytes-le4.branch [
      | else-bytes-le4-via-then-bytes-le4+then-are_all+else-is_numeral w ↦ false_true w.is_numeral.result w.if-is_numeral.false (w.is_numeral.ensures.1 is.numeral)
      | else-bytes-le4-via-then-bytes-le4+else-are_all w ↦ false_true w.are_all.result w.if-are_all.false (w.are_all.ensures ∙ is.digits)
      | else-bytes-le4-via-else-bytes-le4 w ↦ omega (arith, w.if-bytes-le4.false, is.short)
    ]
