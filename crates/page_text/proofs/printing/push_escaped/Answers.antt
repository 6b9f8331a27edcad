use Rattle.std.proofs.Common.{◌∙◌, ◌++◌, ap, arith}
use Rattle.std.specs.List.{flat_map}
use Rattle.std.proofs.lemmas.List.{take_all}
use Rattle.page_text.specs.Printed.{text_scalar}
use Rattle.page_text.proofs.Encoded.{text_encoded}
use Rattle.page_text.proofs.printing.push_escaped.Goals as goal

pub returns : goal.returns
returns c =
    c.loop-byte.invariant
    ∙ ap (λ xs. c.args.out.now.items ++ xs)
    (ap (flat_map text_scalar) (take_all _ _ (omega (arith, c.loop-byte-test.false)) ∙ c.as_bytes-byte-items.ensures.value ∙ c.as_str.ensures.bytes) ∙ text_encoded c.args.text.now)
