use Rattle.std.proofs.Common.{sym, ap, ◌∙◌}
use Rattle.std.specs.Str.{chars}
use Rattle.js_primitive_functions.proofs.SingleScalars.{ascii_cut, ascii_rest}
use Rattle.js_primitive_functions.proofs.search.rest_from.Goals as goal

pub range_from-requires : goal.range_from-requires
range_from-requires c =
    λ positive. ascii_cut c.args.text.now c.as_str-whole.result.now c.args.place c.as_str-whole.ensures.bytes (sym c.count.ensures.exact ∙ c.if-count-whole.true) c.requires

pub returns-then-count-whole-clause-scalars : goal.returns-then-count-whole-clause-scalars
returns-then-count-whole-clause-scalars c =
    let ascii = ascii_rest c.args.text.now c.as_str-whole.result.now c.args.place c.as_str-whole.ensures.bytes (sym c.count.ensures.exact ∙ c.if-count-whole.true) in
    ap chars c.range_from.ensures.value ∙ ascii
