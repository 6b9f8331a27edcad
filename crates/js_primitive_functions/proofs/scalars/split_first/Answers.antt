use Rattle.std.specs.Prelude.{encode_utf8}
use Rattle.std.proofs.Common.{◌≡◌, ◌++◌, sym, ap, ◌∙◌}
use Rattle.std.proofs.lemmas.Str.{chars_past_char}
use Rattle.js_primitive_functions.proofs.scalars.split_first.Goals as goal

pub returns-in-Some-clause-cases : goal.returns-in-Some-clause-cases
returns-in-Some-clause-cases c =
    let first = c.in-Some.first in
    let rest = c.as_str.result.now in
    let bytes : c.args.s.now ≡ encode_utf8 first ++ rest =
    sym c.chars-scalars.ensures.rest ∙ c.in-Some.ensures.steps.0 ∙ ap (λ t. encode_utf8 first ++ t) (sym c.as_str.ensures) in
    chars_past_char _ rest first c.utf8.s bytes
