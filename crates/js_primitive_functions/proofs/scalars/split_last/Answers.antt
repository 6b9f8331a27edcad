use Rattle.std.specs.Prelude.{encode_utf8}
use Rattle.std.specs.Str.{chars}
use Rattle.std.proofs.Common.{◌≡◌, ◌++◌, sym, ap, ◌∙◌}
use Rattle.std.proofs.lemmas.List.{nil_from_length}
use Rattle.std.proofs.lemmas.Str.{chars-nil}
use Rattle.js_primitive_functions.proofs.SingleScalars.{last_char}
use Rattle.js_primitive_functions.proofs.scalars.split_last.Goals as goal

pub returns-in-Some-clause-cases : goal.returns-in-Some-clause-cases
returns-in-Some-clause-cases c =
    let last = c.in-Some.last in
    let front = c.as_str.result.now in
    let bytes : c.args.s.now ≡ front ++ encode_utf8 last =
    sym c.chars-scalars.ensures.rest ∙ c.in-Some.ensures.steps ∙ ap (λ t. t ++ encode_utf8 last) (sym c.as_str.ensures) in
    last_char last _ front c.utf8.s c.as_str.utf8 bytes

pub returns-in-None-clause-cases : goal.returns-in-None-clause-cases
returns-in-None-clause-cases c = ap chars (sym c.chars-scalars.ensures.rest ∙ nil_from_length _ c.in-None.ensures.steps.0) ∙ chars-nil
