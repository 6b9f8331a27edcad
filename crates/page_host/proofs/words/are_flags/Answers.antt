use Rattle.std.proofs.Common.{◌≡◌, sym, true, refl}
use Rattle.std.specs.String.{string_bytes}
use Rattle.page_host.specs.Words.{is_plain}
use Rattle.page_host.proofs.Commands.{filter_about, not_empty}
use Rattle.page_host.proofs.words.are_flags.Goals as goal

pub returns-then-not-has_dash : goal.returns-then-not-has_dash
returns-then-not-has_dash c =
    let plain : is_plain (string_bytes c.word-item.result) ≡ true = rw (sym c.as_str.ensures.value, sym c.has_dash.ensures, c.if-not-has_dash.true) refl in
    let about = filter_about is_plain string_bytes c.args.options.now c.loop-word.word-index c.word-item.result c.loop-word-test.true c.word-item.is plain in
    (λ h. absurd (cc), λ none. absurd (not_empty _ _ _ _ about none))
