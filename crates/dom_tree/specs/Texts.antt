-- A text that is answered or gathered, and when it is too long.
use Rattle.std.specs.Prelude.{◌≡◌, ◌<◌, ◌≤◌, ◌+◌, ℕ, List, ◌++◌, length, Result, OnOk, IfOk, IsErrOf, encode_utf8_all}
use Rattle.base_text.specs.Scalars.{utf8_len}
use Rattle.base_text.specs.declared.text.TheConstants.{TEXT_LIMIT}
use Rattle.base_text.specs.declared.text.TextFault.{TextFault}
use Rattle.base_text.specs.declared.text.TextFault.TheVariants.{TooLong}

-- the text is answered, no longer than a text may be; TooLong only where it is
pub record FitsText (result : Result (List ℕ) TextFault) (text : List ℕ) : Type 0 where
  pub ok : IfOk result (λ t. t ≡ text)
  pub within : OnOk result (utf8_len text ≤ TEXT_LIMIT)
  pub too_long : IsErrOf result TooLong → TEXT_LIMIT < utf8_len text

-- the text's bytes are added, and all are no more than a text may have; TooLong only where they would be
pub record Gathers {S : Type 0} (bytes : S → List ℕ) (old : S) (result : Result S TextFault) (text : List ℕ) : Type 0 where
  pub ok : IfOk result (λ new. bytes new ≡ bytes old ++ encode_utf8_all text)
  pub within : IfOk result (λ new. length (bytes new) ≤ TEXT_LIMIT)
  pub too_long : IsErrOf result TooLong → TEXT_LIMIT < length (bytes old) + utf8_len text
