-- What is read of whole texts is a reading of selectors.
use Rattle.std.proofs.Common.{◌≡◌}
use Rattle.std.specs.Prelude.{Option, Some, None, Ok, Err}
use Rattle.dom_semantics.specs.SelectorNames.{Scalars}
use Rattle.dom_semantics.specs.Stage.{IsReading}
use Rattle.dom_query.specs.Answers.{Chains}
use Rattle.dom_query.specs.ReadingModel.{Outcome}
use Rattle.dom_query.proofs.Again.{read_again}
use Rattle.dom_query.proofs.Firsts.{whole}
use Rattle.dom_query.proofs.Ways.{read_sound}

abbrev chains_of : Outcome → Option Chains
chains_of (Ok chains) = Some chains
chains_of (Err rest) = None

is_read : (o : Outcome) (chains : Chains) → chains_of o ≡ Some chains → o ≡ Ok chains
is_read (Ok read) chains e = cc
is_read (Err rest) chains e = absurd cc

not_unread : (o : Outcome) (chains : Chains) → chains_of o ≡ None → o ≡ Ok chains → ⊥
not_unread (Ok read) chains e is = cc
not_unread (Err rest) chains e is = cc

abbrev pub reading : Scalars → Option Chains
reading text = chains_of (whole text)

pub reading_right : IsReading reading
reading_right = record {
  some = λ text chains e. read_sound chains text (is_read (whole text) chains e);
  none = λ text chains e is. not_unread (whole text) chains e (read_again chains text is);
}
