-- The one form of address that is read yet; this project's own.
use Rattle.std.specs.Prelude.{◌≡◌, ◌≤◌, ℕ, List, ◌++◌, length, codes}
use Rattle.page_host.specs.declared.address.TheConstants.{PLAIN_ADDRESS_LIMIT}
use Rattle.small_forms.specs.Bytes.{AreRuns}
use Rattle.small_forms.specs.declared.bytes.Class.TheVariants.{Lower, Dot}

-- `http://`, runs of lower-case ASCII letters with a dot between two, and `/`, up to the form's own limit of bytes
pub record IsPlainAddress (address : List ℕ) : Type 0 where
  pub host : List ℕ
  pub labels : AreRuns Lower Dot host
  pub whole : address ≡ codes "http://" ++ (host ++ codes "/")
  pub short : length address ≤ PLAIN_ADDRESS_LIMIT
