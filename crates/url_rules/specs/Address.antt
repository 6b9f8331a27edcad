-- The address as rules see it (URL Standard, URL serializing).
use Rattle.std.specs.Prelude.{◌≡◌, ◌<◌, ◌≤◌, ◌-◌, ◌^◌, ℕ, List, [], ◌∷◌, ◌++◌, length, min, Option, Some, None, Err, ⊤}
use Rattle.door.specs.declared.limits.TheConstants.{ADDRESS_LIMIT}
use Rattle.url.specs.Parser.{parse_url}
use Rattle.url_rules.specs.declared.address.AddressFault.{AddressFault}
use Rattle.url_rules.specs.declared.address.AddressFault.TheVariants.{TooLong, Parse, NoMemory}
use Rattle.url.specs.Parts.{Parts, serialize, host_or_empty}
use Rattle.url.specs.Host.{host_text}

-- an address is a URL, seen as its parts
abbrev pub Address : Type 0
Address = Parts

-- its text without the fragment
abbrev pub address_text : Address → List ℕ
address_text address = serialize (record address { fragment = None })

-- `?` and the query, where there is one
abbrev pub query_text : Option (List ℕ) → List ℕ
query_text None = []
query_text (Some query) = 63 ∷ query

-- the path, followed by `?` and the query where there is one
abbrev pub path_text : Address → List ℕ
path_text address = address.path ++ query_text address.query

-- the text of the host, empty where there is none
abbrev pub host_text_of : Address → List ℕ
host_text_of address = host_text (host_or_empty address)

-- why a text is no address: it is over the limit, with how many bytes it has as far as 32 bits tell; or else the fault of the URL
-- Standard's parser
abbrev pub RefusesAddress : List ℕ → AddressFault → Type 0
RefusesAddress s (TooLong n) = (ADDRESS_LIMIT < length s) × (n ≡ min (length s) (2 ^ 32 - 1))
RefusesAddress s (Parse fault) = (length s ≤ ADDRESS_LIMIT) × (parse_url None s ≡ Err fault)
RefusesAddress s NoMemory = ⊤
