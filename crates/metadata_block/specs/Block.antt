-- What the block of a userscript says, line after line, and its first fault (this project's own, after the Greasemonkey manual,
-- Metadata Block).
use Rattle.std.specs.Prelude.{◌≡◌, ◌≢◌, ◌⊎◌, ℕ, List, [], ◌∷◌, ◌++◌, codes, ⊤, Ok, Err, encode_utf8_all}
use Rattle.metadata_block.specs.Lines.{ReadsPairs}
use Rattle.metadata_block.specs.Selection.{same_grant}
use Rattle.metadata_block.specs.declared.block.MetaFault.TheVariants as fault
use Rattle.metadata_block.specs.declared.block.MetaFault.{MetaFault}
use Rattle.metadata_block.specs.declared.lines.BlockFault.TheVariants as block
use Rattle.metadata_block.specs.declared.lines.Pair.{Pair}
use Rattle.metadata_block.specs.declared.meta.Grant.TheVariants as grant
use Rattle.metadata_block.specs.declared.meta.Grant.{Grant}
use Rattle.metadata_block.specs.declared.meta.Meta.{Meta}
use Rattle.metadata_block.specs.declared.meta.RunAt.TheVariants.{Start, End, Idle}
use Rattle.metadata_block.specs.declared.meta.RunAt.{RunAt}
use Rattle.metadata_block.specs.declared.words.Key.TheVariants as key
use Rattle.metadata_block.specs.declared.words.Key.{Key}
use Rattle.url_rules.specs.Patterns.{Rose}
use Rattle.url_rules.specs.Reads.{ReadsGlob, ReadsPattern, IsRefused}
use Rattle.url_rules.specs.declared.read.RuleKind.TheVariants as kind
use Rattle.url_rules.specs.declared.rules.Rule.{Rule}

-- ---- the tables of texts

abbrev pub key_text : Key → List ℕ
key_text key.Name = codes "name"
key_text key.Namespace = codes "namespace"
key_text key.RunAt = codes "run-at"
key_text key.Grant = codes "grant"
key_text key.Include = codes "include"
key_text key.Exclude = codes "exclude"
key_text key.Match = codes "match"

abbrev pub run_at_text : RunAt → List ℕ
run_at_text Start = codes "document-start"
run_at_text End = codes "document-end"
run_at_text Idle = codes "document-idle"

abbrev pub grant_text : Grant → List ℕ
grant_text grant.NoGrant = codes "none"
grant_text grant.UnsafeWindow = codes "unsafeWindow"
grant_text grant.GetValue = codes "GM_getValue"
grant_text grant.SetValue = codes "GM_setValue"
grant_text grant.DeleteValue = codes "GM_deleteValue"
grant_text grant.ListValues = codes "GM_listValues"
grant_text grant.Log = codes "GM_log"

-- ---- a line that is taken

-- both are `none`, or neither is
abbrev pub StandsBeside : Grant → Grant → Type 0
StandsBeside h g = same_grant h grant.NoGrant ≡ same_grant g grant.NoGrant

-- the grant stands beside each of those
abbrev pub Agrees : List Grant → Grant → Type 0
Agrees [] g = ⊤
Agrees (h ∷ hs) g = StandsBeside h g × Agrees hs g

-- what a line with a used key and this value changes
abbrev pub Sets : Key → List ℕ → Meta → Meta → Type 0
Sets key.Name value old new = new ≡ record old { name = value }
Sets key.Namespace value old new = new ≡ record old { namespace = value }
Sets key.RunAt value old new = (r : RunAt) × (encode_utf8_all value ≡ run_at_text r) × (new ≡ record old { run_at = r })
Sets key.Grant value old new = (g : Grant) × (encode_utf8_all value ≡ grant_text g) × Agrees old.grants g × (new ≡ record old { grants = old.grants ++ g ∷ [] })
Sets key.Include value old new = (r : Rule) × ReadsGlob (encode_utf8_all value) r × (new ≡ record old { includes = old.includes ++ r ∷ [] })
Sets key.Exclude value old new = (r : Rule) × ReadsGlob (encode_utf8_all value) r × (new ≡ record old { excludes = old.excludes ++ r ∷ [] })
Sets key.Match value old new = (r : Rule) × ReadsPattern (encode_utf8_all value) r × (new ≡ record old { matches = old.matches ++ r ∷ [] })

-- the key is none of those that are used
abbrev pub IsOther : List ℕ → Type 0
IsOther k = (u : Key) → k ≡ key_text u → ⊥

-- what a line changes; one with another key is kept
abbrev pub Takes : Meta → Pair → Meta → Type 0
Takes old p new =
    ((u : Key) × (encode_utf8_all p.key ≡ key_text u) × Sets u p.value old new)
    ⊎ (IsOther (encode_utf8_all p.key) × (new ≡ record old { others = old.others ++ (p.key, p.value) ∷ [] }))

-- the lines one after another change the one to the other
abbrev pub TakesAll : List Pair → Meta → Meta → Type 0
TakesAll [] old new = new ≡ old
TakesAll (p ∷ ps) old new = (mid : Meta) × Takes old p mid × TakesAll ps mid new

-- ---- a line that is refused

-- no grant has this text, or one that has may not stand beside those so far
abbrev pub IsBadGrant : List Grant → List ℕ → Type 0
IsBadGrant grants value =
    ((g : Grant) → encode_utf8_all value ≡ grant_text g → ⊥) ⊎ ((g : Grant) × (encode_utf8_all value ≡ grant_text g) × (Agrees grants g → ⊥))

-- why a line with a used key is refused, where the count of regular expressions that were too big goes from `before` to `after`
abbrev pub Refuses : Key → ℕ → ℕ → Meta → Pair → MetaFault → Type 0
Refuses key.Name before after meta p f = ⊥
Refuses key.Namespace before after meta p f = ⊥
Refuses key.RunAt before after meta p f = (f ≡ fault.BadRunAt p.line) × ((r : RunAt) → encode_utf8_all p.value ≡ run_at_text r → ⊥)
Refuses key.Grant before after meta p f = (f ≡ fault.BadGrant p.line) × IsBadGrant meta.grants p.value
Refuses key.Include before after meta p f = (f ≡ fault.BadRule p.line) × IsRefused before after kind.Glob (encode_utf8_all p.value)
Refuses key.Exclude before after meta p f = (f ≡ fault.BadRule p.line) × IsRefused before after kind.Glob (encode_utf8_all p.value)
Refuses key.Match before after meta p f = (f ≡ fault.BadRule p.line) × IsRefused before after kind.Pattern (encode_utf8_all p.value)

-- a line is refused
pub record FailsAt (before after : ℕ) (meta : Meta) (p : Pair) (f : MetaFault) : Type 0 where
  pub key : Key
  pub key_is : encode_utf8_all p.key ≡ key_text key
  pub refused : Refuses key before after meta p f

-- the first line that is refused gives this fault
abbrev pub Fails : ℕ → ℕ → List Pair → Meta → MetaFault → Type 0
Fails before after [] meta f = ⊥
Fails before after (p ∷ ps) meta f = FailsAt before after meta p f ⊎ ((mid : Meta) × Takes meta p mid × Fails before after ps mid f)

-- ---- the whole block

-- what stands before the first line
abbrev pub nothing : Meta
nothing = record { name = []; namespace = []; run_at = End; grants = []; includes = []; excludes = []; matches = []; others = [] }

-- the block of the text says this
pub record ReadsBlock (s : List ℕ) (meta : Meta) : Type 0 where
  pub pairs : List Pair
  pub pairs_are : ReadsPairs s (Ok pairs)
  pub taken : TakesAll pairs nothing meta
  pub named : meta.name ≢ []

-- the block of the text has a line that gives this fault, and none before it that gives one
pub record HasBadLine (before after : ℕ) (s : List ℕ) (f : MetaFault) : Type 0 where
  pub pairs : List Pair
  pub pairs_are : ReadsPairs s (Ok pairs)
  pub fails : Fails before after pairs nothing f

-- all lines are taken, and the script has no name, or an empty one
pub record HasNoName (s : List ℕ) : Type 0 where
  pub pairs : List Pair
  pub meta : Meta
  pub pairs_are : ReadsPairs s (Ok pairs)
  pub taken : TakesAll pairs nothing meta
  pub unnamed : meta.name ≡ []

-- why a text is refused: no line starts a block, no later line ends it, a line is refused, or all are taken and the name is missing
abbrev pub FailsBlock : ℕ → ℕ → List ℕ → MetaFault → Type 0
FailsBlock before after s fault.NoBlock = ReadsPairs s (Err block.NoBlock)
FailsBlock before after s fault.NoEnd = ReadsPairs s (Err block.NoEnd)
FailsBlock before after s fault.NoName = HasNoName s
FailsBlock before after s (fault.BadRunAt line) = HasBadLine before after s (fault.BadRunAt line)
FailsBlock before after s (fault.BadGrant line) = HasBadLine before after s (fault.BadGrant line)
FailsBlock before after s (fault.BadRule line) = HasBadLine before after s (fault.BadRule line)
FailsBlock before after s fault.NoMemory = ⊤

-- the text has this fault, and neither memory nor the size of a regular expression is its cause
pub record HasFault (s : List ℕ) (f : MetaFault) : Type 0 where
  pub before : ℕ
  pub after : ℕ
  pub not_size : Rose before after → ⊥
  pub not_memory : f ≢ fault.NoMemory
  pub fails : FailsBlock before after s f

-- ---- what stands after a fault

-- the count of regular expressions that were too big is as before, but for a refused rule, where it may have risen by one
abbrev pub KeepsCount : ℕ → ℕ → MetaFault → Type 0
KeepsCount before after (fault.BadRule line) = (after ≡ before) ⊎ Rose before after
KeepsCount before after f = after ≡ before
