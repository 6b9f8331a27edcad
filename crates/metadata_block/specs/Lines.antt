-- The lines of a userscript, its block and the pairs of the block (this project's own, after the Greasemonkey manual, Metadata Block).
use Rattle.std.specs.Prelude.{◌≡◌, ◌≢◌, ◌≤◌, ◌⊎◌, ℕ, ◌+◌, List, [], ◌∷◌, ◌++◌, codes, length, true, encode_utf8_all, Result, Ok, Err, ⊤}
use Rattle.std.specs.List.{All}
use Rattle.std.specs.Str.Lines.{lines}
use Rattle.base_text.specs.declared.text.TheConstants.{TEXT_LIMIT}
use Rattle.metadata_block.specs.Blanks.{is_blank, AreBlanks, HasNoBlank, StartsSolid, EndsSolid}
use Rattle.metadata_block.specs.declared.lines.Pair.{Pair}
use Rattle.metadata_block.specs.declared.lines.BlockFault.{BlockFault}
use Rattle.metadata_block.specs.declared.lines.BlockFault.TheVariants.{NoBlock, NoEnd, NoMemory}

-- the line reads, without blanks at both ends and with any blanks after `//`, `// word`
abbrev pub IsMark : List ℕ → List ℕ → Type 0
IsMark word line =
    (front : List ℕ) × (blanks : List ℕ) × (back : List ℕ) × AreBlanks front × AreBlanks blanks × AreBlanks back
    × (line ≡ front ++ (codes "//" ++ (blanks ++ (word ++ back))))

abbrev pub IsStart : List ℕ → Type 0
IsStart = IsMark (codes "==UserScript==")

abbrev pub IsEnd : List ℕ → Type 0
IsEnd = IsMark (codes "==/UserScript==")

-- t is s without blanks at both ends
pub record IsTrimmed (s t : List ℕ) : Type 0 where
  pub front : List ℕ
  pub back : List ℕ
  pub front_blank : AreBlanks front
  pub back_blank : AreBlanks back
  pub split : s ≡ front ++ (t ++ back)
  pub first : StartsSolid t
  pub last : EndsSolid t

-- what follows the key holds this value: nothing, for the empty one, or a blank and the value between blanks
abbrev pub HoldsValue : List ℕ → List ℕ → Type 0
HoldsValue [] value = value ≡ []
HoldsValue (b ∷ rest) value = (is_blank b ≡ true) × IsTrimmed rest value

-- the line is `//`, blanks or none, `@key`, and then nothing, or a blank and the value
pub record IsPair (line key value : List ℕ) : Type 0 where
  pub blanks : List ℕ
  pub rest : List ℕ
  pub blank : AreBlanks blanks
  pub spelled : line ≡ codes "//" ++ (blanks ++ (64 ∷ (key ++ rest)))
  pub some : key ≢ []
  pub solid : HasNoBlank key
  pub holds : HoldsValue rest value

-- a text within the limit of texts
abbrev pub IsShort : List ℕ → Type 0
IsShort bs = length bs ≤ TEXT_LIMIT

-- the line gives no pair: it is of another form, or its key or value is too long
abbrev pub IsSkipped : List ℕ → Type 0
IsSkipped line = (key value : List ℕ) → IsPair line key value → IsShort key → IsShort value → ⊥

-- the line with this number gives this pair
pub record GivesPair (number : ℕ) (line : List ℕ) (p : Pair) : Type 0 where
  pub pair : IsPair line (encode_utf8_all p.key) (encode_utf8_all p.value)
  pub key_short : IsShort (encode_utf8_all p.key)
  pub value_short : IsShort (encode_utf8_all p.value)
  pub number_is : p.line ≡ number

-- the lines, of which the first has this number, give these pairs
abbrev pub GivePairs : ℕ → List (List ℕ) → List Pair → Type 0
GivePairs n [] pairs = pairs ≡ []
GivePairs n (line ∷ lines) pairs =
    (IsSkipped line × GivePairs (n + 1) lines pairs)
    ⊎ ((p : Pair) × (rest : List Pair) × GivesPair n line p × (pairs ≡ p ∷ rest) × GivePairs (n + 1) lines rest)

-- the lines inside of the block, the first of which has this number: after the first line that starts it, and before the first
-- later one that ends it
pub record HasBlock (all : List (List ℕ)) (number : ℕ) (inside : List (List ℕ)) : Type 0 where
  pub before : List (List ℕ)
  pub start : List ℕ
  pub end : List ℕ
  pub after : List (List ℕ)
  pub split : all ≡ before ++ (start ∷ (inside ++ (end ∷ after)))
  pub none_before : All (λ line. IsStart line → ⊥) before
  pub starts : IsStart start
  pub none_inside : All (λ line. IsEnd line → ⊥) inside
  pub ends : IsEnd end
  pub number_is : number ≡ length before + 2

-- no line starts a block
abbrev pub HasNoStart : List (List ℕ) → Type 0
HasNoStart all = All (λ line. IsStart line → ⊥) all

-- the block that the first start begins doesn't end
pub record HasNoEnd (all : List (List ℕ)) : Type 0 where
  pub before : List (List ℕ)
  pub start : List ℕ
  pub after : List (List ℕ)
  pub split : all ≡ before ++ (start ∷ after)
  pub none_before : All (λ line. IsStart line → ⊥) before
  pub starts : IsStart start
  pub none_after : All (λ line. IsEnd line → ⊥) after

-- the block of the text gives these pairs, or why the text has none
abbrev pub ReadsPairs : List ℕ → Result (List Pair) BlockFault → Type 0
ReadsPairs s (Ok pairs) = (n : ℕ) × (inside : List (List ℕ)) × HasBlock (lines s) n inside × GivePairs n inside pairs
ReadsPairs s (Err NoBlock) = HasNoStart (lines s)
ReadsPairs s (Err NoEnd) = HasNoEnd (lines s)
ReadsPairs s (Err NoMemory) = ⊤
