-- How many nodes each maker has, as the tree keeps it.
use Rattle.std.specs.Prelude.{◌≡◌, ◌+◌, ℕ, Bool, List, [], ◌∷◌, nat_eq, if◌then◌else◌}
use Rattle.std.specs.List.{list_any}
use Rattle.door.specs.declared.values.Actor.{Actor}

-- the entry of a maker
abbrev pub is_of : Actor → Actor × ℕ → Bool
is_of maker entry = nat_eq entry.0.0 maker.0

abbrev pub has_count : List (Actor × ℕ) → Actor → Bool
has_count counts maker = list_any (is_of maker) counts

-- the count in the maker's entry, and 0 where it has none
abbrev pub count_in : List (Actor × ℕ) → Actor → ℕ
count_in [] maker = 0
count_in (entry ∷ counts) maker = if is_of maker entry then entry.1 else count_in counts maker

-- the maker's count is so much more, and the others are as they were
abbrev pub IsRaised : List (Actor × ℕ) → List (Actor × ℕ) → Actor → ℕ → Type 0
IsRaised old new maker more = (other : Actor) → count_in new other ≡ (if nat_eq maker.0 other.0 then count_in old other + more else count_in old other)
