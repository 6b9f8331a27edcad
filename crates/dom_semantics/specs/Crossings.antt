-- The texts of refusals where a value can't leave the sandbox; this project's own (what is refused: MDN, Components.utils.exportFunction,
-- createObjectIn and cloneInto).
use Rattle.std.specs.Prelude.{◌||◌, ◌&&◌, ℕ, Bool, true, false, List, [], ◌∷◌, ◌++◌, codes, length, nat_eq, nat_le, if◌then◌else◌, Option, Some, None}
use Rattle.std.specs.List.{list_any}
use Rattle.std.specs.Option.{option_map_or}
use Rattle.std.specs.Str.{bytes_eq}
use Rattle.dom_semantics.specs.declared.crossings.TheConstants.{PATH_LIMIT}

-- of a scope, and of what is exported to it
abbrev pub SCOPE_DENIED : List ℕ
SCOPE_DENIED = codes "ScopeDenied"

abbrev pub export_refusals : List (List ℕ)
export_refusals = codes "NotCallable" ∷ codes "NotOwn" ∷ SCOPE_DENIED ∷ []

-- of a value that the walk of a copy comes to
abbrev pub walk_refusals : List (List ℕ)
walk_refusals = codes "IsFunction" ∷ codes "IsThing" ∷ codes "HasAccessor" ∷ codes "IsForeign" ∷ codes "TooMany" ∷ []

-- one of these texts
abbrev pub is_in : List (List ℕ) → List ℕ → Bool
is_in texts text = list_any (bytes_eq text) texts

-- what follows a front in a text, if the text begins with it
abbrev pub rest_after : List ℕ → List ℕ → Option (List ℕ)
rest_after [] text = Some text
rest_after (c ∷ cs) [] = None
rest_after (c ∷ cs) (d ∷ ds) = if nat_eq c d then rest_after cs ds else None

-- a way from what is copied to a value in it, `.key` or `[place]` for each step, is cut at its limit; what is copied itself has the empty one
abbrev pub begins_step : List ℕ → Bool
begins_step [] = true
begins_step (c ∷ cs) = nat_eq c 46 || nat_eq c 91

abbrev pub is_path : List ℕ → Bool
is_path path = begins_step path && nat_le (length path) PATH_LIMIT

-- a refusal of the walk, with the path to the value that is refused
abbrev pub is_walk_refusal : List ℕ → Bool
is_walk_refusal text = list_any (λ kind. option_map_or is_path (rest_after (kind ++ codes " at ") text) false) walk_refusals
