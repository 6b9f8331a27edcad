-- When maps keep what the stage of a run does, which has each script's values as a list in the order of their names (this project's
-- own).
use Rattle.std.specs.Prelude.{◌≡◌, ℕ, List, is_some, if◌then◌else◌}
use Rattle.std.specs.FinMap.{entries}
use Rattle.dom_semantics.specs.declared.kept.Owner.{Owner}
use Rattle.dom_semantics.specs.Stores.{Stores, value_in, without_value, values_of, with_values}
use Rattle.gm_store.specs.Maps.{Values, Maps, values_in}

-- the values of a script in the maps
abbrev pub kept_for : Maps → Owner → Values
kept_for m owner = values_in m owner.namespace owner.name

-- each script's values are those of its map
abbrev pub KeepsOnStage : Maps → Stores → Type 0
KeepsOnStage m stores = (owner : Owner) → values_of stores owner ≡ entries (kept_for m owner)

-- the stage's stores without a value; they are as before where there was none
abbrev pub deleted : Stores → Owner → List ℕ → Stores
deleted stores owner key =
    if is_some (value_in key (values_of stores owner)) then with_values stores owner (without_value key (values_of stores owner)) else stores
