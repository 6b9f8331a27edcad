-- The actors by number: the host is 0, and each other one follows those that were made before it (own).
use Rattle.std.specs.Prelude.{ℕ, zero, suc, List, Option, Some, None, slice_get, option_map}
use Rattle.door.specs.declared.values.Actor.{Actor}
use Rattle.door.specs.declared.zones.Zone.{Zone}
use Rattle.door.specs.declared.zones.Zone.TheVariants.{Host}
use Rattle.compartments.specs.declared.compartments.Compartment.{Compartment}
use Rattle.compartments.specs.declared.principals.Principal.{Principal}

abbrev pub zone_by : List Compartment → ℕ → Option Zone
zone_by all zero = Some Host
zone_by all (suc n) = option_map (λ (c : Compartment). c.zone) (slice_get all n)

abbrev pub zone_at : List Compartment → Actor → Option Zone
zone_at all actor = zone_by all actor.0

abbrev pub principal_by : List Compartment → ℕ → Option Principal
principal_by all zero = None
principal_by all (suc n) = option_map (λ (c : Compartment). c.principal) (slice_get all n)

abbrev pub principal_at : List Compartment → Actor → Option Principal
principal_at all actor = principal_by all actor.0
