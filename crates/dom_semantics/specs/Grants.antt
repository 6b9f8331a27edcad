-- Which of its functions and which ways out a userscript may ask for: those that it was granted (Greasemonkey manual, @grant).
use Rattle.std.specs.Prelude.{◌-◌, ◌&&◌, Bool, true, false, not, nat_le, slice_get, if◌then◌else◌, Option, None}
use Rattle.std.specs.Option.{option_map_or}
use Rattle.door.specs.declared.grants.GrantSet.{GrantSet}
use Rattle.door.specs.declared.values.Actor.{Actor}
use Rattle.door.specs.declared.members.Member.{Member}
use Rattle.door.specs.declared.members.Member.TheVariants.{GmLog, GmGetValue, GmSetValue, GmDeleteValue, GmListValues}
use Rattle.door.specs.declared.requests.Request.{Request}
use Rattle.door.specs.declared.requests.Request.TheVariants.{Native, Reach}
use Rattle.door.specs.declared.requests.ReachOp.{ReachOp}
use Rattle.door.specs.declared.requests.ReachOp.TheVariants.{UnsafeWindow}
use Rattle.dom_semantics.specs.Stage.{Origin}

-- whether these grants name the function; other members ask for no grant
abbrev pub has_grant : Member → GrantSet → Bool
has_grant GmLog grants = grants.log
has_grant GmGetValue grants = grants.get_value
has_grant GmSetValue grants = grants.set_value
has_grant GmDeleteValue grants = grants.delete_value
has_grant GmListValues grants = grants.list_values
has_grant member grants = true

-- an actor's grants: actors from 2 on are userscripts, and nobody else has any
abbrev pub grants_of : Origin → Actor → Option GrantSet
grants_of origin i = if nat_le 2 i.0 then slice_get origin.grants (i.0 - 2) else None

abbrev pub no_grants : GrantSet
no_grants = record {
  no_grant = false;
  unsafe_window = false;
  get_value = false;
  set_value = false;
  delete_value = false;
  list_values = false;
  log = false;
}

abbrev pub is_granted : Origin → Actor → Member → Bool
is_granted origin i member = option_map_or (λ grants. has_grant member grants) (grants_of origin i) (has_grant member no_grants)

-- whether a script with these grants has the way out: with `none` it has no sandbox to leave, and unsafeWindow is granted by its name
abbrev pub has_way_out : ReachOp → GrantSet → Bool
has_way_out UnsafeWindow grants = not grants.no_grant && grants.unsafe_window
has_way_out operation grants = not grants.no_grant

-- nobody else than a userscript has one
abbrev pub may_reach : Origin → Actor → ReachOp → Bool
may_reach origin i operation = option_map_or (λ grants. has_way_out operation grants) (grants_of origin i) false

-- the same of all requests; a look asks for no grant
abbrev pub may_ask : Origin → Actor → Request → Bool
may_ask origin i (Native member thing arguments) = is_granted origin i member
may_ask origin i (Reach operation) = may_reach origin i operation
may_ask origin i request = true
