-- The stage: all of document, events, listeners, timers and store that scripts can ask about; this project's own in form.
use Rattle.std.specs.Prelude.{◌≡◌, ◌-◌, ◌||◌, ◌&&◌, ℕ, Bool, true, not, List, [], length, nat_eq, nat_le, nat_lt, count_by, slice_index_or, Option, Some, None}
use Rattle.std.specs.List.{list_all}
use Rattle.door.specs.declared.values.Actor.{Actor}
use Rattle.door.specs.declared.grants.GrantSet.{GrantSet}
use Rattle.door.specs.declared.limits.TheConstants as limits
use Rattle.door.specs.declared.values.Kind.{Kind}
use Rattle.door.specs.declared.values.Kind.TheVariants.{Window, Event as EventKind}
use Rattle.door.specs.declared.values.Thing.{Thing}
use Rattle.dom_semantics.specs.Bounds.{is_short}
use Rattle.dom_semantics.specs.Forest.{Forest, new_forest, form_at}
use Rattle.dom_semantics.specs.declared.kept.Owner.{Owner}
use Rattle.dom_semantics.specs.declared.readiness.Readiness.{Readiness}
use Rattle.dom_semantics.specs.declared.readiness.Readiness.TheVariants.{Loading}
use Rattle.dom_semantics.specs.Things.{is_actor, is_kind, kind_of_form}
use Rattle.dom_semantics.specs.Events.{Events}
use Rattle.dom_semantics.specs.Listeners.{Listeners, no_listeners}
use Rattle.dom_semantics.specs.Timers.{Timers, no_timers}
use Rattle.dom_semantics.specs.declared.selectors.Compound.{Compound}
use Rattle.dom_semantics.specs.SelectorGrammar.{IsSelector}
use Rattle.dom_semantics.specs.Stores.{Stores, are_ascending, is_short_owner, is_store}

-- nodes and events have the numbers of their making; the actors of the dispatches that haven't come back, the innermost first, and of
-- those that were made in this turn
pub record Stage : Type 0 where
  pub nodes : Forest
  pub listeners : Listeners
  pub events : Events
  pub timers : Timers
  pub readiness : Readiness
  pub stores : Stores
  pub dispatching : List Actor
  pub dispatched : List Actor

-- What answers tell of a run besides its stage: the page's address; for each userscript whose values its own are, and its grants, where the
-- actor 2 + n has the n-th; and how selectors are read.
pub record Origin : Type 0 where
  pub address : List ℕ
  pub owners : List Owner
  pub grants : List GrantSet
  pub read_selector : List ℕ → Option (List (List Compound))

-- What a run is given besides its marks: that, the loaded store, and each clock that the host set, with the number of marks before it.
pub record Setting : Type 0 where
  pub origin : Origin
  pub stores : Stores
  pub clocks : List (ℕ × ℕ)

-- A reading of selectors is right where it gives just what the grammar does.
pub record IsReading (read : List ℕ → Option (List (List Compound))) : Type 0 where
  pub some : (text : List ℕ) (chains : List (List Compound)) → read text ≡ Some chains → IsSelector chains text
  pub none : (text : List ℕ) (chains : List (List Compound)) → read text ≡ None → IsSelector chains text → ⊥

-- the grant `none` stands alone (Greasemonkey manual, @grant)
abbrev pub is_grant_set : GrantSet → Bool
is_grant_set g = not g.no_grant || not (g.unsafe_window || g.get_value || g.set_value || g.delete_value || g.list_values || g.log)

-- of two clocks the later one is set after no fewer marks, and to no earlier time
abbrev pub is_clock_before : ℕ × ℕ → ℕ × ℕ → Bool
is_clock_before a b = nat_le a.0 b.0 && nat_le a.1 b.1

-- What a run is given is right where selectors are read by the grammar, address and names are no longer than a text may be, the number of
-- scripts is within its limit, each script has its grants, `none` by itself, the loaded store is in order, which loading establishes, and no clock is set back.
pub record IsSetting (given : Setting) : Type 0 where
  pub reading : IsReading given.origin.read_selector
  pub address : is_short given.origin.address ≡ true
  pub scripts : nat_le (length given.origin.owners) limits.USERSCRIPT_LIMIT ≡ true
  pub owners : list_all is_short_owner given.origin.owners ≡ true
  pub grants : length given.origin.grants ≡ length given.origin.owners
  pub alone : list_all is_grant_set given.origin.grants ≡ true
  pub store : is_store given.stores ≡ true
  pub clocks : are_ascending is_clock_before given.clocks ≡ true

-- the document alone, which the host made, and the loaded store
abbrev pub start : Setting → Stage
start given = record {
  nodes = new_forest;
  listeners = no_listeners;
  events = [];
  timers = no_timers;
  readiness = Loading;
  stores = given.stores;
  dispatching = [];
  dispatched = [];
}

-- a stage with one of its parts changed
abbrev pub with_nodes : Stage → Forest → Stage
with_nodes s nodes = record s { nodes = nodes }

abbrev pub with_listeners : Stage → Listeners → Stage
with_listeners s listeners = record s { listeners = listeners }

abbrev pub with_events : Stage → Events → Stage
with_events s events = record s { events = events }

abbrev pub with_timers : Stage → Timers → Stage
with_timers s timers = record s { timers = timers }

abbrev pub with_stores : Stage → Stores → Stage
with_stores s stores = record s { stores = stores }

-- the most dispatches of an actor that haven't come back, and in one turn; named here again so that proofs don't compute them
unfoldable pub NESTED_DISPATCH_LIMIT : ℕ
NESTED_DISPATCH_LIMIT = limits.NESTED_DISPATCH_LIMIT

unfoldable pub DISPATCH_LIMIT : ℕ
DISPATCH_LIMIT = limits.DISPATCH_LIMIT

-- how many of them an actor has
abbrev pub unfinished_dispatches : Stage → Actor → ℕ
unfinished_dispatches s i = count_by (is_actor i) s.dispatching

abbrev pub turn_dispatches : Stage → Actor → ℕ
turn_dispatches s i = count_by (is_actor i) s.dispatched

-- whose values an actor's are: actors from 2 on are userscripts
abbrev pub owner_of : Origin → Actor → Owner
owner_of origin i = slice_index_or origin.owners (i.0 - 2) (record { namespace = []; name = [] })

-- whether the stage has this thing
abbrev pub has_node : Forest → Thing → Bool
has_node f thing = nat_lt thing.number (length f) && is_kind (kind_of_form (form_at f thing.number)) thing.kind

abbrev pub has_thing_of : Stage → Kind → Thing → Bool
has_thing_of s Window thing = nat_eq thing.number 0
has_thing_of s EventKind thing = nat_lt thing.number (length s.events)
has_thing_of s kind thing = has_node s.nodes thing

abbrev pub has_thing : Stage → Thing → Bool
has_thing s thing = has_thing_of s thing.kind thing
