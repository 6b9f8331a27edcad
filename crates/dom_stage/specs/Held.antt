-- What contracts see of the stage in code: the definitions' stage, with what userscripts keep as finite maps (this project's own in form).
use Rattle.std.specs.Prelude.{◌≡◌, ℕ, List, [], refl}
use Rattle.std.specs.Coded.{Coded, code_by, coded×, coded_ℕ, coded_list}
use Rattle.door.specs.declared.values.Actor.{Actor}
use Rattle.dom_semantics.specs.Forest.{Forest, new_forest}
use Rattle.dom_semantics.specs.Listeners.{Listeners, no_listeners}
use Rattle.dom_semantics.specs.Events.{Events}
use Rattle.dom_semantics.specs.Timers.{Timers, no_timers}
use Rattle.dom_semantics.specs.Stores.{Stores}
use Rattle.dom_semantics.specs.Stage.{Stage, Origin, IsReading}
use Rattle.dom_semantics.specs.declared.kept.Owner.{Owner}
use Rattle.dom_semantics.specs.declared.readiness.Readiness.{Readiness}
use Rattle.dom_semantics.specs.declared.readiness.Readiness.TheVariants.{Loading}
use Rattle.gm_store.specs.Maps.{Maps}
use Rattle.door.specs.contracts.values.Actor as actor
use Rattle.dom_tree.specs.contracts.tree.Tree as tree
use Rattle.dom_events.specs.contracts.listeners.Listeners as listeners
use Rattle.dom_events.specs.contracts.events.Events as events
use Rattle.dom_semantics.specs.contracts.kept.Owner as owner
use Rattle.dom_semantics.specs.contracts.readiness.Readiness as readiness
use Rattle.gm_store.specs.contracts.stores.Stores as stores
use Rattle.timers.specs.contracts.timers.Timers as timers

-- the parts of a stage, the page's address, and whose values each userscript's are
pub record Held : Type 0 where
  pub address : List ℕ
  pub owners : List Owner
  pub nodes : Forest
  pub listeners : Listeners
  pub events : Events
  pub timers : Timers
  pub readiness : Readiness
  pub stores : Maps
  pub dispatching : List Actor
  pub dispatched : List Actor

-- the same as nested pairs, by which it has a code
abbrev Parts : Type 0
Parts = List ℕ × (List Owner × (Forest × (Listeners × (Events × (Timers × (Readiness × (Maps × (List Actor × List Actor))))))))

abbrev pub held_code : Coded Held
held_code = code_by Parts
    (coded× (coded_list coded_ℕ) (coded× (coded_list owner.the_row.coded) (coded× tree.the_row.coded (coded× listeners.the_row.coded
    (coded× events.the_row.coded (coded× timers.the_row.coded (coded× readiness.the_row.coded (coded× stores.the_row.coded
    (coded× (coded_list actor.the_row.coded) (coded_list actor.the_row.coded))))))))))
    (λ h. (h.address, (h.owners, (h.nodes, (h.listeners, (h.events, (h.timers, (h.readiness, (h.stores, (h.dispatching, h.dispatched))))))))))
    (λ p. record {
      address = p.0;
      owners = p.1.0;
      nodes = p.1.1.0;
      listeners = p.1.1.1.0;
      events = p.1.1.1.1.0;
      timers = p.1.1.1.1.1.0;
      readiness = p.1.1.1.1.1.1.0;
      stores = p.1.1.1.1.1.1.1.0;
      dispatching = p.1.1.1.1.1.1.1.1.0;
      dispatched = p.1.1.1.1.1.1.1.1.1;
    })
    (λ _. refl)

-- the definitions' stage of these parts, with these stores
abbrev pub stage_of : Held → Stores → Stage
stage_of h stores = record {
  nodes = h.nodes;
  listeners = h.listeners;
  events = h.events;
  timers = h.timers;
  readiness = h.readiness;
  stores = stores;
  dispatching = h.dispatching;
  dispatched = h.dispatched;
}

-- the stage before anything, of a page of this address and with these kept values
abbrev pub at_start : List ℕ → Maps → Held
at_start address kept = record {
  address = address;
  owners = [];
  nodes = new_forest;
  listeners = no_listeners;
  events = [];
  timers = no_timers;
  readiness = Loading;
  stores = kept;
  dispatching = [];
  dispatched = [];
}

-- What a run is given tells of the same address and owners, and selectors are read in it by their grammar.
pub record IsOriginOf (h : Held) (given : Origin) : Type 0 where
  pub address : given.address ≡ h.address
  pub owners : given.owners ≡ h.owners
  pub reading : IsReading given.read_selector
