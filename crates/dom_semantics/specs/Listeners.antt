-- Event listener lists: all registered listeners in the order of their adding (DOM, 2.7 Interface EventTarget).
use Rattle.door.specs.declared.limits.TheConstants as limits
use Rattle.std.specs.Prelude.{◌+◌, ◌&&◌, ◌||◌, ℕ, Bool, not, List, [], ◌∷◌, ◌++◌, nat_eq, nat_lt, count_by, filter, if◌then◌else◌, Option, Some, None}
use Rattle.std.specs.List.{list_any}
use Rattle.std.specs.Bool.{beq}
use Rattle.std.specs.Str.{bytes_eq}
use Rattle.door.specs.declared.values.Actor.{Actor}
use Rattle.door.specs.declared.requests.ErrorKind.{ErrorKind}
use Rattle.door.specs.declared.requests.ErrorKind.TheVariants.{Limit}
use Rattle.dom_semantics.specs.declared.listeners.Listener.{Listener}
use Rattle.dom_semantics.specs.declared.listeners.Registration.{Registration}
use Rattle.dom_semantics.specs.Things.{is_actor, is_thing}

-- the most listeners of one owner; named here again so that proofs don't compute it
unfoldable pub LISTENER_LIMIT : ℕ
LISTENER_LIMIT = limits.LISTENER_LIMIT

-- what is registered, and how many numbers of registrations were given (this project's own in form)
pub record Listeners : Type 0 where
  pub registered : List Registration
  pub given : ℕ

-- no listener yet
abbrev pub no_listeners : Listeners
no_listeners = record { registered = []; given = 0 }

-- the same target, type, callback and capture, of one owner (DOM, add an event listener, step 5)
abbrev pub is_same_listener : Listener → Listener → Bool
is_same_listener a b = is_actor a.owner b.owner && is_thing a.target b.target && bytes_eq a.kind b.kind && nat_eq a.callback b.callback && beq a.capture b.capture

-- whether an equal listener is registered (DOM, event listener list contains)
abbrev pub is_registered : List Registration → Listener → Bool
is_registered registered l = list_any (λ (a : Registration). is_same_listener a.listener l) registered

-- how many listeners of an owner are registered (this project's own)
abbrev pub listeners_of : List Registration → Actor → ℕ
listeners_of registered owner = count_by (λ (a : Registration). is_actor a.listener.owner owner) registered

-- an owner has fewer than the limit (this project's own)
abbrev pub has_room : List Registration → Actor → Bool
has_room registered owner = nat_lt (listeners_of registered owner) LISTENER_LIMIT

-- one more listener is refused where its owner has as many as the limit; an equal one changes nothing (this project's own)
abbrev pub add_refusal : Listeners → Listener → Option ErrorKind
add_refusal ls l = if is_registered ls.registered l || has_room ls.registered l.owner then None else Some Limit

-- a listener is appended under the next number (DOM, add an event listener)
abbrev pub with_listener : Listeners → Listener → Listeners
with_listener ls l = record { registered = ls.registered ++ record { number = ls.given; listener = l } ∷ []; given = ls.given + 1 }

-- (DOM, add an event listener, steps 5 and 6)
abbrev pub listener_added : Listeners → Listener → Listeners
listener_added ls l = if is_registered ls.registered l then ls else with_listener ls l

-- (DOM, remove an event listener)
abbrev pub listener_removed : Listeners → Listener → Listeners
listener_removed ls l = record ls { registered = filter (λ (a : Registration). not (is_same_listener a.listener l)) ls.registered }
