-- Timers (HTML, 8.6 Timers); that they wait for the host's clock is this project's own.
use Rattle.door.specs.declared.limits.TheConstants as limits
use Rattle.dom_semantics.specs.declared.timers.TheConstants.{DELAY_LIMIT}
use Rattle.std.specs.Prelude.{◌+◌, ◌&&◌, ℕ, Bool, not, List, [], ◌∷◌, ◌++◌, nat_eq, nat_lt, nat_le, min, count_by, filter, if◌then◌else◌, Option, Some, None, pos}
use Rattle.std.specs.List.{find}
use Rattle.door.specs.declared.values.Actor.{Actor}
use Rattle.door.specs.declared.values.Value.{Value}
use Rattle.door.specs.declared.values.Value.TheVariants.{Number}
use Rattle.door.specs.declared.requests.ErrorKind.{ErrorKind}
use Rattle.door.specs.declared.requests.ErrorKind.TheVariants.{Limit}
use Rattle.dom_semantics.specs.declared.timers.Timer.{Timer}
use Rattle.dom_semantics.specs.Things.{is_actor}

-- the most timers of one actor that wait; named here again so that proofs don't compute it
unfoldable pub TIMER_LIMIT : ℕ
TIMER_LIMIT = limits.TIMER_LIMIT

-- the timers that wait, in the order of their setting; for each actor the last number that was given, by the order of first setting; the clock
pub record Timers : Type 0 where
  pub waiting : List Timer
  pub given : List (Actor × ℕ)
  pub clock : ℕ

-- no timer yet, at the clock 0
abbrev pub no_timers : Timers
no_timers = record { waiting = []; given = []; clock = 0 }

-- an actor's timers are numbered from 1 (HTML, timer initialization steps, step 2; the order is this project's own)
abbrev pub next_in : List (Actor × ℕ) → Actor → ℕ
next_in [] i = 1
next_in (g ∷ gs) i = if is_actor g.0 i then g.1 + 1 else next_in gs i

-- the number of an actor's next timer
abbrev pub next_number : Timers → Actor → ℕ
next_number ts i = next_in ts.given i

-- one more number was given
abbrev pub given_in : List (Actor × ℕ) → Actor → List (Actor × ℕ)
given_in [] i = (i, 1) ∷ []
given_in (g ∷ gs) i = if is_actor g.0 i then (g.0, g.1 + 1) ∷ gs else g ∷ given_in gs i

-- the timer of this number of an actor
abbrev pub is_timer : Actor → ℕ → Timer → Bool
is_timer i number t = is_actor t.actor i && nat_eq t.number number

-- how many timers of an actor wait, whether it may set one more, and why it may not (this project's own)
abbrev pub timers_of : List Timer → Actor → ℕ
timers_of waiting i = count_by (λ (t : Timer). is_actor t.actor i) waiting

abbrev pub may_set : List Timer → Actor → Bool
may_set waiting i = nat_lt (timers_of waiting i) TIMER_LIMIT

abbrev pub set_refusal : Timers → Actor → Option ErrorKind
set_refusal ts i = if may_set ts.waiting i then None else Some Limit

-- one more timer waits, due at the clock plus its delay (HTML, timer initialization steps)
abbrev pub timer_set : Timers → Actor → ℕ → ℕ → Timers
timer_set ts i delay callback =
    record ts { waiting = ts.waiting ++ record { actor = i; number = next_number ts i; callback = callback; due = ts.clock + delay } ∷ []; given = given_in ts.given i }

-- a number that none of the actor's waiting timers has clears nothing (HTML, clearTimeout)
abbrev pub timer_cleared : Timers → Actor → ℕ → Timers
timer_cleared ts i number = record ts { waiting = filter (λ t. not (is_timer i number t)) ts.waiting }

-- an actor's waiting timer of a number
abbrev pub timer_of : Timers → Actor → ℕ → Option Timer
timer_of ts i number = find (is_timer i number) ts.waiting

-- of two timers the one that is due first, and of two with one due time the one that was set first (HTML, run steps after a timeout)
abbrev pub earlier : Timer → Option Timer → Option Timer
earlier t None = Some t
earlier t (Some u) = if nat_le t.due u.due then Some t else Some u

abbrev pub first_due : List Timer → Option Timer
first_due [] = None
first_due (t ∷ ts) = earlier t (first_due ts)

-- the timer that is due first, if it is due at this clock
abbrev pub if_due : ℕ → Option Timer → Option Timer
if_due upto None = None
if_due upto (Some t) = if nat_le t.due upto then Some t else None

abbrev pub next_due : List Timer → ℕ → Option Timer
next_due waiting upto = if_due upto (first_due waiting)

-- a timer's turn begins: it waits no longer, and the clock is at its due time (this project's own)
abbrev pub timer_taken : Timers → Option Timer → Timers
timer_taken ts None = ts
timer_taken ts (Some t) = record (timer_cleared ts t.actor t.number) { clock = t.due }

-- a delay as it counts: none, and one below 0, is 0 (HTML, timer initialization steps; the longest one is this project's own)
abbrev pub delay_of : Value → ℕ
delay_of (Number (pos n)) = min n DELAY_LIMIT
delay_of value = 0
