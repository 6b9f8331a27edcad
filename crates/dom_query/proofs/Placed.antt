-- The places of the state that comes next are in order too.
use Rattle.std.proofs.Common.{◌+◌, ◌≤◌, ℕ, Bool, true, false, ◌==◌, cond, arith}
use Rattle.dom_query.specs.declared.kind.Kind.{Kind}
use Rattle.dom_query.specs.declared.kind.Kind.TheVariants as k
use Rattle.dom_query.specs.declared.state.Span.{Span}
use Rattle.dom_query.specs.declared.state.State.{State}
use Rattle.dom_query.specs.declared.state.State.TheVariants as s
use Rattle.dom_query.specs.PlacesModel.{IsPlaced, IfPlaced}
use Rattle.dom_query.specs.ReadingModel.{span, kind_of, next, begin_part, begin_compound, after_part, if_name, if_close, next_before, next_gap, next_name, next_attribute, next_equals, next_bare}

part : (kind : Kind) (at : ℕ) → IfPlaced (begin_part kind) at
part k.Hash at = tt
part k.Dot at = tt
part k.Open at = tt
part kind at = tt

compound : (from at : ℕ) (kind : Kind) → from ≤ at → IfPlaced (begin_compound from kind) at
compound from at k.Name le = le
compound from at k.Star le = tt
compound from at kind le = part kind at

after : (kind : Kind) (at : ℕ) → IfPlaced (after_part kind) at
after k.Blank at = tt
after k.Comma at = tt
after kind at = part kind at

before_next : (from at : ℕ) (kind : Kind) → from ≤ at → IfPlaced (next_before from kind) at
before_next from at k.Blank le = tt
before_next from at kind le = compound from at kind le

gap_next : (from at : ℕ) (kind : Kind) → from ≤ at → IfPlaced (next_gap from kind) at
gap_next from at k.Blank le = tt
gap_next from at k.Comma le = tt
gap_next from at kind le = compound from at kind le

named : (st : State) (at : ℕ) (kind : Kind) → IsPlaced st at → IfPlaced (next_name st kind) at
named st at k.Name h = h
named st at kind h = after kind at

close : (kind : Kind) (at : ℕ) → IfPlaced (if_close kind) at
close k.Close at = tt
close kind at = tt

bare : (st : State) (at : ℕ) (kind : Kind) → IsPlaced st at → IfPlaced (next_bare st kind) at
bare st at k.Name h = h
bare st at kind h = close kind at

attribute : (from at : ℕ) (kind : Kind) → from ≤ at → IfPlaced (next_attribute from at kind) (at + 1)
attribute from at k.Name le = omega arith
attribute from at k.Equals le = (le, omega arith)
attribute from at kind le = close kind (at + 1)

value : (name : Span) (at c : ℕ) (kind : Kind) → IsPlaced (s.Equals name) at → IfPlaced (next_equals name at c kind) (at + 1)
value name at c k.Name h = ((h.0, omega arith), omega arith)
value name at c k.Quote h = ((h.0, omega arith), omega arith)
value name at c kind h = tt

quoted : (b : Bool) (name : Span) (q from at : ℕ) → IsPlaced (s.Quoted name q from) at → IsPlaced (cond b (s.Closing name (span from at)) (s.Quoted name q from)) (at + 1)
quoted true name q from at h = ((h.0.0, omega arith), (h.1, omega arith))
quoted false name q from at h = ((h.0.0, omega arith), omega arith)

name_begins : (st : State) (at : ℕ) (kind : Kind) → IsPlaced st at → IfPlaced (if_name st kind) at
name_begins st at k.Name h = h
name_begins st at kind h = tt

pub next_placed : (st : State) (at c : ℕ) → IsPlaced st at → IfPlaced (next st at c) (at + 1)
unfolding next
next_placed s.Before at c h = before_next at (at + 1) (kind_of c) (omega arith)
next_placed s.Gap at c h = gap_next at (at + 1) (kind_of c) (omega arith)
next_placed (s.Begun so) at c h = name_begins (s.Name so at) (at + 1) (kind_of c) (omega arith)
next_placed (s.Name so from) at c h = named (s.Name so from) (at + 1) (kind_of c) (omega arith)
next_placed s.Whole at c h = after (kind_of c) (at + 1)
next_placed s.Opened at c h = name_begins (s.Attribute at) (at + 1) (kind_of c) (omega arith)
next_placed (s.Attribute from) at c h = attribute from at (kind_of c) h
next_placed (s.Equals name) at c h = value name at c (kind_of c) h
next_placed (s.Quoted name q from) at c h = quoted (c == q) name q from at h
next_placed (s.Bare name from) at c h = bare (s.Bare name from) (at + 1) (kind_of c) ((h.0.0, omega arith), omega arith)
next_placed (s.Closing name value) at c h = close (kind_of c) (at + 1)
