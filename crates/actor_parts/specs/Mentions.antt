-- Which cells a cell mentions, and how (ECMAScript, 6.1.7 and 9.1.1.1).
use Rattle.std.specs.Prelude.{◌≡◌, ℕ, List, Option, Some, None, slice_get}
use Rattle.door.specs.declared.values.Actor.{Actor}
use Rattle.js_objects.specs.declared.values.CellId.{CellId}
use Rattle.js_objects.specs.declared.values.Slot.{Slot}
use Rattle.js_objects.specs.declared.values.Slot.TheVariants.{Prim, Cell as Object}
use Rattle.js_objects.specs.declared.values.Prop.{Prop}
use Rattle.js_objects.specs.declared.values.Prop.TheVariants.{Slot as SlotProp, Accessor as AccessorProp}
use Rattle.js_objects.specs.declared.values.Form.{Form}
use Rattle.js_objects.specs.declared.values.Form.TheVariants as f
use Rattle.js_objects.specs.declared.slots.KeyedProp.{KeyedProp}
use Rattle.js_objects.specs.declared.bindings.Binding.{Binding}
use Rattle.js_objects.specs.declared.cell.Cell.{Cell}
use Rattle.js_objects.specs.Naming.{Names}

-- what is asked of the numbers of cells that are mentioned: by a value or as a prototype, as the function of an accessor, as a scope, as what a
-- link stands for, and as the function that a forward calls
pub record Rule : Type 1 where
  pub value : ℕ → Type 0
  pub function : ℕ → Type 0
  pub scope : ℕ → Type 0
  pub target : Actor → ℕ → Type 0
  pub callee : Actor → ℕ → Type 0

-- each item of a list
abbrev pub Each : {A : Type 0} → (A → Type 0) → List A → Type 0
Each {A} P xs = (k : ℕ) (x : A) → slice_get xs k ≡ Some x → P x

-- a cell, where there is one
abbrev pub IfCell : (ℕ → Type 0) → Option CellId → Type 0
IfCell P None = Unit {0}
IfCell P (Some c) = P c.0

abbrev pub SlotMeets : Rule → Slot → Type 0
SlotMeets r (Prim prim) = Unit {0}
SlotMeets r (Object c) = r.value c.0

abbrev pub PropMeets : Rule → Prop → Type 0
PropMeets r (SlotProp value writable enumerable) = SlotMeets r value
PropMeets r (AccessorProp get set enumerable) = IfCell r.function get × IfCell r.function set

abbrev pub FormMeets : Rule → Form → Type 0
FormMeets r (f.Function code scope) = IfCell r.scope scope
FormMeets r (f.Link owner c look) = r.target owner c.0
FormMeets r (f.Forward owner c) = r.callee owner c.0
FormMeets r form = Unit {0}

-- each cell that this one mentions meets the rule
pub record Meets (r : Rule) (x : Cell) : Type 0 where
  pub in_form : FormMeets r x.form
  pub in_proto : IfCell r.value x.proto
  pub in_outer : IfCell r.scope x.outer
  pub in_elements : Each (SlotMeets r) x.elements
  pub in_slots : Each (λ (keyed : KeyedProp). PropMeets r keyed.prop) x.slots
  pub in_bindings : Each (λ (b : Binding). SlotMeets r b.value) x.bindings

-- whatever meets the one rule meets the other
pub record Implies (r q : Rule) : Type 0 where
  pub value : (n : ℕ) → r.value n → q.value n
  pub function : (n : ℕ) → r.function n → q.function n
  pub scope : (n : ℕ) → r.scope n → q.scope n
  pub target : (owner : Actor) (n : ℕ) → r.target owner n → q.target owner n
  pub callee : (owner : Actor) (n : ℕ) → r.callee owner n → q.callee owner n

-- two namings name it alike
abbrev pub Same : Names → Names → Rule
Same a b = record {
  value = λ n. b.reference n ≡ a.reference n;
  function = λ n. b.place n ≡ a.place n;
  scope = λ n. b.scope n ≡ a.scope n;
  target = λ owner n. Unit {0};
  callee = λ owner n. b.place n ≡ a.place n;
}
