-- What a map ends as whose value was lent.
use denote.MutBor.{MutBor}
use borrow.Follows.Closed.{read_of}
use Rattle.std.specs.Prelude.{◌≡◌, ℕ, List, Option, Some, None, IsSome, is_some, refl}
use Rattle.std.specs.Option.{ghost_name_of, option_copied_mut}
use Rattle.std.specs.FinMap.{from_entries, insert}
use Rattle.std.specs.BTreeMap.{get_by, BTreeMap, WritesThrough}
use Rattle.std.proofs.Common.{ap, sym, ◌∙◌, inl, inr}
use Rattle.base_text.specs.Scalars.{text_cmp}
use Rattle.gm_store.proofs.TextMaps.{one_put}

pub same_ending : {D E : Type 0} (r : Option (MutBor E)) (f g : E → D) (a b : D) → (IsSome r → (w : E) → f w ≡ g w) → a ≡ b → read_of (ghost_name_of r) f a ≡ read_of (ghost_name_of r) g b
same_ending None f g a b h e = λ i. inr (e i)
same_ending (Some x) f g a b h e = λ i. inl (x.ghost_name, λ w. h refl w i)

pub found : {X : Type 0} (r : Option (MutBor X)) (o : Option X) → option_copied_mut r ≡ o → IsSome r → IsSome o
found None o e h = sym (ap is_some e) ∙ h
found (Some x) o e h = sym (ap is_some e) ∙ h

-- a value written where there is one
pub written : {X : Type 0} (m n : BTreeMap (List ℕ) X) (k : List ℕ) (w : X) → WritesThrough text_cmp (text_cmp k) m w n → IsSome (get_by (text_cmp k) m) → from_entries {R = text_cmp} n.entries ≡ insert (from_entries m.entries) k w
written m n k w through stands = one_put m.entries n.entries k w ((through.3 stands).0)
