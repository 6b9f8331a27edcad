-- Charges and requests do alike.
use Rattle.std.proofs.Common.{◌≡◌, refl, ap, ℕ, ◌+◌, ◌-◌, suc, Bool, true, false, arith, if◌then◌else◌, nat_le}
use Rattle.std.proofs.lemmas.Bool.Decides.{nat_tests}
use Rattle.door.specs.declared.requests.Request.{Request}
use Rattle.door.specs.declared.requests.Answer.{Answer}
use Rattle.door.specs.declared.marks.StopKind.TheVariants.{Fuel}
use Rattle.js_semantics.specs.Evaluator.{Rest, With, choose}
use Rattle.js_semantics.specs.Evaluator as ev
use Rattle.js_semantics.specs.Intrinsics.{Setup}
use Rattle.js_semantics.specs.Machine.{Machine}
use Rattle.js_semantics.specs.Solo.{Program, Asks}
use Rattle.small_meaning.specs.Rows.{Bare}
use Rattle.small_meaning.specs.Rows as small
use Rattle.small_meaning.specs.Shows.{FitsAnswer}
use Rattle.small_meaning.proofs.Alike.{Alike, Ready, Stops, asks_alike}

pub charge_alike : (setup : Setup) (k : ℕ) (least : Bool) (units : ℕ) (next : ℕ → Program Bare) (c : small.Cont) (rest : Rest) (d : ev.Cont) (m : Machine) (f : ℕ) → Stops setup k least c d → Ready setup least (suc k) m
    → ((left : ℕ) → Alike setup k (next left) (rest m left)) → Alike setup k (small.charge units next c f) (ev.charge units rest d m f)
unfolding small.charge
charge_alike setup k least units next c rest d m f s r h = go (nat_le units f)
  where
    go : (enough : Bool) → Alike setup k (if enough then next (f - units) else c (small.Halts Fuel) 0) (choose enough (λ m f. rest m (f - units)) (λ m f. d (ev.Halts Fuel) m 0) m f)
    go true = h (f - units)
    go false = s.halts Fuel 0 m r

pub ask_alike : (setup : Setup) (k : ℕ) (least : Bool) (request : Request) (next : Answer → ℕ → Program Bare) (c : small.Cont) (rest : With Answer) (d : ev.Cont) (m : Machine) (f : ℕ) → Stops setup k least c d → Ready setup least (suc k) m
    → ((answer : Answer) → FitsAnswer answer → (left : ℕ) → Alike setup k (next answer left) (rest answer m left)) → Alike setup k (small.ask request next c f) (ev.ask request rest d m f)
ask_alike setup k least request next c rest d m f s r h =
    charge_alike setup k least 1 (λ left. Asks request (λ answer. next answer left)) c (λ m left. Asks request (λ answer. rest answer m left)) d m f s r
    (λ left. asks_alike setup k request (λ answer. next answer left) (λ answer. rest answer m left) (λ answer fits. h answer fits left))

-- so many units at once are so many one after the other
pub charge_split : (a b : ℕ) (next : ℕ → Program Bare) (c : small.Cont) (f : ℕ) → small.charge (a + b) next c f ≡ small.charge a (small.charge b next c) c f
unfolding small.charge
charge_split a b next c f = go (nat_le (a + b) f) (nat_le a f) (nat_le b (f - a)) refl refl refl
  where
    go : (x y z : Bool) → nat_le (a + b) f ≡ x → nat_le a f ≡ y → nat_le b (f - a) ≡ z
        → (if x then next (f - (a + b)) else c (small.Halts Fuel) 0) ≡ (if y then (if z then next (f - a - b) else c (small.Halts Fuel) 0) else c (small.Halts Fuel) 0)
    go true true true p q r = let same : f - (a + b) ≡ f - a - b = omega arith in ap next same
    go true true false p q r = absurd (grind (arith, nat_tests))
    go true false z p q r = absurd (grind (arith, nat_tests))
    go false true true p q r = absurd (grind (arith, nat_tests))
    go false true false p q r = refl
    go false false z p q r = refl

-- nothing is charged
pub charge_none : (next : ℕ → Program Bare) (c : small.Cont) (f : ℕ) → small.charge 0 next c f ≡ next f
unfolding small.charge
charge_none next c f = go (nat_le 0 f) refl
  where
    go : (x : Bool) → nat_le 0 f ≡ x → (if x then next (f - 0) else c (small.Halts Fuel) 0) ≡ next f
    go true p = let same : f - 0 ≡ f = omega arith in ap next same
    go false p = absurd (grind (arith, nat_tests))
