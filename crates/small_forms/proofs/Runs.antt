-- Runs with one separator between two are told from the front.
use Rattle.std.proofs.Common.{◌≡◌, ◌∙◌, ap, sym, refl, subst, ℕ, ◌<◌, Bool, true, false, ◌&&◌, ◌↔◌, List, [], ◌∷◌, ◌++◌, IsTrue, length, arith, append_assoc, if◌then◌else◌, drop, get_or, drop-cons, ◌≤◌}
use Prim.Native.Nat.{suc}
use Rattle.std.proofs.lemmas.List.{append-nil, drop_all}
use Rattle.small_forms.specs.declared.bytes.Class.{Class}
use Rattle.small_forms.specs.Bytes.{IsRun, AreRuns, last, more, is_in, are_in}

-- whether runs are left, from inside a run or from where one begins
abbrev pub is_runs : Class → Class → Bool → List ℕ → Bool
is_runs letter separator in_run [] = in_run
is_runs letter separator in_run (b ∷ bs) = if is_in letter b then is_runs letter separator true bs else (in_run && (is_in separator b && is_runs letter separator false bs))

pub both_true : (a b : Bool) → IsTrue (a && b) → IsTrue a × IsTrue b
both_true true b h = (refl, h)
both_true false b h = cc

pub are_in-push : (class : Class) (xs : List ℕ) (x : ℕ) → IsTrue (are_in class xs) → IsTrue (is_in class x) → IsTrue (are_in class (xs ++ x ∷ []))
are_in-push class [] x h e = rw e refl
are_in-push class (y ∷ xs) x h e = let parts = both_true (is_in class y) (are_in class xs) h in rw parts.0 (are_in-push class xs x parts.1 e)

IsRun-push : (class : Class) (run : List ℕ) (x : ℕ) → IsRun class run → IsTrue (is_in class x) → IsRun class (run ++ x ∷ [])
IsRun-push class [] x h e = absurd (omega (arith, h.nonempty))
IsRun-push class (y ∷ run) x h e = record { nonempty = omega arith; inside = are_in-push class (y ∷ run) x h.inside e }

one_run : (class : Class) (x : ℕ) → IsTrue (is_in class x) → IsRun class (x ∷ [])
one_run class x e = record { nonempty = omega arith; inside = rw e refl }

after_push : (letter separator : Class) (run bs : List ℕ) (b : ℕ) → AreRuns letter separator ((run ++ b ∷ []) ++ bs) → AreRuns letter separator (run ++ b ∷ bs)
after_push letter separator run bs b h = rw append_assoc at h

-- what is told from the front are runs: where a run has begun, with it
told : (letter separator : Class) (bs : List ℕ)
    → (IsTrue (is_runs letter separator false bs) → AreRuns letter separator bs)
    × ((run : List ℕ) → IsRun letter run → IsTrue (is_runs letter separator true bs) → AreRuns letter separator (run ++ bs))
told letter separator [] = (λ h. cc, λ run is h. rw append-nil (last run is))
told letter separator (b ∷ bs) =
    let rest = told letter separator bs in (
      elim (is_in letter b) as (λ v. is_in letter b ≡ v → IsTrue (if v then is_runs letter separator true bs else false) → AreRuns letter separator (b ∷ bs)) [
        | true ↦ λ e h. rest.1 (b ∷ []) (one_run letter b e) h
        | false ↦ λ e h. cc
      ] refl,
      λ run is.
          elim (is_in letter b) as (λ v. is_in letter b ≡ v → IsTrue (if v then is_runs letter separator true bs else (is_in separator b && is_runs letter separator false bs)) → AreRuns letter separator (run ++ b ∷ bs)) [
            | true ↦ λ e h. after_push letter separator run bs b (rest.1 (run ++ b ∷ []) (IsRun-push letter run b is e) h)
            | false ↦ λ e h. let parts = both_true (is_in separator b) (is_runs letter separator false bs) h in more run b bs is parts.0 (rest.0 parts.1)
          ] refl,
    )

-- a run, and what is left after it
through : (letter separator : Class) (in_run : Bool) (run bs : List ℕ) → IsTrue (are_in letter run) → 0 < length run → is_runs letter separator in_run (run ++ bs) ≡ is_runs letter separator true bs
through letter separator in_run [] bs h e = absurd (omega (arith, e))
through letter separator in_run (b ∷ []) bs h e = rw (both_true (is_in letter b) true h).0 refl
through letter separator in_run (b ∷ (c ∷ run)) bs h e =
    let parts = both_true (is_in letter b) (are_in letter (c ∷ run)) h in rw parts.0 (through letter separator true (c ∷ run) bs parts.1 (omega arith))

-- runs are told from the front, wherever one may begin
found : (letter separator : Class) (bs : List ℕ) → AreRuns letter separator bs → (in_run : Bool) → IsTrue (is_runs letter separator in_run bs)
found letter separator bs (last run is) in_run =
    let P : List ℕ → Type 0 = λ xs. IsTrue (is_runs letter separator in_run xs) in
    subst P (append-nil run) (through letter separator in_run run [] is.inside is.nonempty)
found letter separator bs (more run b rest is between runs) in_run =
    through letter separator in_run run (b ∷ rest) is.inside is.nonempty
    ∙ elim (is_in letter b) as (λ v. IsTrue (if v then is_runs letter separator true rest else (is_in separator b && is_runs letter separator false rest))) [
      | true ↦ found letter separator rest runs true
      | false ↦ rw between (found letter separator rest runs false)
    ]

-- what is told from the front are the runs
pub runs_told : (letter separator : Class) (bs : List ℕ) → IsTrue (is_runs letter separator false bs) ↔ AreRuns letter separator bs
runs_told letter separator bs = ((told letter separator bs).0, λ runs. found letter separator bs runs false)

-- all was read
pub all_told : (letter separator : Class) (in_run : Bool) (i : ℕ) (bytes : List ℕ) → length bytes ≤ i → is_runs letter separator in_run (drop i bytes) ≡ is_runs letter separator false bytes → IsTrue in_run ↔ AreRuns letter separator bytes
all_told letter separator in_run i bytes past same =
    let ends : in_run ≡ is_runs letter separator false bytes = rw (drop_all i bytes past) at same in
    (λ h. (runs_told letter separator bytes).0 (sym ends ∙ h), λ runs. ends ∙ (runs_told letter separator bytes).1 runs)

refused : (letter separator : Class) (in_run : Bool) (b : ℕ) (rest : List ℕ) → is_in letter b ≡ false → (in_run && is_in separator b) ≡ false → is_runs letter separator in_run (b ∷ rest) ≡ false
refused letter separator true b rest e f = rw (e, f) refl
refused letter separator false b rest e f = rw e refl

-- a byte fits nowhere
pub refused_told : (letter separator : Class) (in_run : Bool) (i : ℕ) (bytes : List ℕ) → i < length bytes → is_in letter (get_or bytes i 0) ≡ false → (in_run && is_in separator (get_or bytes i 0)) ≡ false
    → is_runs letter separator in_run (drop i bytes) ≡ is_runs letter separator false bytes → IsTrue false ↔ AreRuns letter separator bytes
refused_told letter separator in_run i bytes within e f same =
    let ends : is_runs letter separator false bytes ≡ false = sym same ∙ ap (is_runs letter separator in_run) (drop-cons bytes i 0 within) ∙ refused letter separator in_run (get_or bytes i 0) (drop (suc i) bytes) e f in
    (λ h. absurd (cc), λ runs. sym ends ∙ (runs_told letter separator bytes).1 runs)
