-- Standard prototypes: which one is set, and what setting one does.
use Rattle.std.proofs.Common.{◌≡◌, ◌≢◌, ℕ, suc, ◌<◌, ◌≤◌, List, [], ◌∷◌, ◌++◌, refl, sym, ap, subst, ◌∙◌, length, arith, inl, inr, true, false}
use Rattle.std.specs.Prelude.{slice_set, slice_index_or, if◌then◌else◌, ◌==◌}
use Rattle.std.proofs.lemmas.Bool.{eqb-true, eq-eqb, true≢false}
use Rattle.door.specs.declared.values.Kind.TheVariants as kind
use Rattle.js_objects.specs.declared.values.CellId.{CellId}
use Rattle.js_objects.specs.declared.values.Standard.{Standard}
use Rattle.js_objects.specs.declared.values.Standard.TheVariants as standard
use Rattle.js_objects.specs.declared.owner.StandardPrototype.{StandardPrototype}
use Rattle.js_objects.specs.Heaps.{IsSet, Sets}
use Rattle.js_objects.specs.StandardsModel.{standard_number, standard_index, standard_put}

-- ---- two of one number are one

abbrev of_number : ℕ → Standard
of_number n =
    if n == 0 then standard.Object else (if n == 1 then standard.Function else (if n == 2 then standard.Array else (if n == 3 then standard.Str else (if n == 4 then standard.Number else (if n == 5 then standard.Boolean else (if n == 6 then standard.Error else (if n == 7 then standard.Thing kind.Window else (if n == 8 then standard.Thing kind.Document else (if n == 9 then standard.Thing kind.Element else (if n == 10 then standard.Thing kind.Str else (if n == 11 then standard.Thing kind.Comment else standard.Thing kind.Event)))))))))))

back : (s : Standard) → of_number (standard_number s) ≡ s
back standard.Object = refl
back standard.Function = refl
back standard.Array = refl
back standard.Str = refl
back standard.Number = refl
back standard.Boolean = refl
back standard.Error = refl
back (standard.Thing kind.Window) = refl
back (standard.Thing kind.Document) = refl
back (standard.Thing kind.Element) = refl
back (standard.Thing kind.Str) = refl
back (standard.Thing kind.Comment) = refl
back (standard.Thing kind.Event) = refl

same_number : (s t : Standard) → standard_number s ≡ standard_number t → s ≡ t
same_number s t e = sym (back s) ∙ (ap of_number e ∙ back t)

told_same : (s t : Standard) → (standard_number s == standard_number t) ≡ true → s ≡ t
told_same s t e = same_number s t (eqb-true (standard_number s) (standard_number t) e)

told_other : (s t : Standard) → (standard_number s == standard_number t) ≡ false → s ≢ t
told_other s t e w = true≢false (sym (eq-eqb (standard_number s) (standard_number t) (ap standard_number w)) ∙ e)

-- ---- which is set

set_here : (s : Standard) (xs : List StandardPrototype) (d : StandardPrototype) → standard_index s xs < length xs → IsSet xs s (slice_index_or xs (standard_index s xs) d).cell
set_here s [] d h = absurd (omega arith)
set_here s (x ∷ xs) d h =
    elim (standard_number x.standard == standard_number s) as (λ b. (standard_number x.standard == standard_number s) ≡ b → (if b then 0 else suc (standard_index s xs)) < length (x ∷ xs) → IsSet (x ∷ xs) s (slice_index_or (x ∷ xs) (if b then 0 else suc (standard_index s xs)) d).cell) [
      | true ↦ λ e l. inl (told_same x.standard s e, refl)
      | false ↦ λ e l. let m : standard_index s xs < length xs = omega arith in inr (told_other x.standard s e, set_here s xs d m)
    ] refl h

set_nowhere : (s : Standard) (xs : List StandardPrototype) (c : CellId) → length xs ≤ standard_index s xs → IsSet xs s c → ⊥
set_nowhere s [] c h w = w
set_nowhere s (x ∷ xs) c h w =
    elim (standard_number x.standard == standard_number s) as (λ b. (standard_number x.standard == standard_number s) ≡ b → length (x ∷ xs) ≤ (if b then 0 else suc (standard_index s xs)) → ⊥) [
      | true ↦ λ e l. absurd (omega arith)
      | false ↦ λ e l. let m : length xs ≤ standard_index s xs = omega arith in elim w as (λ _. ⊥) [ inl a ↦ told_other x.standard s e a.0 | inr b ↦ set_nowhere s xs c m b.1 ]
    ] refl h

one_set : (s : Standard) (xs : List StandardPrototype) (c d : CellId) → IsSet xs s c → IsSet xs s d → d ≡ c
one_set s [] c d v w = absurd v
one_set s (x ∷ xs) c d v w = elim v as (λ _. d ≡ c) [
  | inl a ↦ elim w as (λ _. d ≡ c) [ inl b ↦ sym b.1 ∙ a.1 | inr b ↦ absurd (b.0 a.0) ]
  | inr a ↦ elim w as (λ _. d ≡ c) [ inl b ↦ absurd (a.0 b.0) | inr b ↦ one_set s xs c d a.1 b.1 ]
]

-- ---- one is set

put_set : (s : Standard) (c : CellId) (xs : List StandardPrototype) → IsSet (standard_put s c xs) s c
put_set s c [] = inl (refl, refl)
put_set s c (x ∷ xs) =
    elim (standard_number x.standard == standard_number s) as (λ b. (standard_number x.standard == standard_number s) ≡ b → IsSet (if b then record { standard = x.standard; cell = c } ∷ xs else x ∷ standard_put s c xs) s c) [
      | true ↦ λ e. inl (told_same x.standard s e, refl)
      | false ↦ λ e. inr (told_other x.standard s e, put_set s c xs)
    ] refl

put_rest : (s t : Standard) (c d : CellId) (xs : List StandardPrototype) → t ≢ s → IsSet (standard_put s c xs) t d → IsSet xs t d
put_rest s t c d [] n w = elim w as (λ _. ⊥) [ inl a ↦ n (sym a.0) | inr b ↦ b.1 ]
put_rest s t c d (x ∷ xs) n w =
    elim (standard_number x.standard == standard_number s) as (λ b. (standard_number x.standard == standard_number s) ≡ b → IsSet (if b then record { standard = x.standard; cell = c } ∷ xs else x ∷ standard_put s c xs) t d → IsSet (x ∷ xs) t d) [
      | true ↦ λ e v. elim v as (λ _. IsSet (x ∷ xs) t d) [ inl a ↦ absurd (n (sym a.0 ∙ told_same x.standard s e)) | inr b ↦ inr b ]
      | false ↦ λ e v. elim v as (λ _. IsSet (x ∷ xs) t d) [ inl a ↦ inl a | inr b ↦ inr (b.0, put_rest s t c d xs n b.1) ]
    ] refl w

rest_put : (s t : Standard) (c d : CellId) (xs : List StandardPrototype) → t ≢ s → IsSet xs t d → IsSet (standard_put s c xs) t d
rest_put s t c d [] n w = absurd w
rest_put s t c d (x ∷ xs) n w =
    elim (standard_number x.standard == standard_number s) as (λ b. (standard_number x.standard == standard_number s) ≡ b → IsSet (if b then record { standard = x.standard; cell = c } ∷ xs else x ∷ standard_put s c xs) t d) [
      | true ↦ λ e. elim w as (λ _. IsSet (record { standard = x.standard; cell = c } ∷ xs) t d) [ inl a ↦ absurd (n (sym a.0 ∙ told_same x.standard s e)) | inr b ↦ inr b ]
      | false ↦ λ e. elim w as (λ _. IsSet (x ∷ standard_put s c xs) t d) [ inl a ↦ inl a | inr b ↦ inr (b.0, rest_put s t c d xs n b.1) ]
    ] refl

put_sets : (s : Standard) (c : CellId) (xs : List StandardPrototype) → Sets s c xs (standard_put s c xs)
put_sets s c xs = record {
  set = put_set s c xs;
  one = λ d w. one_set s (standard_put s c xs) c d (put_set s c xs) w;
  rest = λ t d n. (put_rest s t c d xs n, rest_put s t c d xs n);
}

index_put : (s : Standard) (c : CellId) (xs : List StandardPrototype) (d : StandardPrototype) → standard_index s xs < length xs → slice_set xs (standard_index s xs) (record { standard = (slice_index_or xs (standard_index s xs) d).standard; cell = c }) ≡ standard_put s c xs
index_put s c [] d h = absurd (omega arith)
index_put s c (x ∷ xs) d h =
    elim (standard_number x.standard == standard_number s) as (λ b. (if b then 0 else suc (standard_index s xs)) < length (x ∷ xs) → slice_set (x ∷ xs) (if b then 0 else suc (standard_index s xs)) (record { standard = (slice_index_or (x ∷ xs) (if b then 0 else suc (standard_index s xs)) d).standard; cell = c }) ≡ (if b then record { standard = x.standard; cell = c } ∷ xs else x ∷ standard_put s c xs)) [
      | true ↦ λ l. refl
      | false ↦ λ l. let m : standard_index s xs < length xs = omega arith in ap (λ r. x ∷ r) (index_put s c xs d m)
    ] h

last_put : (s : Standard) (c : CellId) (xs : List StandardPrototype) → length xs ≤ standard_index s xs → xs ++ record { standard = s; cell = c } ∷ [] ≡ standard_put s c xs
last_put s c [] h = refl
last_put s c (x ∷ xs) h =
    elim (standard_number x.standard == standard_number s) as (λ b. length (x ∷ xs) ≤ (if b then 0 else suc (standard_index s xs)) → x ∷ (xs ++ record { standard = s; cell = c } ∷ []) ≡ (if b then record { standard = x.standard; cell = c } ∷ xs else x ∷ standard_put s c xs)) [
      | true ↦ λ l. absurd (omega arith)
      | false ↦ λ l. let m : length xs ≤ standard_index s xs = omega arith in ap (λ r. x ∷ r) (last_put s c xs m)
    ] h

sets_index : (s : Standard) (c : CellId) (xs ys : List StandardPrototype) (d : StandardPrototype) → standard_index s xs < length xs → ys ≡ slice_set xs (standard_index s xs) (record { standard = (slice_index_or xs (standard_index s xs) d).standard; cell = c }) → Sets s c xs ys
sets_index s c xs ys d h e = rw (e, index_put s c xs d h) (put_sets s c xs)

-- ---- as the code finds it

pub found_here : (s : Standard) (at n : ℕ) (read items : List StandardPrototype) (x : StandardPrototype) → at ≡ standard_index s read → read ≡ items → x ≡ slice_index_or items at x → at < n → n ≡ length items → IsSet items s x.cell
found_here s at n read items x q e a l m =
    let p : at ≡ standard_index s items = q ∙ ap (λ r. standard_index s r) e in
    let w : standard_index s items < length items = omega arith in
    subst (λ (y : StandardPrototype). IsSet items s y.cell) (sym (a ∙ ap (λ k. slice_index_or items k x) p)) (set_here s items x w)

pub found_nowhere : (s : Standard) (at n : ℕ) (read items : List StandardPrototype) → at ≡ standard_index s read → read ≡ items → n ≤ at → n ≡ length items → (c : CellId) → IsSet items s c → ⊥
found_nowhere s at n read items q e l m c =
    let p : at ≡ standard_index s items = q ∙ ap (λ r. standard_index s r) e in
    let w : length items ≤ standard_index s items = omega arith in
    set_nowhere s items c w

pub sets_here : (s : Standard) (c : CellId) (at n : ℕ) (read items : List StandardPrototype) (x : StandardPrototype) → at ≡ standard_index s read → read ≡ items → x ≡ slice_index_or items at x → at < n → n ≡ length items → Sets s c items (slice_set items at (record { standard = x.standard; cell = c }))
sets_here s c at n read items x q e a l m =
    let p : at ≡ standard_index s items = q ∙ ap (λ r. standard_index s r) e in
    let w : standard_index s items < length items = omega arith in
    sets_index s c items (slice_set items at (record { standard = x.standard; cell = c })) x w
    (ap (λ (y : StandardPrototype). slice_set items at (record { standard = y.standard; cell = c })) a ∙ ap (λ k. slice_set items k (record { standard = (slice_index_or items k x).standard; cell = c })) p)

pub sets_last : (s : Standard) (c : CellId) (at n : ℕ) (read items new : List StandardPrototype) → at ≡ standard_index s read → read ≡ items → n ≤ at → n ≡ length items → new ≡ items ++ record { standard = s; cell = c } ∷ [] → Sets s c items new
sets_last s c at n read items new q e l m w =
    let p : at ≡ standard_index s items = q ∙ ap (λ r. standard_index s r) e in
    let h : length items ≤ standard_index s items = omega arith in
    rw (w, last_put s c items h) (put_sets s c items)

-- a prototype that is set is the new one or stood
pub set_within : (n : ℕ) (s t : Standard) (c d : CellId) (xs ys : List StandardPrototype) → Sets s c xs ys → c.0 < n → (IsSet xs t d → d.0 < n) → IsSet ys t d → d.0 < n
set_within n s t c d xs ys w l h g = elim (standard_number t == standard_number s) as (λ b. (standard_number t == standard_number s) ≡ b → d.0 < n) [
  | true ↦ λ e. let q : t ≡ s = told_same t s e in let r : d ≡ c = w.one d (rw q at g) in rw r l
  | false ↦ λ e. h ((w.rest t d (told_other t s e)).0 g)
] refl
