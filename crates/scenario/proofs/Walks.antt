-- Lines one after another.
use Rattle.std.specs.Prelude.{◌≡◌, ◌<◌, ◌≤◌, ◌+◌, ℕ, List, [], ◌∷◌, ◌++◌, length, drop, refl}
use Rattle.std.specs.Borrow.{Bor}
use Rattle.std.proofs.Common.{ap, sym, ◌∙◌, subst, inl, inr, arith, get_or, append_assoc}
use Rattle.std.proofs.lemmas.List.{at_drop_more, at_drop_all}
use Rattle.scenario.specs.declared.line.Line.{Line}
use Rattle.scenario.specs.declared.fault.EventsFault.{EventsFault}
use Rattle.scenario.specs.Lines.{IsFaultyLine}
use Rattle.scenario.specs.Parts.{Pushes, texts}
use Rattle.scenario.specs.Scenarios.{IsFine, SayAll, FailsFirst}

-- what the lines that are left say, after what is read, is what all say
abbrev pub Goes : List (Bor (List ℕ)) → ℕ → List Line → Type 0
Goes lines i read = (rest : List Line) → SayAll (1 + i) (texts (drop i lines)) rest → SayAll 1 (texts lines) (read ++ rest)

-- the first fault of the lines that are left is that of all
abbrev pub Hands : List (Bor (List ℕ)) → ℕ → Type 0
Hands lines i = (f : EventsFault) → FailsFirst (1 + i) (texts (drop i lines)) f → FailsFirst 1 (texts lines) f

next_number : (i : ℕ) → 1 + (i + 1) ≡ (1 + i) + 1
next_number i = omega arith

number_at : (i : ℕ) → i + 1 ≡ 1 + i
number_at i = omega arith

left : (lines : List (Bor (List ℕ))) (i : ℕ) (d : Bor (List ℕ)) → i < length lines → texts (drop i lines) ≡ (get_or lines i d).now ∷ texts (drop (i + 1) lines)
left lines i d within = at_drop_more texts lines i d within

pub goes_start : (lines : List (Bor (List ℕ))) → Goes lines 0 []
goes_start lines rest h = h

pub hands_start : (lines : List (Bor (List ℕ))) → Hands lines 0
hands_start lines f h = h

pub goes_more : (lines : List (Bor (List ℕ))) (i : ℕ) (d : Bor (List ℕ)) (old new : List Line) → i < length lines → Pushes (i + 1) (get_or lines i d).now old new → Goes lines i old → Goes lines (i + 1) new
goes_more lines i d old new within push all rest h =
    let line = (get_or lines i d).now in
    let more = texts (drop (i + 1) lines) in
    let next : SayAll ((1 + i) + 1) more rest = subst (λ (k : ℕ). SayAll k more rest) (next_number i) h in
    let here : Pushes (1 + i) line old new = subst (λ (k : ℕ). Pushes k line old new) (number_at i) push in
    elim here [
      | inl s ↦ subst (λ (ls : List Line). SayAll 1 (texts lines) (ls ++ rest)) (sym s.1)
          (all rest (subst (λ (ts : List (List ℕ)). SayAll (1 + i) ts rest) (sym (left lines i d within)) (inl (s.0, next))))
      | inr p ↦ subst (λ (ls : List Line). SayAll 1 (texts lines) ls) (sym (ap (λ (ls : List Line). ls ++ rest) p.2 ∙ append_assoc old (p.0 ∷ []) rest))
          (all (p.0 ∷ rest) (subst (λ (ts : List (List ℕ)). SayAll (1 + i) ts (p.0 ∷ rest)) (sym (left lines i d within)) (inr (p.0, rest, p.1, refl, next))))
    ]

fine_line : (n : ℕ) (bytes : List ℕ) (old new : List Line) → Pushes n bytes old new → IsFine n bytes
fine_line n bytes old new push = elim push [
  | inl s ↦ inl s.0
  | inr p ↦ inr (p.0, p.1)
]

pub hands_more : (lines : List (Bor (List ℕ))) (i : ℕ) (d : Bor (List ℕ)) (old new : List Line) → i < length lines → Pushes (i + 1) (get_or lines i d).now old new → Hands lines i → Hands lines (i + 1)
hands_more lines i d old new within push all f h =
    let line = (get_or lines i d).now in
    let more = texts (drop (i + 1) lines) in
    let next : FailsFirst ((1 + i) + 1) more f = subst (λ (k : ℕ). FailsFirst k more f) (next_number i) h in
    let here : Pushes (1 + i) line old new = subst (λ (k : ℕ). Pushes k line old new) (number_at i) push in
    all f (subst (λ (ts : List (List ℕ)). FailsFirst (1 + i) ts f) (sym (left lines i d within)) (inr (fine_line (1 + i) line old new here, next)))

pub fails_here : (lines : List (Bor (List ℕ))) (i : ℕ) (d : Bor (List ℕ)) (f : EventsFault) → i < length lines → IsFaultyLine (i + 1) (get_or lines i d).now f → Hands lines i → FailsFirst 1 (texts lines) f
fails_here lines i d f within bad all =
    let line = (get_or lines i d).now in
    let here : IsFaultyLine (1 + i) line f = subst (λ (k : ℕ). IsFaultyLine k line f) (number_at i) bad in
    all f (subst (λ (ts : List (List ℕ)). FailsFirst (1 + i) ts f) (sym (left lines i d within)) (inl here))

no_more : (ls : List Line) → ls ++ [] ≡ ls
no_more [] = refl
no_more (l ∷ ls) = ap (λ (r : List Line). l ∷ r) (no_more ls)

pub goes_end : (lines : List (Bor (List ℕ))) (i : ℕ) (read : List Line) → length lines ≤ i → Goes lines i read → SayAll 1 (texts lines) read
goes_end lines i read past all =
    subst (λ (ls : List Line). SayAll 1 (texts lines) ls) (no_more read) (all [] (subst (λ (ts : List (List ℕ)). SayAll (1 + i) ts []) (sym (at_drop_all texts lines i past)) refl))
