-- Lines taken one after another.
use Rattle.std.specs.Prelude.{◌≡◌, ◌≤◌, ◌<◌, ◌+◌, ◌⊎◌, ℕ, zero, suc, List, [], ◌∷◌, length, drop, Result, Ok, Err, refl, encode_utf8_all}
use Rattle.std.specs.Result.{IsErrAnd, IfErr}
use Rattle.std.specs.List.{All}
use Rattle.std.proofs.Common.{ap, sym, ◌∙◌, subst, inl, inr, arith, get_or}
use Rattle.std.proofs.lemmas.List.{at_drop_more, at_drop_all}
use Rattle.metadata_block.specs.declared.lines.Pair.{Pair}
use Rattle.metadata_block.specs.declared.meta.Meta.{Meta}
use Rattle.metadata_block.specs.declared.words.Key.{Key}
use Rattle.metadata_block.specs.declared.words.Key.TheVariants as key
use Rattle.metadata_block.specs.declared.block.MetaFault.{MetaFault}
use Rattle.metadata_block.specs.declared.block.MetaFault.TheVariants.{BadRunAt, BadGrant, BadRule, NoMemory}
use Rattle.metadata_block.specs.Lines.{IsShort, GivePairs, ReadsPairs}
use Rattle.metadata_block.specs.Block.{Takes, TakesAll, Refuses, FailsAt, Fails, nothing, FailsBlock}

-- a line is refused between two counts that are those of another count
pub fails_since : (a b c : ℕ) (m : Meta) (p : Pair) (f : MetaFault) → a ≡ b → FailsAt b c m p f → FailsAt a c m p f
fails_since a b c m p f same h = subst (λ (n : ℕ). FailsAt n c m p f) (sym same) h

-- an error that is another's
pub carried : {T E : Type 0} (r : Result T E) (f : E) (P : E → Type 0) → IsErrAnd r (λ e. e ≡ f) → P f → IfErr r P
carried (Ok t) f P same p = absurd same
carried (Err e) f P same p = subst P (sym same) p

pub take_more : (ps : List Pair) (i : ℕ) (p : Pair) (m mid n : Meta) → i < length ps → p ≡ get_or ps i p → Takes m p mid → TakesAll (drop (i + 1) ps) mid n → TakesAll (drop i ps) m n
take_more ps i p m mid n within is take rest =
    let more : drop i ps ≡ p ∷ drop (i + 1) ps = at_drop_more (λ (qs : List Pair). qs) ps i p within ∙ ap (λ (q : Pair). q ∷ drop (i + 1) ps) (sym is) in
    subst (λ (qs : List Pair). TakesAll qs m n) (sym more) (mid, take, rest)

pub fail_more : (ps : List Pair) (i : ℕ) (p : Pair) (a c : ℕ) (m mid : Meta) (f : MetaFault) → i < length ps → p ≡ get_or ps i p → Takes m p mid → Fails a c (drop (i + 1) ps) mid f → Fails a c (drop i ps) m f
fail_more ps i p a c m mid f within is take rest =
    let more : drop i ps ≡ p ∷ drop (i + 1) ps = at_drop_more (λ (qs : List Pair). qs) ps i p within ∙ ap (λ (q : Pair). q ∷ drop (i + 1) ps) (sym is) in
    subst (λ (qs : List Pair). Fails a c qs m f) (sym more) (inr (mid, take, rest))

pub fail_here : (ps : List Pair) (i : ℕ) (p : Pair) (a b c : ℕ) (m : Meta) (f : MetaFault) → i < length ps → p ≡ get_or ps i p → a ≡ b → FailsAt b c m p f → Fails a c (drop i ps) m f
fail_here ps i p a b c m f within is same fails =
    let more : drop i ps ≡ p ∷ drop (i + 1) ps = at_drop_more (λ (qs : List Pair). qs) ps i p within ∙ ap (λ (q : Pair). q ∷ drop (i + 1) ps) (sym is) in
    subst (λ (qs : List Pair). Fails a c qs m f) (sym more) (inl (fails_since a b c m p f same fails))

pub take_end : (ps : List Pair) (i : ℕ) (m : Meta) → length ps ≤ i → TakesAll (drop i ps) m m
take_end ps i m past = subst (λ (qs : List Pair). TakesAll qs m m) (sym (at_drop_all (λ (qs : List Pair). qs) ps i past)) refl

-- ---- the whole block

all_more : (P : Pair → Type 0) (p : Pair) (ps : List Pair) → P p → All P ps → All P (p ∷ ps)
all_more P p ps h hs zero d within = h
all_more P p ps h hs (suc k) d within = hs k d (omega arith)

pub pairs_short : (n : ℕ) (lines : List (List ℕ)) (ps : List Pair) → GivePairs n lines ps → All (λ p. IsShort (encode_utf8_all p.value)) ps
pairs_short n [] ps h = subst (All (λ (p : Pair). IsShort (encode_utf8_all p.value))) (sym h) (λ k d within. absurd (omega arith))
pairs_short n (line ∷ lines) ps h = elim h [
  | inl s ↦ pairs_short (n + 1) lines ps s.1
  | inr g ↦ subst (All (λ (p : Pair). IsShort (encode_utf8_all p.value))) (sym g.3) (all_more (λ (p : Pair). IsShort (encode_utf8_all p.value)) g.0 g.1 g.2.value_short (pairs_short (n + 1) lines g.1 g.4))
]

abbrev pub IsLineFault : MetaFault → Type 0
IsLineFault f = (line : ℕ) × ((f ≡ BadRunAt line) ⊎ ((f ≡ BadGrant line) ⊎ (f ≡ BadRule line)))

refused_line : (u : Key) (a c : ℕ) (m : Meta) (p : Pair) (f : MetaFault) → Refuses u a c m p f → IsLineFault f
refused_line key.Name a c m p f h = absurd h
refused_line key.Namespace a c m p f h = absurd h
refused_line key.RunAt a c m p f h = (p.line, inl h.0)
refused_line key.Grant a c m p f h = (p.line, inr (inl h.0))
refused_line key.Include a c m p f h = (p.line, inr (inr h.0))
refused_line key.Exclude a c m p f h = (p.line, inr (inr h.0))
refused_line key.Match a c m p f h = (p.line, inr (inr h.0))

fails_line : (a c : ℕ) (ps : List Pair) (m : Meta) (f : MetaFault) → Fails a c ps m f → IsLineFault f
fails_line a c [] m f h = absurd h
fails_line a c (p ∷ ps) m f h = elim h [
  | inl here ↦ refused_line here.key a c m p f here.refused
  | inr later ↦ fails_line a c ps later.0 f later.2
]

pub bad_line : (a c : ℕ) (s : List ℕ) (ps : List Pair) (f : MetaFault) → ReadsPairs s (Ok ps) → ((f ≡ NoMemory) ⊎ Fails a c ps nothing f) → FailsBlock a c s f
bad_line a c s ps f reads h = elim h [
  | inl e ↦ subst (FailsBlock a c s) (sym e) tt
  | inr fails ↦
      let kind = fails_line a c ps nothing f fails in
      elim kind.1 [
        | inl e ↦ subst (FailsBlock a c s) (sym e) record { pairs = ps; pairs_are = reads; fails = subst (Fails a c ps nothing) e fails }
        | inr other ↦ elim other [
          | inl e ↦ subst (FailsBlock a c s) (sym e) record { pairs = ps; pairs_are = reads; fails = subst (Fails a c ps nothing) e fails }
          | inr e ↦ subst (FailsBlock a c s) (sym e) record { pairs = ps; pairs_are = reads; fails = subst (Fails a c ps nothing) e fails }
        ]
      ]
]
