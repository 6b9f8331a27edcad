-- Grants that stand beside one another.
use Rattle.std.specs.Prelude.{List, [], ◌∷◌, ◌++◌, ℕ}
use Rattle.std.proofs.Common.{inl, inr, sym, ◌∙◌, subst}
use Rattle.metadata_block.specs.declared.lines.Pair.{Pair}
use Rattle.metadata_block.specs.declared.meta.Grant.{Grant}
use Rattle.metadata_block.specs.declared.meta.Meta.{Meta}
use Rattle.metadata_block.specs.declared.words.Key.{Key}
use Rattle.metadata_block.specs.declared.words.Key.TheVariants as key
use Rattle.metadata_block.specs.Block.{Agrees, StandsBeside, Sets, Takes}
use Rattle.metadata_block.specs.BlockModel.{AgreesFirst, AreAlike}

agrees_as : (hs : List Grant) (h g : Grant) → Agrees hs h → StandsBeside h g → Agrees hs g
agrees_as [] h g agrees same = tt
agrees_as (x ∷ xs) h g agrees same = (agrees.0 ∙ same, agrees_as xs h g agrees.1 same)

-- one that stands beside the first stands beside all
pub all_agree : (gs : List Grant) (g : Grant) → AreAlike gs → AgreesFirst gs g → Agrees gs g
all_agree [] g alike first = tt
all_agree (h ∷ hs) g alike first = (first, agrees_as hs h g alike first)

pub first_agrees : (gs : List Grant) (g : Grant) → Agrees gs g → AgreesFirst gs g
first_agrees [] g agrees = tt
first_agrees (h ∷ hs) g agrees = agrees.0

agrees_more : (hs : List Grant) (h g : Grant) → Agrees hs h → StandsBeside g h → Agrees (hs ++ g ∷ []) h
agrees_more [] h g agrees same = (same, tt)
agrees_more (x ∷ xs) h g agrees same = (agrees.0, agrees_more xs h g agrees.1 same)

alike_more : (gs : List Grant) (g : Grant) → AreAlike gs → Agrees gs g → AreAlike (gs ++ g ∷ [])
alike_more [] g alike agrees = tt
alike_more (h ∷ hs) g alike agrees = agrees_more hs h g alike (sym agrees.0)

sets_alike : (u : Key) (value : List ℕ) (old new : Meta) → Sets u value old new → AreAlike old.grants → AreAlike new.grants
sets_alike key.Name value old new h alike = subst (λ (m : Meta). AreAlike m.grants) (sym h) alike
sets_alike key.Namespace value old new h alike = subst (λ (m : Meta). AreAlike m.grants) (sym h) alike
sets_alike key.RunAt value old new h alike = subst (λ (m : Meta). AreAlike m.grants) (sym h.2) alike
sets_alike key.Grant value old new h alike = subst (λ (m : Meta). AreAlike m.grants) (sym h.3) (alike_more old.grants h.0 alike h.2)
sets_alike key.Include value old new h alike = subst (λ (m : Meta). AreAlike m.grants) (sym h.2) alike
sets_alike key.Exclude value old new h alike = subst (λ (m : Meta). AreAlike m.grants) (sym h.2) alike
sets_alike key.Match value old new h alike = subst (λ (m : Meta). AreAlike m.grants) (sym h.2) alike

-- a line leaves grants that stand beside one another
pub takes_alike : (old new : Meta) (p : Pair) → Takes old p new → AreAlike old.grants → AreAlike new.grants
takes_alike old new p h alike = elim h [
  | inl used ↦ sets_alike used.0 p.value old new used.2 alike
  | inr other ↦ subst (λ (m : Meta). AreAlike m.grants) (sym other.1) alike
]
