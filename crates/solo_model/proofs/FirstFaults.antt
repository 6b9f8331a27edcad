-- Tokens have one first fault at most, and those of a script have none: the front of a front is a front.
use Rattle.std.proofs.Common.{◌≡◌, ◌∙◌, ap, sym, subst, refl, ℕ, [], ◌∷◌, ◌++◌, append_assoc}
use Rattle.js_syntax.specs.declared.token.Token.{Token}
use Rattle.js_syntax.specs.declared.parse_fault.ParseFault.{ParseFault}
use Rattle.js_syntax.specs.declared.parse_fault.ParseKind.{ParseKind}
use Rattle.js_syntax.specs.declared.parse_fault.ParseKind.TheVariants.{Unexpected, TooDeep}
use Rattle.js_syntax.specs.declared.tree.Script.{Script}
use Rattle.js_syntax.specs.Symbols.{Tokens}
use Rattle.js_syntax.specs.Scripts.{IsScript, IsFront, IsKind, IsFirstFault}

-- where two places stand in one list: it is one place, or the one stands in front of the other
data Places (before : Tokens) (here : Token) (other : Tokens) (there : Token) : Type 0 where
  same : before ≡ other → here ≡ there → Places before here other there
  first : (more : Tokens) → other ≡ (before ++ here ∷ []) ++ more → Places before here other there
  later : (more : Tokens) → before ≡ (other ++ there ∷ []) ++ more → Places before here other there

behind : (t : Token) (before : Tokens) (here : Token) (other : Tokens) (there : Token) → Places before here other there → Places (t ∷ before) here (t ∷ other) there
behind t before here other there (same e f) = same (ap (λ (ts : Tokens). t ∷ ts) e) f
behind t before here other there (first more e) = first more (ap (λ (ts : Tokens). t ∷ ts) e)
behind t before here other there (later more e) = later more (ap (λ (ts : Tokens). t ∷ ts) e)

same_head : {t u : Token} {ts us : Tokens} → t ∷ ts ≡ u ∷ us → t ≡ u
same_head e = cc

same_tail : {t u : Token} {ts us : Tokens} → t ∷ ts ≡ u ∷ us → ts ≡ us
same_tail e = cc

places : (before : Tokens) (here : Token) (after other : Tokens) (there : Token) (rest : Tokens) → before ++ here ∷ after ≡ other ++ there ∷ rest → Places before here other there
places [] here after [] there rest e = same refl (same_head e)
places [] here after (u ∷ other) there rest e = first other (sym (ap (λ (t : Token). t ∷ other) (same_head e)))
places (t ∷ before) here after [] there rest e = later before (ap (λ (u : Token). u ∷ before) (same_head e))
places (t ∷ before) here after (u ∷ other) there rest e =
    subst (λ (v : Token). Places (t ∷ before) here (v ∷ other) there) (same_head e) (behind t before here other there (places before here after other there rest (same_tail e)))

-- a front of a front is one
shorter : (chains levels : ℕ) (front more : Tokens) → IsFront chains levels (front ++ more) → IsFront chains levels front
shorter chains levels front more (rest, script, is) = (more ++ rest, script, subst (λ (ts : Tokens). IsScript chains levels ts script) (append_assoc front more rest) is)

-- the tokens through one of them, and those behind
through : (before : Tokens) (here : Token) (after : Tokens) → before ++ here ∷ after ≡ (before ++ here ∷ []) ++ after
through before here after = sym (append_assoc before (here ∷ []) after)

pub no_fault : (chains levels : ℕ) (ts : Tokens) (script : Script) (fault : ParseFault) → IsScript chains levels ts script → IsFirstFault chains levels ts fault → ⊥
no_fault chains levels ts script fault is a =
    a.over (a.after, script, subst (λ (us : Tokens). IsScript chains levels us script) (a.split ∙ through a.before a.here a.after) is)

one_kind : (kind other : ParseKind) (front : Tokens) → IsKind kind front → IsKind other front → kind ≡ other
one_kind Unexpected Unexpected front a b = refl
one_kind Unexpected TooDeep front a b = absurd (a b)
one_kind TooDeep Unexpected front a b = absurd (b a)
one_kind TooDeep TooDeep front a b = refl

fault_of : ℕ → ParseKind → ParseFault
fault_of at kind = record { at = at; kind = kind }

-- a fault isn't in front of one that has a script's tokens before it
not_first : (chains levels : ℕ) (before : Tokens) (here : Token) (other more : Tokens) → (IsFront chains levels (before ++ here ∷ []) → ⊥) → IsFront chains levels other → other ≡ (before ++ here ∷ []) ++ more → ⊥
not_first chains levels before here other more over viable e = over (shorter chains levels (before ++ here ∷ []) more (subst (λ (ts : Tokens). IsFront chains levels ts) e viable))

one_place : (chains levels : ℕ) (ts : Tokens) (fault other : ParseFault) → (a : IsFirstFault chains levels ts fault) → (b : IsFirstFault chains levels ts other) → Places a.before a.here b.before b.here → fault ≡ other
unfolding fault_of
one_place chains levels ts fault other a b (same e f) =
    let at : fault.at ≡ other.at = a.place ∙ ap (λ (t : Token). t.from) f ∙ sym b.place in
    let front : a.before ++ a.here ∷ [] ≡ b.before ++ b.here ∷ [] = ap (λ (us : Tokens). us ++ a.here ∷ []) e ∙ ap (λ (t : Token). b.before ++ t ∷ []) f in
    let kind : fault.kind ≡ other.kind = one_kind fault.kind other.kind (b.before ++ b.here ∷ []) (subst (λ (us : Tokens). IsKind fault.kind us) front a.is_kind) b.is_kind in
    ap (λ (n : ℕ). fault_of n fault.kind) at ∙ ap (λ (k : ParseKind). fault_of other.at k) kind
one_place chains levels ts fault other a b (first more e) = absurd (not_first chains levels a.before a.here b.before more a.over b.viable e)
one_place chains levels ts fault other a b (later more e) = absurd (not_first chains levels b.before b.here a.before more b.over a.viable e)

pub one_fault : (chains levels : ℕ) (ts : Tokens) (fault other : ParseFault) → IsFirstFault chains levels ts fault → IsFirstFault chains levels ts other → fault ≡ other
one_fault chains levels ts fault other a b = one_place chains levels ts fault other a b (places a.before a.here a.after b.before b.here b.after (sym a.split ∙ b.split))
