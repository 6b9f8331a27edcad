-- Tokens have one first fault at most, and none where they are a script.
use Rattle.std.proofs.Common.{◌≡◌, ℕ, [], ◌∷◌, ◌++◌, refl, sym, ap, subst, ◌∙◌, append_assoc}
use Rattle.js_syntax.specs.declared.token.Token.{Token}
use Rattle.js_syntax.specs.declared.parse_fault.ParseFault.{ParseFault}
use Rattle.js_syntax.specs.declared.parse_fault.ParseKind.{ParseKind}
use Rattle.js_syntax.specs.declared.parse_fault.ParseKind.TheVariants.{Unexpected, TooDeep}
use Rattle.js_syntax.specs.declared.tree.Script.{Script}
use Rattle.js_syntax.specs.Symbols.{Tokens}
use Rattle.js_syntax.specs.Scripts.{IsScript, IsFront, IsKind, IsFirstFault}

-- a script has each of its fronts
pub script_has : (chains levels : ℕ) (ts : Tokens) (script : Script) → IsScript chains levels ts script → (fault : ParseFault) → IsFirstFault chains levels ts fault → ⊥
script_has chains levels ts script tree fault f =
    f.over (f.after, script, subst (λ x. IsScript chains levels x script) (f.split ∙ sym (append_assoc f.before (f.here ∷ []) f.after)) tree)

abbrev cons_of : Token → Tokens → Tokens
cons_of t ts = t ∷ ts

tail_is : (t u : Token) (a b : Tokens) → cons_of t a ≡ cons_of u b → a ≡ b
tail_is t u a b e = cc

head_is : (t u : Token) (a b : Tokens) → cons_of t a ≡ cons_of u b → t ≡ u
head_is t u a b e = cc

-- Of two fronts with a token behind each, one goes on through the other's token, or both are the same.
pub data Meet (before : Tokens) (here : Token) (before' : Tokens) (here' : Token) : Type 0 where
  shorter : (x : Tokens) → before' ≡ (before ++ here ∷ []) ++ x → Meet before here before' here'
  longer : (x : Tokens) → before ≡ (before' ++ here' ∷ []) ++ x → Meet before here before' here'
  same : before ≡ before' → here ≡ here' → Meet before here before' here'

put_on : (t u : Token) → t ≡ u → (a : Tokens) (here : Token) (b : Tokens) (here' : Token) → Meet a here b here' → Meet (t ∷ a) here (u ∷ b) here'
put_on t u e a here b here' (shorter x h) = shorter x (ap (λ z. z ∷ b) (sym e) ∙ ap (λ z. t ∷ z) h)
put_on t u e a here b here' (longer x h) = longer x (ap (λ z. z ∷ a) e ∙ ap (λ z. u ∷ z) h)
put_on t u e a here b here' (same h k) = same (ap (λ z. z ∷ a) e ∙ ap (λ z. u ∷ z) h) k

meet : (before : Tokens) (here : Token) (after before' : Tokens) (here' : Token) (after' : Tokens) → before ++ here ∷ after ≡ before' ++ here' ∷ after' → Meet before here before' here'
meet [] here after [] here' after' e = same refl (head_is here here' after after' e)
meet [] here after (u ∷ before') here' after' e = shorter before' (ap (λ z. z ∷ before') (sym (head_is here u after (before' ++ here' ∷ after') e)))
meet (t ∷ before) here after [] here' after' e = longer before (ap (λ z. z ∷ before) (head_is t here' (before ++ here ∷ after) after' e))
meet (t ∷ before) here after (u ∷ before') here' after' e =
    put_on t u (head_is t u (before ++ here ∷ after) (before' ++ here' ∷ after') e) before here before' here'
    (meet before here after before' here' after' (tail_is t u (before ++ here ∷ after) (before' ++ here' ∷ after') e))

-- what goes on through a token is the front of no script, where no script has the token there
past : (chains levels : ℕ) (before : Tokens) (here : Token) (x front : Tokens) → front ≡ (before ++ here ∷ []) ++ x → IsFront chains levels front → IsFront chains levels (before ++ here ∷ [])
past chains levels before here x front e f =
    (x ++ f.0, f.1, subst (λ z. IsScript chains levels z f.1) (ap (λ z. z ++ f.0) e ∙ append_assoc (before ++ here ∷ []) x f.0) f.2)

kinds : (k k' : ParseKind) (front : Tokens) → IsKind k front → IsKind k' front → k ≡ k'
kinds Unexpected Unexpected front a b = refl
kinds Unexpected TooDeep front a b = absurd (a b)
kinds TooDeep Unexpected front a b = absurd (b a)
kinds TooDeep TooDeep front a b = refl

abbrev fault_of : ℕ → ParseKind → ParseFault
fault_of at kind = record { at = at; kind = kind }

same_fault : (f g : ParseFault) → f.at ≡ g.at → f.kind ≡ g.kind → f ≡ g
same_fault f g a k = ap (λ (x : ℕ). fault_of x f.kind) a ∙ ap (λ (x : ParseKind). fault_of g.at x) k

one_of : (chains levels : ℕ) (ts : Tokens) (f g : ParseFault) (a : IsFirstFault chains levels ts f) (b : IsFirstFault chains levels ts g) → Meet a.before a.here b.before b.here → f ≡ g
one_of chains levels ts f g a b (shorter x e) = absurd (a.over (past chains levels a.before a.here x b.before e b.viable))
one_of chains levels ts f g a b (longer x e) = absurd (b.over (past chains levels b.before b.here x a.before e a.viable))
one_of chains levels ts f g a b (same e h) =
    let here : b.before ++ b.here ∷ [] ≡ a.before ++ a.here ∷ [] = ap (λ z. z ++ b.here ∷ []) (sym e) ∙ ap (λ t. a.before ++ t ∷ []) (sym h) in
    same_fault f g (a.place ∙ ap (λ (t : Token). t.from) h ∙ sym b.place) (kinds f.kind g.kind (a.before ++ a.here ∷ []) a.is_kind (subst (λ z. IsKind g.kind z) here b.is_kind))

pub one_fault : (chains levels : ℕ) (ts : Tokens) (f g : ParseFault) → IsFirstFault chains levels ts f → IsFirstFault chains levels ts g → f ≡ g
one_fault chains levels ts f g a b = one_of chains levels ts f g a b (meet a.before a.here a.after b.before b.here b.after (sym a.split ∙ b.split))
