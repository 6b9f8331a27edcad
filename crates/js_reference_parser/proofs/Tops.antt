-- The statements at the top: their laws, and that a script is what is read.
use Rattle.std.proofs.Common.{◌≡◌, ℕ, ◌+◌, ◌≤◌, Bool, true, false, cond, List, [], ◌∷◌, Result, Ok, Err, refl, ap, subst, ◌∙◌}
use Rattle.js_syntax.specs.declared.token.Token.{Token}
use Rattle.js_syntax.specs.declared.symbol.Symbol.TheVariants as s
use Rattle.js_syntax.specs.declared.parse_fault.ParseKind.{ParseKind}
use Rattle.js_syntax.specs.declared.parse_fault.ParseKind.TheVariants.{Unexpected}
use Rattle.js_syntax.specs.declared.tree.Script.{Script}
use Rattle.js_syntax.specs.declared.tree.Stmt.{Stmt}
use Rattle.js_syntax.specs.Symbols.{Tokens, next, is, stops}
use Rattle.js_syntax.specs.Spelling.{Each}
use Rattle.js_syntax.specs.Words.{closes_body}
use Rattle.js_syntax.specs.Grammar.{parts_within}
use Rattle.js_syntax.specs.Scripts.{IsScript}
use Rattle.js_combinators.specs.Readers.{Outcome}
use Rattle.js_combinators.proofs.Laws.{Sane}
use Rattle.js_combinators.proofs.Wider.{Wider}
use Rattle.js_combinators.proofs.Loops.{repeat_ends}
use Rattle.js_combinators.proofs.Sets.{May, among_subset_one}
use Rattle.js_combinators.proofs.Spells.{Spell}
use Rattle.js_combinators.proofs.Good.{Good}
use Rattle.js_reference_parser.specs.ExpressionsModel.{each, one_more}
use Rattle.js_reference_parser.specs.StatementsModel.{within, top, finish, finish_after, script}
use Rattle.js_reference_parser.proofs.Samples.{end, is_end}
use Rattle.js_reference_parser.proofs.Lists.{ender, good_each}
use Rattle.js_reference_parser.proofs.Forms.{Inner}
use Rattle.js_reference_parser.proofs.Levels.{applied_within, same_levels, wider_levels}

pub end_may : May ender (end ∷ [])
end_may = among_subset_one (s.CloseBrace ∷ s.End ∷ []) s.End refl end is_end

ender_stops : (rest : Tokens) → May ender rest → stops closes_body (next rest) ≡ true
ender_stops [] m = refl
ender_stops (t ∷ rest) m = m

good_top : (p : Bool) (chains chains' levels levels' : ℕ) → Inner p levels levels' (parts_within chains levels) (applied_within chains levels) (within chains levels) (within chains' levels')
    → Good p true true false ender ender (Each closes_body ((parts_within chains levels).stmt false false)) (top chains levels) (top chains' levels')
unfolding top
good_top p chains chains' levels levels' inner = good_each closes_body ender_stops refl (inner.stmt false false) (inner.stmt_starts false false)

pub sane_top : (chains levels : ℕ) → 1 ≤ chains → Sane (May ender) (top chains levels)
sane_top chains levels some = ((good_top false chains chains levels levels (same_levels chains levels some)).laws refl).sane

pub wider_top : (chains chains' levels levels' : ℕ) → 1 ≤ chains → 1 ≤ chains' → chains + 2 ≤ chains' → levels + 2 ≤ levels' → Wider (top chains levels) (top chains' levels')
wider_top chains chains' levels levels' some some' lt le = (good_top true chains chains' levels levels' (wider_levels chains chains' levels levels' some some' lt le)).wider refl refl refl

spell_top : (chains levels : ℕ) → 1 ≤ chains → Spell (Each closes_body ((parts_within chains levels).stmt false false)) (top chains levels)
spell_top chains levels some = (good_top false chains chains levels levels (same_levels chains levels some)).spell refl

pub top_nothing : (chains levels : ℕ) → top chains levels (end ∷ []) ≡ Ok ([], end ∷ [])
unfolding top each
top_nothing chains levels = repeat_ends closes_body (one_more ((within chains levels).stmt false false)) [] (end ∷ []) end_may

abbrev made : List Stmt → Script
made all = record { body = all }

abbrev done : Script → Result Script (ParseKind × Tokens)
done a = Ok a

finish_last : (b : Bool) (a : List Stmt) (c : Script) (mid : Tokens) → cond b (done (made a)) (Err (Unexpected, mid)) ≡ Ok c → (b ≡ true) × (a ≡ c.body)
finish_last true a c mid e = (refl, ap (λ (r : Result Script (ParseKind × Tokens)). body_of r) e) where
  body_of : Result Script (ParseKind × Tokens) → List Stmt
  body_of (Ok x) = x.body
  body_of (Err v) = []
finish_last false a c mid e = absurd cc

abbrev refused : ParseKind × Tokens → Result Script (ParseKind × Tokens)
refused v = Err v

not_past : (b : Bool) (c : Script) (x y : Tokens) → cond b (refused (Unexpected, x)) (Err (Unexpected, y)) ≡ Ok c → ⊥
not_past true c x y e = cc
not_past false c x y e = cc

finish_ok : (a : List Stmt) (c : Script) (mid : Tokens) → finish a mid ≡ Ok c → (t : Token) × (is s.End t ≡ true) × (mid ≡ t ∷ []) × (a ≡ c.body)
unfolding finish
finish_ok a c [] e = absurd cc
finish_ok a c (t ∷ []) e = let r = finish_last (is s.End t) a c (t ∷ []) e in (t, r.0, refl, r.1)
finish_ok a c (t ∷ (u ∷ mid)) e = absurd (not_past (is s.End t) c (u ∷ mid) (t ∷ (u ∷ mid)) e)

script_of : (chains levels : ℕ) (ts : Tokens) (o : Outcome (List Stmt)) (c : Script)
    → ((all : List Stmt) (rest : Tokens) → o ≡ Ok (all, rest) → Each closes_body ((parts_within chains levels).stmt false false) all ts rest) → finish_after o ≡ Ok c → IsScript chains levels ts c
unfolding IsScript
script_of chains levels ts (Ok p) c sound e =
    let f = finish_ok p.0 c p.1 e in
    (f.0, f.1, subst (λ b. Each closes_body ((parts_within chains levels).stmt false false) b ts (f.0 ∷ [])) f.3 (subst (λ m. Each closes_body ((parts_within chains levels).stmt false false) p.0 ts m) f.2 (sound p.0 p.1 refl)))
script_of chains levels ts (Err v) c sound e = absurd cc

-- what is read is a script
pub script_sound : (chains levels : ℕ) → 1 ≤ chains → (ts : Tokens) (c : Script) → script chains levels ts ≡ Ok c → IsScript chains levels ts c
unfolding script
script_sound chains levels some ts c e = script_of chains levels ts (top chains levels ts) c (λ all rest h. (spell_top chains levels some).spells all ts rest h) e

finish_end : (c : Script) (t : Token) → is s.End t ≡ true → finish c.body (t ∷ []) ≡ Ok c
unfolding finish
finish_end c t h = ap (λ b. cond b (Ok (made c.body)) (Err (Unexpected, t ∷ []))) h

-- a script is read
pub script_again : (chains levels : ℕ) → 1 ≤ chains → (ts : Tokens) (c : Script) → IsScript chains levels ts c → script chains levels ts ≡ Ok c
unfolding script IsScript
script_again chains levels some ts c tree = ap finish_after ((spell_top chains levels some).reads c.body ts (tree.0 ∷ []) tree.2) ∙ finish_end c tree.0 tree.1
