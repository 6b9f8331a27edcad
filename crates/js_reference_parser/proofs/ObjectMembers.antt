-- Members of object literals: their laws, and that they are what the grammar says.
use Rattle.std.proofs.Common.{◌≡◌, ◌||◌, ℕ, ◌+◌, ◌≤◌, Bool, true, false, List, [], ◌∷◌, None, refl, sym, ap, ◌∙◌}
use Rattle.js_syntax.specs.declared.token.Token.{Token}
use Rattle.js_syntax.specs.declared.symbol.Symbol.{Symbol}
use Rattle.js_syntax.specs.declared.symbol.Symbol.TheVariants as s
use Rattle.js_syntax.specs.declared.parse_fault.ParseKind.TheVariants.{Unexpected}
use Rattle.js_syntax.specs.declared.tree.Expr.{Expr}
use Rattle.js_syntax.specs.declared.tree.Property.{Property}
use Rattle.js_syntax.specs.declared.tree.Property.TheVariants as property
use Rattle.js_syntax.specs.Symbols.{Tokens, next, is, among, sees}
use Rattle.js_syntax.specs.Spelling.{Spelling, Both, both}
use Rattle.js_syntax.specs.Words.{keys, plain_keys}
use Rattle.js_syntax.specs.Grammar.{Parts, is_known, Names, Parameters, Body, Lambda, Named, Arguments, Primary, New, Base, Suffix, Suffixed, Callee, Unary, Operand, Chain, Binary, Conditional, Assign, Member, Ends, EndOfJump, Block, Declared, Condition, ElseClause, Optional, Start, Target, Handlers, Statement, LEVELS_OF_CHAINS, not_first, parts_within}
use Rattle.js_syntax.specs.Grammar as g
use Rattle.js_combinators.specs.Readers.{◌>>=◌, refuse, on, expect, begin}
use Rattle.js_combinators.proofs.Sets.{among_apart, among_subset, among_subset_one}
use Rattle.js_combinators.proofs.Spells.{Same, same, made, Nothing, On, took, passed, Above, positive}
use Rattle.js_combinators.proofs.Good.{Good, Part, good_of, part_as, good_pure, part_refuse, good_then, part_on, part_begin, Taken, taken, good_expect}
use Rattle.js_combinators.proofs.Begin.{Begins, begins_refuse}
use Rattle.js_combinators.proofs.More.{opens_took, begins_with}
use Rattle.js_reference_parser.specs.ExpressionsModel.{Inside, valued, getter, setter, member, member_firsts}
use Rattle.js_reference_parser.proofs.Samples.{close, open_token, colon, is_close, is_open, is_colon}
use Rattle.js_reference_parser.proofs.Lists.{closer, Name, is_a_name, good_name}
use Rattle.js_reference_parser.proofs.Forms as f
use Rattle.js_reference_parser.proofs.Forms.{Inner}
use Rattle.js_combinators.proofs.Sets.{among_append}

or_parts : (a b c : Bool) → (a || (b || c)) ≡ true → b ≡ false → (a || c) ≡ true
or_parts true b c h k = refl
or_parts false true c h k = absurd cc
or_parts false false c h k = h

neither : (a b : Bool) → a ≡ false → b ≡ false → (a || b) ≡ false
neither true b h k = absurd cc
neither false b h k = k

abbrev first_keys : List Symbol
first_keys = s.Number ∷ s.Str ∷ s.Name ∷ []

abbrev word_keys : List Symbol
word_keys = s.Reserved ∷ s.Break ∷ s.Catch ∷ s.Continue ∷ s.Delete ∷ s.Else ∷ s.False ∷ s.Finally ∷ s.For ∷ s.Function ∷ s.If ∷ s.In ∷ s.InstanceOf ∷ s.New ∷ s.Null ∷ s.Return ∷ s.This ∷ s.Throw ∷ s.True ∷ s.Try ∷ s.TypeOf ∷ s.Var ∷ s.While ∷ []

-- a key that is neither `get` nor `set`
plain_key : (t : Token) → among keys t ≡ true → is s.Get t ≡ false → is s.Set t ≡ false → among plain_keys t ≡ true
plain_key t h a b =
    among_append first_keys word_keys t
    ∙ or_parts (among first_keys t) (among (s.Get ∷ s.Set ∷ []) t) (among word_keys t)
    (ap (λ v. among first_keys t || v) (sym (among_append (s.Get ∷ s.Set ∷ []) word_keys t)) ∙ sym (among_append first_keys (s.Get ∷ s.Set ∷ word_keys) t) ∙ h)
    (neither (is s.Get t) (is s.Set t) a b)

module _ (p : Bool) (left left' : ℕ) (P : Parts) (Applied : Spelling Expr) (i i' : Inside) (inner : Inner p left left' P Applied i i') (chains chains' : ℕ) (lt : p ≡ true → chains + 2 ≤ chains') where
  abbrev Valued : List ℕ → Spelling Property
  Valued key = Both (Assign chains P true) (λ a. Same (property.Value key a))

  abbrev Getter : List ℕ → Spelling Property
  Getter key = Both (Taken s.OpenParen) (λ u. Both (Taken s.CloseParen) (λ v. Both (Body P) (λ xs. Same (property.Get key (record { name = None; params = []; body = xs })))))

  abbrev Setter : List ℕ → Spelling Property
  Setter key = Both (Taken s.OpenParen) (λ u. Both Name (λ n. Both (Taken s.CloseParen) (λ v. Both (Body P) (λ xs. Same (property.Set key (record { name = None; params = n ∷ []; body = xs }))))))

  abbrev AnyMember : Spelling Property
  AnyMember = On (is s.Get) (λ g. On (is s.Colon) (λ t. Valued g.text) (On (among keys) (Above left (λ k. Getter k.text)) Nothing))
      (On (is s.Set) (λ g. On (is s.Colon) (λ t. Valued g.text) (On (among keys) (Above left (λ k. Setter k.text)) Nothing))
      (On (among plain_keys) (λ k. Both (Taken s.Colon) (λ u. Valued k.text)) Nothing))

  member_to : (m : Property) (ts rest : Tokens) → AnyMember m ts rest → Member chains P m ts rest
  member_to m ts rest (took {t = t} h (took k (both q e))) = made (Member chains P) e (g.value (among_subset_one keys s.Get refl t h) k q)
  member_to m ts rest (took h (passed k (took j (u, both (taken o) (both (taken c) (both b e)))))) = made (Member chains P) e (g.getter (inner.deeper u) h j o c b)
  member_to m ts rest (took h (passed k (passed j none))) = absurd none
  member_to m ts rest (passed h1 (took {t = t} h (took k (both q e)))) = made (Member chains P) e (g.value (among_subset_one keys s.Set refl t h) k q)
  member_to m ts rest (passed h1 (took h (passed k (took j (u, both (taken o) (both (is_a_name n) (both (taken c) (both b e)))))))) = made (Member chains P) e (g.setter (inner.deeper u) h j o n c b)
  member_to m ts rest (passed h1 (took h (passed k (passed j none)))) = absurd none
  member_to m ts rest (passed h1 (passed h2 (took {t = t} j (both (taken c) (both q e))))) = made (Member chains P) e (g.value (among_subset plain_keys keys refl t j) c q)
  member_to m ts rest (passed h1 (passed h2 (passed h3 none))) = absurd none

  value_from : (k t : Token) (a : Expr) (ts rest : Tokens) (b c : Bool) → is s.Get k ≡ b → is s.Set k ≡ c → among keys k ≡ true → is s.Colon t ≡ true → Assign chains P true a ts rest → AnyMember (property.Value k.text a) (k ∷ (t ∷ ts)) rest
  value_from k t a ts rest true c e f h j q = took e (took j (both q same))
  value_from k t a ts rest false true e f h j q = passed e (took f (took j (both q same)))
  value_from k t a ts rest false false e f h j q = passed e (passed f (took (plain_key k h e f) (both (taken j) (both q same))))

  member_from : (m : Property) (ts rest : Tokens) → Member chains P m ts rest → AnyMember m ts rest
  member_from m ts rest (g.value {key = k} {colon = t} {value = a} {tokens = us} h j q) = value_from k t a us rest (is s.Get k) (is s.Set k) refl refl h j q
  member_from m ts rest (g.getter {key = k} d h j o c b) = took h (passed (among_apart keys (s.Colon ∷ []) refl k j) (took j (inner.is_deeper d, both (taken o) (both (taken c) (both b same)))))
  member_from m ts rest (g.setter {set = t} {key = k} d h j o n c b) = passed (f.off p left left' P Applied i i' inner s.Set (s.Get ∷ []) refl t h) (took h (passed (among_apart keys (s.Colon ∷ []) refl k j) (took j (inner.is_deeper d, both (taken o) (both (is_a_name n) (both (taken c) (both b same)))))))

  pub good_valued : {o o' : Bool} (key : List ℕ) → Good p o o' true None closer (Valued key) (valued chains left i key) (valued chains' left' i' key)
  unfolding valued
  good_valued key = good_then (f.good_assign p left left' P Applied i i' inner chains chains' lt true) (λ a. good_pure {E = closer} {F = closer} (property.Value key a) refl) refl

  good_getter : (key : List ℕ) → Good p (positive left) (positive left') true None closer (Getter key) (getter i key) (getter i' key)
  unfolding getter
  good_getter key = good_then (good_expect {E = None} {F = None} s.OpenParen open_token is_open refl refl) (λ u. good_then (good_expect {E = None} {F = None} s.CloseParen close is_close refl refl) (λ v.
      good_then (f.good_body p left left' P Applied i i' inner {F = None}) (λ xs. good_pure {E = None} (property.Get key (record { name = None; params = []; body = xs })) refl) refl) refl) refl

  good_setter : (key : List ℕ) → Good p (positive left) (positive left') true None closer (Setter key) (setter i key) (setter i' key)
  unfolding setter
  good_setter key = good_then (good_expect {E = None} {F = None} s.OpenParen open_token is_open refl refl) (λ u. good_then (good_name {F = None}) (λ n. good_then (good_expect {E = None} {F = None} s.CloseParen close is_close refl refl) (λ v.
      good_then (f.good_body p left left' P Applied i i' inner {F = None}) (λ xs. good_pure {E = None} (property.Set key (record { name = None; params = n ∷ []; body = xs })) refl) refl) refl) refl) refl

  good_get : (key : List ℕ) → Good p true true true None closer (On (is s.Colon) (λ t. Valued key) (On (among keys) (Above left (λ k. Getter k.text)) Nothing)) (on (is s.Colon) (λ t. valued chains left i key) (begin left (among keys) (λ k. getter i k.text) (refuse Unexpected))) (on (is s.Colon) (λ t. valued chains' left' i' key) (begin left' (among keys) (λ k. getter i' k.text) (refuse Unexpected)))
  good_get key = good_of (part_on (s.Colon ∷ []) (λ t h. h) refl refl (λ t h. good_valued key) (part_begin left left' inner.grows keys (λ t h. h) refl refl (λ t h. good_getter t.text) part_refuse))
      (λ e. opens_took closer (is s.Colon) (λ t. valued chains left i key) (begin left (among keys) (λ k. getter i k.text) (refuse Unexpected)) colon is_colon ((good_valued {o = true} {o' = true} key).laws refl).opens)
      (λ e. opens_took closer (is s.Colon) (λ t. valued chains' left' i' key) (begin left' (among keys) (λ k. getter i' k.text) (refuse Unexpected)) colon is_colon ((good_valued {o = true} {o' = true} key).laws_w refl).opens)

  good_set : (key : List ℕ) → Good p true true true None closer (On (is s.Colon) (λ t. Valued key) (On (among keys) (Above left (λ k. Setter k.text)) Nothing)) (on (is s.Colon) (λ t. valued chains left i key) (begin left (among keys) (λ k. setter i k.text) (refuse Unexpected))) (on (is s.Colon) (λ t. valued chains' left' i' key) (begin left' (among keys) (λ k. setter i' k.text) (refuse Unexpected)))
  good_set key = good_of (part_on (s.Colon ∷ []) (λ t h. h) refl refl (λ t h. good_valued key) (part_begin left left' inner.grows keys (λ t h. h) refl refl (λ t h. good_setter t.text) part_refuse))
      (λ e. opens_took closer (is s.Colon) (λ t. valued chains left i key) (begin left (among keys) (λ k. setter i k.text) (refuse Unexpected)) colon is_colon ((good_valued {o = true} {o' = true} key).laws refl).opens)
      (λ e. opens_took closer (is s.Colon) (λ t. valued chains' left' i' key) (begin left' (among keys) (λ k. setter i' k.text) (refuse Unexpected)) colon is_colon ((good_valued {o = true} {o' = true} key).laws_w refl).opens)

  good_plain : (key : List ℕ) → Good p true true true None closer (Both (Taken s.Colon) (λ u. Valued key)) (expect s.Colon >>= λ u. valued chains left i key) (expect s.Colon >>= λ u. valued chains' left' i' key)
  good_plain key = good_then (good_expect {E = None} {F = None} s.Colon colon is_colon refl refl) (λ u. good_valued key) refl

  pub part_member : Part p true true true closer (Member chains P) (member chains left i) (member chains' left' i')
  unfolding member
  part_member = part_as
      (part_on (s.Get ∷ []) (λ t h. h) refl refl (λ t h. good_get t.text)
      (part_on (s.Set ∷ []) (λ t h. h) refl refl (λ t h. good_set t.text)
      (part_on plain_keys (λ t h. h) refl refl (λ t h. good_plain t.text)
      part_refuse))) member_to member_from

  pub member_starts : (m : Property) (ts rest : Tokens) → Member chains P m ts rest → sees (among keys) (next ts) ≡ true
  member_starts m ts rest (g.value h j q) = h
  member_starts m ts rest (g.getter {get = t} d h j o c b) = among_subset_one keys s.Get refl t h
  member_starts m ts rest (g.setter {set = t} d h j o n c b) = among_subset_one keys s.Set refl t h

  pub member_begins : Begins (among member_firsts) (member chains' left' i')
  unfolding member
  member_begins =
      begins_with closer (s.Get ∷ []) (s.Set ∷ plain_keys) (λ t. on (is s.Colon) (λ u. valued chains' left' i' t.text) (begin left' (among keys) (λ k. getter i' k.text) (refuse Unexpected))) _ (λ t h. ((good_get t.text).laws_w refl).sane)
      (begins_with closer (s.Set ∷ []) plain_keys (λ t. on (is s.Colon) (λ u. valued chains' left' i' t.text) (begin left' (among keys) (λ k. setter i' k.text) (refuse Unexpected))) _ (λ t h. ((good_set t.text).laws_w refl).sane)
      (begins_with closer plain_keys [] (λ k. expect s.Colon >>= λ u. valued chains' left' i' k.text) (refuse Unexpected) (λ t h. ((good_plain t.text).laws_w refl).sane) begins_refuse))
