-- The operand of a `++` or `--` before it: with wider limits, and that it is what the grammar says.
use Rattle.std.proofs.Common.{◌≡◌, ◌||◌, ℕ, zero, suc, ◌+◌, ◌≤◌, Bool, true, false, not, cond, List, [], ◌∷◌, Option, Some, None, Ok, Err, refl, sym, ap, subst, ◌∙◌, arith}
use Rattle.js_syntax.specs.declared.token.Token.{Token}
use Rattle.js_syntax.specs.declared.symbol.Symbol.{Symbol}
use Rattle.js_syntax.specs.declared.symbol.Symbol.TheVariants as s
use Rattle.js_syntax.specs.declared.parse_fault.ParseKind.{ParseKind}
use Rattle.js_syntax.specs.declared.parse_fault.ParseKind.TheVariants.{TooDeep}
use Rattle.js_syntax.specs.declared.tree.Expr.{Expr}
use Rattle.js_syntax.specs.declared.tree.Expr.TheVariants as ex
use Rattle.js_syntax.specs.Symbols.{Tokens, next, is, among, sees, symbol_of}
use Rattle.js_syntax.specs.Spelling.{Spelling, Both, both, Links}
use Rattle.js_syntax.specs.Words.{is_target, suffixes, member_suffixes, update_of, is_postfix, prefixed}
use Rattle.js_syntax.specs.Grammar.{Parts, is_known, Names, Parameters, Body, Lambda, Named, Arguments, Primary, New, Base, Suffix, Suffixed, Callee, Unary, Operand, Chain, Binary, Conditional, Assign, Member, Ends, EndOfJump, Block, Declared, Condition, ElseClause, Optional, Start, Target, Handlers, Statement, LEVELS_OF_CHAINS, not_first, parts_within}
use Rattle.js_syntax.specs.Grammar as g
use Rattle.js_combinators.specs.Readers.{Outcome, Reader, and_then, ◌>>=◌, refuse, look, on, deny}
use Rattle.js_combinators.proofs.Laws.{Sane, Opens}
use Rattle.js_combinators.proofs.Wider.{Wider}
use Rattle.js_combinators.proofs.Sets.{Follow, May, among_apart, among_subset, sees_apart, among_subset_one}
use Rattle.js_combinators.proofs.Spells.{Spell, same, made, took, passed, Above, positive}
use Rattle.js_combinators.proofs.Good.{Good, Laws, good_of, lifted, good_as, good_pure, good_then, part_begin, taken, good_expect}
use Rattle.js_combinators.proofs.Loops.{denies, deny_passes, denied_at, deny_at, deny_nothing}
use Rattle.js_combinators.proofs.More.{begin_passes}
use Rattle.js_reference_parser.specs.ExpressionsModel.{Inside, primary_firsts, primary, suffix, denied, accept, new_with_arguments, target_base, new_target, target_chain, update_target}
use Rattle.js_reference_parser.proofs.Samples.{open_token, dollar, is_open, is_name}
use Rattle.js_reference_parser.proofs.Lists.{closer}
use Rattle.js_reference_parser.proofs.Forms as f
use Rattle.js_reference_parser.proofs.Forms.{Inner}
use Rattle.js_syntax.specs.Spelling.{no_more, link}
use Rattle.js_combinators.proofs.Wider.{Grows, wider_bind, wider_deny, sane_shrinks}
use Rattle.js_reference_parser.proofs.Targets.{NewApplied, TargetBase, AppliedOf, suffix_parts, denied_suffix, denied_member_suffix, wider_accept, accept_ok, call_no_target, new_no_target, postfix_no_target, update_no_target, prefixed_no_target, target_ends, opens_slot, sane_target, sane_more}

or_true : (a b : Bool) → a ≡ true → (a || b) ≡ true
or_true true b h = refl
or_true false b h = absurd cc

or_second : (a b : Bool) → b ≡ true → (a || b) ≡ true
or_second true b h = refl
or_second false b h = h

or_none : (a b : Bool) → a ≡ false → b ≡ false → (a || b) ≡ false
or_none true b h k = absurd cc
or_none false b h k = k

or_first : (a b : Bool) → (a || b) ≡ true → a ≡ false → b ≡ true
or_first true b h k = absurd cc
or_first false b h k = h

abbrev ok : Expr × Tokens → Outcome Expr
ok p = Ok p

never : (e : ParseKind × Tokens) (p : Expr × Tokens) → Err e ≡ ok p → ⊥
never e p h = cc

-- in the last place a call is denied at the narrow limit and taken at the wide one
last_grows : (F : Tokens → Type 0) (d m o v : Bool) → v ≡ (m || o) → (d ≡ true → m ≡ true) → (s s' : Reader Expr) (acc : Outcome Expr) (t : Token) (ts : Tokens) → (v ≡ true → Sane F s') → (d ≡ false → m ≡ true → Wider s s') → Grows acc acc
    → Grows (cond d (Err (TooDeep, t ∷ ts)) (cond m (s ts) (cond o (Err (TooDeep, t ∷ ts)) acc))) (cond v (s' ts) acc)
last_grows F true m o v e k s s' acc t ts sane wider g = subst (λ b. Grows {A = Expr} (Err (TooDeep, t ∷ ts)) (cond b (s' ts) acc)) (sym (e ∙ or_true m o (k refl))) (sane_shrinks F s' ts (t ∷ ts) (sane (e ∙ or_true m o (k refl))) (omega arith))
last_grows F false true o v e k s s' acc t ts sane wider g = subst (λ b. Grows (s ts) (cond b (s' ts) acc)) (sym e) ((wider refl refl).grows ts)
last_grows F false false true v e k s s' acc t ts sane wider g = subst (λ b. Grows {A = Expr} (Err (TooDeep, t ∷ ts)) (cond b (s' ts) acc)) (sym e) (sane_shrinks F s' ts (t ∷ ts) (sane e) (omega arith))
last_grows F false false false v e k s s' acc t ts sane wider g = subst (λ b. Grows acc (cond b (s' ts) acc)) (sym e) g

module _ (left left' : ℕ) (i i' : Inside) (up : denied left' ≡ None)
    (steps' : (F : Follow) (a : Expr) (t : Token) → among suffixes t ≡ true → denies (denied left') t ≡ false → Laws true None F (suffix left' i' a t))
    (widens : (a : Expr) (t : Token) → among suffixes t ≡ true → denies (denied left) t ≡ false → Wider (suffix left i a t) (suffix left' i' a t)) where
  undenied' : (t : Token) → denies (denied left') t ≡ false
  undenied' t = ap (λ d. denies d t) up

  abbrev wide_step : ℕ → Expr → Token → Reader Expr
  wide_step n a t = suffix left' i' a t >>= target_chain (suc n) left' i'

  wide_is : (n : ℕ) (a : Expr) → target_chain (suc (suc n)) left' i' a ≡ on (among suffixes) (λ t. wide_step n a t) (accept a)
  unfolding target_chain
  wide_is n a = ap (λ d. deny d (on (among suffixes) (λ t. wide_step n a t) (accept a))) up

  sane_wide : (n : ℕ) (a : Expr) (t : Token) → among suffixes t ≡ true → Sane (May closer) (wide_step n a t)
  sane_wide n a t h = sane_more left' i' steps' n a t h (undenied' t)

  last_at : (m : ℕ) (a : Expr) → ((b : Expr) → Wider (target_chain zero left i b) (target_chain (suc (suc m)) left' i' b)) → (ts : Tokens) → Grows (target_chain (suc zero) left i a ts) (on (among suffixes) (λ t. wide_step (suc m) a t) (accept a) ts)
  unfolding target_chain
  last_at m a later [] = subst (λ o. Grows o (accept a [])) (deny_nothing (denied left) (on (among member_suffixes) (λ t. suffix left i a t >>= target_chain zero left i) (look (sees (is s.OpenParen)) (refuse TooDeep) (accept a)))) ((wider_accept a).grows [])
  last_at m a later (t ∷ ts) = subst (λ o. Grows o (on (among suffixes) (λ t. wide_step (suc m) a t) (accept a) (t ∷ ts))) (deny_at (denied left) (on (among member_suffixes) (λ t. suffix left i a t >>= target_chain zero left i) (look (sees (is s.OpenParen)) (refuse TooDeep) (accept a))) t ts)
      (last_grows (May closer) (denies (denied left) t) (among member_suffixes t) (is s.OpenParen t) (among suffixes t) (suffix_parts t) (denied_member_suffix left t) (suffix left i a t >>= target_chain zero left i) (wide_step (suc m) a t) (accept a (t ∷ ts)) t ts
      (λ h. sane_wide (suc m) a t h)
      (λ k h. wider_bind (May closer) (suffix left i a t) (suffix left' i' a t) (target_chain zero left i) (target_chain (suc (suc m)) left' i') (widens a t (among_subset member_suffixes suffixes refl t h) k) later (λ b. sane_target left' i' steps' (suc (suc m)) b))
      ((wider_accept a).grows (t ∷ ts)))

  grows_as : (n m : ℕ) (a : Expr) → Wider (target_chain n left i a) (on (among suffixes) (λ t. wide_step m a t) (accept a)) → Wider (target_chain n left i a) (target_chain (suc (suc m)) left' i' a)
  grows_as n m a w = subst (λ r. Wider (target_chain n left i a) r) (sym (wide_is m a)) w

  pub wider_target : (n n' : ℕ) → n + 2 ≤ n' → (a : Expr) → Wider (target_chain n left i a) (target_chain n' left' i' a)
  unfolding target_chain
  wider_target n zero le a = absurd (omega arith)
  wider_target n (suc zero) le a = absurd (omega arith)
  wider_target zero (suc (suc m)) le a = grows_as zero m a (wider_deny (May closer) (among suffixes) (λ t. wide_step m a t) (accept a) (accept a) (λ t h. sane_wide m a t h) (wider_accept a))
  wider_target (suc zero) (suc (suc zero)) le a = absurd (omega arith)
  wider_target (suc zero) (suc (suc (suc m))) le a = grows_as (suc zero) (suc m) a (record { grows = last_at m a (λ b. wider_target zero (suc (suc m)) (omega arith) b) })
  wider_target (suc (suc n)) (suc (suc m)) le a = grows_as (suc (suc n)) m a (record {
    grows = denied_at (May closer) (denied left) (among suffixes) (denied_suffix left) (λ t. suffix left i a t >>= target_chain (suc n) left i) (λ t. wide_step m a t) (accept a) (accept a)
        (λ t h. sane_wide m a t h)
        (λ t k h. wider_bind (May closer) (suffix left i a t) (suffix left' i' a t) (target_chain (suc n) left i) (target_chain (suc m) left' i') (widens a t h k) (λ b. wider_target (suc n) (suc m) (omega arith) b) (λ b. sane_target left' i' steps' (suc m) b)) (wider_accept a);
  })

-- ---- what the chain spells

-- such suffixes, up to a name or a member that no `++` on its line follows
abbrev pub Ending : Parts → ℕ → Expr → Spelling Expr
Ending P n a c ts rest = Links (among suffixes) (Suffix P) n a c ts rest × (is_target c ≡ true) × (sees (is_postfix c) (next rest) ≡ false)

module _ (left : ℕ) (i : Inside) (P : Parts) (spells : (a : Expr) (t : Token) → among suffixes t ≡ true → denies (denied left) t ≡ false → Spell (Suffix P t a) (suffix left i a t))
    (kept : (t : Token) (a b : Expr) (ts rest : Tokens) → Suffix P t a b ts rest → denies (denied left) t ≡ false) where
  last_suffix : (t : Token) (a b c : Expr) (ts mid rest : Tokens) → Suffix P t a b ts mid → Links (among suffixes) (Suffix P) zero b c mid rest → is_target c ≡ true → among member_suffixes t ≡ true
  last_suffix t a b c ts mid rest (g.member h k) l j = among_subset_one member_suffixes s.Dot refl t h
  last_suffix t a b c ts mid rest (g.index h q k) l j = among_subset_one member_suffixes s.OpenBracket refl t h
  last_suffix t a b c ts mid rest (g.call {all = all} h q) (no_more e) j = let f = call_no_target a all in absurd cc

  target_reads : (n : ℕ) (a c : Expr) (ts rest : Tokens) → Links (among suffixes) (Suffix P) n a c ts rest → is_target c ≡ true → sees (is_postfix c) (next rest) ≡ false → target_chain n left i a ts ≡ Ok (c, rest)
  unfolding target_chain
  target_reads n a c ts rest (no_more h) k j = target_ends left i n a ts h k j
  target_reads (suc zero) a c ts rest (link {t = t} {b = b} {ts = us} {mid = mid} h q later) k j =
      let m = last_suffix t a b c us mid rest q later k in
      deny_passes (denied left) (on (among member_suffixes) (λ t. suffix left i a t >>= target_chain zero left i) (look (sees (is s.OpenParen)) (refuse TooDeep) (accept a))) (t ∷ us) (kept t a b us mid q)
      ∙ ap (λ v. cond v ((suffix left i a t >>= target_chain zero left i) us) (look (sees (is s.OpenParen)) (refuse TooDeep) (accept a) (t ∷ us))) m
      ∙ ap (λ o. and_then o (target_chain zero left i)) ((spells a t h (kept t a b us mid q)).reads b us mid q)
      ∙ target_reads zero b c mid rest later k j
  target_reads (suc (suc n)) a c ts rest (link {t = t} {b = b} {ts = us} {mid = mid} h q later) k j =
      deny_passes (denied left) (on (among suffixes) (λ t. suffix left i a t >>= target_chain (suc n) left i) (accept a)) (t ∷ us) (kept t a b us mid q)
      ∙ ap (λ v. cond v ((suffix left i a t >>= target_chain (suc n) left i) us) (accept a (t ∷ us))) h
      ∙ ap (λ o. and_then o (target_chain (suc n) left i)) ((spells a t h (kept t a b us mid q)).reads b us mid q)
      ∙ target_reads (suc n) b c mid rest later k j

  ending_now : (n : ℕ) (a c : Expr) (ts rest : Tokens) → sees (among suffixes) (next ts) ≡ false → accept a ts ≡ Ok (c, rest) → Ending P n a c ts rest
  ending_now n a c ts rest h e =
      let q = accept_ok a c ts rest e in
      subst (λ x. Ending P n a x ts rest) (sym q.0) (subst (λ r. Ending P n a a ts r) (sym q.1) (no_more h, q.2, q.3))

  look_cases : (b : Bool) (ts : Tokens) (o : Outcome Expr) (v : Expr × Tokens) → cond b (Err (TooDeep, ts)) o ≡ ok v → (b ≡ false) × (o ≡ Ok v)
  look_cases true ts o v e = absurd (never (TooDeep, ts) v e)
  look_cases false ts o v e = (refl, e)

  deny_cases : (d : Option (Token → Bool)) (r : Reader Expr) (ts : Tokens) (v : Expr × Tokens) → deny d r ts ≡ Ok v → (sees (denies d) (next ts) ≡ false) × (r ts ≡ Ok v)
  deny_cases None r [] v e = (refl, e)
  deny_cases None r (t ∷ ts) v e = (refl, e)
  deny_cases (Some d) r ts v e = look_cases (sees d (next ts)) ts (r ts) v e

  step_ending : (n : ℕ) (a c : Expr) (t : Token) (us rest : Tokens) → among suffixes t ≡ true → Spell (Suffix P t a) (suffix left i a t) → ((b : Expr) (mid : Tokens) → target_chain n left i b mid ≡ Ok (c, rest) → Ending P n b c mid rest)
      → (o : Outcome Expr) → suffix left i a t us ≡ o → and_then o (target_chain n left i) ≡ Ok (c, rest) → Ending P (suc n) a c (t ∷ us) rest
  step_ending n a c t us rest h spell later (Ok q) e k = let l = later q.0 q.1 k in (link h (spell.spells q.0 us q.1 e) l.0, l.1, l.2)
  step_ending n a c t us rest h spell later (Err v) e k = absurd (never v (c, rest) k)

  last_cases : (a c : Expr) (t : Token) (us rest : Tokens) (m o : Bool) → among member_suffixes t ≡ m → is s.OpenParen t ≡ o → denies (denied left) t ≡ false → ((b : Expr) (mid : Tokens) → target_chain zero left i b mid ≡ Ok (c, rest) → Ending P zero b c mid rest)
      → cond m ((suffix left i a t >>= target_chain zero left i) us) (cond o (Err (TooDeep, t ∷ us)) (accept a (t ∷ us))) ≡ Ok (c, rest) → Ending P (suc zero) a c (t ∷ us) rest
  last_cases a c t us rest true o h k j later e = let x = among_subset member_suffixes suffixes refl t h in step_ending zero a c t us rest x (spells a t x j) later (suffix left i a t us) refl e
  last_cases a c t us rest false true h k j later e = absurd (never (TooDeep, t ∷ us) (c, rest) e)
  last_cases a c t us rest false false h k j later e = ending_now (suc zero) a c (t ∷ us) rest (suffix_parts t ∙ or_none (among member_suffixes t) (is s.OpenParen t) h k) e

  more_cases : (n : ℕ) (a c : Expr) (t : Token) (us rest : Tokens) (m : Bool) → among suffixes t ≡ m → denies (denied left) t ≡ false → ((b : Expr) (mid : Tokens) → target_chain (suc n) left i b mid ≡ Ok (c, rest) → Ending P (suc n) b c mid rest)
      → cond m ((suffix left i a t >>= target_chain (suc n) left i) us) (accept a (t ∷ us)) ≡ Ok (c, rest) → Ending P (suc (suc n)) a c (t ∷ us) rest
  more_cases n a c t us rest true h j later e = step_ending (suc n) a c t us rest h (spells a t h j) later (suffix left i a t us) refl e
  more_cases n a c t us rest false h j later e = ending_now (suc (suc n)) a c (t ∷ us) rest h e

  target_spells : (n : ℕ) (a c : Expr) (ts rest : Tokens) → target_chain n left i a ts ≡ Ok (c, rest) → Ending P n a c ts rest
  unfolding target_chain
  target_spells zero a c ts rest e = let q = look_cases (sees (among suffixes) (next ts)) ts (accept a ts) (c, rest) e in ending_now zero a c ts rest q.0 q.1
  target_spells (suc zero) a c [] rest e =
      let q = deny_cases (denied left) (on (among member_suffixes) (λ t. suffix left i a t >>= target_chain zero left i) (look (sees (is s.OpenParen)) (refuse TooDeep) (accept a))) [] (c, rest) e in
      ending_now (suc zero) a c [] rest refl q.1
  target_spells (suc zero) a c (t ∷ us) rest e =
      let q = deny_cases (denied left) (on (among member_suffixes) (λ t. suffix left i a t >>= target_chain zero left i) (look (sees (is s.OpenParen)) (refuse TooDeep) (accept a))) (t ∷ us) (c, rest) e in
      last_cases a c t us rest (among member_suffixes t) (is s.OpenParen t) refl refl q.0 (λ b mid e. target_spells zero b c mid rest e) q.1
  target_spells (suc (suc n)) a c [] rest e =
      let q = deny_cases (denied left) (on (among suffixes) (λ t. suffix left i a t >>= target_chain (suc n) left i) (accept a)) [] (c, rest) e in
      ending_now (suc (suc n)) a c [] rest refl q.1
  target_spells (suc (suc n)) a c (t ∷ us) rest e =
      let q = deny_cases (denied left) (on (among suffixes) (λ t. suffix left i a t >>= target_chain (suc n) left i) (accept a)) (t ∷ us) (c, rest) e in
      more_cases n a c t us rest (among suffixes t) refl q.0 (λ b mid e. target_spells (suc n) b c mid rest e) q.1

  pub spell_target : (n : ℕ) (a : Expr) → Spell (Ending P n a) (target_chain n left i a)
  spell_target n a = record { reads = λ c ts rest h. target_reads n a c ts rest h.0 h.1 h.2; spells = target_spells n a }

-- ---- together

module _ (p : Bool) (left left' : ℕ) (P : Parts) (Applied : Spelling Expr) (i i' : Inside) (inner : Inner p left left' P Applied i i') (chains chains' : ℕ) (lt : p ≡ true → chains + 2 ≤ chains') where
  good_new_with_arguments : {F : Follow} → Good p (positive left) (positive left') true None F (NewApplied P Applied) (new_with_arguments left i) (new_with_arguments left' i')
  unfolding new_with_arguments
  good_new_with_arguments = good_then inner.new_target (λ a. good_then (good_expect {E = Some (s.OpenParen ∷ [])} {F = None} s.OpenParen open_token is_open refl refl) (λ u. good_then (f.good_arguments p left left' P Applied i i' inner {F = None}) (λ all. good_pure {E = None} (ex.New a all) refl) refl) refl) refl

  dollar_target : (n : ℕ) (j : Inside) (rest : Tokens) → target_base n j (dollar ∷ rest) ≡ Ok (f.dollar_expr p left left' P Applied i i' inner, rest)
  unfolding target_base
  dollar_target n j rest = begin_passes n (is s.New) (λ t. new_with_arguments n j) (primary n j) (dollar ∷ rest) (among_apart (s.Name ∷ []) (s.New ∷ []) refl dollar is_name) ∙ f.dollar_primary p left left' P Applied i i' inner n j rest

  target_base_opens : (F : Follow) (n : ℕ) (j : Inside) → Opens (May None) (May F) (target_base n j)
  target_base_opens F n j = record { more = dollar ∷ []; value = f.dollar_expr p left left' P Applied i i' inner; before = λ rest m. tt; reads = λ rest m. dollar_target n j rest }

  good_target_base : {o o' : Bool} {F : Follow} → Good p o o' true None F (TargetBase left P Applied) (target_base left i) (target_base left' i')
  unfolding target_base
  good_target_base {F = F} = lifted (good_of (part_begin left left' inner.grows (s.New ∷ []) (λ t h. h) refl refl (λ t h. good_new_with_arguments) (f.part_primary p left left' P Applied i i' inner)) (λ e. target_base_opens F left i) (λ e. target_base_opens F left' i'))

  pub good_new_target : {o o' : Bool} → Good p o o' true None (Some (s.OpenParen ∷ [])) (AppliedOf chains left P Applied) (new_target chains left i) (new_target chains' left' i')
  unfolding new_target
  good_new_target = good_then (good_target_base {F = Some (s.OpenParen ∷ [])}) (λ a. f.good_links p left left' P Applied i i' inner chains chains' (f.fewer p left left' P Applied i i' inner chains chains' lt) member_suffixes refl refl refl refl refl a) refl

  links_end : (xs : List Symbol) (n : ℕ) (a b : Expr) (ts rest : Tokens) → Links (among xs) (Suffix P) n a b ts rest → sees (among xs) (next rest) ≡ false
  links_end xs n a b ts rest (no_more h) = h
  links_end xs (suc n) a c ts rest (link {b = b} {mid = mid} h q later) = links_end xs n b c mid rest later

  pub callee_ends : (a : Expr) (ts rest : Tokens) → Callee chains P a ts rest → sees (among member_suffixes) (next rest) ≡ false
  callee_ends b ts rest (g.callee {first = a} {after_first = mid} q l) = links_end member_suffixes chains a b mid rest l

  new_of : (a : Expr) (ts mid : Tokens) → NewApplied P Applied a ts mid → New P a ts mid
  new_of a ts mid (both {a = c} q (both (taken {t = o} {ts = us} h) (both r e))) = made (New P) e (g.with_arguments (inner.applied_is c ts (o ∷ us) q) h r)

  pub applied_is : (a : Expr) (ts rest : Tokens) → AppliedOf chains left P Applied a ts rest → Callee chains P a ts rest
  applied_is b ts rest (both {a = a} {mid = mid} (took {ts = us} h q) l) = g.callee (g.new h (new_of a us mid q.1)) l
  applied_is b ts rest (both (passed h q) l) = g.callee (g.primary q) l

  no_links : (xs : List Symbol) (n : ℕ) (a b : Expr) (ts rest : Tokens) → Links (among xs) (Suffix P) n a b ts rest → sees (among xs) (next ts) ≡ false → (a ≡ b) × (ts ≡ rest)
  no_links xs n a b ts rest (no_more h) k = (refl, refl)
  no_links xs (suc n) a b ts rest (link h q later) k = absurd cc

  primary_not_new : (a : Expr) (ts rest : Tokens) → Primary P a ts rest → sees (is s.New) (next ts) ≡ false
  primary_not_new a ts rest q = sees_apart primary_firsts (s.New ∷ []) refl (next ts) (f.primary_starts p left left' P Applied i i' inner a ts rest q)

  applied_new : (a : Expr) (ts mid : Tokens) (c : Expr) (all : List Expr) (o : Token) (us : Tokens) → a ≡ ex.New c all → P.callee c ts (o ∷ us) → is s.OpenParen o ≡ true → Arguments P all us mid → Above left (λ t. NewApplied P Applied) o a ts mid
  applied_new a ts mid c all o us e q h r = subst (λ x. Above left (λ t. NewApplied P Applied) o x ts mid) (sym e) (inner.some_callee c ts (o ∷ us) q, both (inner.is_applied c ts o us q h) (both (taken h) (both r same)))

  -- where no suffix follows a `new` without arguments, no bracket follows it
  unapplied_at : (a b : Expr) (n : ℕ) (ts mid : Tokens) (o : Token) (rest : Tokens) → P.callee a ts mid → sees (is s.OpenParen) (next mid) ≡ false → Links (among member_suffixes) (Suffix P) n (ex.New a []) b mid (o ∷ rest) → is s.OpenParen o ≡ true → ⊥
  unapplied_at a b n ts mid o rest q k l h =
      let e = no_links member_suffixes n (ex.New a []) b mid (o ∷ rest) l (inner.callee_ends a ts mid q) in
      let j : sees (is s.OpenParen) (next (o ∷ rest)) ≡ false = subst (λ m. sees (is s.OpenParen) (next m) ≡ false) e.1 k in
      cc

  pub is_applied : (a : Expr) (ts : Tokens) (o : Token) (rest : Tokens) → Callee chains P a ts (o ∷ rest) → is s.OpenParen o ≡ true → AppliedOf chains left P Applied a ts (o ∷ rest)
  is_applied b ts o rest (g.callee {after_first = mid} (g.new {tokens = us} h (g.with_arguments {open_paren = x} {target = c} {all = all} {after_target = after} q j r)) l) k = both (took h (inner.some_callee c us (x ∷ after) q, both (inner.is_applied c us x after q j) (both (taken j) (both r same)))) l
  is_applied b ts o rest (g.callee {after_first = mid} (g.new {tokens = us} h (g.without_arguments {target = c} q j)) l) k = absurd (unapplied_at c b chains us mid o rest q j l k)
  is_applied b ts o rest (g.callee {first = a} {after_first = mid} (g.primary q) l) k = both (passed (primary_not_new a ts mid q) q) l

  -- ---- the whole operand

  steps : (F : Follow) (a : Expr) (t : Token) → among suffixes t ≡ true → denies (denied left) t ≡ false → Laws true None F (suffix left i a t)
  steps F a t h k = (f.good_suffix p left left' P Applied i i' inner {F = F} a t h).laws (ap not k)

  steps' : (F : Follow) (a : Expr) (t : Token) → among suffixes t ≡ true → denies (denied left') t ≡ false → Laws true None F (suffix left' i' a t)
  steps' F a t h k = (f.good_suffix p left left' P Applied i i' inner {F = F} a t h).laws_w (ap not k)

  none_up : p ≡ true → denied left' ≡ None
  none_up e = f.denied_none p left left' P Applied i i' inner left' (inner.grows e)

  widens : p ≡ true → (a : Expr) (t : Token) → among suffixes t ≡ true → denies (denied left) t ≡ false → Wider (suffix left i a t) (suffix left' i' a t)
  widens e a t h k = (f.good_suffix p left left' P Applied i i' inner {F = None} a t h).wider e (ap not k) (ap not (ap (λ d. denies d t) (none_up e)))

  spells : (a : Expr) (t : Token) → among suffixes t ≡ true → denies (denied left) t ≡ false → Spell (Suffix P t a) (suffix left i a t)
  spells a t h k = (f.good_suffix p left left' P Applied i i' inner {F = None} a t h).spell (ap not k)

  chain_opens : (n : ℕ) (j : Inside) (at : ℕ) → ((F : Follow) (a : Expr) (t : Token) → among suffixes t ≡ true → denies (denied at) t ≡ false → Laws true None F (suffix at j a t)) → 1 ≤ n → (a : Expr) → Opens (May None) (May closer) (target_chain n at j a)
  chain_opens zero j at steps h a = absurd (omega arith)
  chain_opens (suc n) j at steps h a = opens_slot at j steps n a

  good_ending : 1 ≤ chains → 1 ≤ chains' → (a : Expr) → Good p true true false None closer (Ending P chains a) (target_chain chains left i a) (target_chain chains' left' i' a)
  good_ending h h' a = record {
    laws = λ e. record { sane = sane_target left i steps chains a; opens = chain_opens chains i left steps h a; takes = λ e. absurd cc };
    laws_w = λ e. record { sane = sane_target left' i' steps' chains' a; opens = chain_opens chains' i' left' steps' h' a; takes = λ e. absurd cc };
    wider = λ e x y. wider_target left left' i i' (none_up e) steps' (widens e) chains chains' (lt e) a;
    spell = λ e. spell_target left i P spells (f.suffix_kept p left left' P Applied i i' inner) chains a;
  }

  abbrev TargetOf : Spelling Expr
  TargetOf a ts rest = Unary chains P a ts rest × (is_target a ≡ true)

  target_to : (c : Expr) (ts rest : Tokens) → Both (TargetBase left P Applied) (λ a. Ending P chains a) c ts rest → TargetOf c ts rest
  target_to c ts rest (both {a = a} {mid = mid} (took {ts = us} h q) (l, k, j)) = (g.plain (g.suffixed (g.new h (new_of a us mid q.1)) l) j, k)
  target_to c ts rest (both (passed h q) (l, k, j)) = (g.plain (g.suffixed (g.primary q) l) j, k)

  -- a `new` without arguments is no member, nor does a suffix follow it
  no_target_new : (a c : Expr) (ts mid rest : Tokens) → P.callee a ts mid → sees (is s.OpenParen) (next mid) ≡ false → Links (among suffixes) (Suffix P) chains (ex.New a []) c mid rest → is_target c ≡ true → ⊥
  no_target_new a c ts mid rest q k l j =
      let e = no_links suffixes chains (ex.New a []) c mid rest l (neither_suffix (next mid) (inner.callee_ends a ts mid q) k) in
      let n : is_target c ≡ false = ap is_target (sym e.0) ∙ new_no_target a [] in
      cc where
        neither_suffix : (o : Option Token) → sees (among member_suffixes) o ≡ false → sees (is s.OpenParen) o ≡ false → sees (among suffixes) o ≡ false
        neither_suffix None h k = refl
        neither_suffix (Some t) h k = suffix_parts t ∙ or_none (among member_suffixes t) (is s.OpenParen t) h k

  suffixed_from : (c : Expr) (ts rest : Tokens) → Suffixed chains P c ts rest → is_target c ≡ true → sees (is_postfix c) (next rest) ≡ false → Both (TargetBase left P Applied) (λ a. Ending P chains a) c ts rest
  suffixed_from c ts rest (g.suffixed {after_first = mid} (g.new {tokens = us} h (g.with_arguments {open_paren = x} {target = b} {all = all} {after_target = after} q j r)) l) k m = both (took h (inner.some_callee b us (x ∷ after) q, both (inner.is_applied b us x after q j) (both (taken j) (both r same)))) (l, k, m)
  suffixed_from c ts rest (g.suffixed {after_first = mid} (g.new {tokens = us} h (g.without_arguments {target = b} q j)) l) k m = absurd (no_target_new b c us mid rest q j l k)
  suffixed_from c ts rest (g.suffixed {first = a} {after_first = mid} (g.primary q) l) k m = both (passed (primary_not_new a ts mid q) q) (l, k, m)

  untrue : (b : Bool) → b ≡ false → b ≡ true → ⊥
  untrue true h k = cc
  untrue false h k = cc

  unary_target : (c : Expr) (ts rest : Tokens) → Unary chains P c ts rest → is_target c ≡ true → Both (TargetBase left P Applied) (λ a. Ending P chains a) c ts rest
  unary_target c ts rest (g.operated {operator = t} {operand = a} h q) k = absurd (untrue (is_target (prefixed (symbol_of t) a)) (prefixed_no_target (symbol_of t) a) k)
  unary_target c ts rest (g.updated {operator = t} {operand = a} h q j) k = absurd (untrue (is_target (ex.Prefix (update_of (symbol_of t)) a)) (update_no_target a (symbol_of t)) k)
  unary_target c ts rest (g.postfix {operator = t} {operand = a} q h) k = absurd (untrue (is_target (ex.Postfix (update_of (symbol_of t)) a)) (postfix_no_target a true (symbol_of t)) k)
  unary_target c ts rest (g.plain q h) k = suffixed_from c ts rest q k h

  target_from : (c : Expr) (ts rest : Tokens) → TargetOf c ts rest → Both (TargetBase left P Applied) (λ a. Ending P chains a) c ts rest
  target_from c ts rest (q, k) = unary_target c ts rest q k

  pub good_target : {o o' : Bool} → 1 ≤ chains → 1 ≤ chains' → Good p o o' true None closer TargetOf (update_target chains left i) (update_target chains' left' i')
  unfolding update_target
  good_target h h' = lifted (good_as (good_then good_target_base (λ a. good_ending h h' a) refl) target_to target_from)
