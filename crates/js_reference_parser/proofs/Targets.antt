-- The operand of a `++` or `--` before it: a name, or what ends as a member. In its last place no call is begun.
use Rattle.std.proofs.Common.{◌≡◌, ◌||◌, ◌&&◌, ℕ, zero, suc, Bool, true, false, not, cond, List, [], ◌∷◌, ◌++◌, Option, None, Ok, Err, refl, sym, ap, ◌∙◌, append_assoc}
use Rattle.js_syntax.specs.declared.token.Token.{Token}
use Rattle.js_syntax.specs.declared.symbol.Symbol.{Symbol}
use Rattle.js_syntax.specs.declared.symbol.Symbol.TheVariants as s
use Rattle.js_syntax.specs.declared.parse_fault.ParseKind.{ParseKind}
use Rattle.js_syntax.specs.declared.parse_fault.ParseKind.TheVariants.{Unexpected, TooDeep}
use Rattle.js_syntax.specs.declared.tree.Expr.{Expr}
use Rattle.js_syntax.specs.declared.tree.Expr.TheVariants as ex
use Rattle.js_syntax.specs.Symbols.{Tokens, next, is, among, sees}
use Rattle.js_syntax.specs.Spelling.{Spelling, Both, Links}
use Rattle.js_syntax.specs.Words.{member_names, is_target, suffixes, member_suffixes, updates, update_of, is_postfix, prefixed}
use Rattle.js_syntax.specs.Grammar.{Parts, Arguments, Primary, Suffix}
use Rattle.js_combinators.specs.Readers.{Outcome, and_then, ◌>>=◌, pure, refuse, look, on}
use Rattle.js_combinators.proofs.Laws.{Sane, Opens}
use Rattle.js_combinators.proofs.Wider.{Wider}
use Rattle.js_combinators.proofs.Sets.{Follow, May, may_past, is_plain, among_apart, among_subset, sees_outside, among_append, and_within, among_subset_one}
use Rattle.js_combinators.proofs.Spells.{Same, On, on_passes, Above}
use Rattle.js_combinators.proofs.Good.{Laws, Taken}
use Rattle.js_combinators.proofs.Loops.{denies, deny_passes, sane_denied}
use Rattle.js_reference_parser.specs.ExpressionsModel.{Inside, closed, member_of, index_of, call_of, suffix, denied, accept, target_chain}
use Rattle.js_reference_parser.proofs.Samples.{semicolon, dot, dollar, is_semicolon, is_dot, is_name}
use Rattle.js_reference_parser.proofs.Lists.{closers, closer}
use Rattle.js_syntax.specs.declared.tree.Expr as tree
use Rattle.js_combinators.proofs.Laws.{sane_pure, sane_refuse, sane_deny, sane_bind}
use Rattle.js_combinators.proofs.Wider.{wider_pure, wider_unexpected, wider_look}
use Rattle.js_combinators.proofs.Where.{Yields, Such, sane_bind_where}

-- what a `new` is applied to where its arguments stand next
abbrev pub NewApplied : Parts → Spelling Expr → Spelling Expr
NewApplied P Applied = Both Applied (λ a. Both (Taken s.OpenParen) (λ u. Both (Arguments P) (λ all. Same (ex.New a all))))

abbrev pub TargetBase : ℕ → Parts → Spelling Expr → Spelling Expr
TargetBase left P Applied = On (is s.New) (Above left (λ t. NewApplied P Applied)) (Primary P)

abbrev pub AppliedOf : ℕ → ℕ → Parts → Spelling Expr → Spelling Expr
AppliedOf chains left P Applied = Both (TargetBase left P Applied) (λ a. Links (among member_suffixes) (Suffix P) chains a)

-- ---- names and members

pub member_target : (a : Expr) (n : List ℕ) → is_target (ex.Member a n) ≡ true
unfolding is_target tree.out-Expr denote.Hole.Carrier.out
member_target a n = refl

pub index_target : (a b : Expr) → is_target (ex.Index a b) ≡ true
unfolding is_target tree.out-Expr denote.Hole.Carrier.out
index_target a b = refl

pub call_no_target : (a : Expr) (all : List Expr) → is_target (ex.Call a all) ≡ false
unfolding is_target tree.out-Expr denote.Hole.Carrier.out
call_no_target a all = refl

pub new_no_target : (a : Expr) (all : List Expr) → is_target (ex.New a all) ≡ false
unfolding is_target tree.out-Expr denote.Hole.Carrier.out
new_no_target a all = refl

pub postfix_no_target : (a : Expr) (b : Bool) (x : Symbol) → is_target (ex.Postfix (update_of x) a) ≡ false
unfolding is_target tree.out-Expr denote.Hole.Carrier.out
postfix_no_target a b x = refl

pub update_no_target : (a : Expr) (x : Symbol) → is_target (ex.Prefix (update_of x) a) ≡ false
unfolding is_target tree.out-Expr denote.Hole.Carrier.out
update_no_target a x = refl

pub prefixed_no_target : (x : Symbol) (a : Expr) → is_target (prefixed x a) ≡ false
unfolding is_target tree.out-Expr denote.Hole.Carrier.out
prefixed_no_target s.Delete a = refl
prefixed_no_target s.TypeOf a = refl
prefixed_no_target s.Not a = refl
prefixed_no_target s.Plus a = refl
prefixed_no_target x a = refl

-- ---- what may follow them

pub suffix_parts : (t : Token) → among suffixes t ≡ (among member_suffixes t || is s.OpenParen t)
suffix_parts t = among_append member_suffixes (s.OpenParen ∷ []) t

pub no_member_suffix : (o : Option Token) → sees (among suffixes) o ≡ false → sees (among member_suffixes) o ≡ false
no_member_suffix o h = sees_outside (among member_suffixes) suffixes (λ t e. among_subset member_suffixes suffixes refl t e) o h

pub no_call : (o : Option Token) → sees (among suffixes) o ≡ false → sees (is s.OpenParen) o ≡ false
no_call o h = sees_outside (is s.OpenParen) suffixes (λ t e. among_subset_one suffixes s.OpenParen refl t e) o h

pub denied_suffix : (left : ℕ) (t : Token) → denies (denied left) t ≡ true → among suffixes t ≡ true
denied_suffix zero t e = among_subset (s.OpenBracket ∷ []) suffixes refl t e
denied_suffix (suc left) t e = absurd cc

pub denied_member_suffix : (left : ℕ) (t : Token) → denies (denied left) t ≡ true → among member_suffixes t ≡ true
denied_member_suffix zero t e = among_subset (s.OpenBracket ∷ []) member_suffixes refl t e
denied_member_suffix (suc left) t e = absurd cc

pub none_denied : (left : ℕ) (o : Option Token) → sees (among suffixes) o ≡ false → sees (denies (denied left)) o ≡ false
none_denied left o h = sees_outside (denies (denied left)) suffixes (denied_suffix left) o h

pub none_denied_member : (left : ℕ) (o : Option Token) → sees (among member_suffixes) o ≡ false → sees (denies (denied left)) o ≡ false
none_denied_member left o h = sees_outside (denies (denied left)) member_suffixes (denied_member_suffix left) o h

closer_no_suffix : (rest : Tokens) → May closer rest → sees (among suffixes) (next rest) ≡ false
closer_no_suffix rest m = may_past closer (among suffixes) suffixes (λ t h. h) refl rest m

closer_no_update : (a : Expr) (rest : Tokens) → May closer rest → sees (is_postfix a) (next rest) ≡ false
closer_no_update a rest m = may_past closer (is_postfix a) updates (and_within updates (λ t. not t.line_before && is_target a)) refl rest m

-- ---- accepting

pub accepts : (a : Expr) (ts : Tokens) → is_target a ≡ true → sees (is_postfix a) (next ts) ≡ false → accept a ts ≡ Ok (a, ts)
unfolding accept
accepts a ts h k = ap (λ b. cond b (Err (Unexpected, ts)) (cond (is_target a) (Ok (a, ts)) (Err (Unexpected, ts)))) k ∙ ap (λ b. cond b (Ok (a, ts)) (Err (Unexpected, ts))) h

sane_cond : (F : Tokens → Type 0) (b : Bool) (a : Expr) → Sane {A = Expr} F (λ ts. cond b (Ok (a, ts)) (Err (Unexpected, ts)))
sane_cond F true a = sane_pure F a
sane_cond F false a = sane_refuse F Unexpected

sane_accept : (a : Expr) → Sane (May closer) (accept a)
unfolding accept
sane_accept a = sane_deny (May closer) (sees (is_postfix a)) Unexpected (λ ts. cond (is_target a) (Ok (a, ts)) (Err (Unexpected, ts))) (sane_cond (May closer) (is_target a) a) (λ rest b m e. closer_no_update a rest m)

wider_cond : (b : Bool) (a : Expr) → Wider {A = Expr} (λ ts. cond b (Ok (a, ts)) (Err (Unexpected, ts))) (λ ts. cond b (Ok (a, ts)) (Err (Unexpected, ts)))
wider_cond true a = wider_pure a
wider_cond false a = wider_unexpected

pub wider_accept : (a : Expr) → Wider (accept a) (accept a)
unfolding accept
wider_accept a = wider_look (sees (is_postfix a)) (refuse Unexpected) (refuse Unexpected) _ _ wider_unexpected (wider_cond (is_target a) a)

abbrev ok : Expr × Tokens → Outcome Expr
ok p = Ok p

ok_is : (p q : Expr × Tokens) → ok p ≡ Ok q → p ≡ q
ok_is p q e = cc

never : (e : ParseKind × Tokens) (p : Expr × Tokens) → Err e ≡ ok p → ⊥
never e p h = cc

accepted : (a c : Expr) (ts rest : Tokens) (b v : Bool) → is_target a ≡ b → sees (is_postfix a) (next ts) ≡ v → cond v (Err (Unexpected, ts)) (cond b (ok (a, ts)) (Err (Unexpected, ts))) ≡ Ok (c, rest) → (c ≡ a) × (rest ≡ ts) × (is_target a ≡ true) × (sees (is_postfix a) (next ts) ≡ false)
accepted a c ts rest b true h k e = absurd (never (Unexpected, ts) (c, rest) e)
accepted a c ts rest true false h k e = let q = ok_is (a, ts) (c, rest) e in (sym (ap (λ (x : Expr × Tokens). x.0) q), sym (ap (λ (x : Expr × Tokens). x.1) q), h, k)
accepted a c ts rest false false h k e = absurd (never (Unexpected, ts) (c, rest) e)

pub accept_ok : (a c : Expr) (ts rest : Tokens) → accept a ts ≡ Ok (c, rest) → (c ≡ a) × (rest ≡ ts) × (is_target a ≡ true) × (sees (is_postfix a) (next ts) ≡ false)
unfolding accept
accept_ok a c ts rest e = accepted a c ts rest (is_target a) (sees (is_postfix a) (next ts)) refl refl e

-- ---- the chain, at one limit

module _ (left : ℕ) (i : Inside) where
  pub target_ends : (n : ℕ) (a : Expr) (rest : Tokens) → sees (among suffixes) (next rest) ≡ false → is_target a ≡ true → sees (is_postfix a) (next rest) ≡ false → target_chain n left i a rest ≡ Ok (a, rest)
  unfolding target_chain
  target_ends zero a rest h k j = ap (λ b. cond b (Err (TooDeep, rest)) (accept a rest)) h ∙ accepts a rest k j
  target_ends (suc zero) a rest h k j =
      deny_passes (denied left) (on (among member_suffixes) (λ t. suffix left i a t >>= target_chain zero left i) (look (sees (is s.OpenParen)) (refuse TooDeep) (accept a))) rest (none_denied left (next rest) h)
      ∙ on_passes (among member_suffixes) (λ t. suffix left i a t >>= target_chain zero left i) (look (sees (is s.OpenParen)) (refuse TooDeep) (accept a)) rest (no_member_suffix (next rest) h)
      ∙ ap (λ b. cond b (Err (TooDeep, rest)) (accept a rest)) (no_call (next rest) h) ∙ accepts a rest k j
  target_ends (suc (suc n)) a rest h k j =
      deny_passes (denied left) (on (among suffixes) (λ t. suffix left i a t >>= target_chain (suc n) left i) (accept a)) rest (none_denied left (next rest) h)
      ∙ on_passes (among suffixes) (λ t. suffix left i a t >>= target_chain (suc n) left i) (accept a) rest h ∙ accepts a rest k j

module _ (left : ℕ) (i : Inside) (steps : (F : Follow) (a : Expr) (t : Token) → among suffixes t ≡ true → denies (denied left) t ≡ false → Laws true None F (suffix left i a t)) where
  ends_closed : (n : ℕ) (a : Expr) (rest : Tokens) → May closer rest → is_target a ≡ true → target_chain n left i a rest ≡ Ok (a, rest)
  ends_closed n a rest m k = target_ends left i n a rest (closer_no_suffix rest m) k (closer_no_update a rest m)

  dot_member : (a : Expr) (rest : Tokens) → suffix left i a dot (dollar ∷ rest) ≡ Ok (ex.Member a (36 ∷ []), rest)
  unfolding suffix member_of
  dot_member a rest = ap (λ b. cond b (member_of a (dollar ∷ rest)) (cond (is s.OpenBracket dot) (index_of i a (dollar ∷ rest)) (call_of left i a (dollar ∷ rest)))) is_dot ∙ ap (λ b. cond b (Ok (ex.Member a (36 ∷ []), rest)) (Err (Unexpected, dollar ∷ rest))) (among_subset_one member_names s.Name refl dollar is_name)

  dot_undenied : (left : ℕ) → denies (denied left) dot ≡ false
  dot_undenied zero = among_apart (s.Dot ∷ []) (s.OpenBracket ∷ []) refl dot is_dot
  dot_undenied (suc left) = refl

  -- in a place that is left, a member completes whatever was read
  member_ends : (n : ℕ) (a : Expr) (rest : Tokens) → May closer rest → target_chain (suc n) left i a (dot ∷ (dollar ∷ rest)) ≡ Ok (ex.Member a (36 ∷ []), rest)
  unfolding target_chain
  member_ends zero a rest m =
      deny_passes (denied left) (on (among member_suffixes) (λ t. suffix left i a t >>= target_chain zero left i) (look (sees (is s.OpenParen)) (refuse TooDeep) (accept a))) (dot ∷ (dollar ∷ rest)) (dot_undenied left)
      ∙ ap (λ b. cond b ((suffix left i a dot >>= target_chain zero left i) (dollar ∷ rest)) (look (sees (is s.OpenParen)) (refuse TooDeep) (accept a) (dot ∷ (dollar ∷ rest)))) (among_subset_one member_suffixes s.Dot refl dot is_dot)
      ∙ ap (λ o. and_then o (target_chain zero left i)) (dot_member a rest) ∙ ends_closed zero (ex.Member a (36 ∷ [])) rest m (member_target a (36 ∷ []))
  member_ends (suc n) a rest m =
      deny_passes (denied left) (on (among suffixes) (λ t. suffix left i a t >>= target_chain (suc n) left i) (accept a)) (dot ∷ (dollar ∷ rest)) (dot_undenied left)
      ∙ ap (λ b. cond b ((suffix left i a dot >>= target_chain (suc n) left i) (dollar ∷ rest)) (accept a (dot ∷ (dollar ∷ rest)))) (among_subset_one suffixes s.Dot refl dot is_dot)
      ∙ ap (λ o. and_then o (target_chain (suc n) left i)) (dot_member a rest) ∙ ends_closed (suc n) (ex.Member a (36 ∷ [])) rest m (member_target a (36 ∷ []))

  pub opens_slot : (n : ℕ) (a : Expr) → Opens (May None) (May closer) (target_chain (suc n) left i a)
  opens_slot n a = record { more = dot ∷ (dollar ∷ []); value = ex.Member a (36 ∷ []); before = λ rest m. tt; reads = λ rest m. member_ends n a rest m }

  made_target : (make : Expr → Expr) → ((b : Expr) → is_target (make b) ≡ true) → (o : Outcome Expr) (b : Expr) (rest : Tokens) → and_then o (λ c. pure (make c)) ≡ Ok (b, rest) → is_target b ≡ true
  made_target make h (Ok q) b rest e = ap is_target (sym (ap (λ (x : Expr × Tokens). x.0) (ok_is (make q.0, q.1) (b, rest) e))) ∙ h q.0
  made_target make h (Err v) b rest e = absurd (never v (b, rest) e)

  on_target : (a : Expr) (ts : Tokens) (b : Expr) (rest : Tokens) → member_of a ts ≡ Ok (b, rest) → is_target b ≡ true
  unfolding member_of
  on_target a [] b rest e = absurd (never (Unexpected, []) (b, rest) e)
  on_target a (t ∷ ts) b rest e = cases (among member_names t) e where
    cases : (v : Bool) → cond v (ok (ex.Member a t.text, ts)) (Err (Unexpected, t ∷ ts)) ≡ Ok (b, rest) → is_target b ≡ true
    cases true e = ap is_target (sym (ap (λ (x : Expr × Tokens). x.0) (ok_is (ex.Member a t.text, ts) (b, rest) e))) ∙ member_target a t.text
    cases false e = absurd (never (Unexpected, t ∷ ts) (b, rest) e)

  yields_target : (a : Expr) (t : Token) → among member_suffixes t ≡ true → Yields (λ b. is_target b ≡ true) (suffix left i a t)
  unfolding suffix index_of
  yields_target a t h = record { such = λ ts b rest e. cases ts b rest (is s.Dot t) (is s.OpenBracket t) h e } where
    cases : (ts : Tokens) (b : Expr) (rest : Tokens) (v w : Bool) → (v || w) ≡ true → cond v (member_of a ts) (cond w (index_of i a ts) (call_of left i a ts)) ≡ Ok (b, rest) → is_target b ≡ true
    cases ts b rest true w h e = on_target a ts b rest e
    cases ts b rest false true h e = made_target (λ c. ex.Index a c) (λ c. index_target a c) (closed s.CloseBracket (i.expr true) ts) b rest e
    cases ts b rest false false h e = absurd cc

  sane_last : (a : Expr) → Sane (May closer) (target_chain zero left i a)
  unfolding target_chain
  sane_last a = sane_deny (May closer) (sees (among suffixes)) TooDeep (accept a) (sane_accept a) (λ rest b m e. closer_no_suffix rest m)

  such_last : (a : Expr) (t : Token) → among member_suffixes t ≡ true → Such (λ b. is_target b ≡ true) (May closer) (May closer) (suffix left i a t) (target_chain zero left i)
  such_last a t h = record {
    yields = yields_target a t h;
    sample = semicolon ∷ [];
    follows = among_subset_one closers s.Semicolon refl semicolon is_semicolon;
    opens = λ b k. record { more = []; value = b; before = λ rest m. m; reads = λ rest m. ends_closed zero b rest m k };
    sane = λ b k. sane_last b;
    ends = λ b rest c k m e. m;
  }

  opens_last : (a : Expr) (t : Token) → among member_suffixes t ≡ true → Opens (May None) (May closer) (suffix left i a t) → Opens (May None) (May closer) (suffix left i a t >>= target_chain zero left i)
  opens_last a t h o = record {
    more = o.more;
    value = o.value;
    before = λ rest m. tt;
    reads = λ rest m. ap (λ x. and_then x (target_chain zero left i)) (o.reads rest m) ∙ ends_closed zero o.value rest m ((yields_target a t h).such (o.more ++ rest) o.value rest (o.reads rest m));
  }

  opens_more : (n : ℕ) (a : Expr) (t : Token) → Opens (May None) (May None) (suffix left i a t) → Opens (May None) (May closer) (suffix left i a t >>= target_chain (suc n) left i)
  opens_more n a t o = let q = opens_slot n o.value in record {
    more = o.more ++ q.more;
    value = q.value;
    before = λ rest m. tt;
    reads = λ rest m. ap (λ x. and_then (suffix left i a t x) (target_chain (suc n) left i)) (append_assoc o.more q.more rest) ∙ ap (λ x. and_then x (target_chain (suc n) left i)) (o.reads (q.more ++ rest) tt) ∙ q.reads rest m;
  }

  pub sane_target : (n : ℕ) (a : Expr) → Sane (May closer) (target_chain n left i a)
  unfolding target_chain
  sane_target zero a = sane_last a
  sane_target (suc zero) a = sane_denied (May closer) (denied left) (among member_suffixes) (λ t. suffix left i a t >>= target_chain zero left i) (look (sees (is s.OpenParen)) (refuse TooDeep) (accept a))
      (is_plain (among member_suffixes) member_suffixes (λ t h. h) refl) (none_denied_member left)
      (λ t h k. sane_bind_where (λ b. is_target b ≡ true) (May closer) (May closer) (suffix left i a t) (target_chain zero left i) (steps closer a t (among_subset member_suffixes suffixes refl t h) k).sane (such_last a t h))
      (λ t h k. opens_last a t h (steps closer a t (among_subset member_suffixes suffixes refl t h) k).opens)
      (sane_deny (May closer) (sees (is s.OpenParen)) TooDeep (accept a) (sane_accept a) (λ rest b m e. no_call (next rest) (closer_no_suffix rest m)))
      (λ rest m. no_member_suffix (next rest) (closer_no_suffix rest m))
  sane_target (suc (suc n)) a = sane_denied (May closer) (denied left) (among suffixes) (λ t. suffix left i a t >>= target_chain (suc n) left i) (accept a)
      (is_plain (among suffixes) suffixes (λ t h. h) refl) (none_denied left)
      (λ t h k. sane_bind (May None) (May closer) (suffix left i a t) (target_chain (suc n) left i) (steps None a t h k).sane (λ b. sane_target (suc n) b) (λ b. opens_slot n b) (λ b rest c m e. tt))
      (λ t h k. opens_more n a t (steps None a t h k).opens) (sane_accept a) closer_no_suffix

  pub sane_more : (n : ℕ) (a : Expr) (t : Token) → among suffixes t ≡ true → denies (denied left) t ≡ false → Sane (May closer) (suffix left i a t >>= target_chain (suc n) left i)
  sane_more n a t h k = sane_bind (May None) (May closer) (suffix left i a t) (target_chain (suc n) left i) (steps None a t h k).sane (λ b. sane_target (suc n) b) (λ b. opens_slot n b) (λ b rest c m e. tt)
