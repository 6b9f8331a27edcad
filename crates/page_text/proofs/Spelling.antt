-- What is read is spelled so, and what is spelled so is read.
use Rattle.std.proofs.Common.{◌≡◌, ℕ, suc, ◌<◌, ◌≤◌, ◌⊎◌, inl, inr, Bool, true, false, cond, List, [], ◌∷◌, ◌++◌, Result, Ok, Err, length, drop, refl, ap, sym, ◌∙◌, subst, arith}
use Rattle.std.proofs.lemmas.Bool.{le-ltb, ltb-false, eqb-true, eq-eqb}
use Rattle.std.proofs.Common.{ltb}
use Rattle.std.specs.Str.{chars}
use Rattle.base_text.specs.declared.text.TheConstants.{TEXT_LIMIT}
use Rattle.page_text.specs.declared.faults.PageKind.{PageKind}
use Rattle.page_text.specs.declared.faults.PageKind.TheVariants.{TooLong, Unclosed, BadTag}
use Rattle.page_text.specs.declared.scan.Stop.TheVariants.{AfterSpace, AfterName, AfterAttribute, AfterUnquoted, AtByte}
use Rattle.page_text.specs.declared.tags.Attribute.{Attribute}
use Rattle.page_text.specs.Bytes.{Bytes, sees, lowered}
use Rattle.page_text.specs.ScansModel.{before, from, stops}
use Rattle.page_text.specs.ValuesModel.{read_value}
use Rattle.page_text.specs.Outcomes.{Outcome, ◌>>=◌, checked}
use Rattle.page_text.specs.TagsModel as t
use Rattle.page_text.specs.TagsModel.{Tag, attribute_of, with_attribute, is_empty, after_space}
use Rattle.page_text.specs.Grammar.{Upto, Space, AttributeName, Equals, Value, in_quotes, unquoted, IsAttribute, bare, valued, IsEndTag}
use Rattle.page_text.specs.ValuesModel.{spells}
use Rattle.page_text.proofs.Reading.{spelled_front}
use Rattle.page_text.proofs.Scanning.{parts_join, before_clear, from_stops}

-- ---- a text up to a place

pub upto_here : (q : Bytes → Bool) (text : Bytes) → Upto q text (before q text) (from q text)
upto_here q text = record { whole = sym (parts_join q text); clear = before_clear q text; stop = from_stops q text }

upto_parts : (q : Bytes → Bool) (front behind : Bytes) → ((k : ℕ) → k < length front → q (drop k (front ++ behind)) ≡ false) → ((behind ≡ []) ⊎ (q behind ≡ true)) → (front ≡ before q (front ++ behind)) × (behind ≡ from q (front ++ behind))
unfolding before from
upto_parts q [] [] clear stop = (refl, refl)
upto_parts q [] (b ∷ bs) clear (inl e) = absurd (cc)
upto_parts q [] (b ∷ bs) clear (inr e) = (rw e refl, rw e refl)
upto_parts q (f ∷ front) behind clear stop =
    let here = clear 0 (omega arith) in
    let more = upto_parts q front behind (λ k h. clear (suc k) (omega arith)) stop in
    (rw here (ap (λ xs. f ∷ xs) more.0), rw here more.1)

pub upto_is : (q : Bytes → Bool) (text front behind : Bytes) → Upto q text front behind → (front ≡ before q text) × (behind ≡ from q text)
upto_is q text front behind u =
    let at = upto_parts q front behind (λ k h. rw (← u.whole) (u.clear k h)) u.stop in
    (rw u.whole at.0, rw u.whole at.1)

-- ---- answers

pub bind_ok : {A B : Type 0} (r : Outcome A) (f : A → Outcome B) (y : B) → (r >>= f) ≡ Ok y → (x : A) × (r ≡ Ok x) × (f x ≡ Ok y)
bind_ok (Ok x) f y h = (x, refl, h)
bind_ok (Err e) f y h = absurd (cc)

pub err_ok : {A E B : Type 0} (e : E) (a : A) → ◌≡◌ {A = Result A E} (Err e) (Ok a) → B
err_ok e a h = absurd (cc)

ok_same : {A : Type 0} (x y : A) → ◌≡◌ {A = Outcome A} (Ok x) (Ok y) → x ≡ y
ok_same x y h = cc

pub pair_same : {A B : Type 0} (a b : A) (x y : B) → ◌≡◌ {A = Outcome (A × B)} (Ok (a, x)) (Ok (b, y)) → (a ≡ b) × (x ≡ y)
pair_same {A = A} {B = B} a b x y h = let e = ok_same (a, x) (b, y) h in (ap (λ (p : A × B). p.0) e, ap (λ (p : A × B). p.1) e)

checked_ok_at : (read at : Bytes) (x : List ℕ) (v : Bool) → ltb TEXT_LIMIT (length read) ≡ v → ◌≡◌ {A = Outcome (List ℕ)} (cond v (Err (TooLong, at)) (Ok (chars read))) (Ok x) → (length read ≤ TEXT_LIMIT) × (x ≡ chars read)
checked_ok_at read at x true e h = err_ok (TooLong, at) x h
checked_ok_at read at x false e h = (ltb-false TEXT_LIMIT (length read) e, sym (ok_same (chars read) x h))

pub checked_ok : (read at : Bytes) (x : List ℕ) → checked read at ≡ Ok x → (length read ≤ TEXT_LIMIT) × (x ≡ chars read)
unfolding checked
checked_ok read at x h = checked_ok_at read at x (ltb TEXT_LIMIT (length read)) refl h

pub checked_again : (read at : Bytes) → length read ≤ TEXT_LIMIT → checked read at ≡ Ok (chars read)
unfolding checked
checked_again read at h = rw (le-ltb TEXT_LIMIT (length read) h) refl

pub sees_cons : (b : ℕ) (text : Bytes) → sees b text ≡ true → text ≡ b ∷ drop 1 text
sees_cons b [] h = absurd (cc)
sees_cons b (c ∷ cs) h = ap (λ x. x ∷ cs) (eqb-true c b h)

sees_here : (b : ℕ) (rest : Bytes) → sees b (b ∷ rest) ≡ true
sees_here b rest = eq-eqb b b refl

some_length : (text : Bytes) → is_empty text ≡ false → 0 < length text
some_length [] h = absurd (cc)
some_length (b ∷ bs) h = omega arith

not_empty : (text : Bytes) → 0 < length text → is_empty text ≡ false
not_empty [] h = absurd (omega arith)
not_empty (b ∷ bs) h = refl

-- ---- values

-- the attribute of a value of these bytes
record IsValued (name : List ℕ) (text : Bytes) (a : Attribute) (rest : Bytes) : Type 0 where
  raw : Bytes
  value : Value text raw rest
  short : length (read_value raw) ≤ TEXT_LIMIT
  same : a ≡ attribute_of name (chars (read_value raw))

valued_ok : (name : List ℕ) (raw at rest : Bytes) (a : Attribute) (r : Bytes) → t.valued name raw at rest ≡ Ok (a, r) → (length (read_value raw) ≤ TEXT_LIMIT) × (a ≡ attribute_of name (chars (read_value raw))) × (rest ≡ r)
unfolding t.valued
valued_ok name raw at rest a r h =
    let b = bind_ok (checked (read_value raw) at) (λ v. Ok (attribute_of name v, rest)) (a, r) h in
    let c = checked_ok (read_value raw) at b.0 b.1 in
    let e = pair_same (attribute_of name b.0) a rest r b.2 in
    (c.0, sym e.0 ∙ ap (attribute_of name) c.1, e.1)

quoted_ok_at : (start : Bytes) (name : List ℕ) (q : ℕ) (inside : Bytes) (a : Attribute) (r : Bytes) → (q ≡ 34) ⊎ (q ≡ 39) → (v : Bool) → sees q (from (stops (AtByte q)) inside) ≡ v
    → cond v (t.valued name (before (stops (AtByte q)) inside) inside (drop 1 (from (stops (AtByte q)) inside))) (Err (Unclosed, start)) ≡ Ok (a, r) → IsValued name (q ∷ inside) a r
quoted_ok_at start name q inside a r qs true e h =
    let p = valued_ok name _ _ _ a r h in
    record {
      raw = before (stops (AtByte q)) inside;
      value = in_quotes q inside _ (from (stops (AtByte q)) inside) r qs refl (upto_here (stops (AtByte q)) inside) (sees_cons q _ e ∙ ap (λ xs. q ∷ xs) p.2);
      short = p.0;
      same = p.1;
    }
quoted_ok_at start name q inside a r qs false e h = err_ok _ _ h

quoted_ok : (start : Bytes) (name : List ℕ) (q : ℕ) (inside : Bytes) (a : Attribute) (r : Bytes) → (q ≡ 34) ⊎ (q ≡ 39) → t.quoted start name q inside ≡ Ok (a, r) → IsValued name (q ∷ inside) a r
unfolding t.quoted
quoted_ok start name q inside a r qs h = quoted_ok_at start name q inside a r qs (sees q (from (stops (AtByte q)) inside)) refl h

value_ok_at : (start : Bytes) (name : List ℕ) (text : Bytes) (a : Attribute) (r : Bytes) (d s e g : Bool) → sees 34 text ≡ d → sees 39 text ≡ s → is_empty text ≡ e → sees 62 text ≡ g
    → cond d (t.quoted start name 34 (drop 1 text)) (cond s (t.quoted start name 39 (drop 1 text)) (cond e (Err (Unclosed, start)) (cond g (Err (BadTag, text)) (t.valued name (before (stops AfterUnquoted) text) text (from (stops AfterUnquoted) text))))) ≡ Ok (a, r)
    → IsValued name text a r
value_ok_at start name text a r true s e g p q m n h = subst (λ x. IsValued name x a r) (sym (sees_cons 34 text p)) (quoted_ok start name 34 (drop 1 text) a r (inl refl) h)
value_ok_at start name text a r false true e g p q m n h = subst (λ x. IsValued name x a r) (sym (sees_cons 39 text q)) (quoted_ok start name 39 (drop 1 text) a r (inr refl) h)
value_ok_at start name text a r false false true g p q m n h = err_ok _ _ h
value_ok_at start name text a r false false false true p q m n h = err_ok _ _ h
value_ok_at start name text a r false false false false p q m n h =
    let v = valued_ok name _ _ _ a r h in
    record {
      raw = before (stops AfterUnquoted) text;
      value = subst (λ x. Value text (before (stops AfterUnquoted) text) x) v.2 (unquoted _ _ p q n (some_length text m) (upto_here (stops AfterUnquoted) text));
      short = v.0;
      same = v.1;
    }

value_ok : (start : Bytes) (name : List ℕ) (text : Bytes) (a : Attribute) (r : Bytes) → t.value_at start name text ≡ Ok (a, r) → IsValued name text a r
unfolding t.value_at
value_ok start name text a r h = value_ok_at start name text a r (sees 34 text) (sees 39 text) (is_empty text) (sees 62 text) refl refl refl refl h

valued_again : (name : List ℕ) (raw at rest : Bytes) → length (read_value raw) ≤ TEXT_LIMIT → t.valued name raw at rest ≡ Ok (attribute_of name (chars (read_value raw)), rest)
unfolding t.valued
valued_again name raw at rest h = rw (checked_again (read_value raw) at h) refl

quoted_again : (start : Bytes) (name : List ℕ) (q : ℕ) (inside raw close rest : Bytes) → Upto (stops (AtByte q)) inside raw close → close ≡ q ∷ rest → length (read_value raw) ≤ TEXT_LIMIT → t.quoted start name q inside ≡ Ok (attribute_of name (chars (read_value raw)), rest)
unfolding t.quoted
quoted_again start name q inside raw close rest u c h =
    let p = upto_is (stops (AtByte q)) inside raw close u in
    let e : from (stops (AtByte q)) inside ≡ q ∷ rest = sym p.1 ∙ c in
    rw (← p.0, e, sees_here q rest) (valued_again name raw inside rest h)

value_again_in : (start : Bytes) (name : List ℕ) (q : ℕ) (inside raw rest : Bytes) → (q ≡ 34) ⊎ (q ≡ 39) → t.quoted start name q inside ≡ Ok (attribute_of name (chars (read_value raw)), rest) → t.value_at start name (q ∷ inside) ≡ Ok (attribute_of name (chars (read_value raw)), rest)
unfolding t.value_at
value_again_in start name q inside raw rest (inl e) h = rw e (rw e at h)
value_again_in start name q inside raw rest (inr e) h = rw e (rw e at h)

value_again : (start : Bytes) (name : List ℕ) (text raw rest : Bytes) → Value text raw rest → length (read_value raw) ≤ TEXT_LIMIT → t.value_at start name text ≡ Ok (attribute_of name (chars (read_value raw)), rest)
unfolding t.value_at
value_again start name text raw rest (in_quotes q inside raw' close rest' qs e u c) h = rw e (value_again_in start name q inside raw rest qs (quoted_again start name q inside raw close rest u c h))
value_again start name text raw rest (unquoted raw' rest' p q n some u) h =
    let v = upto_is (stops AfterUnquoted) text raw rest u in
    rw (p, q, not_empty text some, n, ← v.0, ← v.1) (valued_again name raw text rest h)

-- ---- attributes

equals_here : (text : Bytes) → sees 61 (after_space text) ≡ true → Equals text (after_space (drop 1 (after_space text)))
equals_here text e = record {
  gap = before (stops AfterSpace) text;
  after_gap = after_space text;
  after_sign = drop 1 (after_space text);
  more = before (stops AfterSpace) (drop 1 (after_space text));
  before_sign = upto_here (stops AfterSpace) text;
  sign = sees_cons 61 (after_space text) e;
  behind_sign = upto_here (stops AfterSpace) (drop 1 (after_space text));
}

named_ok_at : (start text after raw : Bytes) (name : List ℕ) (a : Attribute) (r : Bytes) → AttributeName text raw after → name ≡ chars (lowered raw) → (v : Bool) → sees 61 (after_space after) ≡ v
    → cond v (t.value_at start name (after_space (drop 1 (after_space after)))) (Ok (attribute_of name [], after)) ≡ Ok (a, r) → IsAttribute text a r
named_ok_at start text after raw name a r named n true e h =
    let v = value_ok start name (after_space (drop 1 (after_space after))) a r h in
    subst (λ x. IsAttribute text x r) (ap (λ m. attribute_of m (chars (read_value v.raw))) (sym n) ∙ sym v.same) (valued raw after _ v.raw r named (equals_here after e) v.value v.short)
named_ok_at start text after raw name a r named n false e h =
    let p = pair_same (attribute_of name []) a after r h in
    subst (λ x. IsAttribute text x r) (ap (λ m. attribute_of m []) (sym n) ∙ p.0)
    (subst (λ x. IsAttribute text (attribute_of (chars (lowered raw)) []) x) p.1 (bare raw (before (stops AfterSpace) after) (after_space after) after named (upto_here (stops AfterSpace) after) e))

named_ok : (start text after raw : Bytes) (name : List ℕ) (a : Attribute) (r : Bytes) → AttributeName text raw after → name ≡ chars (lowered raw) → t.named_at start name after ≡ Ok (a, r) → IsAttribute text a r
unfolding t.named_at
named_ok start text after raw name a r named n h = named_ok_at start text after raw name a r named n (sees 61 (after_space after)) refl h

pub attribute_ok : (start text : Bytes) (a : Attribute) (r : Bytes) → t.attribute_at start text ≡ Ok (a, r) → IsAttribute text a r
unfolding t.attribute_at
attribute_ok start text a r h =
    let raw = before (stops AfterAttribute) text in
    let b = bind_ok (checked (lowered raw) text) (λ name. t.named_at start name (from (stops AfterAttribute) text)) (a, r) h in
    let c = checked_ok (lowered raw) text b.0 b.1 in
    named_ok start text (from (stops AfterAttribute) text) raw b.0 a r (upto_here (stops AfterAttribute) text, c.0) c.1 b.2

named_bare : (start : Bytes) (name : List ℕ) (text gap behind : Bytes) → Space text gap behind → sees 61 behind ≡ false → t.named_at start name text ≡ Ok (attribute_of name [], text)
unfolding t.named_at
named_bare start name text gap behind u e =
    let p = upto_is (stops AfterSpace) text gap behind u in
    rw (← p.1, e) refl

named_valued : (start : Bytes) (name : List ℕ) (text value raw rest : Bytes) → Equals text value → Value value raw rest → length (read_value raw) ≤ TEXT_LIMIT → t.named_at start name text ≡ Ok (attribute_of name (chars (read_value raw)), rest)
unfolding t.named_at
named_valued start name text value raw rest q v h =
    let p = upto_is (stops AfterSpace) text q.gap q.after_gap q.before_sign in
    let e : from (stops AfterSpace) text ≡ 61 ∷ q.after_sign = sym p.1 ∙ q.sign in
    let m = upto_is (stops AfterSpace) q.after_sign q.more value q.behind_sign in
    rw (e, ← m.1) (value_again start name value raw rest v h)

pub attribute_again : (start text : Bytes) (a : Attribute) (r : Bytes) → IsAttribute text a r → t.attribute_at start text ≡ Ok (a, r)
unfolding t.attribute_at
attribute_again start text a r (bare name gap behind r' named space other) =
    let p = upto_is (stops AfterAttribute) text name r named.0 in
    rw (← p.0, ← p.1, checked_again (lowered name) text named.1) (named_bare start (chars (lowered name)) r gap behind space other)
attribute_again start text a r (valued name after value raw r' named equals v h) =
    let p = upto_is (stops AfterAttribute) text name after named.0 in
    rw (← p.0, ← p.1, checked_again (lowered name) text named.1) (named_valued start (chars (lowered name)) after value raw r equals v h)

-- ---- end tags

module _ (text name rest : Bytes) where
  end_ok_at : (v w : Bool) → spells (60 ∷ (47 ∷ [])) text ≡ v → sees 62 (after_space (t.after_name (drop 2 text))) ≡ w → (e : PageKind × Bytes) (f : PageKind × Bytes)
      → ◌≡◌ {A = Outcome (Bytes × Bytes)} (cond v (cond w (Ok (lowered (t.name_of (drop 2 text)), drop 1 (after_space (t.after_name (drop 2 text))))) (Err e)) (Err f)) (Ok (name, rest)) → IsEndTag text name rest
  end_ok_at true true p q e f h =
      let s = pair_same (lowered (t.name_of (drop 2 text))) name (drop 1 (after_space (t.after_name (drop 2 text)))) rest h in
      record {
        inside = drop 2 text;
        raw = t.name_of (drop 2 text);
        after_name = t.after_name (drop 2 text);
        gap = before (stops AfterSpace) (t.after_name (drop 2 text));
        end = after_space (t.after_name (drop 2 text));
        mark = spelled_front (60 ∷ (47 ∷ [])) text p;
        named = upto_here (stops AfterName) (drop 2 text);
        space = upto_here (stops AfterSpace) (t.after_name (drop 2 text));
        close = sees_cons 62 _ q ∙ ap (λ xs. 62 ∷ xs) s.1;
        lower = sym s.0;
      }
  end_ok_at true false p q e f h = err_ok _ _ h
  end_ok_at false w p q e f h = err_ok _ _ h

pub end_again : (text name rest : Bytes) → IsEndTag text name rest → t.end_tag_at text ≡ Ok (name, rest)
unfolding t.end_tag_at
end_again text name rest e =
    let p = upto_is (stops AfterName) e.inside e.raw e.after_name e.named in
    let q = upto_is (stops AfterSpace) e.after_name e.gap e.end e.space in
    rw (e.mark, ← p.1, ← p.0, ← q.1, e.close, e.lower) refl

end_ok_in : (text name rest : Bytes) (v w x : Bool) → spells (60 ∷ (47 ∷ [])) text ≡ v → sees 62 (after_space (t.after_name (drop 2 text))) ≡ w
    → ◌≡◌ {A = Outcome (Bytes × Bytes)} (cond v (cond w (Ok (lowered (t.name_of (drop 2 text)), drop 1 (after_space (t.after_name (drop 2 text))))) (cond x (Err (Unclosed, text)) (Err (BadTag, after_space (t.after_name (drop 2 text)))))) (Err (BadTag, text))) (Ok (name, rest)) → IsEndTag text name rest
end_ok_in text name rest v w true p q h = end_ok_at text name rest v w p q (Unclosed, text) (BadTag, text) h
end_ok_in text name rest v w false p q h = end_ok_at text name rest v w p q (BadTag, after_space (t.after_name (drop 2 text))) (BadTag, text) h

pub end_ok : (text name rest : Bytes) → t.end_tag_at text ≡ Ok (name, rest) → IsEndTag text name rest
unfolding t.end_tag_at
end_ok text name rest h = end_ok_in text name rest (spells (60 ∷ (47 ∷ [])) text) (sees 62 (after_space (t.after_name (drop 2 text)))) (is_empty (after_space (t.after_name (drop 2 text)))) refl refl h
