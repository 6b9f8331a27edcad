-- Laws of how bytes are read.
use Rattle.std.proofs.Common.{◌≡◌, ◌≢◌, ℕ, suc, zero, ◌+◌, ◌<◌, ◌⊎◌, inl, inr, Bool, true, false, cond, ◌&&◌, ◌||◌, ◌==◌, [], ◌∷◌, ◌++◌, Option, Some, None, Result, Ok, Err, MatchOption, length, drop, refl, ap, sym, subst, ◌∙◌, arith, append_assoc, append-nil, length-append}
use Rattle.std.specs.Str.Pattern.{FindsTextPrefix}
use Rattle.std.specs.Borrow.{Bor}
use Rattle.std.proofs.Math.Seq.{drop-append_seam}
use Rattle.std.proofs.lemmas.Bool.{and_parts, eqb-true, and_right, false≢true, true≢false, false_from_ne_true}
use Rattle.std.proofs.lemmas.Bool.Decides.{nat_tests}
use Rattle.std.specs.Str.{IsUtf8, IsCharBoundary}
use Rattle.std.proofs.lemmas.Str.{IsUtf8-drop, IsCharBoundary-after_ascii}
use Rattle.page_text.specs.Bytes.{Bytes, sees, begins, is_letter, opens}
use Rattle.dom_semantics.specs.Whitespace.{is_white_space}
use Rattle.page_text.specs.ScansModel.{before, from, stops, is_markup}
use Rattle.page_text.specs.declared.scan.Stop.TheVariants.{AtByte, AfterSpace, AtMarkup}
use Rattle.page_text.specs.ValuesModel.{Leaves, ReadsEntity, spells, with_line_ends, entity_at, unescaped_past}
use Rattle.page_text.specs.declared.faults.PageKind.{PageKind}
use Rattle.page_text.specs.declared.faults.Failed.{Failed}
use Rattle.page_text.specs.declared.faults.Failed.TheVariants.{Memory, Fault}
use Rattle.page_text.specs.Outcomes.{Answers, Fails, Gives, IsLess, Outcome}
use Rattle.std.specs.Prelude.{codes}
use Rattle.page_text.specs.TagsModel.{is_empty}
use Rattle.page_text.specs.StepsModel.{nothing, comment, doctype, start_tag, end_tag, bad, run, front_of}
use Rattle.page_text.proofs.Scanning.{parts_join, from_stops, from_on}

same_byte : (b : ℕ) → (b == b) ≡ true
same_byte b = grind (arith, nat_tests)

pub spells_front : (word rest : Bytes) → spells word (word ++ rest) ≡ true
spells_front [] rest = refl
spells_front (w ∷ word) rest = rw (same_byte w) (spells_front word rest)

pub spelled_front : (word text : Bytes) → spells word text ≡ true → text ≡ word ++ drop (length word) text
spelled_front [] text h = refl
spelled_front (w ∷ word) [] h = cc
spelled_front (w ∷ word) (b ∷ text) h =
    let p = and_parts _ _ h in
    let e = eqb-true b w p.0 in
    let next = spelled_front word text p.1 in
    rw e (ap (λ xs. w ∷ xs) next)

pub spells_not : (word text : Bytes) → ((rest : Bytes) → text ≢ word ++ rest) → spells word text ≡ false
spells_not word text h = false_from_ne_true (spells word text) (λ e. h (drop (length word) text) (spelled_front word text e))

pub after_is : (word text : Bytes) (r : Option (Bor Bytes)) → IsUtf8 text → MatchOption r (FindsTextPrefix word text None) (λ x. (n : ℕ) × FindsTextPrefix word text (Some n) × (x.now ≡ drop n text) × (length x.now + n ≡ length text)) → MatchOption r (spells word text ≡ false) (Leaves word text)
after_is word text None u h = spells_not word text h
after_is word text (Some x) u h =
    let split = h.1.1 in
    let whole : text ≡ word ++ x.now = rw h.2 split in
    record {
      spelled = rw whole (spells_front word x.now);
      whole = whole;
      utf8 = rw (h.2, h.1.0) (IsUtf8-drop text (length word) u h.1.2);
    }

pub reads_entity : (word text : Bytes) (c n : ℕ) (rest : Bor Bytes) → Leaves word text rest → length word ≡ suc n → c < 128 → entity_at text ≡ Some (c, suc n) → ReadsEntity text c rest.now
reads_entity word text c n rest l e small h = record {
  small = small;
  length_of = n;
  entity = h;
  behind = rw (← e, l.whole) (sym (drop-append_seam word rest.now));
  utf8 = l.utf8;
  less = omega (arith, ap length l.whole, length-append word rest.now, e);
}

line_ends_step : (b : ℕ) (bs : Bytes) (v : Bool) → (b == 13) ≡ v → with_line_ends bs ≡ before (stops (AtByte 13)) bs ++ with_line_ends (from (stops (AtByte 13)) bs) → with_line_ends (b ∷ bs) ≡ cond v [] (b ∷ before (stops (AtByte 13)) bs) ++ with_line_ends (cond v (b ∷ bs) (from (stops (AtByte 13)) bs))
unfolding with_line_ends
line_ends_step b bs true e h = refl
line_ends_step b bs false e h = rw e (ap (λ xs. b ∷ xs) h)

-- line ends of a text in which no CR stands, and behind it
pub line_ends_before : (text : Bytes) → with_line_ends text ≡ before (stops (AtByte 13)) text ++ with_line_ends (from (stops (AtByte 13)) text)
unfolding with_line_ends before from
line_ends_before [] = refl
line_ends_before (b ∷ bs) = line_ends_step b bs (b == 13) refl (line_ends_before bs)

entity_none : (b : ℕ) (bs : Bytes) → (b == 38) ≡ false → entity_at (b ∷ bs) ≡ None
unfolding entity_at
entity_none b bs e = rw e refl

entities_step : (b : ℕ) (bs : Bytes) (v : Bool) → (b == 38) ≡ v → unescaped_past 0 bs ≡ before (stops (AtByte 38)) bs ++ unescaped_past 0 (from (stops (AtByte 38)) bs) → unescaped_past 0 (b ∷ bs) ≡ cond v [] (b ∷ before (stops (AtByte 38)) bs) ++ unescaped_past 0 (cond v (b ∷ bs) (from (stops (AtByte 38)) bs))
unfolding unescaped_past
entities_step b bs true e h = refl
entities_step b bs false e h = rw (entity_none b bs e) (ap (λ xs. b ∷ xs) h)

-- entities of a text in which no `&` stands, and behind it
pub entities_before : (text : Bytes) → unescaped_past 0 text ≡ before (stops (AtByte 38)) text ++ unescaped_past 0 (from (stops (AtByte 38)) text)
unfolding unescaped_past before from
entities_before [] = refl
entities_before (b ∷ bs) = entities_step b bs (b == 38) refl (entities_before bs)

pub unescaped_drop : (n : ℕ) (text : Bytes) → unescaped_past n text ≡ unescaped_past 0 (drop n text)
unfolding unescaped_past
unescaped_drop zero text = refl
unescaped_drop (suc n) [] = refl
unescaped_drop (suc n) (b ∷ bs) = unescaped_drop n bs

-- ---- the rounds of the loops

no_more_lines : (end : Bytes) → spells (13 ∷ []) end ≡ false → ((end ≡ []) ⊎ (sees 13 end ≡ true)) → end ≡ []
no_more_lines end h (inl e) = e
no_more_lines [] h (inr e) = refl
no_more_lines (b ∷ bs) h (inr e) = absurd (false≢true (sym h ∙ rw e refl))

no_more_entities : (end : Bytes) → spells (38 ∷ []) end ≡ false → ((end ≡ []) ⊎ (sees 38 end ≡ true)) → end ≡ []
no_more_entities end h (inl e) = e
no_more_entities [] h (inr e) = refl
no_more_entities (b ∷ bs) h (inr e) = absurd (false≢true (sym h ∙ rw e refl))

module _ (read raw rest line end new : Bytes) (so_far : read ++ with_line_ends rest ≡ with_line_ends raw) (front : line ≡ before (stops (AtByte 13)) rest) (back : end ≡ from (stops (AtByte 13)) rest) (pushed : new ≡ read ++ line) where
  line_round : new ++ with_line_ends end ≡ with_line_ends raw
  line_round = rw (pushed, front, back, append_assoc read (before (stops (AtByte 13)) rest) (with_line_ends (from (stops (AtByte 13)) rest)), ← line_ends_before rest) so_far

  pub line_last : spells (13 ∷ []) end ≡ false → new ≡ with_line_ends raw
  unfolding with_line_ends
  line_last h =
      let e = no_more_lines end h (subst (λ x. (x ≡ []) ⊎ (sees 13 x ≡ true)) (sym back) (from_stops (stops (AtByte 13)) rest)) in
      sym (append-nil new) ∙ rw e at line_round

  pub line_kept : (next : Bytes) → end ≡ 13 ∷ next → sees 10 next ≡ true → new ++ with_line_ends next ≡ with_line_ends raw
  unfolding with_line_ends
  line_kept next e h = rw (e, h) at line_round

  pub line_ended : (next more : Bytes) → end ≡ 13 ∷ next → sees 10 next ≡ false → more ≡ new ++ 10 ∷ [] → more ++ with_line_ends next ≡ with_line_ends raw
  unfolding with_line_ends
  line_ended next more e h p =
      let r = rw (e, h) at line_round in
      rw (p, append_assoc new (10 ∷ []) (with_line_ends next)) r

  pub line_smaller : (next : Bytes) → end ≡ 13 ∷ next → length next < length rest
  line_smaller next e = omega (arith, ap length (parts_join (stops (AtByte 13)) rest), length-append (before (stops (AtByte 13)) rest) (from (stops (AtByte 13)) rest), ap length (sym back ∙ e))

module _ (read raw rest plain special new : Bytes) (so_far : read ++ unescaped_past 0 rest ≡ unescaped_past 0 raw) (front : plain ≡ before (stops (AtByte 38)) rest) (back : special ≡ from (stops (AtByte 38)) rest) (pushed : new ≡ read ++ plain) where
  entity_round : new ++ unescaped_past 0 special ≡ unescaped_past 0 raw
  entity_round = rw (pushed, front, back, append_assoc read (before (stops (AtByte 38)) rest) (unescaped_past 0 (from (stops (AtByte 38)) rest)), ← entities_before rest) so_far

  pub entity_last : spells (38 ∷ []) special ≡ false → new ≡ unescaped_past 0 raw
  unfolding unescaped_past
  entity_last h =
      let e = no_more_entities special h (subst (λ x. (x ≡ []) ⊎ (sees 38 x ≡ true)) (sym back) (from_stops (stops (AtByte 38)) rest)) in
      sym (append-nil new) ∙ rw e at entity_round

  pub entity_plain : (next more : Bytes) → special ≡ 38 ∷ next → entity_at special ≡ None → more ≡ new ++ 38 ∷ [] → more ++ unescaped_past 0 next ≡ unescaped_past 0 raw
  unfolding unescaped_past
  entity_plain next more e h p =
      let r = rw (rw e at h) at (rw e at entity_round) in
      rw (p, append_assoc new (38 ∷ []) (unescaped_past 0 next)) r

  pub entity_read : (c n : ℕ) (next more : Bytes) → special ≡ 38 ∷ next → entity_at special ≡ Some (c, suc n) → more ≡ new ++ c ∷ [] → more ++ unescaped_past 0 (drop (suc n) special) ≡ unescaped_past 0 raw
  unfolding unescaped_past
  entity_read c n next more e h p =
      let r = rw (rw e at h) at (rw e at entity_round) in
      rw (p, e, append_assoc new (c ∷ []) (unescaped_past 0 (drop n next)), ← unescaped_drop n next) r

  pub special_smaller : (next : Bytes) → special ≡ 38 ∷ next → length next < length rest
  special_smaller next e = omega (arith, ap length (parts_join (stops (AtByte 38)) rest), length-append (before (stops (AtByte 38)) rest) (from (stops (AtByte 38)) rest), ap length (sym back ∙ e))

  pub entity_smaller : (behind : ℕ) → behind < length special → behind < length rest
  entity_smaller behind h = omega (arith, ap length (parts_join (stops (AtByte 38)) rest), length-append (before (stops (AtByte 38)) rest) (from (stops (AtByte 38)) rest), ap length back)

-- a text may be cut behind an ASCII byte
pub boundary_one : (b : ℕ) (text : Bytes) → IsUtf8 text → b < 128 → sees b text ≡ true → IsCharBoundary text 1
boundary_one b [] u small h = absurd (false≢true h)
boundary_one b (c ∷ cs) u small h = IsCharBoundary-after_ascii (c ∷ cs) 0 u (omega arith) (rw (eqb-true c b h) small)

-- where white space stands first, less is behind it
pub space_taken : (text : Bytes) → begins is_white_space text ≡ true → length (from (stops AfterSpace) text) < length text
space_taken [] h = absurd (false≢true h)
space_taken (b ∷ bs) h = rw (from_on (stops AfterSpace) b bs (rw h refl)) (omega (arith, ap length (parts_join (stops AfterSpace) bs), length-append (before (stops AfterSpace) bs) (from (stops AfterSpace) bs)))

pub eaten : (b : ℕ) (text : Bytes) (rest : Bor Bytes) → IsUtf8 text → b < 128 → sees b text ≡ true → rest.now ≡ drop 1 text → (sees b text ≡ true) × (rest.now ≡ drop 1 text) × IsLess text rest.now
eaten b [] rest u small h e = absurd (false≢true h)
eaten b (c ∷ cs) rest u small h e = (h, e, (rw e (omega arith), rw e (IsUtf8-drop (c ∷ cs) 1 u (boundary_one b (c ∷ cs) u small h))))

-- a fault that is handed on
pub handed_on : {X Y Z : Type 0} (view : X → Y) (is : Outcome Y → Type 0) (read : Outcome Z) (e : Failed) → Fails e read → ((x : PageKind × Bytes) → read ≡ Err x → is (Err x)) → Answers view is (Err e)
handed_on view is read Memory h f = tt
handed_on view is read (Fault kind rest) h f = f (kind, rest.now) h

-- a fault of a relation that is handed on
pub passed_on : {X Y W Z : Type 0} (view : X → Y) (is : Outcome Y → Type 0) (look : W → Z) (was : Outcome Z → Type 0) (e : Failed) → Answers look was (Err e) → ((x : PageKind × Bytes) → was (Err x) → is (Err x)) → Answers view is (Err e)
passed_on view is look was Memory h f = tt
passed_on view is look was (Fault kind rest) h f = f (kind, rest.now) h

-- what is read answers a relation that it is in
pub given_answers : {X Y : Type 0} (view : X → Y) (is : Outcome Y → Type 0) (read : Outcome Y) (r : Result X Failed) → Gives view r read → is read → Answers view is r
given_answers view is read (Ok x) h i = subst is h i
given_answers view is read (Err Memory) h i = tt
given_answers view is read (Err (Fault kind rest)) h i = subst is h i

-- ---- a run of text isn't empty

run_parts : (e c d t s l x : Bool) → cond e nothing (cond c comment (cond d doctype (cond t start_tag (cond s (cond l end_tag bad) (cond x bad run))))) ≡ run → (e ≡ false) × (t ≡ false) × (s ≡ false) × (x ≡ false)
run_parts true c d t s l x h = absurd (cc)
run_parts false true d t s l x h = absurd (cc)
run_parts false false true t s l x h = absurd (cc)
run_parts false false false true s l x h = absurd (cc)
run_parts false false false false true true x h = absurd (cc)
run_parts false false false false true false x h = absurd (cc)
run_parts false false false false false l true h = absurd (cc)
run_parts false false false false false l false h = (refl, refl, refl, refl)

no_markup : (b l s x : Bool) → (b && l) ≡ false → (b && (s && true)) ≡ false → (b && (x && true)) ≡ false → (b && (l || (s || x))) ≡ false
no_markup false l s x p q r = refl
no_markup true true s x p q r = absurd (true≢false p)
no_markup true false true x p q r = absurd (true≢false q)
no_markup true false false true p q r = absurd (true≢false r)
no_markup true false false false p q r = refl

run_is_text : (text : Bytes) → front_of text ≡ run → (is_empty text ≡ false) × (is_markup text ≡ false)
run_is_text [] h = absurd (cc)
run_is_text (b ∷ []) h = (refl, and_right (b == 60) false refl)
run_is_text (b ∷ c ∷ cs) h =
    let p = run_parts (is_empty (b ∷ c ∷ cs)) (spells (codes "<!--") (b ∷ c ∷ cs)) (opens (codes "<!doctype") (b ∷ c ∷ cs)) (sees 60 (b ∷ c ∷ cs) && begins is_letter (drop 1 (b ∷ c ∷ cs))) (spells (codes "</") (b ∷ c ∷ cs)) (begins is_letter (drop 2 (b ∷ c ∷ cs))) (spells (codes "<!") (b ∷ c ∷ cs)) h in
    (p.0, no_markup (b == 60) (is_letter c) (c == 47) (c == 33) p.1 p.2 p.3)

pub text_taken : (text : Bytes) → front_of text ≡ run → length (from (stops AtMarkup) text) < length text
text_taken [] h = absurd (true≢false (run_is_text [] h).0)
text_taken (b ∷ bs) h = rw (from_on (stops AtMarkup) b bs (run_is_text (b ∷ bs) h).1) (omega (arith, ap length (parts_join (stops AtMarkup) bs), length-append (before (stops AtMarkup) bs) (from (stops AtMarkup) bs)))

-- what answers a relation answers a wider one
pub mapped : {X Y : Type 0} (view : X → Y) (is wide : Outcome Y → Type 0) (r : Result X Failed) → ((o : Outcome Y) → is o → wide o) → Answers view is r → Answers view wide r
mapped view is wide (Ok x) f h = f (Ok (view x)) h
mapped view is wide (Err Memory) f h = tt
mapped view is wide (Err (Fault kind rest)) f h = f (Err (kind, rest.now)) h
