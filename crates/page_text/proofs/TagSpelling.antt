-- What is read of comments and of all attributes of a tag is spelled so, and what is spelled so is read.
use Rattle.std.proofs.Common.{◌≡◌, ℕ, Bool, true, false, cond, List, [], ◌∷◌, Option, Some, None, Ok, Err, length, drop, refl, ap, sym, ◌∙◌, subst}
use Rattle.std.specs.Prelude.{◌&&◌}
use Rattle.std.proofs.lemmas.Bool.{and_parts, both_ways}
use Rattle.std.specs.Str.{chars}
use Rattle.page_text.specs.declared.faults.PageKind.{PageKind}
use Rattle.page_text.specs.declared.faults.PageKind.TheVariants.{Unclosed, BadTag}
use Rattle.page_text.specs.declared.scan.Stop.TheVariants.{AfterSpace, AtCommentEnd}
use Rattle.page_text.specs.declared.tags.Attribute.{Attribute}
use Rattle.page_text.specs.Bytes.{Bytes, begins, is_attribute_byte, sees}
use Rattle.dom_semantics.specs.Whitespace.{is_white_space}
use Rattle.page_text.specs.ScansModel.{before, from, stops}
use Rattle.page_text.specs.ValuesModel.{spells, with_line_ends}
use Rattle.page_text.specs.Outcomes.{Outcome, ◌>>=◌, checked}
use Rattle.page_text.specs.TagsModel as t
use Rattle.page_text.specs.TagsModel.{Attributes, after_space, is_empty, with_attribute}
use Rattle.page_text.specs.Grammar as g
use Rattle.page_text.specs.Grammar.{AreAttributes, AreCounted, IsAttribute, IsComment, Space, counted}
use Rattle.page_text.proofs.Reading.{spelled_front}
use Rattle.page_text.proofs.Spelling.{upto_here, upto_is, bind_ok, err_ok, pair_same, checked_ok, checked_again, sees_cons, attribute_ok, attribute_again}

-- ---- comments

comment_ok_at : (text : Bytes) (content : List ℕ) (rest : Bytes) → spells (60 ∷ (33 ∷ (45 ∷ (45 ∷ [])))) text ≡ true → (v : Bool) → spells (45 ∷ (45 ∷ (62 ∷ []))) (from (stops AtCommentEnd) (drop 4 text)) ≡ v
    → ◌≡◌ {A = Outcome (List ℕ × Bytes)} (cond v (checked (with_line_ends (before (stops AtCommentEnd) (drop 4 text))) text >>= λ x. Ok (x, drop 3 (from (stops AtCommentEnd) (drop 4 text)))) (Err (Unclosed, text))) (Ok (content, rest)) → IsComment text content rest
comment_ok_at text content rest m true e h =
    let raw = before (stops AtCommentEnd) (drop 4 text) in
    let end = from (stops AtCommentEnd) (drop 4 text) in
    let b = bind_ok (checked (with_line_ends raw) text) (λ x. Ok (x, drop 3 end)) (content, rest) h in
    let c = checked_ok (with_line_ends raw) text b.0 b.1 in
    let s = pair_same b.0 content (drop 3 end) rest b.2 in
    record {
      inside = drop 4 text;
      raw = raw;
      end = end;
      mark = spelled_front (60 ∷ (33 ∷ (45 ∷ (45 ∷ [])))) text m;
      up_to_end = upto_here (stops AtCommentEnd) (drop 4 text);
      close = spelled_front (45 ∷ (45 ∷ (62 ∷ []))) end e ∙ ap (λ xs. 45 ∷ (45 ∷ (62 ∷ xs))) s.1;
      short = c.0;
      is_text = sym s.0 ∙ c.1;
    }
comment_ok_at text content rest m false e h = err_ok _ _ h

pub comment_ok : (text : Bytes) (content : List ℕ) (rest : Bytes) → spells (60 ∷ (33 ∷ (45 ∷ (45 ∷ [])))) text ≡ true → t.comment_at text ≡ Ok (content, rest) → IsComment text content rest
unfolding t.comment_at
comment_ok text content rest m h = comment_ok_at text content rest m (spells (45 ∷ (45 ∷ (62 ∷ []))) (from (stops AtCommentEnd) (drop 4 text))) refl h

pub comment_again : (text : Bytes) (content : List ℕ) (rest : Bytes) → IsComment text content rest → t.comment_at text ≡ Ok (content, rest)
unfolding t.comment_at
comment_again text content rest e =
    let p = upto_is (stops AtCommentEnd) e.inside e.raw e.end e.up_to_end in
    rw (e.mark, ← p.0, ← p.1, e.close, checked_again (with_line_ends e.raw) (60 ∷ (33 ∷ (45 ∷ (45 ∷ e.inside)))) e.short, e.is_text) refl

-- ---- the next attribute, or none

-- what the next attribute of a tag is, or that the tag ends
abbrev IsNextIn : Bytes → Option Attribute → Bytes → Type 0
IsNextIn text None rest = AreAttributes text [] rest
IsNextIn text (Some a) rest = (begins is_white_space text ≡ true) × (begins is_attribute_byte (after_space text) ≡ true) × IsAttribute (after_space text) a rest

gap_of : (text : Bytes) → Space text (before (stops AfterSpace) text) (after_space text)
gap_of text = upto_here (stops AfterSpace) text

slash_ok_at : (start text : Bytes) (o : Option Attribute) (rest : Bytes) (v w : Bool) → sees 62 text ≡ v
    → ◌≡◌ {A = Outcome (Option Attribute × Bytes)} (cond v (Ok (None, drop 1 text)) (cond w (Err (Unclosed, start)) (Err (BadTag, text)))) (Ok (o, rest)) → (None ≡ o) × (text ≡ 62 ∷ rest)
slash_ok_at start text o rest true w e h =
    let s = pair_same None o (drop 1 text) rest h in
    (s.0, sees_cons 62 text e ∙ ap (λ xs. 62 ∷ xs) s.1)
slash_ok_at start text o rest false true e h = err_ok _ _ h
slash_ok_at start text o rest false false e h = err_ok _ _ h

slash_ok : (start text : Bytes) (o : Option Attribute) (rest : Bytes) → t.slash_at start text ≡ Ok (o, rest) → (None ≡ o) × (text ≡ 62 ∷ rest)
unfolding t.slash_at
slash_ok start text o rest h = slash_ok_at start text o rest (sees 62 text) (is_empty text) refl h

next_ok_at : (start text : Bytes) (o : Option Attribute) (rest : Bytes) (v w x y : Bool) → sees 62 (after_space text) ≡ v → sees 47 (after_space text) ≡ w → (begins is_white_space text && begins is_attribute_byte (after_space text)) ≡ y
    → ◌≡◌ {A = Outcome (Option Attribute × Bytes)} (cond v (Ok (None, drop 1 (after_space text))) (cond w (t.slash_at start (drop 1 (after_space text))) (cond x (Err (Unclosed, start)) (cond y (t.attribute_at start (after_space text) >>= λ z. Ok (Some z.0, z.1)) (Err (BadTag, after_space text)))))) (Ok (o, rest))
    → IsNextIn text o rest
next_ok_at start text o rest true w x y e d c h =
    let s = pair_same None o (drop 1 (after_space text)) rest h in
    subst (λ z. IsNextIn text z rest) s.0 (g.closed text _ (after_space text) rest (gap_of text) (sees_cons 62 (after_space text) e ∙ ap (λ xs. 62 ∷ xs) s.1))
next_ok_at start text o rest false true x y e d c h =
    let s = slash_ok start (drop 1 (after_space text)) o rest h in
    subst (λ z. IsNextIn text z rest) s.0 (g.slashed text _ (after_space text) rest (gap_of text) (sees_cons 47 (after_space text) d ∙ ap (λ xs. 47 ∷ xs) s.1))
next_ok_at start text o rest false false true y e d c h = err_ok _ _ h
next_ok_at start text o rest false false false true e d c h =
    let b = bind_ok (t.attribute_at start (after_space text)) (λ z. Ok (Some z.0, z.1)) (o, rest) h in
    let s = pair_same (Some (b.0).0) o (b.0).1 rest b.2 in
    subst (λ z. IsNextIn text z rest) s.0
    (subst (λ r. IsNextIn text (Some (b.0).0) r) s.1 ((and_parts _ _ c).0, (and_parts _ _ c).1, attribute_ok start (after_space text) (b.0).0 (b.0).1 b.1))
next_ok_at start text o rest false false false false e d c h = err_ok _ _ h

next_ok : (start text : Bytes) (o : Option Attribute) (rest : Bytes) → t.next_at start text ≡ Ok (o, rest) → IsNextIn text o rest
unfolding t.next_at
next_ok start text o rest h =
    next_ok_at start text o rest (sees 62 (after_space text)) (sees 47 (after_space text)) (is_empty (after_space text)) (begins is_white_space text && begins is_attribute_byte (after_space text)) refl refl refl h

-- a byte that stands in no name doesn't begin one
not_seen : (c : ℕ) → is_attribute_byte c ≡ false → (here : Bytes) → begins is_attribute_byte here ≡ true → (v : Bool) → sees c here ≡ v → v ≡ false
not_seen c n here h true e = absurd (both_ways (begins is_attribute_byte here) (ap (begins is_attribute_byte) (sees_cons c here e) ∙ n) h)
not_seen c n here h false e = refl

not_seen_at : (c : ℕ) → is_attribute_byte c ≡ false → (here : Bytes) → begins is_attribute_byte here ≡ true → sees c here ≡ false
not_seen_at c n here h = not_seen c n here h (sees c here) refl

some_there : (here : Bytes) → begins is_attribute_byte here ≡ true → is_empty here ≡ false
some_there [] h = absurd (cc)
some_there (b ∷ bs) h = refl

closed_again : (start text gap end rest : Bytes) → Space text gap end → end ≡ 62 ∷ rest → t.next_at start text ≡ Ok (None, rest)
unfolding t.next_at
closed_again start text gap end rest space is =
    let p = upto_is (stops AfterSpace) text gap end space in
    rw (← p.1, is) refl

slashed_again : (start text gap end rest : Bytes) → Space text gap end → end ≡ 47 ∷ (62 ∷ rest) → t.next_at start text ≡ Ok (None, rest)
unfolding t.next_at t.slash_at
slashed_again start text gap end rest space is =
    let p = upto_is (stops AfterSpace) text gap end space in
    rw (← p.1, is) refl

more_again : (start text gap here behind : Bytes) (a : Attribute) → Space text gap here → begins is_white_space text ≡ true → begins is_attribute_byte here ≡ true → IsAttribute here a behind → t.next_at start text ≡ Ok (Some a, behind)
unfolding t.next_at
more_again start text gap here behind a space blank named is =
    let p = upto_is (stops AfterSpace) text gap here space in
    rw (← p.1, not_seen_at 62 refl here named, not_seen_at 47 refl here named, some_there here named, blank, named, attribute_again start here a behind is) refl

-- ---- all attributes of a tag

-- what is read of attributes is spelled so
abbrev AreSpelled : List Attribute → Bytes → Outcome (List Attribute × Bytes) → Type 0
AreSpelled found text (Ok x) = (all : List Attribute) × AreAttributes text all x.1 × (x.0 ≡ counted found all)
AreSpelled found text (Err e) = Unit {0}

one_more : (found : List Attribute) (text rest : Bytes) (a : Attribute) → IsNextIn text (Some a) rest → (out : Outcome (List Attribute × Bytes)) → AreSpelled (with_attribute found a) rest out → AreSpelled found text out
one_more found text rest a n (Ok x) s = (a ∷ s.0, g.more text _ (after_space text) rest x.1 a s.0 (gap_of text) n.0 n.1 n.2 s.1, s.2)
one_more found text rest a n (Err e) s = tt

all_ok : (start : Bytes) (found : List Attribute) (text : Bytes) (out : Outcome (List Attribute × Bytes)) → Attributes start found text out → AreSpelled found text out
all_ok start found text out (t.closed found' text' rest h) = ([], next_ok start text None rest h, refl)
all_ok start found text out (t.more found' a text' rest out' h m) = one_more found text rest a (next_ok start text (Some a) rest h) out (all_ok start (with_attribute found a) rest out m)
all_ok start found text out (t.stuck found' text' e h) = tt

pub attributes_ok : (start text : Bytes) (found : List Attribute) (rest : Bytes) → Attributes start [] text (Ok (found, rest)) → AreCounted text found rest
attributes_ok start text found rest h =
    let s = all_ok start [] text (Ok (found, rest)) h in
    record { all = s.0; spelled = s.1; first = s.2 }

all_again : (start text : Bytes) (all : List Attribute) (rest : Bytes) → AreAttributes text all rest → (found : List Attribute) → Attributes start found text (Ok (counted found all, rest))
all_again start text all rest (g.closed text' gap end rest' space is) found = t.closed found text rest (closed_again start text gap end rest space is)
all_again start text all rest (g.slashed text' gap end rest' space is) found = t.closed found text rest (slashed_again start text gap end rest space is)
all_again start text all rest (g.more text' gap here behind rest' a others space blank named is m) found =
    t.more found a text behind _ (more_again start text gap here behind a space blank named is) (all_again start behind others rest m (with_attribute found a))

pub attributes_again : (start text : Bytes) (found : List Attribute) (rest : Bytes) → AreCounted text found rest → Attributes start [] text (Ok (found, rest))
attributes_again start text found rest c = subst (λ xs. Attributes start [] text (Ok (xs, rest))) (sym c.first) (all_again start text c.all rest c.spelled [])
