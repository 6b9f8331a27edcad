-- What bytes are read as, by the page grammar and by the reader's model.
use Rattle.std.proofs.Common.{◌≡◌, ℕ, Bool, true, false, cond, Option, Some, None, [], ◌∷◌, ◌++◌, refl, ap, sym, ◌∙◌, codes}
use Rattle.std.specs.Prelude.{◌&&◌, ◌||◌, ◌==◌}
use Rattle.std.proofs.lemmas.Bool.{or_parts}
use Rattle.page_text.specs.Bytes.{Bytes, sees}
use Rattle.page_text.specs.ValuesModel.{spells, with_line_ends, entity_at, read_first, unescaped_past, unescaped, read_value}
use Rattle.page_text.specs.PageSpelling.{begins_with, begins_entity, LineEnds, no_line, in_line, lone_return, return_and_line_feed}
use Rattle.page_text.specs.PageSpelling.{IsEntity, amp, lt, gt, quot, apos, Entities, no_character, entity, itself, IsRead, as_it_stands, with_entities}

pub line_ends_are : (raw read : Bytes) → LineEnds raw read → read ≡ with_line_ends raw
unfolding with_line_ends
line_ends_are _ _ no_line = refl
line_ends_are _ _ (in_line {b = b} {bs = bs} {read = read} h more) = rw h (ap (λ l. b ∷ l) (line_ends_are bs read more))
line_ends_are _ _ (lone_return {bs = bs} {read = read} h more) = rw h (ap (λ l. 10 ∷ l) (line_ends_are bs read more))
line_ends_are _ _ (return_and_line_feed {bs = bs} {read = read} more) = ap (λ l. 10 ∷ l) (line_ends_are bs read more)

same_front : (word text : Bytes) → spells word text ≡ begins_with word text
same_front [] text = refl
same_front (w ∷ word) [] = refl
same_front (w ∷ word) (b ∷ text) = ap (λ x. (b == w) && x) (same_front word text)

no_entity : (text : Bytes) → begins_entity text ≡ false → entity_at text ≡ None
unfolding entity_at
no_entity text h =
    let first = or_parts (begins_with (codes "&amp;") text) _ h in
    let second = or_parts (begins_with (codes "&lt;") text) _ first.1 in
    let third = or_parts (begins_with (codes "&gt;") text) _ second.1 in
    let fourth = or_parts (begins_with (codes "&quot;") text) (begins_with (codes "&apos;") text) third.1 in
    rw (same_front (codes "&amp;") text ∙ first.0) (rw (same_front (codes "&lt;") text ∙ second.0) (rw (same_front (codes "&gt;") text ∙ third.0)
    (rw (same_front (codes "&quot;") text ∙ fourth.0) (rw (same_front (codes "&apos;") text ∙ fourth.1) refl))))

an_entity : (word bs : Bytes) (c : ℕ) → IsEntity word c → unescaped (word ++ bs) ≡ c ∷ unescaped bs
unfolding unescaped_past entity_at
an_entity _ bs _ amp = refl
an_entity _ bs _ lt = refl
an_entity _ bs _ gt = refl
an_entity _ bs _ quot = refl
an_entity _ bs _ apos = refl

no_entity_first : (b : ℕ) (bs : Bytes) → entity_at (b ∷ bs) ≡ None → unescaped (b ∷ bs) ≡ b ∷ unescaped bs
unfolding unescaped_past
no_entity_first b bs h = rw h refl

pub entities_are : (lines read : Bytes) → Entities lines read → read ≡ unescaped lines
unfolding unescaped_past
entities_are [] [] no_character = refl
entities_are _ _ (entity {word = word} {bs = bs} {read = read} {c = c} is more) =
    ap (λ l. c ∷ l) (entities_are bs read more) ∙ sym (an_entity word bs c is)
entities_are _ _ (itself {b = b} {bs = bs} {read = read} h more) =
    ap (λ l. b ∷ l) (entities_are bs read more) ∙ sym (no_entity_first b bs (no_entity (b ∷ bs) h))

pub read_as : Bool → Bytes → Bytes
read_as entities raw = cond entities (read_value raw) (with_line_ends raw)

pub read_is : (entities : Bool) (raw read : Bytes) → IsRead entities raw read → read ≡ read_as entities raw
unfolding read_as
read_is false raw read (as_it_stands more) = line_ends_are raw read more
read_is true raw read (with_entities {lines = lines} ends more) = entities_are lines read more ∙ ap unescaped (line_ends_are raw lines ends)

pub read_once : (entities : Bool) (raw other read one : Bytes) → raw ≡ other → IsRead entities raw read → IsRead entities other one → read ≡ one
read_once entities raw other read one e a b = read_is entities raw read a ∙ (ap (read_as entities) e ∙ sym (read_is entities other one b))
