-- What stands at a front determines the sum, and what follows it.
use Rattle.std.proofs.Common.{◌≡◌, ◌∙◌, ap, sym, refl, subst, ℕ, ◌+◌, ◌<◌, ◌≤◌, ◌||◌, List, [], ◌∷◌, ◌++◌, IsTrue, length, arith, append_assoc, length-append, codes, nat_eq}
use Rattle.std.proofs.lemmas.List.{append-nil, append_cancel_left}
use Rattle.std.proofs.lemmas.Bool.Decides.{nat_tests}
use Rattle.std.specs.List.{flat_map}
use Rattle.small_forms.specs.declared.bytes.Class.TheVariants.{Digit}
use Rattle.small_forms.specs.declared.limits.TheConstants.{ADDED_LIMIT}
use Rattle.small_forms.specs.declared.script.Part.{Part}
use Rattle.small_forms.specs.declared.script.Part.TheVariants.{Title, Number, Quoted}
use Rattle.small_forms.specs.declared.script.Sum.{Sum}
use Rattle.small_forms.specs.Bytes.{stops}
use Rattle.small_forms.specs.Readers.{ends_sum, is_followed}
use Rattle.small_forms.specs.Scripts.{AreParts, IsPart, IsSum, added_text, part_text, sum_text}
use Rattle.small_forms.proofs.PartFronts.{same_part}

-- where no digit stands every part ends
pub followed : (part : Part) (rest : List ℕ) → IsTrue (stops Digit rest) → IsTrue (is_followed part rest)
followed Title rest h = refl
followed (Number n) rest h = h
followed (Quoted text) rest h = refl

end_stops : (b : ℕ) → IsTrue (nat_eq b 41 || nat_eq b 59) → IsTrue (stops Digit (b ∷ []))
end_stops b h = grind (arith, nat_tests)

-- a digit stands neither before a further part nor where a sum ends
pub more_stops : (more : List Part) (rest : List ℕ) → IsTrue (ends_sum rest) → IsTrue (stops Digit (flat_map added_text more ++ rest))
more_stops [] [] h = cc
more_stops [] (b ∷ rest) h = end_stops b h
more_stops (part ∷ more) rest h = refl

-- a sum doesn't end where a further part begins
pub not_end : (rest : List ℕ) → IsTrue (ends_sum (codes " + " ++ rest)) → ⊥
not_end rest h = cc

added_seam : (part : Part) (more : List Part) (rest : List ℕ) → flat_map added_text (part ∷ more) ++ rest ≡ codes " + " ++ (part_text part ++ (flat_map added_text more ++ rest))
added_seam part more rest = append_assoc (added_text part) (flat_map added_text more) rest ∙ append_assoc (codes " + ") (part_text part) (flat_map added_text more ++ rest)

pub sum_seam : (sum : Sum) (rest : List ℕ) → sum_text sum ++ rest ≡ part_text sum.first ++ (flat_map added_text sum.more ++ rest)
sum_seam sum rest = append_assoc (part_text sum.first) (flat_map added_text sum.more) rest

-- further parts at one front are the same
pub same_more : (a b : List Part) (x y : List ℕ) → AreParts a → AreParts b → IsTrue (ends_sum x) → IsTrue (ends_sum y) → flat_map added_text a ++ x ≡ flat_map added_text b ++ y → (a ≡ b) × (x ≡ y)
same_more [] [] x y p q s t e = (refl, e)
same_more [] (part ∷ b) x y p q s t e =
    let P : List ℕ → Type 0 = λ xs. IsTrue (ends_sum xs) in
    absurd (not_end (part_text part ++ (flat_map added_text b ++ y)) (subst P (e ∙ added_seam part b y) s))
same_more (part ∷ a) [] x y p q s t e =
    let P : List ℕ → Type 0 = λ xs. IsTrue (ends_sum xs) in
    absurd (not_end (part_text part ++ (flat_map added_text a ++ x)) (subst P (sym e ∙ added_seam part a x) t))
same_more (m ∷ a) (n ∷ b) x y p q s t e =
    let inside = append_cancel_left (codes " + ") (part_text m ++ (flat_map added_text a ++ x)) (part_text n ++ (flat_map added_text b ++ y)) (sym (added_seam m a x) ∙ e ∙ added_seam n b y) in
    let first = same_part m n (flat_map added_text a ++ x) (flat_map added_text b ++ y) p.0 q.0 (followed m (flat_map added_text a ++ x) (more_stops a x s)) (followed n (flat_map added_text b ++ y) (more_stops b y t)) inside in
    let rest = same_more a b x y p.1 q.1 s t first.1 in
    (ap (λ z. z ∷ a) first.0 ∙ ap (λ zs. n ∷ zs) rest.0, rest.1)

sums_equal : (a b : Sum) → a.first ≡ b.first → a.more ≡ b.more → a ≡ b
sums_equal a b e f = ap (λ (p : Part × List Part). record { first = p.0; more = p.1 }) (both e f)
  where
    both : a.first ≡ b.first → a.more ≡ b.more → ◌≡◌ {A = Part × List Part} (a.first, a.more) (b.first, b.more)
    both d g = rw (d, g) refl

-- two sums at one front are one
pub same_sum : (a b : Sum) (x y : List ℕ) → IsSum a → IsSum b → IsTrue (ends_sum x) → IsTrue (ends_sum y) → sum_text a ++ x ≡ sum_text b ++ y → (a ≡ b) × (x ≡ y)
same_sum a b x y p q s t e =
    let inside = sym (sum_seam a x) ∙ e ∙ sum_seam b y in
    let first = same_part a.first b.first (flat_map added_text a.more ++ x) (flat_map added_text b.more ++ y) p.first q.first (followed a.first (flat_map added_text a.more ++ x) (more_stops a.more x s)) (followed b.first (flat_map added_text b.more ++ y) (more_stops b.more y t)) inside in
    let rest = same_more a.more b.more x y p.more q.more s t first.1 in
    (sums_equal a b first.0 rest.0, rest.1)

-- a sum is left, of which so many parts were read: what follows is further parts and an end
pub record AreLeft (read : ℕ) (rest : List ℕ) : Type 0 where
  pub more : List Part
  pub end : List ℕ
  pub are : AreParts more
  pub few : length more + read ≤ ADDED_LIMIT
  pub ends : IsTrue (ends_sum end)
  pub text : rest ≡ flat_map added_text more ++ end

-- after the first part
pub left-begin : (bytes : List ℕ) (first : Part) (rest : List ℕ) (sum : Sum) (end : List ℕ) → bytes ≡ part_text first ++ rest → IsPart first → IsTrue (is_followed first rest) → IsSum sum → IsTrue (ends_sum end)
    → bytes ≡ sum_text sum ++ end → AreLeft 0 rest
left-begin bytes first rest sum end e p s is ends h =
    let same = same_part first sum.first rest (flat_map added_text sum.more ++ end) p is.first s (followed sum.first (flat_map added_text sum.more ++ end) (more_stops sum.more end ends)) (sym e ∙ h ∙ sum_seam sum end) in
    record { more = sum.more; end = end; are = is.more; few = omega (arith, is.few); ends = ends; text = same.1 }

-- a further part begins
pub record IsAdded (read : ℕ) (added : List ℕ) : Type 0 where
  pub part : Part
  pub more : List Part
  pub end : List ℕ
  pub is : IsPart part
  pub are : AreParts more
  pub few : length more + read < ADDED_LIMIT
  pub ends : IsTrue (ends_sum end)
  pub text : added ≡ part_text part ++ (flat_map added_text more ++ end)

pub left-added : (read : ℕ) (rest added : List ℕ) → rest ≡ codes " + " ++ added → AreLeft read rest → IsAdded read added
left-added read rest added e left = added_of left.more left.are left.few left.text
  where
    added_of : (more : List Part) → AreParts more → length more + read ≤ ADDED_LIMIT → rest ≡ flat_map added_text more ++ left.end → IsAdded read added
    added_of [] are few t =
        let P : List ℕ → Type 0 = λ xs. IsTrue (ends_sum xs) in
        absurd (not_end added (subst P (sym t ∙ e) left.ends))
    added_of (part ∷ more) are few t =
        record {
          part = part;
          more = more;
          end = left.end;
          is = are.0;
          are = are.1;
          few = omega (arith, few);
          ends = left.ends;
          text = append_cancel_left (codes " + ") added (part_text part ++ (flat_map added_text more ++ left.end)) (sym e ∙ t ∙ added_seam part more left.end);
        }

-- after a further part
pub left-more : (read : ℕ) (added : List ℕ) (part : Part) (rest : List ℕ) → added ≡ part_text part ++ rest → IsPart part → IsTrue (is_followed part rest) → IsAdded read added → AreLeft (1 + read) rest
left-more read added part rest e p s is =
    let same = same_part part is.part rest (flat_map added_text is.more ++ is.end) p is.is s (followed is.part (flat_map added_text is.more ++ is.end) (more_stops is.more is.end is.ends)) (sym e ∙ is.text) in
    record { more = is.more; end = is.end; are = is.are; few = omega (arith, is.few); ends = is.ends; text = same.1 }

-- no further part begins, so the sum ends
pub left-end : (read : ℕ) (rest : List ℕ) → ((r : List ℕ) → rest ≡ codes " + " ++ r → ⊥) → AreLeft read rest → IsTrue (ends_sum rest)
left-end read rest none left = end_of left.more left.text
  where
    end_of : (more : List Part) → rest ≡ flat_map added_text more ++ left.end → IsTrue (ends_sum rest)
    end_of [] t = let P : List ℕ → Type 0 = λ xs. IsTrue (ends_sum xs) in subst P (sym t) left.ends
    end_of (part ∷ more) t = absurd (none (part_text part ++ (flat_map added_text more ++ left.end)) (t ∙ added_seam part more left.end))

pub added-none : (read : ℕ) (added : List ℕ) → ((part : Part) (rest : List ℕ) → IsPart part → IsTrue (is_followed part rest) → added ≡ part_text part ++ rest → ⊥) → IsAdded read added → ⊥
added-none read added none is = none is.part (flat_map added_text is.more ++ is.end) is.is (followed is.part (flat_map added_text is.more ++ is.end) (more_stops is.more is.end is.ends)) is.text

added-append : (parts : List Part) (part : Part) → flat_map added_text (parts ++ part ∷ []) ≡ flat_map added_text parts ++ added_text part
added-append [] part = append-nil (added_text part)
added-append (p ∷ parts) part = ap (λ more. added_text p ++ more) (added-append parts part) ∙ sym (append_assoc (added_text p) (flat_map added_text parts) (added_text part))

-- the first part and further ones, and what follows them, with a part more
pub read-more : (bytes : List ℕ) (first : Part) (more : List Part) (rest added : List ℕ) (part : Part) (left : List ℕ) → bytes ≡ part_text first ++ (flat_map added_text more ++ rest) → rest ≡ codes " + " ++ added → added ≡ part_text part ++ left
    → bytes ≡ part_text first ++ (flat_map added_text (more ++ part ∷ []) ++ left)
read-more bytes first more rest added part left e r a =
    e
    ∙ ap (λ xs. part_text first ++ (flat_map added_text more ++ xs)) (r ∙ ap (λ xs. codes " + " ++ xs) a ∙ sym (append_assoc (codes " + ") (part_text part) left))
    ∙ ap (λ xs. part_text first ++ xs) (sym (append_assoc (flat_map added_text more) (added_text part) left) ∙ ap (λ xs. xs ++ left) (sym (added-append more part)))

pub are-more : (parts : List Part) (part : Part) → AreParts parts → IsPart part → AreParts (parts ++ part ∷ [])
are-more [] part h e = (e, tt)
are-more (p ∷ parts) part h e = (h.0, are-more parts part h.1 e)

-- what follows is shorter
pub shorter : (bytes front rest : List ℕ) → bytes ≡ front ++ rest → length rest ≤ length bytes
shorter bytes front rest e = rw e (simp length-append (omega arith))

-- no part stands at the front, so no sum does
pub first_none : (bytes : List ℕ) → ((part : Part) (rest : List ℕ) → IsPart part → IsTrue (is_followed part rest) → bytes ≡ part_text part ++ rest → ⊥) → (sum : Sum) (rest : List ℕ) → IsSum sum → IsTrue (ends_sum rest) → bytes ≡ sum_text sum ++ rest → ⊥
first_none bytes none sum rest is ends h = none sum.first (flat_map added_text sum.more ++ rest) is.first (followed sum.first (flat_map added_text sum.more ++ rest) (more_stops sum.more rest ends)) (h ∙ sum_seam sum rest)

pub push_length : {T : Type 0} (xs : List T) (x : T) → length (xs ++ x ∷ []) ≡ 1 + length xs
push_length xs x = let both = length-append xs (x ∷ []) in omega arith
