-- The row of what is the same.
use Rattle.std.proofs.Common.{◌≡◌, ◌∙◌, refl, sym, ap, subst, length, drop, slice_index_or, ◌≤◌, ℕ, ◌+◌, ◌<◌, true, false, arith, nat_lt, Result, Ok, Err, IfOk, List, [], ◌∷◌, ◌++◌}
use Rattle.std.specs.Prelude.{zero, suc}
use Rattle.std.proofs.Math.Seq.{drop-cons}
use Rattle.std.proofs.Math.ListN.{drop_of_length-le}
use Rattle.std.proofs.lemmas.Bool.Decides.{nat_tests}
use Rattle.base_text.specs.Scalars.{utf8_len}
use Rattle.base_text.specs.declared.text.TheConstants.{TEXT_LIMIT}
use Rattle.base_text.proofs.Utf8.{utf8_len-append}
use Rattle.door.specs.declared.zones.Zone.{Zone}
use Rattle.door.specs.declared.values.Thing.{Thing}
use Rattle.door.specs.declared.values.Value.TheVariants.{Str as StrValue}
use Rattle.door.specs.declared.members.Member.TheVariants.{DocumentSetTitle}
use Rattle.door.specs.declared.requests.Request.TheVariants.{Native}
use Rattle.door.specs.declared.requests.ErrorKind.TheVariants.{TooLong}
use Rattle.small_forms.specs.declared.script.Sum.{Sum}
use Rattle.small_forms.specs.declared.script.Line.{Line}
use Rattle.small_forms.specs.Scripts.{AreLines, IsSum, sum_of}
use Rattle.solo_model.specs.Things.{the_window}
use Rattle.small_meaning.specs.declared.prim.Prim.{Prim}
use Rattle.small_meaning.specs.declared.prim.Prim.TheVariants.{Number, Str}
use Rattle.door.specs.declared.values.Actor.{Actor}
use Rattle.door.specs.declared.marks.Mark.{Mark}
use Rattle.small_forms.specs.declared.script.Part.{Part}
use Rattle.js_semantics.specs.Solo.{Program}
use Rattle.js_semantics.specs.Intrinsics.{Setup}
use Rattle.small_meaning.specs.Rows.{Addition, Bare, Cont, Gives, Lone, Next, Plus, Throws, added, addition_row, argument_units, ask, bind, call_units, charge, follow, joined_row, line_row, lines_row, log_member, log_row, logged_row, part_row, plus_row, sum_row, text_of, text_units, with_nothing, with_title, written_row}
use Rattle.small_meaning.specs.Reached.{HasReached}
use Rattle.small_eval.specs.Continuations.{ContinuesWithLine, ContinuesWithUnit, Ends, IsSmall, IsText}
use Rattle.small_eval.specs.declared.exit.Exit.{Exit}
use Rattle.small_eval.specs.declared.exit.Exit.TheVariants.{Throw, Halt, NoMemory}

-- of one point and the same
pub stands_at : (s : Setup) (i : Actor) (marks : List Mark) (t u : Program Bare) → t ≡ u → HasReached s i marks t → HasReached s i marks u
stands_at s i marks t u e h = subst (HasReached s i marks) e h

-- two texts that fit are joined
pub join_fits : (a b : List ℕ) (c : Cont) (fuel : ℕ) → ¬ (TEXT_LIMIT < utf8_len a + utf8_len b) → joined_row (a ++ b) c fuel ≡ charge (text_units (a ++ b)) (c (Gives (Str (a ++ b)))) c fuel
join_fits a b c fuel h = rw (fits (utf8_len (a ++ b)) (λ x. h (subst (λ n. TEXT_LIMIT < n) (utf8_len-append a b) x))) refl
  where
    fits : (n : ℕ) → (TEXT_LIMIT < n → ⊥) → nat_lt TEXT_LIMIT n ≡ false
    fits n h = grind (arith, nat_tests)

-- and others aren't
pub join_over : (a b : List ℕ) (c : Cont) (fuel : ℕ) → TEXT_LIMIT < utf8_len a + utf8_len b → joined_row (a ++ b) c fuel ≡ c (Throws TooLong) fuel
join_over a b c fuel h = rw (over (utf8_len (a ++ b)) (subst (λ n. TEXT_LIMIT < n) (sym (utf8_len-append a b)) h)) refl
  where
    over : (n : ℕ) → TEXT_LIMIT < n → nat_lt TEXT_LIMIT n ≡ true
    over n h = grind (arith, nat_tests)

-- the same of a text that was joined, and its units
pub join_charged : (a b text : List ℕ) (units : ℕ) (c : Cont) (fuel : ℕ) → ¬ (TEXT_LIMIT < utf8_len a + utf8_len b) → text ≡ a ++ b → units ≡ text_units text → joined_row (a ++ b) c fuel ≡ charge units (c (Gives (Str text))) c fuel
join_charged a b text units c fuel h t u =
    join_fits a b c fuel h ∙ ap (λ xs. charge (text_units xs) (c (Gives (Str xs))) c fuel) (sym t) ∙ ap (λ n. charge n (c (Gives (Str text))) c fuel) (sym u)

pub not_both : {A E : Type 0} (r : Result A E) (x : A) (e : E) → r ≡ Ok x → r ≡ Err e → ⊥
not_both r x e p q = cc

-- where one is a text, texts are joined
pub texts_joined : (x y : Prim) (c : Cont) (fuel : ℕ) → IsText x y → plus_row x y c fuel ≡ joined_row (text_of x ++ text_of y) c fuel
texts_joined (Number n) (Number m) c fuel h = absurd h
texts_joined (Number n) (Str t) c fuel h = refl
texts_joined (Str t) (Number n) c fuel h = refl
texts_joined (Str t) (Str u) c fuel h = refl

-- a part more is added on the right
pub added-last : (e : Addition) (parts : List Part) (last : Part) → added e (parts ++ last ∷ []) ≡ Plus (added e parts) last
added-last e [] last = refl
added-last e (part ∷ parts) last = added-last (Plus e part) parts last

pub addition_plus : (e : Addition) (parts whole : List Part) (last : Part) (c : Cont) (fuel : ℕ) → whole ≡ parts ++ last ∷ []
    → addition_row (added e whole) c fuel ≡ charge 1 (addition_row (added e parts) (bind (λ x. part_row last (bind (λ y. plus_row x y c) c)) c)) c fuel
unfolding addition_row
addition_plus e parts whole last c fuel world = ap (λ ps. addition_row (added e ps) c fuel) world ∙ ap (λ s. addition_row s c fuel) (added-last e parts last)

pub addition_lone : (part : Part) (c : Cont) (fuel : ℕ) (parts : List Part) → parts ≡ [] → addition_row (added (Lone part) parts) c fuel ≡ part_row part c fuel
unfolding addition_row
addition_lone part c fuel parts e = rw e refl

pub no_more : {A : Type 0} (xs : List A) → length xs ≡ 0 → xs ≡ []
no_more [] e = refl
no_more (x ∷ xs) e = absurd (omega (arith, e))

-- what ends without a value ends what it is part of
pub ends_bound : (s : Setup) (i : Actor) (marks : List Mark) (fuel : ℕ) (k : Prim → ℕ → Program Bare) (c : Cont) (e : Exit) → Ends s i marks fuel (bind k c) e → Ends s i marks fuel c e
ends_bound s i marks fuel k c (Throw reason) h = h
ends_bound s i marks fuel k c (Halt stop) h = h
ends_bound s i marks fuel k c NoMemory h = h

pub small_at : (r : Result Prim Exit) (n m : ℕ) → n ≡ m → IfOk r (λ v. IsSmall n v) → IfOk r (λ v. IsSmall m v)
small_at r n m e h = let P : ℕ → Type 0 = λ k. IfOk r (λ v. IsSmall k v) in subst P e h

-- the units of a call, by their number
pub log_charged : (zone : Zone) (sum : Sum) (c : Cont) (fuel units : ℕ) → units ≡ call_units zone → log_row zone sum c fuel ≡ charge units (sum_row sum (bind (λ value. logged_row zone value c) c)) c fuel
log_charged zone sum c fuel units e = ap (λ n. charge n (sum_row sum (bind (λ value. logged_row zone value c) c)) c fuel) (sym e)

-- the units of a logged text, by their number
pub logged_charged : (zone : Zone) (value : Prim) (text : List ℕ) (c : Cont) (fuel units : ℕ) → text ≡ text_of value → units ≡ text_units text
    → logged_row zone value c fuel ≡ charge units (ask (Native (log_member zone) the_window (StrValue text ∷ [])) (with_nothing (c Next)) c) c fuel
logged_charged zone value text c fuel units t u =
    ap (λ xs. charge (text_units xs) (ask (Native (log_member zone) the_window (StrValue xs ∷ [])) (with_nothing (c Next)) c) c fuel) (sym t)
    ∙ ap (λ n. charge n (ask (Native (log_member zone) the_window (StrValue text ∷ [])) (with_nothing (c Next)) c) c fuel) (sym u)

-- the same of a text that is written into the title
pub written_charged : (document : Thing) (value : Prim) (text : List ℕ) (c : Cont) (fuel units : ℕ) → text ≡ text_of value → units ≡ argument_units value
    → written_row document value c fuel ≡ charge units (ask (Native DocumentSetTitle document (StrValue text ∷ [])) (with_title (c Next) c) c) c fuel
written_charged document value text c fuel units t u =
    ap (λ xs. charge (argument_units value) (ask (Native DocumentSetTitle document (StrValue xs ∷ [])) (with_title (c Next) c) c) c fuel) (sym t)
    ∙ ap (λ n. charge n (ask (Native DocumentSetTitle document (StrValue text ∷ [])) (with_title (c Next) c) c) c fuel) (sym u)

-- a line ends where its last request does
pub after_line : (s : Setup) (i : Actor) (marks : List Mark) (fuel : ℕ) (c : Cont) (r : Result (Unit {0}) Exit) → ContinuesWithUnit s i marks fuel (c Next) c r → ContinuesWithLine s i marks fuel c r
after_line s i marks fuel c (Ok u) h = h
after_line s i marks fuel c (Err e) h = h

-- the line at a place, and those after it
pub lines_next : (zone : Zone) (lines : List Line) (at : ℕ) (d : Line) (c : Cont) (fuel : ℕ) → at < length lines
    → lines_row zone (drop at lines) c fuel ≡ line_row zone (slice_index_or lines at d) (follow (lines_row zone (drop (at + 1) lines) c) c) fuel
unfolding lines_row
lines_next zone lines at d c fuel h =
    let more : suc at ≡ at + 1 = omega arith in
    ap (λ ls. lines_row zone ls c fuel) (drop-cons lines at d h ∙ ap (λ k. slice_index_or lines at d ∷ drop k lines) more)

pub lines_over : (zone : Zone) (lines : List Line) (at : ℕ) (c : Cont) (fuel : ℕ) → length lines ≤ at → lines_row zone (drop at lines) c fuel ≡ c Next fuel
unfolding lines_row
lines_over zone lines at c fuel h = ap (λ ls. lines_row zone ls c fuel) (drop_of_length-le lines h)

-- what ends a line without a value ends the lines
pub ends_follow : (s : Setup) (i : Actor) (marks : List Mark) (fuel : ℕ) (k : ℕ → Program Bare) (c : Cont) (e : Exit) → Ends s i marks fuel (follow k c) e → Ends s i marks fuel c e
ends_follow s i marks fuel k c (Throw reason) h = h
ends_follow s i marks fuel k c (Halt stop) h = h
ends_follow s i marks fuel k c NoMemory h = h

-- each line adds up one to eight parts
pub adds_at : (lines : List Line) (at : ℕ) (d : Line) → AreLines lines → at < length lines → IsSum (sum_of (slice_index_or lines at d))
adds_at [] at d are h = absurd (omega (arith, h))
adds_at (line ∷ lines) zero d are h = are.0
adds_at (line ∷ lines) (suc at) d are h = adds_at lines at d are.1 (omega (arith, h))

-- the same by the line itself
pub lines_item : (zone : Zone) (lines : List Line) (at : ℕ) (item : Line) (c : Cont) (fuel : ℕ) → at < length lines → item ≡ slice_index_or lines at item
    → lines_row zone (drop at lines) c fuel ≡ line_row zone item (follow (lines_row zone (drop (at + 1) lines) c) c) fuel
lines_item zone lines at item c fuel h e = lines_next zone lines at item c fuel h ∙ ap (λ x. line_row zone x (follow (lines_row zone (drop (at + 1) lines) c) c) fuel) (sym e)

pub adds_item : (lines : List Line) (at : ℕ) (item : Line) → AreLines lines → at < length lines → item ≡ slice_index_or lines at item → IsSum (sum_of item)
adds_item lines at item are h e = let P : Line → Type 0 = λ x. IsSum (sum_of x) in subst P (sym e) (adds_at lines at item are h)
