-- What a reading answers: a value, or the kind of a fault and the page's text from it on.
use Rattle.std.specs.Prelude.{◌≡◌, ℕ, cond, nat_lt, ◌<◌, ◌≤◌, List, Result, Ok, Err, length}
use Rattle.std.specs.Str.{IsUtf8, chars}
use Rattle.base_text.specs.declared.text.TheConstants.{TEXT_LIMIT}
use Rattle.page_text.specs.declared.faults.PageKind.{PageKind}
use Rattle.page_text.specs.declared.faults.PageKind.TheVariants.{TooLong}
use Rattle.page_text.specs.declared.faults.Failed.{Failed}
use Rattle.page_text.specs.declared.faults.Failed.TheVariants.{Memory, Fault}
use Rattle.page_text.specs.Bytes.{Bytes}

abbrev pub Outcome : Type 0 → Type 0
Outcome A = Result A (PageKind × Bytes)

infixl 10 ◌>>=◌
abbrev pub ◌>>=◌ : {A B : Type 0} → Outcome A → (A → Outcome B) → Outcome B
(Ok a) >>= f = f a
(Err e) >>= f = Err e

-- What a function returned, seen by view, is what the reading answers, unless memory ran out.
abbrev pub Fails : {Y : Type 0} → Failed → Outcome Y → Type 0
Fails Memory read = Unit {0}
Fails (Fault kind rest) read = read ≡ Err (kind, rest.now)

abbrev pub Gives : {X Y : Type 0} → (X → Y) → Result X Failed → Outcome Y → Type 0
Gives view (Ok x) read = read ≡ Ok (view x)
Gives view (Err e) read = Fails e read

-- the text of these bytes, where it is within the limit; else it is too long, from `at` on
unfoldable pub checked : Bytes → Bytes → Outcome (List ℕ)
checked read at = cond (nat_lt TEXT_LIMIT (length read)) (Err (TooLong, at)) (Ok (chars read))

-- What a function returned, seen by view, is such an answer, unless memory ran out.
abbrev pub Answers : {X Y : Type 0} → (X → Y) → (Outcome Y → Type 0) → Result X Failed → Type 0
Answers view is (Ok x) = is (Ok (view x))
Answers view is (Err Memory) = Unit {0}
Answers view is (Err (Fault kind rest)) = is (Err (kind, rest.now))

-- what is left of a text, which is a text, and no longer, or shorter
abbrev pub IsRest : Bytes → Bytes → Type 0
IsRest text rest = (length rest ≤ length text) × IsUtf8 rest

abbrev pub IsLess : Bytes → Bytes → Type 0
IsLess text rest = (length rest < length text) × IsUtf8 rest
