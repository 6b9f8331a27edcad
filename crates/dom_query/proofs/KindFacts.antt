-- What the kind of a scalar says of it.
use Rattle.std.proofs.Common.{◌≡◌, ◌⊎◌, ℕ, Bool, true, false, ◌==◌, cond, refl, ap, ◌∙◌, arith, inl, inr}
use Rattle.std.proofs.lemmas.Bool.Decides.{nat_tests}
use Rattle.dom_query.specs.declared.kind.Kind.{Kind}
use Rattle.dom_query.specs.declared.kind.Kind.TheVariants as k
use Rattle.dom_semantics.specs.SelectorNames.{is_name_scalar}
use Rattle.dom_semantics.specs.Whitespace.{is_white_space}
use Rattle.dom_query.specs.ReadingModel.{kind_of}

abbrev pub Fact : Kind → ℕ → Type 0
Fact k.Name c = is_name_scalar c ≡ true
Fact k.Blank c = is_white_space c ≡ true
Fact k.Star c = c ≡ 42
Fact k.Hash c = c ≡ 35
Fact k.Dot c = c ≡ 46
Fact k.Open c = c ≡ 91
Fact k.Close c = c ≡ 93
Fact k.Equals c = c ≡ 61
Fact k.Quote c = (c ≡ 34) ⊎ (c ≡ 39)
Fact k.Comma c = c ≡ 44
Fact k.Other c = Unit {0}

abbrev from_comma : ℕ → Kind
from_comma c = cond (c == 44) k.Comma k.Other

abbrev from_single : ℕ → Kind
from_single c = cond (c == 39) k.Quote (from_comma c)

abbrev from_double : ℕ → Kind
from_double c = cond (c == 34) k.Quote (from_single c)

abbrev from_equals : ℕ → Kind
from_equals c = cond (c == 61) k.Equals (from_double c)

abbrev from_close : ℕ → Kind
from_close c = cond (c == 93) k.Close (from_equals c)

abbrev from_open : ℕ → Kind
from_open c = cond (c == 91) k.Open (from_close c)

abbrev from_dot : ℕ → Kind
from_dot c = cond (c == 46) k.Dot (from_open c)

abbrev from_hash : ℕ → Kind
from_hash c = cond (c == 35) k.Hash (from_dot c)

abbrev from_star : ℕ → Kind
from_star c = cond (c == 42) k.Star (from_hash c)

abbrev from_blank : ℕ → Kind
from_blank c = cond (is_white_space c) k.Blank (from_star c)

by_cond : (b : Bool) (x y : Kind) (c : ℕ) → (b ≡ true → Fact x c) → Fact y c → Fact (cond b x y) c
by_cond true x y c h other = h refl
by_cond false x y c h other = other

is_it : (c n : ℕ) → (c == n) ≡ true → c ≡ n
is_it c n e = grind (arith, nat_tests)

pub fact_of : (c : ℕ) → Fact (kind_of c) c
fact_of c =
    by_cond (is_name_scalar c) k.Name (from_blank c) c (λ e. e)
    (by_cond (is_white_space c) k.Blank (from_star c) c (λ e. e)
    (by_cond (c == 42) k.Star (from_hash c) c (is_it c 42)
    (by_cond (c == 35) k.Hash (from_dot c) c (is_it c 35)
    (by_cond (c == 46) k.Dot (from_open c) c (is_it c 46)
    (by_cond (c == 91) k.Open (from_close c) c (is_it c 91)
    (by_cond (c == 93) k.Close (from_equals c) c (is_it c 93)
    (by_cond (c == 61) k.Equals (from_double c) c (is_it c 61)
    (by_cond (c == 34) k.Quote (from_single c) c (λ e. inl (is_it c 34 e))
    (by_cond (c == 39) k.Quote (from_comma c) c (λ e. inr (is_it c 39 e))
    (by_cond (c == 44) k.Comma k.Other c (is_it c 44) tt))))))))))

abbrev pub is_name_kind : Kind → Bool
is_name_kind k.Name = true
is_name_kind kind = false

plain_cond : (b : Bool) (x y : Kind) → is_name_kind x ≡ false → is_name_kind y ≡ false → is_name_kind (cond b x y) ≡ false
plain_cond true x y h other = h
plain_cond false x y h other = other

plain_blank : (c : ℕ) → is_name_kind (from_blank c) ≡ false
plain_blank c =
    plain_cond (is_white_space c) k.Blank (from_star c) refl
    (plain_cond (c == 42) k.Star (from_hash c) refl
    (plain_cond (c == 35) k.Hash (from_dot c) refl
    (plain_cond (c == 46) k.Dot (from_open c) refl
    (plain_cond (c == 91) k.Open (from_close c) refl
    (plain_cond (c == 93) k.Close (from_equals c) refl
    (plain_cond (c == 61) k.Equals (from_double c) refl
    (plain_cond (c == 34) k.Quote (from_single c) refl
    (plain_cond (c == 39) k.Quote (from_comma c) refl
    (plain_cond (c == 44) k.Comma k.Other refl refl)))))))))

pub name_kind : (c : ℕ) → is_name_scalar c ≡ true → kind_of c ≡ k.Name
name_kind c e = ap (λ b. cond b k.Name (from_blank c)) e

plain_by : (b : Bool) (y : Kind) → b ≡ false → is_name_kind y ≡ false → is_name_kind (cond b k.Name y) ≡ false
plain_by true y e other = absurd (cc)
plain_by false y e other = other

pub plain_kind : (c : ℕ) → is_name_scalar c ≡ false → is_name_kind (kind_of c) ≡ false
plain_kind c e = plain_by (is_name_scalar c) (from_blank c) e (plain_blank c)

plain_from : (b : Bool) (y : Kind) → is_name_kind (cond b k.Name y) ≡ false → b ≡ false
plain_from true y e = absurd (cc)
plain_from false y e = refl

-- a kind other than of names is that of no scalar of names
pub plain_scalar : (c : ℕ) → is_name_kind (kind_of c) ≡ false → is_name_scalar c ≡ false
plain_scalar c e = plain_from (is_name_scalar c) (from_blank c) e

blank_plain : (c : ℕ) → is_white_space c ≡ true → is_name_scalar c ≡ false
blank_plain c e = grind (arith, nat_tests)

pub blank_kind : (c : ℕ) → is_white_space c ≡ true → kind_of c ≡ k.Blank
blank_kind c e = ap (λ b. cond b k.Name (from_blank c)) (blank_plain c e) ∙ ap (λ b. cond b k.Blank (from_star c)) e
