-- A document whose title element stands where it was built: html is node 1, head 2 and title 3; this project's own.
use Rattle.std.specs.Prelude.{◌≡◌, ◌<◌, ℕ, Bool, true, false, List, [], ◌∷◌, codes, length}
use Rattle.dom_semantics.specs.Forest.{Forest, children_of, form_at, is_tagged}

abbrev pub is_title : Forest → ℕ → Bool
is_title f n = is_tagged (codes "title") (form_at f n)

pub record IsHeaded (f : Forest) : Type 0 where
  pub long : 3 < length f
  pub root : children_of f 0 ≡ 1 ∷ []
  pub html : (rest : List ℕ) × (children_of f 1 ≡ 2 ∷ rest)
  pub head : children_of f 2 ≡ 3 ∷ []
  pub no_root : is_title f 0 ≡ false
  pub no_html : is_title f 1 ≡ false
  pub no_head : is_title f 2 ≡ false
  pub title : is_title f 3 ≡ true
