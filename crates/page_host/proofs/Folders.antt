-- Files that hold a page and userscripts, for a folder that tells none.
use Rattle.std.proofs.Common.{◌≡◌, ◌∙◌, ap, sym, refl, subst, ℕ, true, false, List, [], ◌∷◌, length, arith, codes, None, IsSome}
use Rattle.std.proofs.lemmas.Map.Keys.{sorted_head, sorted_tail}
use Rattle.std.specs.Prelude.{Contains}
use Rattle.std.specs.List.{AllByRecursion}
use Rattle.std.specs.Cmp.Lexicographic.{slice_cmp}
use Rattle.std.specs.Ordering.{nat_cmp}
use Rattle.std.specs.declared.cmp.Ordering.TheVariants.{Less}
use Rattle.std.specs.Str.{bytes_eq}
use Rattle.std.proofs.lemmas.Slice.Eq.{bytes_eq-Decides}
use Rattle.outside.specs.Contents.{Files, content}
use Rattle.small_forms.specs.declared.userscript.Userscript.{Userscript}
use Rattle.page_host.specs.Names.{AreInOrder, IsScriptNames, is_userscript}
use Rattle.page_host.specs.Loaded.{AreChosen}
use Rattle.page_host.specs.Scripts.{AreHeld}
use Rattle.page_host.proofs.NameLists.{at_or, here, there, nowhere, cases, not_below, some_not_none, userscript_at}

-- the files of these names, which hold these userscripts
abbrev pub paired : List (List ℕ) → List Userscript → Files
paired [] scripts = []
paired (name ∷ names) [] = []
paired (name ∷ names) (script ∷ scripts) = (name, script.text) ∷ paired names scripts

-- a page and the userscripts
abbrev pub the_files : List ℕ → List (List ℕ) → List Userscript → Files
the_files page names scripts = (codes "page.html", page) ∷ paired names scripts

apart : (x y : List ℕ) → slice_cmp nat_cmp x y ≡ Less → bytes_eq x y ≡ false
apart x y less =
    elim (bytes_eq x y) as (λ b. bytes_eq x y ≡ b → b ≡ false) [
      | true ↦ λ e. let P : List ℕ → Type 0 = λ z. slice_cmp nat_cmp x z ≡ Less in absurd (not_below x (subst P (sym ((bytes_eq-Decides x y).0 e)) less))
      | false ↦ λ e. refl
    ] refl

-- a file more in front, of another name
held_behind : (name text : List ℕ) (files : Files) (names : List (List ℕ)) (scripts : List Userscript) → AllByRecursion (λ y. slice_cmp nat_cmp name y ≡ Less) names → AreHeld files names scripts → AreHeld ((name, text) ∷ files) names scripts
held_behind name text files [] [] above held = tt
held_behind name text files [] (s ∷ ss) above held = absurd held
held_behind name text files (n ∷ ns) [] above held = absurd held
held_behind name text files (n ∷ ns) (s ∷ ss) above held = (rw (apart name n above.0) held.0, held_behind name text files ns ss above.1 held.1)

pub held_paired : (names : List (List ℕ)) (scripts : List Userscript) → AreInOrder names → length scripts ≡ length names → AreHeld (paired names scripts) names scripts
held_paired [] [] order count = tt
held_paired [] (s ∷ ss) order count = absurd (omega (arith, count))
held_paired (n ∷ ns) [] order count = absurd (omega (arith, count))
held_paired (n ∷ ns) (s ∷ ss) order count =
    (rw ((bytes_eq-Decides n n).1 refl) refl, held_behind n s.text (paired ns ss) ns ss (sorted_head (slice_cmp nat_cmp) n ns order) (held_paired ns ss (sorted_tail (slice_cmp nat_cmp) n ns order) (omega (arith, count))))

-- a userscript's name is no other name
other_name : (name file : List ℕ) → is_userscript name ≡ false → is_userscript file ≡ true → bytes_eq name file ≡ false
other_name name file isnt is =
    elim (bytes_eq name file) as (λ b. bytes_eq name file ≡ b → b ≡ false) [
      | true ↦ λ e. let clash : true ≡ false = sym is ∙ ap is_userscript (sym ((bytes_eq-Decides name file).0 e)) ∙ isnt in cc
      | false ↦ λ e. refl
    ] refl

held_under : (page : List ℕ) (files : Files) (names : List (List ℕ)) (scripts : List Userscript) → ((name : List ℕ) → Contains names name → is_userscript name ≡ true) → AreHeld files names scripts → AreHeld ((codes "page.html", page) ∷ files) names scripts
held_under page files [] [] each held = tt
held_under page files [] (s ∷ ss) each held = absurd held
held_under page files (n ∷ ns) [] each held = absurd held
held_under page files (n ∷ ns) (s ∷ ss) each held =
    (rw (other_name (codes "page.html") n refl (each n (here n ns))) held.0, held_under page files ns ss (λ name among. each name (there n name ns among)) held.1)

pub the_held : (page : List ℕ) (names : List (List ℕ)) (scripts : List Userscript) → AreChosen names → length scripts ≡ length names → AreHeld (the_files page names scripts) names scripts
the_held page names scripts chosen count =
    held_under page (paired names scripts) names scripts (λ name among. userscript_at names name chosen.userscripts among) (held_paired names scripts chosen.order count)

-- a held file is there
held_there : (files : Files) (names : List (List ℕ)) (scripts : List Userscript) (name : List ℕ) → AreHeld files names scripts → Contains names name → IsSome (content files name)
held_there files [] scripts name held among = absurd (nowhere name among)
held_there files (n ∷ ns) [] name held among = absurd held
held_there files (n ∷ ns) (s ∷ ss) name held among =
    at_or (λ z. IsSome (content files z)) n name ns (rw held.0 refl) (λ rest. held_there files ns ss name held.1 rest) (cases n name ns among)

-- of paired files no other is there
paired_only : (names : List (List ℕ)) (scripts : List Userscript) (name : List ℕ) → IsSome (content (paired names scripts) name) → Contains names name
paired_only [] scripts name some = absurd (some_not_none (content [] name) refl some)
paired_only (n ∷ ns) [] name some = absurd (some_not_none (content [] name) refl some)
paired_only (n ∷ ns) (s ∷ ss) name some =
    elim (bytes_eq n name) as (λ b. bytes_eq n name ≡ b → Contains (n ∷ ns) name) [
      | true ↦ λ e. (0, omega arith, (bytes_eq-Decides n name).0 e)
      | false ↦ λ e. there n name ns (paired_only ns ss name (rw e at some))
    ] refl

only_there : (page : List ℕ) (names : List (List ℕ)) (scripts : List Userscript) (name : List ℕ) → is_userscript name ≡ true → IsSome (content (the_files page names scripts) name) → Contains names name
only_there page names scripts name is some = paired_only names scripts name (rw (other_name (codes "page.html") name refl is) at some)

pub the_names : (page : List ℕ) (names : List (List ℕ)) (scripts : List Userscript) → AreChosen names → length scripts ≡ length names → IsScriptNames (the_files page names scripts) names
the_names page names scripts chosen count = record {
  order = chosen.order;
  exact = λ name. (
    (λ among. (held_there (the_files page names scripts) names scripts name (the_held page names scripts chosen count) among, userscript_at names name chosen.userscripts among)),
    (λ both. only_there page names scripts name both.1 both.0),
  );
}

none_paired : (names : List (List ℕ)) (scripts : List Userscript) (name : List ℕ) → (Contains names name → ⊥) → content (paired names scripts) name ≡ None
none_paired [] scripts name new = refl
none_paired (n ∷ ns) [] name new = refl
none_paired (n ∷ ns) (s ∷ ss) name new =
    elim (bytes_eq n name) as (λ b. bytes_eq n name ≡ b → content (paired (n ∷ ns) (s ∷ ss)) name ≡ None) [
      | true ↦ λ e. absurd (new (0, omega arith, (bytes_eq-Decides n name).0 e))
      | false ↦ λ e. rw e (none_paired ns ss name (λ among. new (there n name ns among)))
    ] refl

pub the_eventless : (page : List ℕ) (names : List (List ℕ)) (scripts : List Userscript) → AreChosen names → content (the_files page names scripts) (codes "events.txt") ≡ None
the_eventless page names scripts chosen =
    none_paired names scripts (codes "events.txt") (λ among. let e = userscript_at names (codes "events.txt") chosen.userscripts among in let clash : false ≡ true = e in cc)
