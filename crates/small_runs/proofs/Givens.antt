-- What a small run is given is in order.
use Rattle.std.proofs.Common.{◌≡◌, ◌∙◌, ap, sym, refl, true≢false, ℕ, ◌<◌, ◌≤◌, true, false, List, [], ◌∷◌, ◌++◌, All, arith, length, map, nat_le, Option, bytes_eq, ◌≢◌, AllPairs, suc, slice_index_or, Bool}
use Rattle.std.specs.List.{list_all, list_any}
use Rattle.std.proofs.lemmas.Bool.Decides.{nat_tests}
use Rattle.std.proofs.lemmas.Slice.Eq.{bytes_eq-Decides}
use Rattle.dom_semantics.specs.declared.kept.Owner.{Owner}
use Rattle.std.proofs.lemmas.List.{length-map}
use Rattle.std.proofs.lemmas.List.Elements.{All-nil, All-cons}
use Rattle.base_text.specs.Scalars.{utf8_len}
use Rattle.base_text.specs.declared.text.TheConstants.{TEXT_LIMIT}
use Rattle.door.specs.declared.limits.TheConstants.{USERSCRIPT_LIMIT}
use Rattle.dom_semantics.specs.declared.selectors.Compound.{Compound}
use Rattle.dom_semantics.specs.Stage.{is_grant_set}
use Rattle.dom_semantics.specs.Stores.{is_owner, is_short_owner}
use Rattle.small_forms.specs.declared.limits.TheConstants.{SMALL_PAGE_LIMIT}
use Rattle.small_forms.specs.declared.userscript.Userscript.{Userscript}
use Rattle.small_forms.specs.Scripts.{IsUserscript, block_end, block_start, userscript_line}
use Rattle.std.specs.List.{flat_map}
use Rattle.std.proofs.lemmas.List.{length-append}
use Rattle.solo_model.specs.Given as given
use Rattle.solo_model.specs.Given.{IsGiven, IsReadOrRefused, are_cut, was_read}
use Rattle.solo_model.specs.Lawful.{Piece}
use Rattle.small_runs.specs.SmallGiven.{AreUserscripts, IsSmall, given_of, piece_given, script_given}
use Rattle.small_runs.proofs.Writes.{short_of}

within : (n m : ℕ) → n ≤ m → nat_le n m ≡ true
within n m h = grind (arith, nat_tests)

-- a name has a byte, so it is none of a refused script
named : (name : List ℕ) → 0 < length name → bytes_eq [] name ≡ false
named [] h = absurd (omega (arith, h))
named (b ∷ name) h = refl

read_script : (script : Userscript) → IsUserscript script.text script.name script.lines → was_read (script_given script) ≡ true
read_script script h = rw (named script.name h.named.nonempty) refl

all_read : (scripts : List Userscript) → AreUserscripts scripts → All IsReadOrRefused (map script_given scripts)
all_read [] h = All-nil IsReadOrRefused
all_read (script ∷ scripts) h =
    All-cons IsReadOrRefused (script_given script) (map script_given scripts) (λ refused. absurd (true≢false (sym (read_script script h.0) ∙ refused))) (all_read scripts h.1)

-- a name is no longer than its text
short_name : (script : Userscript) → IsUserscript script.text script.name script.lines → length script.name ≤ SMALL_PAGE_LIMIT
short_name script h =
    let lines : List ℕ = flat_map userscript_line script.lines in
    let front = length-append block_start (script.name ++ (block_end ++ lines)) in
    let rest = length-append script.name (block_end ++ lines) in
    omega (arith, h.short, ap length h.whole, front, rest)

short_owners : (scripts : List Userscript) → AreUserscripts scripts → list_all is_short_owner (map (λ (script : given.Userscript). script.owner) (map script_given scripts)) ≡ true
short_owners [] h = refl
short_owners (script ∷ scripts) h = rw (short_of [] (omega arith), short_of script.name (short_name script h.0)) (short_owners scripts h.1)

alone : (scripts : List Userscript) → list_all is_grant_set (map (λ (script : given.Userscript). script.grants) (map script_given scripts)) ≡ true
alone [] = refl
alone (script ∷ scripts) = alone scripts

few : (scripts : List Userscript) → length scripts ≤ USERSCRIPT_LIMIT → nat_le (length (map (λ (script : given.Userscript). script.owner) (map script_given scripts))) USERSCRIPT_LIMIT ≡ true
few scripts h =
    let long : length (map (λ (script : given.Userscript). script.owner) (map script_given scripts)) ≡ length scripts =
    length-map (map script_given scripts) (λ (script : given.Userscript). script.owner) ∙ length-map scripts script_given in
    within _ USERSCRIPT_LIMIT (omega (arith, h, long))

-- ---- no two share their values

abbrev owner_given : Userscript → Owner
owner_given script = record { namespace = []; name = script.name }

owners_are : (scripts : List Userscript) → AreUserscripts scripts → given.owners_in (map script_given scripts) ≡ map owner_given scripts
owners_are [] h = refl
owners_are (script ∷ scripts) h = rw (read_script script h.0) (ap (λ os. owner_given script ∷ os) (owners_are scripts h.1))

differ : (a b : List ℕ) → a ≢ b → bytes_eq a b ≡ false
differ a b h = by (bytes_eq a b) refl
  where
    by : (c : Bool) → bytes_eq a b ≡ c → bytes_eq a b ≡ false
    by true e = absurd (h ((bytes_eq-Decides a b).0 e))
    by false e = e

none_alike : (name : List ℕ) (scripts : List Userscript) → ((k : ℕ) (d : List ℕ) → k < length (map (λ (script : Userscript). script.name) scripts)
    → name ≢ slice_index_or (map (λ (script : Userscript). script.name) scripts) k d) → list_any (is_owner (record { namespace = []; name = name })) (map owner_given scripts) ≡ false
none_alike name [] h = refl
none_alike name (script ∷ scripts) h =
    rw (differ name script.name (h 0 [] (omega arith))) (none_alike name scripts (λ k d less. h (suc k) d (omega (arith, less))))

names_apart : (scripts : List Userscript) → AllPairs (λ a b. a ≢ b) (map (λ (script : Userscript). script.name) scripts) → given.are_apart (map owner_given scripts) ≡ true
names_apart [] h = refl
names_apart (script ∷ scripts) h =
    rw (none_alike script.name scripts (λ k d less. h 0 (suc k) d (omega arith) (omega (arith, less))))
    (names_apart scripts (λ i j d less short. h (suc i) (suc j) d (omega (arith, less)) (omega (arith, short))))

pub given_in_order : (address : List ℕ) (pieces : List Piece) (scripts : List Userscript) (read : List ℕ → Option (List (List Compound))) → IsSmall address scripts read
    → are_cut (map piece_given pieces) ≡ true → IsGiven (given_of address pieces scripts read)
given_in_order address pieces scripts read small cut = record {
  setting = record {
    reading = small.reading;
    address = within (utf8_len address) TEXT_LIMIT (omega (arith, small.short));
    scripts = few scripts small.few;
    owners = short_owners scripts small.forms;
    grants = length-map (map script_given scripts) (λ (script : given.Userscript). script.grants) ∙ sym (length-map (map script_given scripts) (λ (script : given.Userscript). script.owner));
    alone = alone scripts;
    store = refl;
    clocks = refl;
  };
  pieces = cut;
  refused = all_read scripts small.forms;
  owners = ap given.are_apart (owners_are scripts small.forms) ∙ names_apart scripts small.names;
  lines = refl;
}
