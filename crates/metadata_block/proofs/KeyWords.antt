-- Two keys, moments or grants of one text are one.
use Rattle.std.specs.Prelude.{◌≡◌, ◌==◌, ℕ, List, length, refl, if◌then◌else◌}
use Rattle.std.proofs.Common.{ap, sym, ◌∙◌, get_or}
use Rattle.metadata_block.specs.Block.{key_text, run_at_text, grant_text}
use Rattle.metadata_block.specs.declared.meta.Grant.{Grant}
use Rattle.metadata_block.specs.declared.meta.Grant.TheVariants as grant
use Rattle.metadata_block.specs.declared.meta.RunAt.{RunAt}
use Rattle.metadata_block.specs.declared.meta.RunAt.TheVariants.{Start, End, Idle}
use Rattle.metadata_block.specs.declared.words.Key.{Key}
use Rattle.metadata_block.specs.declared.words.Key.TheVariants as key

-- a way back from the texts tells them apart
by_way_back : {K : Type 0} (text : K → List ℕ) (back : List ℕ → K) → ((k : K) → back (text k) ≡ k) → (u v : K) → text u ≡ text v → u ≡ v
by_way_back text back is u v e = sym (is u) ∙ (ap back e ∙ is v)

abbrev key_back : List ℕ → Key
key_back t =
    if length t == 4 then key.Name
    else (if length t == 9 then key.Namespace
    else (if length t == 6 then key.RunAt
    else (if length t == 5 then (if get_or t 0 0 == 103 then key.Grant else key.Match)
    else (if get_or t 0 0 == 105 then key.Include else key.Exclude))))

key_is : (u : Key) → key_back (key_text u) ≡ u
key_is key.Name = refl
key_is key.Namespace = refl
key_is key.RunAt = refl
key_is key.Grant = refl
key_is key.Include = refl
key_is key.Exclude = refl
key_is key.Match = refl

pub one_key : (u v : Key) → key_text u ≡ key_text v → u ≡ v
one_key u v e = by_way_back key_text key_back key_is u v e

abbrev moment_back : List ℕ → RunAt
moment_back t = if length t == 14 then Start else (if length t == 12 then End else Idle)

moment_is : (r : RunAt) → moment_back (run_at_text r) ≡ r
moment_is Start = refl
moment_is End = refl
moment_is Idle = refl

pub one_moment : (u v : RunAt) → run_at_text u ≡ run_at_text v → u ≡ v
one_moment u v e = by_way_back run_at_text moment_back moment_is u v e

abbrev grant_back : List ℕ → Grant
grant_back t =
    if length t == 4 then grant.NoGrant
    else (if length t == 12 then grant.UnsafeWindow
    else (if length t == 14 then grant.DeleteValue
    else (if length t == 13 then grant.ListValues
    else (if length t == 6 then grant.Log
    else (if get_or t 3 0 == 103 then grant.GetValue else grant.SetValue)))))

grant_is : (g : Grant) → grant_back (grant_text g) ≡ g
grant_is grant.NoGrant = refl
grant_is grant.UnsafeWindow = refl
grant_is grant.GetValue = refl
grant_is grant.SetValue = refl
grant_is grant.DeleteValue = refl
grant_is grant.ListValues = refl
grant_is grant.Log = refl

pub one_grant : (u v : Grant) → grant_text u ≡ grant_text v → u ≡ v
one_grant u v e = by_way_back grant_text grant_back grant_is u v e
