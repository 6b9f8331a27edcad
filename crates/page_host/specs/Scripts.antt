-- The userscripts of a folder as they are read; this project's own.
use Rattle.std.specs.Prelude.{◌≡◌, ℕ, List, [], ◌∷◌, map, Some}
use Rattle.std.specs.String.{string_bytes}
use Rattle.outside.specs.Contents.{AreDistinct, Files, content}
use Rattle.small_forms.specs.Scripts.{IsUserscript}
use Rattle.small_forms.specs.declared.userscript.ScriptFile.{ScriptFile}
use Rattle.small_forms.specs.declared.userscript.Userscript.{Userscript}

-- the names that their metadata blocks say
abbrev pub names_in : List Userscript → List (List ℕ)
names_in scripts = map (λ (script : Userscript). script.name) scripts

-- the names of their files
abbrev pub files_in : List ScriptFile → List (List ℕ)
files_in scripts = map (λ (script : ScriptFile). string_bytes script.file) scripts

-- the userscripts in these files
abbrev pub userscripts_in : List ScriptFile → List Userscript
userscripts_in scripts = map (λ (script : ScriptFile). script.script) scripts

-- a userscript of the form that is read, with the lines that its text is read as
abbrev pub IsScript : Userscript → Type 0
IsScript script = IsUserscript script.text script.name script.lines

-- each of them is one
abbrev pub AreScripts : List Userscript → Type 0
AreScripts [] = Unit {0}
AreScripts (script ∷ scripts) = IsScript script × AreScripts scripts

-- the files of these names hold the texts of these userscripts, one by one
abbrev pub AreHeld : Files → List (List ℕ) → List Userscript → Type 0
AreHeld files [] [] = Unit {0}
AreHeld files (file ∷ names) (script ∷ scripts) = (content files file ≡ Some script.text) × AreHeld files names scripts
AreHeld files names scripts = ⊥

-- the files of these names are these userscripts, no two of which say the same name
pub record AreRead (files : Files) (names : List (List ℕ)) (scripts : List Userscript) : Type 0 where
  pub held : AreHeld files names scripts
  pub scripts_are : AreScripts scripts
  pub distinct : AreDistinct (names_in scripts)
