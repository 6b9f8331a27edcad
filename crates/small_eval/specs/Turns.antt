-- How far a run has come.
use Rattle.std.specs.Prelude.{◌≡◌, ◌≤◌, ◌+◌, ℕ, Bool, List, [], ◌∷◌, ◌++◌, length, map, if◌then◌else◌}
use Rattle.door.specs.declared.requests.Request.{Request}
use Rattle.door.specs.declared.marks.Mark.{Mark}
use Rattle.door.specs.declared.marks.Mark.TheVariants.{Turn}
use Rattle.door.specs.declared.marks.Task.{Task}
use Rattle.door.specs.declared.marks.Task.TheVariants.{Piece as PieceTask}
use Rattle.dom_semantics.specs.Changes.{is_empty}
use Rattle.small_forms.specs.declared.userscript.ScriptFile.{ScriptFile}
use Rattle.small_forms.specs.Scripts.{IsUserscript}
use Rattle.solo_model.specs.Lawful.{AreBuilds, AreTurns, Input}
use Rattle.door.specs.declared.limits.TheConstants.{MARK_LIMIT}
use Rattle.small_eval.specs.declared.world.World.{World}
use Rattle.small_eval.specs.Builds.{IsRooted}
use Rattle.small_eval.specs.Heads.{IsHeaded}
use Rattle.small_eval.specs.Worlds.{IsSound}

-- the turn of a piece has begun after those of these tasks, and these requests of it were made
pub record IsBuilding (input : Input) (tasks : List Task) (n : ℕ) (requests : List Request) (marks : List Mark) : Type 0 where
  pub done : List Mark
  pub builds : List Mark
  pub turns : AreTurns input [] tasks done
  pub built : AreBuilds (done ++ Turn (PieceTask n) ∷ []) requests builds
  pub whole : marks ≡ (done ++ Turn (PieceTask n) ∷ []) ++ builds

-- the text of each of these userscripts is read as its name and its lines
abbrev pub AreUserscripts : List ScriptFile → Type 0
AreUserscripts [] = Unit {0}
AreUserscripts (file ∷ files) = IsUserscript file.script.text file.script.name file.script.lines × AreUserscripts files

-- the texts of these userscripts
abbrev pub file_texts : List ScriptFile → List (List ℕ)
file_texts files = map (λ (file : ScriptFile). file.script.text) files

-- at most so many marks, and just so many nodes of the host, were added
pub record HasGone (marks nodes : ℕ) (old new : World) : Type 0 where
  pub sound : IsSound new
  pub limit : new.journal.limit ≡ old.journal.limit
  pub long : length new.journal.marks ≤ length old.journal.marks + marks
  pub own : (more : List ℕ) × (new.own.items ≡ old.own.items ++ more) × (length more ≡ nodes)

-- a run has at most so many marks and nodes of the host, and the title element stands where it was built
pub record IsGoing (marks nodes : ℕ) (world : World) : Type 0 where
  pub sound : IsSound world
  pub headed : IsHeaded world.tree
  pub rooted : IsRooted world.own.items
  pub limit : world.journal.limit ≡ MARK_LIMIT
  pub long : length world.journal.marks ≤ marks
  pub few : length world.own.items ≤ nodes

-- how many nodes a script element makes
abbrev pub script_nodes : List ℕ → ℕ
script_nodes text = if is_empty text then 1 else 2

-- how many the paragraph and the division are
abbrev pub block_nodes : Bool → ℕ
block_nodes blocks = if blocks then 2 else 0
