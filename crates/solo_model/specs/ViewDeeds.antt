-- What a script is shown and what it does, by its view; this project's own.
use Rattle.std.specs.Prelude.{List, [], ◌∷◌}
use Rattle.solo_model.specs.ActorView.{Seen, Entered, Asked, Said, Returned}
pub use Rattle.solo_model.specs.Solo.{Show, Enters, Answers, Backs, Deed, Requests, Says, IsSoloFrom}

-- the shows of a view
unfoldable pub shows_of : List Seen → List Show
shows_of [] = []
shows_of (Entered entry ∷ seen) = Enters entry ∷ shows_of seen
shows_of (Asked request answer ∷ seen) = Answers answer ∷ shows_of seen
shows_of (Said act ∷ seen) = shows_of seen
shows_of (Returned answer ∷ seen) = Backs answer ∷ shows_of seen

-- the deeds of a view
unfoldable pub deeds_of : List Seen → List Deed
deeds_of [] = []
deeds_of (Entered entry ∷ seen) = deeds_of seen
deeds_of (Asked request answer ∷ seen) = Requests request ∷ deeds_of seen
deeds_of (Said act ∷ seen) = Says act ∷ deeds_of seen
deeds_of (Returned answer ∷ seen) = deeds_of seen
