use Rattle.std.proofs.Common.{◌≡◌, OnOk, Ok, Err, Result, List, ◌++◌, ◌∷◌, [], subst, sym}
use Rattle.door.specs.declared.marks.Mark.{Mark}
use Rattle.door.specs.declared.marks.Mark.TheVariants.{Ask}
use Rattle.solo_model.specs.View.{meets_answer, met_of, named_answer}
use Rattle.small_meaning.specs.Reached.{HasReached}
use Rattle.small_eval.specs.declared.world.World.{World}
use Rattle.small_meaning.proofs.Reaching.{reached-asked}
use Rattle.small_eval.proofs.Sound.{met_asked}
use Rattle.small_eval.proofs.ask.tell.Goals as goal

-- what is said of the marks that were added
on_added : {A E : Type 0} (r : Result A E) (P : List Mark → Type 0) (old new : World) (mark : Mark) → OnOk r (new ≡ record old { journal = record old.journal { marks = old.journal.marks ++ mark ∷ [] } }) → P (old.journal.marks ++ mark ∷ []) → OnOk r (P new.journal.marks)
on_added (Ok v) P old new mark e h = let Q : World → Type 0 = λ world. P world.journal.marks in subst Q (sym e) h
on_added (Err v) P old new mark e h = tt

pub returns-clause-met : goal.returns-clause-met
returns-clause-met c =
    on_added c.note.result (λ marks. met_of c.args.actor marks ≡ meets_answer c.args.actor (met_of c.args.actor c.args.world.now.journal.marks) c.args.given) c.args.world.now c.note.new.world (Ask c.args.actor c.args.request c.args.given) c.note.ensures.ok
    (met_asked c.args.actor c.args.world.now.journal.marks c.args.request c.args.given)

pub returns-clause-own : goal.returns-clause-own
returns-clause-own c = λ s asked k e h.
    on_added c.note.result (λ marks. HasReached s c.args.actor marks (k (named_answer c.args.actor (meets_answer c.args.actor (met_of c.args.actor c.args.world.now.journal.marks) c.args.given) c.args.given))) c.args.world.now c.note.new.world (Ask c.args.actor c.args.request c.args.given) c.note.ensures.ok
    (reached-asked s c.args.actor c.args.world.now.journal.marks asked c.args.request c.args.given k e h)
