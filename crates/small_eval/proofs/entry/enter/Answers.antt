use Rattle.std.proofs.Common.{◌≡◌, ◌∙◌, refl, subst, List, ℕ, ◌-◌, ◌≤◌, ◌∷◌, [], ◌++◌, length}
use Rattle.door.specs.declared.marks.Mark.{Mark}
use Rattle.door.specs.declared.marks.Mark.TheVariants.{Enter, Leave}
use Rattle.door.specs.declared.marks.Entry.TheVariants.{Script}
use Rattle.solo_model.specs.Lawful.{IsEntry}
use Rattle.door.specs.declared.limits.TheConstants.{FUEL_LIMIT}
use Rattle.small_eval.specs.Bounds.{ENTRY_MARKS}
use Rattle.small_eval.specs.Continuations.{Adds}
use Rattle.small_eval.specs.Heads.{IsHeaded}
use Rattle.small_eval.specs.Idle.{AreIdle}
use Rattle.small_eval.specs.declared.world.World.{World}
use Rattle.small_eval.proofs.Sound.{headed_of, headed_still, journal_of, own_of, own_still}
use Rattle.small_eval.proofs.Entries.{entry_marks, idle_entry, on_left}
use Rattle.small_eval.proofs.entry.enter.Goals as goal

pub returns-clause-entry : goal.returns-clause-entry
returns-clause-entry c =
    let k = c.lines-ended.ensures.keeps c.in_ok-outcome.ensures.goes in
    let P : World → Type 0 = λ world. (marks : List Mark) × Adds c.args.world.now.journal world.journal marks × IsEntry c.args.actor c.args.text.now marks × (length marks ≤ ENTRY_MARKS) in
    let Q : List ℕ → Type 0 = λ t. (marks : List Mark) × Adds c.args.world.now.journal (record c.lines-ended.new.world.journal { marks = c.lines-ended.new.world.journal.marks ++ Leave c.args.actor c.in_ok-outcome.outcome (FUEL_LIMIT - c.lines-ended.new.fuel) ∷ [] }) marks × IsEntry c.args.actor t marks × (length marks ≤ ENTRY_MARKS) in
    let ended : World = record c.lines-ended.new.world { journal = record c.lines-ended.new.world.journal { marks = c.lines-ended.new.world.journal.marks ++ Leave c.args.actor c.in_ok-outcome.outcome (FUEL_LIMIT - c.lines-ended.new.fuel) ∷ [] } } in
    on_left c.note-2.result P c.lines-ended.new.world c.note-2.new.world (Leave c.args.actor c.in_ok-outcome.outcome (FUEL_LIMIT - c.lines-ended.new.fuel)) c.note-2.ensures.ok
    (subst Q c.in_ok-share.ensures (entry_marks c.args.actor c.in_ok-share.field-0 c.args.world.now c.note.new.world c.lines-ended.new.world ended c.in_ok-outcome.outcome (FUEL_LIMIT - c.lines-ended.new.fuel) c.lines-ended.new.fuel (journal_of _ _ _ c.in_ok-note.ensures.ok) k refl))

pub returns-clause-headed : goal.returns-clause-headed
returns-clause-headed c =
    let k = c.lines-ended.ensures.keeps c.in_ok-outcome.ensures.goes in
    let P : World → Type 0 = λ world. IsHeaded world.tree in
    on_left c.note-2.result P c.lines-ended.new.world c.note-2.new.world (Leave c.args.actor c.in_ok-outcome.outcome (FUEL_LIMIT - c.lines-ended.new.fuel)) c.note-2.ensures.ok
    (headed_of _ _ _ _ _ k (headed_still _ _ _ c.in_ok-note.ensures.ok c.requires.headed))

pub returns-clause-own : goal.returns-clause-own
returns-clause-own c =
    let k = c.lines-ended.ensures.keeps c.in_ok-outcome.ensures.goes in
    let P : World → Type 0 = λ world. world.own ≡ c.args.world.now.own in
    on_left c.note-2.result P c.lines-ended.new.world c.note-2.new.world (Leave c.args.actor c.in_ok-outcome.outcome (FUEL_LIMIT - c.lines-ended.new.fuel)) c.note-2.ensures.ok
    (own_of _ _ _ _ _ k ∙ own_still _ _ _ c.in_ok-note.ensures.ok)

pub returns-clause-idle : goal.returns-clause-idle
returns-clause-idle c = λ setups z all.
    let k = c.lines-ended.ensures.keeps c.in_ok-outcome.ensures.goes in
    let P : World → Type 0 = λ world. AreIdle setups world.journal.marks in
    let E : List ℕ → Type 0 = λ t. c.note.new.world.journal ≡ record c.args.world.now.journal { marks = c.args.world.now.journal.marks ++ Enter c.args.actor (Script t) ∷ [] } in
    on_left c.note-2.result P c.lines-ended.new.world c.note-2.new.world (Leave c.args.actor c.in_ok-outcome.outcome (FUEL_LIMIT - c.lines-ended.new.fuel)) c.note-2.ensures.ok
    (idle_entry setups c.args.actor c.args.zone c.args.text.now c.args.script.now c.args.world.now c.note.new.world c.lines-ended.new.world c.lines-ended.result c.in_ok-outcome.outcome c.lines-ended.new.fuel
    c.requires.guest z c.requires.reads c.in_ok-outcome.ensures.goes c.in_ok-outcome.ensures.outcome (subst E c.in_ok-share.ensures (journal_of _ _ _ c.in_ok-note.ensures.ok)) k c.lines-ended.ensures.own all)
