use Rattle.std.proofs.Common.{◌∙◌, sym, subst, List, ℕ}
use Rattle.journal.specs.Head.{believed}
use Rattle.journal.specs.Notes.{Reads}
use Rattle.store_folder.proofs.opening.looking.look.Goals as goal

pub returns-clause-card : goal.returns-clause-card
returns-clause-card g c clean =
    subst (λ (file : List ℕ). Reads 0 (believed file) c.in_ok-notes.notes.card)
    c.sync.ensures.seen (c.in_ok-notes.ensures.card clean)

pub returns-clause-witness : goal.returns-clause-witness
returns-clause-witness g c clean =
    subst (λ (file : List ℕ). Reads 512 (believed file) c.in_ok-notes.notes.witness)
    c.sync.ensures.seen (c.in_ok-notes.ensures.witness clean)

-- a read leaves no other file
pub returns-clause-durable : goal.returns-clause-durable
returns-clause-durable g c out left =
    c.in_ok-sync.ensures.durable out (c.read_notes.ensures.crash out left)
    ∙ sym c.read_notes.ensures.seen
