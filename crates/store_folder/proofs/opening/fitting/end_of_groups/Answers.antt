use Rattle.std.proofs.Common.{◌∙◌, ap, sym, Err, List, ℕ}
use Rattle.std.proofs.lemmas.Bool.{false≢true}
use Rattle.journal.specs.Reading.{found}
use Rattle.journal.specs.Text.{journal_text}
use Rattle.store_folder.proofs.opening.fitting.end_of_groups.Goals as goal

pub returns-clause-sound : goal.returns-clause-sound
returns-clause-sound g c clean =
    ap (λ (s : List ℕ). (found s (g.L.Log.text c.args.log.now)).is_damaged)
    (sym c.first_sum-first.ensures) ∙ c.in-Ok.ensures.sound clean

pub returns-clause-within : goal.returns-clause-within
returns-clause-within g c clean = (c.in-Ok.ensures.groups clean).1

pub returns-clause-groups : goal.returns-clause-groups
returns-clause-groups g c clean =
    (c.in-Ok.ensures.groups clean).2
    ∙ ap (λ (s : List ℕ). journal_text s (found s (g.L.Log.text c.args.log.now)).groups)
    c.first_sum-first.ensures

pub returns-in-Err-clause-refuses : goal.returns-in-Err-clause-refuses
returns-in-Err-clause-refuses g c clean calm =
    c.text_error.ensures.passing (λ is. false≢true (sym calm
    ∙ ap (λ (s : List ℕ). (found s (g.L.Log.text c.args.log.now)).is_damaged)
    (sym c.first_sum-first.ensures) ∙ c.in-Err.ensures.damaged (ap Err is) clean))
