use Rattle.std.proofs.Common.{◌∙◌, ap, sym, subst, Err, List, ℕ}
use Rattle.std.proofs.lemmas.Bool.{false≢true}
use Rattle.journal.specs.Reading.{found}
use Rattle.journal.specs.Groups.{HasGroups}
use Rattle.journal.specs.Notes.{first_sum}
use Rattle.store_folder.proofs.opening.recovering.recover_text.Goals as goal

pub returns-clause-groups : goal.returns-clause-groups
returns-clause-groups g c clean =
    subst (λ (text : List ℕ). HasGroups (g.L.Log.text c.recover.new.log)
    (g.L.Log.may_leave c.recover.new.log) c.in-Ok-recover.sound.last c.in-Ok-recover.sound.end
    (first_sum c.args.card) (found (first_sum c.args.card) text).groups)
    c.check_text.ensures.same
    (subst (λ (s : List ℕ). HasGroups (g.L.Log.text c.recover.new.log)
    (g.L.Log.may_leave c.recover.new.log) c.in-Ok-recover.sound.last c.in-Ok-recover.sound.end
    s (found s (g.L.Log.text c.check_text.new.log)).groups) c.first_sum-first.ensures
    (c.in-Ok-recover.ensures.groups clean))

-- while it is looked at, a crash leaves it
pub returns-in-Err-clause-crash : goal.returns-in-Err-clause-crash
returns-in-Err-clause-crash g c clean out left =
    ap (found (first_sum c.args.card))
    (g.met.L.Log.rested c.args.log.now out c.requires (c.check_text.ensures.crash out left))

-- while it is recovered
pub returns-in-Err-recover-clause-crash : goal.returns-in-Err-recover-clause-crash
returns-in-Err-recover-clause-crash g c clean out left =
    ap (λ (s : List ℕ). found s out) (sym c.first_sum-first.ensures)
    ∙ c.recover.ensures.crash clean out left
    ∙ ap (λ (s : List ℕ). found s (g.L.Log.text c.check_text.new.log)) c.first_sum-first.ensures
    ∙ ap (found (first_sum c.args.card)) c.check_text.ensures.same

pub returns-clause-crash : goal.returns-clause-crash
returns-clause-crash g c clean out left =
    ap (λ (s : List ℕ). found s out) (sym c.first_sum-first.ensures)
    ∙ c.recover.ensures.crash clean out left
    ∙ ap (λ (s : List ℕ). found s (g.L.Log.text c.check_text.new.log)) c.first_sum-first.ensures
    ∙ ap (found (first_sum c.args.card)) c.check_text.ensures.same

-- damage was looked for before
pub returns-in-Err-recover-clause-refuses : goal.returns-in-Err-recover-clause-refuses
returns-in-Err-recover-clause-refuses g c clean calm kept =
    c.text_error.ensures.passing (λ is. false≢true (sym calm
    ∙ ap (λ (text : List ℕ). (found (first_sum c.args.card) text).is_damaged)
    (sym c.check_text.ensures.same)
    ∙ ap (λ (s : List ℕ). (found s (g.L.Log.text c.check_text.new.log)).is_damaged)
    (sym c.first_sum-first.ensures) ∙ c.in-Err-recover.ensures.damaged (ap Err is) clean))
