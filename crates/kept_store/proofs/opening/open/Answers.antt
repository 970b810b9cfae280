use Rattle.std.proofs.Common.{◌∙◌, ap, refl, sym, subst, ℕ, List, []}
use Rattle.std.specs.Prelude.{Err}
use Rattle.journal.specs.Reading.{found}
use Rattle.journal.specs.Groups.{HasGroups}
use Rattle.line_loop.specs.JournalLines.{lines_of}
use Rattle.line_loop.proofs.JournalLines.{has_lines}
use Rattle.kept_store.proofs.PassedOn.{same_refusal}
use Rattle.kept_store.proofs.Replayed.{undamaged}
use Rattle.kept_store.proofs.opening.open.Goals as goal

pub returns-clause-ok : goal.returns-clause-ok
returns-clause-ok g c clean =
    let same = c.read_store.ensures.same in
    let before = c.end_of_groups.ensures.clean clean in
    let groups = (found c.args.first.now (g.D.Log.text c.args.log.now)).groups in
    record {
      lines = lines_of groups;
      sound = undamaged (found c.args.first.now (g.D.Log.text c.args.log.now))
          (ap (λ (t : List ℕ). (found c.args.first.now t).is_damaged) (sym same)
          ∙ c.in-Ok.ensures.sound clean);
      replayed = c.set_workers.ensures ∙ c.in_ok-replayed.ensures.ok before;
      has = has_lines c.args.first.now (g.D.Log.is_clean c.end_of_groups.new.log) _ _ _ _ [] groups
          (lines_of groups) [] clean
          (subst (λ (t : List ℕ). HasGroups (g.D.Log.text c.end_of_groups.new.log)
          (g.D.Log.may_leave c.end_of_groups.new.log) c.in-Ok.sound.last
          c.in-Ok.sound.end c.args.first.now (found c.args.first.now t).groups) same
          (c.in-Ok.ensures.groups clean)) refl tt refl;
    }

-- while the file is read, a crash leaves it
pub returns-in_err-replayed-clause-crash : goal.returns-in_err-replayed-clause-crash
returns-in_err-replayed-clause-crash g c clean out left =
    ap (found c.args.first.now)
    (g.met.D.Log.rested c.args.log.now out c.requires.rests (c.read_store.ensures.crash out left))

-- while what was never committed is blanked
pub returns-in-Err-clause-crash : goal.returns-in-Err-clause-crash
returns-in-Err-clause-crash g c clean out left =
    c.end_of_groups.ensures.crash clean out left
    ∙ ap (found c.args.first.now) c.read_store.ensures.same

pub returns-clause-crash : goal.returns-clause-crash
returns-clause-crash g c clean out left =
    c.end_of_groups.ensures.crash clean out left
    ∙ ap (found c.args.first.now) c.read_store.ensures.same

pub returns-clause-lines : goal.returns-clause-lines
returns-clause-lines g c clean =
    c.in_ok-replayed.ensures.lines (c.end_of_groups.ensures.clean clean)

-- where the groups' end is refused, no line was
pub returns-in-Err-clause-refused : goal.returns-in-Err-clause-refused
returns-in-Err-clause-refused g c is =
    absurd (c.in-Err.ensures.willing (ap Err (same_refusal (Err c.in-Err.error) _ _ refl is)))
