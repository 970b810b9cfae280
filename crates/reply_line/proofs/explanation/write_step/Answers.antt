use Rattle.std.proofs.Common.{sym, subst, option_map}
use Rattle.std.proofs.lemmas.Result.{on_ok_weaker}
use Rattle.serde_json.specs.Data.{string}
use Rattle.gc_report.specs.Writing.{Adds}
use Rattle.gc_report.proofs.Adding.{one, both}
use Rattle.reply_line.specs.Explained.{by_text, label_in, mode_in, object_name, object_type}
use Rattle.reply_line.proofs.StepTokens.{step_tokens}
use Rattle.reply_line.proofs.explanation.write_step.Goals as goal

-- member by member, those that say nothing left out
pub returns : goal.returns
returns c =
    let step = c.args.step.now in
    on_ok_weaker c.end_object.result (λ e.
    subst (Adds c.args.out.now c.end_object.new.self) (sym (step_tokens (by_text step.by) (object_name step.object) (object_type step.object) (option_map string step.expire) (label_in step.by) (mode_in step.mode)))
    (both (one c.args.out.now c.begin_object.new.self c.in_ok-begin_object.ensures.room.0 c.in_ok-begin_object.ensures.ok)
    (both (rw c.by_text.ensures at c.in_ok-write_text.ensures)
    (both c.in_ok-write_expire.ensures
    (both c.in_ok-write_label.ensures
    (both c.in_ok-write_mode.ensures
    (both c.in_ok-write_name.ensures
    (both c.in_ok-write_type.ensures
    (one c.write_type.new.out c.end_object.new.self c.end_object.ensures.room.0 e))))))))) c.end_object.ensures.ok
