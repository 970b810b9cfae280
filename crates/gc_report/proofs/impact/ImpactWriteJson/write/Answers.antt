use Rattle.std.proofs.Common.{subst}
use Rattle.std.proofs.lemmas.Result.{on_ok_weaker}
use Rattle.gc_report.specs.Impacts.{impact_data}
use Rattle.gc_report.specs.Writing.{tokens_of, Adds}
use Rattle.gc_report.proofs.Adding.{one, both}
use Rattle.gc_report.proofs.impact.ImpactWriteJson.write.Goals as goal

-- member by member
pub returns : goal.returns
returns c =
    let first = c.args.out.now in
    let begun = c.begin_object.new.self in
    let ended = c.end_object.new.self in
    let begins = c.in_ok-begin_object.ensures in
    on_ok_weaker c.end_object.result (λ e.
    subst (λ impact. Adds first ended (tokens_of (impact_data impact))) c.self.view_is
    (both (one first begun begins.room.0 begins.ok)
    (both c.in_ok-write_member.ensures
    (both c.in_ok-write_member-2.ensures
    (one c.write_member-2.new.out ended c.end_object.ensures.room.0 e))))) c.end_object.ensures.ok
