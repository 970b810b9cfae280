use Rattle.std.proofs.Common.{subst}
use Rattle.std.proofs.lemmas.Result.{on_ok_weaker}
use Rattle.gc_report.specs.Reports.{objects_data}
use Rattle.gc_report.specs.Writing.{tokens_of, Adds}
use Rattle.gc_report.proofs.Adding.{one, both}
use Rattle.gc_report.proofs.objects.ObjectsWriteJson.write.Goals as goal

-- member by member
pub returns : goal.returns
returns c =
    on_ok_weaker c.end_object.result (λ e. subst (λ names. Adds c.args.out.now c.end_object.new.self (tokens_of (objects_data names))) c.self.view_is
    (both (one c.args.out.now c.begin_object.new.self c.in_ok-begin_object.ensures.room.0 c.in_ok-begin_object.ensures.ok)
    (both c.in_ok-write_member.ensures (both c.in_ok-write_member-2.ensures (both c.in_ok-write_member-3.ensures
    (one c.write_member-3.new.out c.end_object.new.self c.end_object.ensures.room.0 e)))))) c.end_object.ensures.ok
