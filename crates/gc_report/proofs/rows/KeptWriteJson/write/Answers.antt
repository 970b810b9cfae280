use Rattle.std.proofs.Common.{subst}
use Rattle.std.proofs.lemmas.Result.{on_ok_weaker}
use Rattle.gc_report.specs.Reports.{kept_data}
use Rattle.gc_report.specs.Writing.{tokens_of, Adds}
use Rattle.gc_report.proofs.Adding.{one, both}
use Rattle.gc_report.proofs.rows.KeptWriteJson.write.Goals as goal

-- member by member
pub returns : goal.returns
returns c =
    on_ok_weaker c.end_object.result (λ e. subst (λ kept. Adds c.args.out.now c.end_object.new.self (tokens_of (kept_data kept))) c.self.view_is
    (both (one c.args.out.now c.begin_object.new.self c.in_ok-begin_object.ensures.room.0 c.in_ok-begin_object.ensures.ok)
    (both c.in_ok-write_member.ensures (both c.in_ok-write_member-2.ensures (both c.in_ok-write_member-3.ensures (both c.in_ok-write_member-4.ensures
    (both c.in_ok-write_member-5.ensures (both c.in_ok-write_member-6.ensures (both c.in_ok-write_member-7.ensures
    (one c.write_member-7.new.out c.end_object.new.self c.end_object.ensures.room.0 e)))))))))) c.end_object.ensures.ok
