use Rattle.std.proofs.Common.{◌∙◌, sym}
use Rattle.store_folder.proofs.serving.pausing.keep_room.Goals as goal

-- the file that counts takes no call any more
pub returns-then-not-is_at_rest-clause-failed : goal.returns-then-not-is_at_rest-clause-failed
returns-then-not-is_at_rest-clause-failed g c right =
    let now = c.close.ensures.reads right in
    let kept = c.keep_length-kept.ensures in (sym kept.calm ∙ now.0, kept.clean now.1)

pub returns-then-not-is_at_rest-clause-finds : goal.returns-then-not-is_at_rest-clause-finds
returns-then-not-is_at_rest-clause-finds g c kept had right told may =
    c.keep_length-kept.ensures.tells (c.close.ensures.reads right).1 kept had told
    (c.close.ensures.finds told may)

pub returns-clause-ok : goal.returns-clause-ok
returns-clause-ok g c =
    let kept = c.keep_length-kept.ensures in
    let rests = c.if-not-is_at_rest.false in
    record {
      reads = λ right. (sym kept.calm ∙ right.0, kept.clean right.1);
      holds = λ right lines had. kept.holds rests right.1 lines had;
      rests = λ had. kept.rests rests;
    }
