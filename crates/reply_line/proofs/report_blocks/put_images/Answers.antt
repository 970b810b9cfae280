use Rattle.reply_line.proofs.report_blocks.put_images.Goals as goal

pub returns-then-with_images-clause-err : goal.returns-then-with_images-clause-err
returns-then-with_images-clause-err g c = rw c.if-with_images.true c.put_member.ensures.err
