use Rattle.reply_line.proofs.ConstantTexts.{done}
use Rattle.reply_line.proofs.constants.done_text.Goals as goal

pub returns : goal.returns
returns c = done
