use Rattle.reply_line.proofs.ShownTexts.{was_there_whole}
use Rattle.reply_line.proofs.shown.there_text.Goals as goal

pub returns : goal.returns
returns c = was_there_whole
