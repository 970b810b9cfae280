use Rattle.scripts.proofs.Letting.{lets_all}
use Rattle.scripts.proofs.line_store.doing.lets_line.Goals as goal

pub returns-in-AllLines : goal.returns-in-AllLines
returns-in-AllLines c is = lets_all c.args.mode c.args.line.now c.in-AllLines.is
