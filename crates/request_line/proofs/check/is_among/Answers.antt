use Rattle.std.proofs.Common.{◌∙◌}
use Rattle.request_line.proofs.Checks.{is_among-borrowed}
use Rattle.request_line.proofs.check.is_among.Goals as goal

pub returns : goal.returns
returns c = c.is_any.ensures ∙ is_among-borrowed c.args.key.now c.args.keys.now
