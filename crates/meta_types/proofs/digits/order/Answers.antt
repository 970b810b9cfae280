use Rattle.std.proofs.Common.{◌∙◌}
use Rattle.meta_types.proofs.HexDigits.{texts_stand}
use Rattle.meta_types.proofs.digits.order.Goals as goal

pub returns : goal.returns
returns c = λ front. c.cmp.ensures ∙ texts_stand front c.args.a.now c.args.b.now c.requires.a
    c.requires.b
