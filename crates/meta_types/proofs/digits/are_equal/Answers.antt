use Rattle.std.proofs.Common.{◌∙◌}
use Rattle.meta_types.proofs.HexDigits.{texts_equal}
use Rattle.meta_types.proofs.digits.are_equal.Goals as goal

pub returns : goal.returns
returns c = λ front. c.eq.ensures ∙ texts_equal front c.args.a.now c.args.b.now c.requires.a
    c.requires.b
