use Rattle.scripts.proofs.WithWords.{said_alone, said_with}
use Rattle.scripts.proofs.showing.row_answer.Goals as goal

-- without a row it is the reply
pub returns-in_default-clause-said : goal.returns-in_default-clause-said
returns-in_default-clause-said c = λ row may are held.
    said_alone row may c.args.applied.there c.args.replies c.args.applied.reply c.in_default.is are

-- with one it is the reply that tells whether it was there
pub returns-clause-said : goal.returns-clause-said
returns-clause-said c = λ row may are held.
    said_with row may c.args.applied.there c.args.replies c.in-Some.replies c.args.applied.reply
    c.choose.result c.in-Some.is c.choose.ensures are held
