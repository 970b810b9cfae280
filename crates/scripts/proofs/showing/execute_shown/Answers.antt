use Rattle.std.proofs.Common.{◌∙◌, sym}
use Rattle.scripts.proofs.WithWords.{wrong_words}
use Rattle.scripts.proofs.showing.execute_shown.Goals as goal

-- a word that the request doesn't take
pub returns-then-not-takes_words-clause-err : goal.returns-then-not-takes_words-clause-err
returns-then-not-takes_words-clause-err g c =
    wrong_words c.args.locked.now.store.state c.args.request.now c.args.answer.now c.args.there.now
    (sym c.takes_words.ensures ∙ c.if-not-takes_words.true)
