use Rattle.mark_core.proofs.BitLemmas.{tells_clear, has_bit, keeps_others}
use Rattle.mark_core.proofs.marks.Marks.insert.Goals as goal

-- the word that is read has the bit exactly where the set has n
pub returns-clause-new : goal.returns-clause-new
returns-clause-new c =
    tells_clear c.self.inside.words.items c.args.self.now c.args.n c.index-was.result.now
    c.self.view_is c.requires c.index-was.ensures

-- the word that is written has the bit
pub returns-clause-here : goal.returns-clause-here
returns-clause-here c =
    has_bit c.self.inside.words.items c.args.self.now c.args.n c.index-was.result.now
    c.self.view_is c.requires c.index-was.ensures

-- and all its other bits as before
pub returns-clause-others : goal.returns-clause-others
returns-clause-others c =
    keeps_others c.self.inside.words.items c.args.self.now c.args.n c.index-was.result.now
    c.self.view_is c.requires c.index-was.ensures
