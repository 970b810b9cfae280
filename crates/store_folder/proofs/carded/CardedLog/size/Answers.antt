use Rattle.std.proofs.Common.{arith, length-drop}
use Rattle.store_folder.proofs.carded.CardedLog.size.Goals as goal

pub returns-clause-size : goal.returns-clause-size
returns-clause-size g c clean =
    let all = c.in_ok-size.ensures.size clean in
    let rest = c.saturating_sub.ensures in
    let back = length-drop 4096 (g.L.Log.text c.args.self.now.log) in
    omega (arith, all, rest, back)
