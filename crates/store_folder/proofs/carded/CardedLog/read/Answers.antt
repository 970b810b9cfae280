use Rattle.std.proofs.Common.{◌∙◌, ap, sym, ℕ, take, drop}
use Rattle.std.proofs.lemmas.List.{drop-drop}
use Rattle.store_folder.proofs.Behind.{behind_rests}
use Rattle.store_folder.proofs.carded.CardedLog.read.Goals as goal

pub returns-in_err-read-clause-rests : goal.returns-in_err-read-clause-rests
returns-in_err-read-clause-rests g c only =
    behind_rests 4096 _ _ _ _ c.read.ensures.same c.read.ensures.crash only

pub returns-clause-rests : goal.returns-clause-rests
returns-clause-rests g c only =
    behind_rests 4096 _ _ _ _ c.read.ensures.same c.read.ensures.crash only

pub returns-clause-bytes : goal.returns-clause-bytes
returns-clause-bytes g c clean =
    let text = g.L.Log.text c.args.self.now.log in
    c.in_ok-read.ensures.bytes clean
    ∙ ap (take c.args.count) (ap (λ (n : ℕ). drop n text) c.in_ok-place.ensures.ok
    ∙ sym (drop-drop c.args.at 4096 text))
