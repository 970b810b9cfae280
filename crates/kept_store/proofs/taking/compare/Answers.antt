use Rattle.kept_store.proofs.Comparing.{makes_again}
use Rattle.kept_store.proofs.taking.compare.Goals as goal

pub returns-clause-ok : goal.returns-clause-ok
returns-clause-ok g c clean first groups has =
    let same = c.made_again.ensures.same in
    rw (same.0, same.1)
    (makes_again first _ _ _ _ _ _ groups _ _ has c.made_again.ensures.text
    c.made_again.ensures.crash
    (c.in_ok-other.ensures.ok clean) c.in_default.ensures.ok)
