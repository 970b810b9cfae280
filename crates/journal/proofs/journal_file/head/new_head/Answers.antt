use Rattle.std.proofs.Common.{refl}
use Rattle.journal.proofs.NewHeads.{if_ok, new_head_is, new_selector}
use Rattle.journal.proofs.journal_file.head.new_head.Goals as goal

pub returns-clause-head : goal.returns-clause-head
returns-clause-head c =
    if_ok c.make_head.result (λ head is size le. new_head_is head.items 4078 is refl size 0 refl le)
    c.make_head.ensures

pub returns-clause-selector : goal.returns-clause-selector
returns-clause-selector c =
    if_ok c.make_head.result (λ head is. new_selector head.items 4078 is refl) c.make_head.ensures
