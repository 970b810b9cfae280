use Rattle.std.proofs.Common.{refl}
use Rattle.kept_store.proofs.Drafting.{begun}
use Rattle.kept_store.proofs.draft.begin.Goals as goal

pub returns : goal.returns
returns g c clean =
    begun _ _ _ _ _ (c.requires.blank clean) refl c.new.ensures.items
