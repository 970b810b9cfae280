use Rattle.std.proofs.lemmas.List.Sorted.{IsPermutation-map}
use Rattle.table_sweep.specs.declared.prefix_order.Prefixed.{Prefixed}
use Rattle.table_sweep.proofs.prefix_order.in_prefix_order.Goals as goal

-- a sort leaves nothing out
pub returns : goal.returns
returns g c =
    IsPermutation-map (λ (one : Prefixed g.row.R.Denot). one.row.now) c.args.near.items
    c.sort_unstable_by.new.self.items c.sort_unstable_by.ensures.permutation
