use Rattle.std.proofs.Common.{◌∙◌, rules}
use Rattle.std.proofs.lemmas.Fn.{filter_same}
use Rattle.gc_report.proofs.Among.{less_sorted}
use Rattle.gc_report.proofs.difference.difference.Goals as goal

-- what is kept is what isn't found in the other list, sorted
pub returns : goal.returns
returns g c =
    filter_same _ _ _ (λ x b f' k. search rules) _ _ c.retain.ensures.filtered
    ∙ less_sorted _ c.args.list.items c.args.other.items c.sort_unstable.new.self.items
    c.sort_unstable.ensures.permutation
