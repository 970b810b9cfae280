use Rattle.std.proofs.Common.{rules, ◌∙◌}
use Rattle.indexmap.proofs.CallerLemmas.{filter-RetainsPairs}
use Rattle.row_tables.specs.ArrivedNamespaces.{has_rows}
use Rattle.row_tables.proofs.namespaces.keep.close_all.Goals as goal

pub returns : goal.returns
returns g c =
    c.give_back.ensures.entries
    ∙ filter-RetainsPairs _ has_rows _ (λ k v b w f h. search rules) _ _ c.retain.ensures.filtered
