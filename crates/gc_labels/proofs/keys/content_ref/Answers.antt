use Rattle.std.proofs.Common.{◌∙◌, ◌++◌, sym, ap, List, ℕ}
use Rattle.meta_types.specs.CollectorLabels.{is_content_key, content_ref_key}
use Rattle.gc_labels.proofs.ContentKeys.{not_content}
use Rattle.gc_labels.proofs.keys.content_ref.Goals as goal

-- the key is the key of content and a rest
pub returns-in-Some : goal.returns-in-Some
returns-in-Some c =
    let found = c.in-Some.ensures.cases in
    let whole = found.1.1 ∙ ap (λ (rest : List ℕ). content_ref_key ++ rest) (sym found.2) in
    c.is_apart.ensures ∙ ap is_content_key (sym whole)

-- the key is no such
pub returns-in-None : goal.returns-in-None
returns-in-None c = sym (not_content c.args.key.now c.in-None.ensures.cases)
