use Rattle.std.proofs.Common.{◌∙◌, ap}
use Rattle.std.specs.List.{insert}
use Rattle.meta_types.specs.Text.{texts_of}
use Rattle.meta_types.proofs.LabelPlaces.{inserted_texts}
use Rattle.meta_types.proofs.labels.insert_label.Goals as goal

-- the new entry has the texts of the key and the value
pub returns-clause-ok : goal.returns-clause-ok
returns-clause-ok c =
    let entries = c.args.entries.now.items in
    ap texts_of c.in_ok-insert.ensures.items ∙ inserted_texts entries c.args.place (c.in_ok-key.key, c.in_ok-value.value)
    ∙ (λ i. insert (texts_of entries) c.args.place (c.in_ok-key.ensures.ok i, c.in_ok-value.ensures.ok i))
