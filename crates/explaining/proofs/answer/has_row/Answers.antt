use Rattle.std.proofs.Common.{◌∙◌, sym, ap}
use Rattle.std.specs.List.{list_any}
use Rattle.meta_types.specs.Paths.{things}
use Rattle.meta_types.specs.Explanations.{is_asked}
use Rattle.meta_types.specs.declared.object.Object.{Object}
use Rattle.explaining.specs.RowLists.{records_in}
use Rattle.explaining.proofs.RowsThere.{image_there, container_there, lease_there}
use Rattle.explaining.proofs.answer.has_row.Goals as goal

pub returns-in-Image : goal.returns-in-Image
returns-in-Image c =
    c.has_image.ensures ∙ sym (image_there (records_in c.args.records.now) c.args.ns.now c.in-Image.name)
    ∙ ap (λ (o : Object). list_any (is_asked c.args.ns.now o) (things (records_in c.args.records.now))) (sym c.in-Image.is)

pub returns-in-Container : goal.returns-in-Container
returns-in-Container c =
    c.has_container.ensures ∙ sym (container_there (records_in c.args.records.now) c.args.ns.now c.in-Container.name)
    ∙ ap (λ (o : Object). list_any (is_asked c.args.ns.now o) (things (records_in c.args.records.now))) (sym c.in-Container.is)

pub returns-in-Lease : goal.returns-in-Lease
returns-in-Lease c =
    c.has.ensures ∙ sym (lease_there (records_in c.args.records.now) c.args.ns.now c.in-Lease.id)
    ∙ ap (λ (o : Object). list_any (is_asked c.args.ns.now o) (things (records_in c.args.records.now))) (sym c.in-Lease.is)
