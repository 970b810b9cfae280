use Rattle.std.proofs.Common.{◌∙◌, ◌∷◌, [], sym, subst, arith}
use Rattle.std.proofs.lemmas.Result.{on_ok_weaker}
use Rattle.meta_types.specs.Text.{texts_of}
use Rattle.meta_types.specs.Labels.{label_key}
use Rattle.meta_types.proofs.Searched.{Finds}
use Rattle.meta_types.proofs.LabelPlaces.{found_in, gap_within, put_empty, put_over, put_new}
use Rattle.meta_types.proofs.labels.put_in.Goals as goal

-- the gap that the search gave is within the entries
pub insert_label-requires : goal.insert_label-requires
insert_label-requires c =
    let search = c.search-found.ensures in
    let found = found_in c.deref.result.now c.args.entries.now.items c.args.key.now c.search-found.result c.deref.ensures.value search.there search.found search.absent in
    omega (arith, c.args.entries.now.ok.0, gap_within c.args.entries.now.items c.args.key.now c.in-Err.place (subst (Finds label_key (c.args.key.now ∷ []) (texts_of c.args.entries.now.items)) c.in-Err.is found))

-- an empty value takes away what the search found
pub returns-then-eq-clause-ok : goal.returns-then-eq-clause-ok
returns-then-eq-clause-ok c =
    let search = c.search-found.ensures in
    let found = found_in c.deref.result.now c.args.entries.now.items c.args.key.now c.search-found.result c.deref.ensures.value search.there search.found search.absent in
    put_empty (texts_of c.args.entries.now.items) c.args.key.now c.args.value.now (texts_of c.remove_found.new.entries.items) c.search-found.result found (sym c.eq.ensures ∙ c.if-eq.true) c.remove_found.ensures.there c.remove_found.ensures.absent

-- the value is set where the search found the key
pub returns-in-Ok-clause-ok : goal.returns-in-Ok-clause-ok
returns-in-Ok-clause-ok c =
    let search = c.search-found.ensures in
    let found = found_in c.deref.result.now c.args.entries.now.items c.args.key.now c.search-found.result c.deref.ensures.value search.there search.found search.absent in
    let over = put_over (texts_of c.args.entries.now.items) c.args.key.now c.args.value.now c.in-Ok.place c.requires (subst (Finds label_key (c.args.key.now ∷ []) (texts_of c.args.entries.now.items)) c.in-Ok.is found) (sym c.eq.ensures ∙ c.if-eq.false) in
    on_ok_weaker c.set_value.result (λ new. new ∙ over) c.set_value.ensures.ok

-- the label is put where the search found the gap
pub returns-in-Err-clause-ok : goal.returns-in-Err-clause-ok
returns-in-Err-clause-ok c =
    let search = c.search-found.ensures in
    let found = found_in c.deref.result.now c.args.entries.now.items c.args.key.now c.search-found.result c.deref.ensures.value search.there search.found search.absent in
    let new_label = put_new (texts_of c.args.entries.now.items) c.args.key.now c.args.value.now c.in-Err.place (subst (Finds label_key (c.args.key.now ∷ []) (texts_of c.args.entries.now.items)) c.in-Err.is found) (sym c.eq.ensures ∙ c.if-eq.false) in
    on_ok_weaker c.insert_label.result (λ new. new ∙ new_label) c.insert_label.ensures.ok
