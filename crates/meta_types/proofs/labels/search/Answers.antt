use Rattle.std.proofs.Common.{rules, of_calls, ◌≡◌, ◌∙◌, string_bytes}
use Rattle.std.proofs.Common.{[], ◌∷◌}
use Rattle.std.proofs.lemmas.Fn.{always_returns_same}
use Rattle.meta_types.specs.Text.{texts_of, text_cmp}
use Rattle.meta_types.specs.Labels.{label_key}
use Rattle.meta_types.proofs.Searched.{key_cmp, Finds}
use Rattle.meta_types.proofs.LabelPlaces.{text_of, key_cmp_text, label_searched}
use Rattle.meta_types.proofs.labels.search.Goals as goal

-- the closure compares an entry's key to the one that is looked for
finds : (c : goal.After-binary_search_by) → Finds label_key (c.args.key.now ∷ []) (texts_of c.args.entries.now) c.binary_search_by.result
finds c =
    label_searched c.args.entries.now c.args.key.now c.binary_search_by.result c.requires c.binary_search_by.ensures.bound
    (c.binary_search_by.ensures.position (key_cmp (λ e. label_key (text_of e)) (c.args.key.now ∷ [])) (always_returns_same _ _ _ (λ a r f called.
    let compares : r ≡ text_cmp (string_bytes a.0.now.0) c.args.key.now = search (rules, of_calls) in (compares ∙ key_cmp_text a.0.now c.args.key.now, search (rules, of_calls)))))

pub returns-clause-there : goal.returns-clause-there
returns-clause-there c = (finds c).there

pub returns-clause-found : goal.returns-clause-found
returns-clause-found c = (finds c).at

pub returns-clause-absent : goal.returns-clause-absent
returns-clause-absent c = (finds c).gap
