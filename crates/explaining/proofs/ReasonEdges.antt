-- A thing references another exactly where there is a reason.
use Rattle.std.proofs.Common.{◌≡◌, Bool, true, false, List, [], ◌∷◌, refl, ◌∙◌, Option, Some, None, is_some}
use Rattle.std.specs.Prelude.{◌&&◌, ◌||◌, bytes_eq, option_map, if◌then◌else◌}
use Rattle.std.specs.List.{list_any, find}
use Rattle.meta_types.specs.Labels.{LabelList}
use Rattle.meta_types.specs.Paths.{Thing, image, container, lease, ingest, content, snapshot, namespace_of, is_label_ref, references, has_edge}
use Rattle.meta_types.specs.declared.resource.Mode.TheVariants.{Full, Flat}
use Rattle.meta_types.specs.Reasons.{is_ref, label_reason, by_or, reason_in, reason_of}
use Rattle.meta_types.specs.declared.explanation.By.{By}
use Rattle.meta_types.specs.declared.explanation.By.TheVariants as B

-- something is found where something fits
pub found_if_any : {X Y : Type 0} (p : X → Bool) (f : X → Y) (xs : List X) → is_some (option_map f (find p xs)) ≡ list_any p xs
found_if_any p f [] = refl
found_if_any p f (x ∷ xs) = go (p x) (found_if_any p f xs)
  where
    go : (b : Bool) → is_some (option_map f (find p xs)) ≡ list_any p xs
        → is_some (option_map f (if b then Some x else find p xs)) ≡ (b || list_any p xs)
    go true e = refl
    go false e = e

none_fits : {X : Type 0} (xs : List X) → list_any (λ x. false) xs ≡ false
none_fits [] = refl
none_fits (x ∷ xs) = none_fits xs

label_edge : (labels : LabelList) (thing : Thing) → is_some (label_reason labels thing) ≡ is_label_ref labels thing
label_edge labels (content Full row) = found_if_any (λ pair. is_ref pair (content Full row)) (λ (pair : _). B.Label pair.0) labels
label_edge labels (snapshot Full row) = found_if_any (λ pair. is_ref pair (snapshot Full row)) (λ (pair : _). B.Label pair.0) labels
label_edge labels (content Flat row) = found_if_any (λ pair. false) (λ (pair : _). B.Label pair.0) labels ∙ none_fits labels
label_edge labels (snapshot Flat row) = found_if_any (λ pair. false) (λ (pair : _). B.Label pair.0) labels ∙ none_fits labels
label_edge labels (image row) = found_if_any (λ pair. false) (λ (pair : _). B.Label pair.0) labels ∙ none_fits labels
label_edge labels (container row) = found_if_any (λ pair. false) (λ (pair : _). B.Label pair.0) labels ∙ none_fits labels
label_edge labels (lease row) = found_if_any (λ pair. false) (λ (pair : _). B.Label pair.0) labels ∙ none_fits labels
label_edge labels (ingest row) = found_if_any (λ pair. false) (λ (pair : _). B.Label pair.0) labels ∙ none_fits labels

either : (b : Bool) (by : By) (other : Option By) (rest : Bool) → is_some other ≡ rest → is_some (by_or b by other) ≡ (b || rest)
either true by other rest e = refl
either false by other rest e = e

alone : (b : Bool) (by : By) → is_some (by_or b by None) ≡ b
alone true by = refl
alone false by = refl

reason_in_edge : (a b : Thing) → is_some (reason_in a b) ≡ references a b
reason_in_edge (image row) b = either _ B.Target (label_reason row.labels b) (is_label_ref row.labels b) (label_edge row.labels b)
reason_in_edge (container row) b = either _ B.Snapshot (label_reason row.labels b) (is_label_ref row.labels b) (label_edge row.labels b)
reason_in_edge (lease row) b = alone _ B.Resource
reason_in_edge (ingest row) b = alone _ B.Expected
reason_in_edge (content Full row) b = label_edge row.labels b
reason_in_edge (content Flat row) b = refl
reason_in_edge (snapshot Full row) b = either _ B.Parent (label_reason row.labels b) (is_label_ref row.labels b) (label_edge row.labels b)
reason_in_edge (snapshot Flat row) b = alone _ B.Parent

-- there is a reason for a reference exactly if there is an edge
pub reason_edge : (a b : Thing) → is_some (reason_of a b) ≡ has_edge a b
reason_edge a b = go (bytes_eq (namespace_of a) (namespace_of b))
  where
    go : (same : Bool) → is_some (if same then reason_in a b else None) ≡ (same && references a b)
    go true = reason_in_edge a b
    go false = refl
