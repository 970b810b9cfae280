use Rattle.std.proofs.Common.{rules, ℕ, ◌≡◌, true, false, take, drop, ◌++◌, sym, ap, ◌∙◌, codes}
use Rattle.std.specs.Prelude.{bytes_eq, ◌&&◌, is_some}
use Rattle.std.proofs.lemmas.List.{take-append-drop}
use Rattle.std.proofs.lemmas.Slice.Eq.{bytes_eq-Decides}
use Rattle.std.proofs.lemmas.Bool.{false_from_ne_true}
use Rattle.meta_types.specs.Text.{is_digest, is_name, is_short_name, begins_with}
use Rattle.meta_types.specs.Resources.{resource_of}
use Rattle.meta_types.specs.declared.resource.Resource.TheVariants.{Content, Snapshot, Ingest}
use Rattle.meta_types.proofs.ResourceReads.{is_some_if, refuses_as}
use Rattle.meta_types.proofs.resource.Resource.read.Goals as goal

-- the type is `content`: the id is a digest
pub returns-then-eq-clause-fault : goal.returns-then-eq-clause-fault
returns-then-eq-clause-fault c =
    let kind = c.args.kind.now in
    let id = c.args.id.now in
    let is : bytes_eq kind (codes "content") ≡ true = sym c.eq.ensures ∙ c.if-eq.true in
    let same : is_some (resource_of kind id) ≡ is_digest id = rw is (is_some_if (is_digest id) (Content id)) in
    refuses_as c.read_content.result (is_digest id) (is_some (resource_of kind id)) same c.read_content.ensures.fault

-- the type is `ingests`: the id is a name
pub returns-then-eq-2-clause-fault : goal.returns-then-eq-2-clause-fault
returns-then-eq-2-clause-fault c =
    let kind = c.args.kind.now in
    let id = c.args.id.now in
    let not_content : bytes_eq kind (codes "content") ≡ false = sym c.eq.ensures ∙ c.if-eq.false in
    let is : bytes_eq kind (codes "ingests") ≡ true = sym c.eq-2.ensures ∙ c.if-eq-2.true in
    let same : is_some (resource_of kind id) ≡ is_name id = rw (not_content, is) (is_some_if (is_name id) (Ingest id)) in
    refuses_as c.read_ingest.result (is_name id) (is_some (resource_of kind id)) same c.read_ingest.ensures.fault

-- the type is `snapshots/` and a rest: this is a snapshotter, and the id a name
pub returns-in-Some-clause-fault : goal.returns-in-Some-clause-fault
returns-in-Some-clause-fault c =
    let kind = c.args.kind.now in
    let id = c.args.id.now in
    let rest = c.in-Some.snapshotter.now in
    let not_content : bytes_eq kind (codes "content") ≡ false = sym c.eq.ensures ∙ c.if-eq.false in
    let not_ingests : bytes_eq kind (codes "ingests") ≡ false = sym c.eq-2.ensures ∙ c.if-eq-2.false in
    let yes : begins_with (codes "snapshots/") kind ≡ true = ap (begins_with (codes "snapshots/")) c.in-Some.ensures.cases.1.1 in
    let behind : drop 10 kind ≡ rest = ap (λ (i : ℕ). drop i kind) (sym c.in-Some.ensures.cases.1.0) ∙ sym c.in-Some.ensures.cases.2 in
    let same : is_some (resource_of kind id) ≡ (is_short_name rest && is_name id) = rw (not_content, not_ingests, yes, behind) (is_some_if (is_short_name rest && is_name id) (Snapshot rest id)) in
    refuses_as c.read_snapshot.result (is_short_name rest && is_name id) (is_some (resource_of kind id)) same c.read_snapshot.ensures.fault

-- the type begins with nothing that is known
pub returns-in-None-clause-fault : goal.returns-in-None-clause-fault
returns-in-None-clause-fault c =
    let kind = c.args.kind.now in
    let prefix = codes "snapshots/" in
    let not_content : bytes_eq kind (codes "content") ≡ false = sym c.eq.ensures ∙ c.if-eq.false in
    let not_ingests : bytes_eq kind (codes "ingests") ≡ false = sym c.eq-2.ensures ∙ c.if-eq-2.false in
    let no : begins_with prefix kind ≡ false = false_from_ne_true (begins_with prefix kind) (λ t. c.in-None.ensures.cases (drop 10 kind) (sym (take-append-drop 10 kind) ∙ ap (λ front. front ++ drop 10 kind) (sym ((bytes_eq-Decides prefix (take 10 kind)).0 t)))) in
    rw (not_content, not_ingests, no) (search rules)
