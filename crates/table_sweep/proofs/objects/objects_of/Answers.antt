use Rattle.std.proofs.Common.{◌∙◌, ap, map, List, [], ◌∷◌, Bor, subst, ℕ, if◌then◌else◌}
use Rattle.std.specs.List.{flat_map}
use Rattle.object_tables.specs.Calls.{kept}
use Rattle.table_sweep.specs.Owned.{is_begun_removed, is_snap_removed}
use Rattle.std.specs.List.Sorted.{IsPermutation}
use Rattle.meta_types.specs.Rows.{Tables}
use Rattle.meta_types.specs.Keys.{in_order}
use Rattle.meta_types.specs.declared.rows.IngestRow.{IngestRow}
use Rattle.meta_types.specs.declared.rows.SnapRow.{SnapRow}
use Rattle.gc_graph.specs.Stored.{records_of}
use Rattle.row_tables.specs.Arrived.{one_text, sorted}
use Rattle.table_sweep.specs.Depths.{key_name, key_of, is_first}
use Rattle.table_sweep.specs.Backed.{left_by}
use Rattle.table_sweep.proofs.Goes.{blobs_are, ingests_are, snapshots_are}
use Rattle.table_sweep.proofs.objects.objects_of.Goals as goal

pub returns-clause-ok : goal.returns-clause-ok
returns-clause-ok c =
    let rows = c.args.rows.now in
    let masks = c.args.masks.now in
    let back = c.args.back.now in
    let tables : Tables = left_by (records_of rows) masks in
    let owned : List ℕ = c.in_ok-owned.owned.items in
    let owners : List SnapRow = map (λ (row : Bor SnapRow). row.now) c.in_ok-owners.owners.items in
    let all_begun : IsPermutation (map (λ (row : IngestRow). row.number) tables.ingests) owned
    = subst (λ (l : List ℕ). IsPermutation l owned) (ap (λ mask. map (λ (row : IngestRow). row.number) (kept mask rows.ingests.now))
    c.deref-2.ensures.value) c.in_ok-owned.ensures.all in
    let all_snaps : IsPermutation tables.snapshots owners
    = subst (λ (l : List SnapRow). IsPermutation l owners) (ap (λ mask. kept mask rows.snapshots.now) c.deref-4.ensures.value)
    c.in_ok-owners.ensures.all in
    let blobs = c.in_ok-blobs.ensures.ok ∙ blobs_are tables _ (ap (λ mask. kept mask rows.content.now) c.deref.ensures.value)
    (sorted one_text back.blobs.now) in
    let ingests = c.in_ok-ingests.ensures.ok ∙ ap (λ (l : List ℕ). flat_map
    (λ number. if is_begun_removed l number then number ∷ [] else []) back.ingests.now)
    c.deref-3.ensures.value
    ∙ ingests_are tables owned all_begun back.ingests.now in
    let snapshots = c.in_ok-snapshots.ensures.ok ∙ ap (map key_name) (c.deref-6.ensures.value ∙ c.in_ok-keys-2.ensures.ok ∙ ap (in_order is_first) (c.in_ok-keys.ensures.ok
    ∙ ap (λ (l : List (Bor SnapRow)). flat_map (λ s. if is_snap_removed (map (λ
    (row : Bor SnapRow). row.now) l) s then key_of back.snapshots.now s ∷ [] else [])
    back.snapshots.now) c.deref-5.ensures.value))
    ∙ snapshots_are tables owners all_snaps back.snapshots.now in
    λ i. record { blobs = blobs i; ingests = ingests i; snapshots = snapshots i }

pub returns-clause-blobs : goal.returns-clause-blobs
returns-clause-blobs c = c.in_ok-blobs.ensures.marks
