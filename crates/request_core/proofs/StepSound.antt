-- Requests on namespaces, images and containers keep a state sound. None of it speaks of code.
use Rattle.std.proofs.Common.{◌≡◌, List, [], ◌∷◌, Option, None, refl}
use Rattle.std.specs.Prelude.{bytes_eq}
use Rattle.std.specs.List.{list_any}
use Rattle.std.proofs.lemmas.Bool.{or_parts, not-false}
use Rattle.meta_types.specs.Text.{Text}
use Rattle.meta_types.specs.Keys.{is_before, add_row, remove_row}
use Rattle.meta_types.specs.Labels.{labels_of, put_label}
use Rattle.meta_types.specs.Rows.{State, LeaseRow, namespace_key, lease_key}
use Rattle.meta_types.specs.Ops.{least_fault}
use Rattle.meta_types.specs.Requests.{outcome}
use Rattle.meta_types.specs.Sound.{IsSound}
use Rattle.meta_types.specs.declared.rows.ImageRow.{ImageRow}
use Rattle.meta_types.specs.declared.rows.ContainerRow.{ContainerRow}
use Rattle.meta_types.specs.declared.raw.RawLabel.{RawLabel}
use Rattle.meta_types.specs.declared.request.RawName.{RawName}
use Rattle.meta_types.specs.declared.request.ImageAdd.{ImageAdd}
use Rattle.meta_types.specs.declared.request.ImageTarget.{ImageTarget}
use Rattle.meta_types.specs.declared.request.ImageSet.{ImageSet}
use Rattle.meta_types.specs.Data.{data_of}
use Rattle.meta_types.specs.Ops.Images.{set_image}
use Rattle.meta_types.specs.Ops.Containers.{snapshot_named, set_container}
use Rattle.meta_types.specs.declared.request.ContainerAdd.{ContainerAdd}
use Rattle.meta_types.specs.declared.request.ContainerSet.{ContainerSet}
use Rattle.meta_types.specs.declared.request.Request.TheVariants as R
use Rattle.meta_types.proofs.KeepsSound.{rows_among, any_added}
use Rattle.object_tables.proofs.OtherTables.{unused, namespace_added, namespace_removed}
use Rattle.object_tables.proofs.TablesKept.{image_added, image_removed, image_changed, container_added, container_removed, container_changed}
use Rattle.request_core.proofs.ListsSound.{none_applies, sound_images, sound_containers}

-- ---- namespaces

pub after_ns_add : (state : State) (ns : Text) → IsSound state
    → least_fault (outcome state (R.NsAdd ns)) ≡ None → IsSound (outcome state (R.NsAdd ns)).after
after_ns_add state ns s none =
    let f = none_applies (outcome state (R.NsAdd ns)) none in
    let old = state.records.tables.namespaces in
    record {
      tables = namespace_added state.records.tables s.tables ns f.2;
      leases = rows_among lease_key (λ (row : LeaseRow). row.ns) old (add_row namespace_key ns old)
          state.records.leases
          (λ k d lt. any_added (bytes_eq _)
          (λ a b. is_before (namespace_key a) (namespace_key b)) ns old) s.leases;
      stored = s.stored;
      backed = s.backed;
    }

pub after_ns_remove : (state : State) (ns : Text) → IsSound state
    → least_fault (outcome state (R.NsRemove ns)) ≡ None → IsSound (outcome state
    (R.NsRemove ns)).after
after_ns_remove state ns s none =
    let f = none_applies (outcome state (R.NsRemove ns)) none in
    let old = state.records.tables.namespaces in
    let leases = state.records.leases in
    let free = or_parts _ (list_any (λ (row : LeaseRow). bytes_eq ns row.ns) leases) f.3 in
    record {
      tables = namespace_removed state.records.tables s.tables ns free.0;
      leases = rows_among lease_key (λ (row : LeaseRow). row.ns) old
          (remove_row namespace_key (ns ∷ []) old) leases
          (unused (λ (row : LeaseRow). row.ns) ns old leases free.1) s.leases;
      stored = s.stored;
      backed = s.backed;
    }

-- ---- images

pub after_image_add : (state : State) (asked : ImageAdd) → IsSound state
    → least_fault (outcome state (R.ImageAdd asked)) ≡ None
    → IsSound (outcome state (R.ImageAdd asked)).after
after_image_add state asked s none =
    let f = none_applies (outcome state (R.ImageAdd asked)) none in
    let row : ImageRow = record {
      ns = asked.image.ns;
      name = asked.image.name;
      target = asked.target;
      labels = labels_of asked.labels;
      extra = data_of asked.extra;
    } in
    sound_images state s _
    (image_added state.records.tables s.tables row (not-false _ (or_parts _ _ f.1).0) f.2)

pub after_image_target : (state : State) (asked : ImageTarget) → IsSound state
    → IsSound (outcome state (R.ImageTarget asked)).after
after_image_target state asked s =
    sound_images state s _
    (image_changed state.records.tables s.tables (asked.image.ns ∷ asked.image.name ∷ [])
    (λ row. record row { target = asked.target }) (λ row. refl) (λ row. refl))

pub after_image_set : (state : State) (asked : ImageSet) → IsSound state
    → IsSound (outcome state (R.ImageSet asked)).after
after_image_set state asked s =
    sound_images state s _
    (image_changed state.records.tables s.tables (asked.image.ns ∷ asked.image.name ∷ [])
    (set_image asked) (λ row. refl) (λ row. refl))

-- the removal of an image leaves a sound store
pub after_image_remove : (state : State) (image : RawName) → IsSound state
    → IsSound (outcome state (R.ImageRemove image)).after
after_image_remove state image s =
    sound_images state s _ (image_removed state.records.tables s.tables
    (image.ns ∷ image.name ∷ []))

pub after_image_label : (state : State) (image : RawName) (label : RawLabel) → IsSound state
    → IsSound (outcome state (R.ImageLabel image label)).after
after_image_label state image label s =
    sound_images state s _
    (image_changed state.records.tables s.tables (image.ns ∷ image.name ∷ [])
    (λ row. record row { labels = put_label label.key label.value row.labels }) (λ row. refl)
    (λ row. refl))

-- ---- containers

pub after_container_add : (state : State) (asked : ContainerAdd) → IsSound state
    → least_fault (outcome state (R.ContainerAdd asked)) ≡ None
    → IsSound (outcome state (R.ContainerAdd asked)).after
after_container_add state asked s none =
    let f = none_applies (outcome state (R.ContainerAdd asked)) none in
    let row : ContainerRow = record {
      ns = asked.container.ns;
      name = asked.container.name;
      snapshot = snapshot_named asked.snapshotter asked.key;
      labels = labels_of asked.labels;
      extra = data_of asked.extra;
    } in
    sound_containers state s _
    (container_added state.records.tables s.tables row (not-false _ (or_parts _ _ f.1).0) f.2)

pub after_container_set : (state : State) (asked : ContainerSet) → IsSound state
    → IsSound (outcome state (R.ContainerSet asked)).after
after_container_set state asked s =
    sound_containers state s _
    (container_changed state.records.tables s.tables
    (asked.container.ns ∷ asked.container.name ∷ [])
    (set_container asked) (λ row. refl) (λ row. refl))

pub after_container_remove : (state : State) (container : RawName) → IsSound state
    → IsSound (outcome state (R.ContainerRemove container)).after
after_container_remove state container s =
    sound_containers state s _ (container_removed state.records.tables s.tables
    (container.ns ∷ container.name ∷ []))

pub after_container_label : (state : State) (container : RawName) (label : RawLabel) → IsSound state
    → IsSound (outcome state (R.ContainerLabel container label)).after
after_container_label state container label s =
    sound_containers state s _
    (container_changed state.records.tables s.tables (container.ns ∷ container.name ∷ [])
    (λ row. record row { labels = put_label label.key label.value row.labels }) (λ row. refl)
    (λ row. refl))
