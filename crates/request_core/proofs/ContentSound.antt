-- Requests on content and leases, and the profile, keep a state sound. None of it speaks of code.
use Rattle.std.proofs.Common.{◌≡◌, ℕ, List, [], ◌∷◌, Option, Some, None, refl}
use Rattle.std.specs.Prelude.{IsTrue, bytes_eq}
use Rattle.std.specs.List.{list_any}
use Rattle.std.specs.Option.{option_map_or}
use Rattle.std.proofs.lemmas.Bool.{or_parts, not-false}
use Rattle.meta_types.specs.Text.{Text}
use Rattle.meta_types.specs.Keys.{Key, add_row, remove_row, change_row}
use Rattle.meta_types.specs.Labels.{labels_of, put_label}
use Rattle.meta_types.specs.Resources.{resource_key, resource_of, held}
use Rattle.meta_types.specs.Rows.{State, LeaseRow, content_key, lease_key}
use Rattle.meta_types.specs.Changes.{with_content, with_blob, put_blob, hold_in_lease, release_in_lease}
use Rattle.meta_types.specs.Data.{data_of}
use Rattle.meta_types.specs.Ops.{least_fault}
use Rattle.meta_types.specs.Ops.Content.{set_content}
use Rattle.meta_types.specs.Ops.Leases.{set_lease}
use Rattle.meta_types.specs.Requests.{outcome}
use Rattle.meta_types.specs.Sound.{AreRows, IsSound}
use Rattle.meta_types.specs.declared.rows.ContentRow.{ContentRow}
use Rattle.meta_types.specs.declared.resource.Resource.{Resource}
use Rattle.meta_types.specs.declared.resource.Resource.TheVariants.{Content}
use Rattle.meta_types.specs.declared.raw.RawLabel.{RawLabel}
use Rattle.meta_types.specs.declared.request.RawName.{RawName}
use Rattle.meta_types.specs.declared.request.RawContent.{RawContent}
use Rattle.meta_types.specs.declared.request.ContentAdd.{ContentAdd}
use Rattle.meta_types.specs.declared.request.LeaseAdd.{LeaseAdd}
use Rattle.meta_types.specs.declared.request.LeaseResource.{LeaseResource}
use Rattle.meta_types.specs.declared.request.RowUpdate.{RowUpdate}
use Rattle.meta_types.specs.declared.request.Request.TheVariants as R
use Rattle.meta_types.proofs.KeepsSound.{all_removed, all_changed, rows_added, rows_removed, rows_changed}
use Rattle.object_tables.proofs.TablesKept.{content_added, content_removed, content_changed}
use Rattle.request_core.proofs.ListsSound.{none_applies, sound_content, sound_leases, still_stored, leases_held, leases_released}

-- ---- content

-- the row's blob is there
abbrev IsStored : List Text → ContentRow → Type 0
IsStored blobs row = IsTrue (list_any (bytes_eq row.digest) blobs)

pub after_content_add : (state : State) (asked : ContentAdd) → IsSound state
    → least_fault (outcome state (R.ContentAdd asked)) ≡ None
    → IsSound (outcome state (R.ContentAdd asked)).after
after_content_add state asked s none =
    let f = none_applies (outcome state (R.ContentAdd asked)) none in
    let row : ContentRow = record {
      ns = asked.content.ns;
      digest = asked.content.digest;
      labels = labels_of asked.labels;
      extra = data_of asked.extra;
    } in
    let rows = state.records.tables.content in
    let blobs = state.backends.blobs in
    let grown = sound_content state s (add_row content_key row rows)
    (put_blob asked.content.digest blobs)
    (content_added state.records.tables s.tables row (not-false _ (or_parts _ _ f.1).0) f.2)
    (still_stored rows row blobs s.stored) in
    sound_leases (with_blob asked.content.digest (with_content state
    (add_row content_key row rows))) grown _
    (leases_held state.records.tables.namespaces asked.content.ns asked.lease
    (Content asked.content.digest) state.records.leases
    s.leases)

pub after_content_remove : (state : State) (content : RawContent) (dropped_by : Option Text)
    → IsSound state → IsSound (outcome state (R.ContentRemove content dropped_by)).after
after_content_remove state content dropped_by s =
    let key : Key = content.ns ∷ content.digest ∷ [] in
    let rows = state.records.tables.content in
    let blobs = state.backends.blobs in
    let gone = sound_content state s (remove_row content_key key rows) blobs
    (content_removed state.records.tables s.tables key)
    (record {
      held = all_removed content_key (IsStored blobs) key rows s.stored.held;
      in_order = s.stored.in_order;
    }) in
    sound_leases (with_content state (remove_row content_key key rows)) gone _
    (leases_released state.records.tables.namespaces content.ns dropped_by (Content content.digest)
    state.records.leases s.leases)

-- a row changes, but neither its key nor its blob
content_becomes : (state : State) (place : Key) (change : ContentRow → ContentRow)
    → ((row : ContentRow) → content_key (change row) ≡ content_key row)
    → ((row : ContentRow) → (change row).ns ≡ row.ns)
    → ((row : ContentRow) → (change row).digest ≡ row.digest) → IsSound state
    → IsSound (with_content state (change_row content_key place change
    state.records.tables.content))
content_becomes state place change same same_ns same_blob s =
    let blobs = state.backends.blobs in
    sound_content state s _ blobs
    (content_changed state.records.tables s.tables place change same same_ns)
    (record {
      held = all_changed content_key (IsStored blobs) place change
          (λ row there. rw (same_blob row) there)
          state.records.tables.content s.stored.held;
      in_order = s.stored.in_order;
    })

pub after_content_set : (state : State) (content : RawContent) (update : RowUpdate) → IsSound state
    → IsSound (outcome state (R.ContentSet content update)).after
after_content_set state content update s =
    content_becomes state (content.ns ∷ content.digest ∷ []) (set_content update) (λ row. refl)
    (λ row. refl)
    (λ row. refl) s

pub after_content_label : (state : State) (content : RawContent) (label : RawLabel) → IsSound state
    → IsSound (outcome state (R.ContentLabel content label)).after
after_content_label state content label s =
    content_becomes state (content.ns ∷ content.digest ∷ [])
    (λ row. record row { labels = put_label label.key label.value row.labels }) (λ row. refl)
    (λ row. refl) (λ row. refl) s

-- ---- leases

-- leases in the namespaces
abbrev AreLeases : List Text → List LeaseRow → Type 0
AreLeases namespaces rows = AreRows lease_key (λ (row : LeaseRow). row.ns) namespaces rows

pub after_lease_add : (state : State) (asked : LeaseAdd) → IsSound state
    → least_fault (outcome state (R.LeaseAdd asked)) ≡ None
    → IsSound (outcome state (R.LeaseAdd asked)).after
after_lease_add state asked s none =
    let f = none_applies (outcome state (R.LeaseAdd asked)) none in
    let row : LeaseRow = record {
      ns = asked.lease.ns;
      id = asked.lease.name;
      labels = labels_of asked.labels;
      extra = data_of asked.extra;
      resources = [];
    } in
    sound_leases state s _
    (rows_added lease_key (λ (other : LeaseRow). other.ns) state.records.tables.namespaces row
    state.records.leases (not-false _ (or_parts _ _ f.1).0) f.2 s.leases)

-- the removal of a lease leaves a sound store
pub after_lease_remove : (state : State) (lease : RawName) → IsSound state
    → IsSound (outcome state (R.LeaseRemove lease)).after
after_lease_remove state lease s = sound_leases state s _
    (rows_removed lease_key (λ (row : LeaseRow). row.ns) state.records.tables.namespaces
    (lease.ns ∷ lease.name ∷ []) state.records.leases s.leases)

-- one lease changes, but not its key
lease_changed : (namespaces : List Text) (key : Key) (change : LeaseRow → LeaseRow)
    → ((row : LeaseRow) → lease_key (change row) ≡ lease_key row)
    → ((row : LeaseRow) → (change row).ns ≡ row.ns)
    → (rows : List LeaseRow) → AreLeases namespaces rows
    → AreLeases namespaces (change_row lease_key key change rows)
lease_changed namespaces key change same same_ns rows s =
    rows_changed lease_key (λ (row : LeaseRow). row.ns) namespaces key change same same_ns rows s

pub after_lease_label : (state : State) (lease : RawName) (label : RawLabel) → IsSound state
    → IsSound (outcome state (R.LeaseLabel lease label)).after
after_lease_label state lease label s =
    sound_leases state s _
    (lease_changed state.records.tables.namespaces (lease.ns ∷ lease.name ∷ [])
    (λ row. record row { labels = put_label label.key label.value row.labels }) (λ row. refl)
    (λ row. refl)
    state.records.leases s.leases)

pub after_lease_set : (state : State) (lease : RawName) (update : RowUpdate) → IsSound state
    → IsSound (outcome state (R.LeaseSet lease update)).after
after_lease_set state lease update s =
    sound_leases state s _
    (lease_changed state.records.tables.namespaces (lease.ns ∷ lease.name ∷ []) (set_lease update)
    (λ row. refl) (λ row. refl) state.records.leases s.leases)

pub after_lease_hold : (state : State) (asked : LeaseResource) → IsSound state
    → IsSound (outcome state (R.LeaseHold asked)).after
after_lease_hold state asked s =
    sound_leases state s _ (go
    (resource_of asked.kind asked.resource) state.records.leases s.leases)
  where
    go : (resource : Option Resource) (leases : List LeaseRow)
        → AreLeases state.records.tables.namespaces leases
        → AreLeases state.records.tables.namespaces
        (option_map_or (λ r. hold_in_lease
        (asked.lease.ns ∷ asked.lease.name ∷ []) r leases) resource leases)
    go None leases s = s
    go (Some resource) leases s =
        lease_changed state.records.tables.namespaces (asked.lease.ns ∷ asked.lease.name ∷ [])
        (λ row. record row { resources = held resource row.resources }) (λ row. refl) (λ row. refl)
        leases s

pub after_lease_drop : (state : State) (asked : LeaseResource) → IsSound state
    → IsSound (outcome state (R.LeaseDrop asked)).after
after_lease_drop state asked s =
    sound_leases state s _ (go
    (resource_of asked.kind asked.resource) state.records.leases s.leases)
  where
    go : (resource : Option Resource) (leases : List LeaseRow)
        → AreLeases state.records.tables.namespaces leases
        → AreLeases state.records.tables.namespaces
        (option_map_or (λ r. release_in_lease
        (asked.lease.ns ∷ asked.lease.name ∷ []) r leases) resource leases)
    go None leases s = s
    go (Some resource) leases s =
        lease_changed state.records.tables.namespaces (asked.lease.ns ∷ asked.lease.name ∷ [])
        (λ row. record row {
          resources = remove_row resource_key (resource_key resource) row.resources;
        })
        (λ row. refl) (λ row. refl) leases s

-- ---- the profile

-- it is no part of it
pub after_profile : (state : State) (v : ℕ) → IsSound state
    → IsSound (outcome state (R.Profile v)).after
after_profile state v s =
    record { tables = s.tables; leases = s.leases; stored = s.stored; backed = s.backed }
