-- Requests on ingests keep a state sound. None of it speaks of code.
use Rattle.std.proofs.Common.{◌≡◌, ℕ, ◌+◌, ◌<◌, Bool, true, false, not, List, [], ◌∷◌, Option, None, refl, sym, arith, inl, inr}
use Rattle.std.specs.Prelude.{All, AllPairs, IsTrue, nat_lt, ◌==◌, is_some}
use Rattle.std.specs.List.{list_any}
use Rattle.std.proofs.lemmas.Bool.{cases_Bool, or_parts, ltb-true, not-false}
use Rattle.std.proofs.lemmas.Bool.Decides.{nat_tests, Decides-eqb}
use Rattle.std.proofs.lemmas.List.Elements.{All-weaker}
use Rattle.meta_types.specs.Text.{Text}
use Rattle.meta_types.specs.Keys.{Key, row_at, has_row, add_row, remove_row, put_in_order, change_row}
use Rattle.meta_types.specs.Labels.{labels_of}
use Rattle.meta_types.specs.Rows.{State, ingest_key, content_key}
use Rattle.meta_types.specs.Changes.{has_namespace, with_ingests, with_content, with_blob, with_ingest_object, put_blob, holding}
use Rattle.meta_types.specs.Data.{data_of}
use Rattle.meta_types.specs.Ops.Ingests.{own_end, reopened}
use Rattle.meta_types.specs.Ops.{least_fault, lacks}
use Rattle.meta_types.specs.Requests.{outcome}
use Rattle.meta_types.specs.Sound.{AreTables, IsSound}
use Rattle.meta_types.specs.declared.rows.ContentRow.{ContentRow}
use Rattle.meta_types.specs.declared.rows.IngestRow.{IngestRow}
use Rattle.meta_types.specs.declared.rows.SnapRow.{SnapRow}
use Rattle.meta_types.specs.declared.resource.Resource.TheVariants.{Content, Ingest}
use Rattle.meta_types.specs.declared.request.RawName.{RawName}
use Rattle.meta_types.specs.declared.request.IngestBegin.{IngestBegin}
use Rattle.meta_types.specs.declared.request.IngestCommit.{IngestCommit}
use Rattle.meta_types.specs.declared.request.Request.TheVariants as R
use Rattle.meta_types.proofs.KeepsSound.{all_added, all_removed, all_changed, any_added, added_any}
use Rattle.request_core.proofs.ListsSound.{none_applies, sound_content, sound_leases, sound_ingests, still_stored, leases_held, leases_released}
use Rattle.object_tables.proofs.PairsKept.{all_put, pairs_put}
use Rattle.object_tables.proofs.TablesKept.{content_added, ingest_added, ingest_removed, ingest_changed}

-- ---- numbers below the next

-- a number below another isn't that one
pub not_above : (n next : ℕ) → n < next → not (next == n) ≡ true
not_above n next h = grind (arith, nat_tests)

pub not_below : (n next : ℕ) → n < next → not (n == next) ≡ true
not_below n next h = grind (arith, nat_tests)

-- the next number stands last
last_in_order : (next : ℕ) (begun : List ℕ) → All (λ number. number < next) begun
    → AllPairs (λ a b. a < b) begun → AllPairs (λ a b. a < b) (put_in_order nat_lt next begun)
last_in_order next begun below order =
    pairs_put (λ a b. a < b) (λ a b c p q. omega (arith, p, q)) nat_lt next begun
    (All-weaker (λ number. number < next) HasPlace
    (λ number h. ((λ t. ltb-true next number t), (λ f. h))) begun below) order
  where
    HasPlace : ℕ → Type 0
    HasPlace number =
        (nat_lt next number ≡ true → next < number) × (nat_lt next number ≡ false → number < next)

-- ---- requests

-- the row's number is below the next
abbrev Below : ℕ → IngestRow → Type 0
Below next row = row.number < next

-- the row's object is one of these
abbrev IsBegun : List ℕ → IngestRow → Type 0
IsBegun begun row = IsTrue (list_any (λ number. number == row.number) begun)

-- an ingest goes
ingest_gone : (state : State) (key : Key) → IsSound state
    → IsSound (with_ingests state (remove_row ingest_key key state.records.tables.ingests))
ingest_gone state key s =
    let rows = state.records.tables.ingests in
    let next = state.records.next in
    let begun = state.backends.ingests in
    sound_ingests state s (remove_row ingest_key key rows) next begun
    (ingest_removed state.records.tables s.tables key)
    (record {
      snapshots_below = s.backed.snapshots_below;
      ingests_below = all_removed ingest_key (Below next) key rows s.backed.ingests_below;
      objects_below = s.backed.objects_below;
      begun_below = s.backed.begun_below;
      ingests_begun = all_removed ingest_key (IsBegun begun) key rows s.backed.ingests_begun;
      objects = s.backed.objects;
      back_parents = s.backed.back_parents;
      objects_in_order = s.backed.objects_in_order;
      begun_in_order = s.backed.begun_in_order;
    })

pub after_ingest_abort : (state : State) (ingest : RawName) (dropped_by : Option Text)
    → IsSound state → IsSound (outcome state (R.IngestAbort ingest dropped_by)).after
after_ingest_abort state ingest dropped_by s =
    let key : Key = ingest.ns ∷ ingest.name ∷ [] in
    sound_leases (with_ingests state (remove_row ingest_key key state.records.tables.ingests))
    (ingest_gone state key s) _
    (leases_released state.records.tables.namespaces ingest.ns dropped_by (Ingest ingest.name)
    state.records.leases s.leases)

pub after_ingest_commit : (state : State) (asked : IngestCommit) → IsSound state
    → least_fault (outcome state (R.IngestCommit asked)) ≡ None
    → IsSound (outcome state (R.IngestCommit asked)).after
after_ingest_commit state asked s none =
    let f = none_applies (outcome state (R.IngestCommit asked)) none in
    let rows = state.records.tables.content in
    let blobs = state.backends.blobs in
    let row : ContentRow = record {
      ns = asked.ingest.ns;
      digest = asked.digest;
      labels = labels_of asked.labels;
      extra = data_of asked.extra;
    } in
    let there = (or_parts (lacks state asked.ingest.ns asked.lease) _ f.1).0 in
    let left =
    with_ingests state (remove_row ingest_key
    (asked.ingest.ns ∷ asked.ingest.name ∷ []) state.records.tables.ingests) in
    let s1 : IsSound left = ingest_gone state (asked.ingest.ns ∷ asked.ingest.name ∷ []) s in
    let grown = sound_content left s1 (add_row content_key row rows) (put_blob asked.digest blobs)
    (content_added left.records.tables s1.tables row (not-false _ (or_parts _ _ there).0) f.2)
    (still_stored rows row blobs s.stored) in
    let whole = with_blob asked.digest (with_content left (add_row content_key row rows)) in
    let held = leases_held state.records.tables.namespaces asked.ingest.ns asked.lease
    (Content asked.digest) state.records.leases s.leases in
    sound_leases (holding asked.ingest.ns asked.lease (Content asked.digest) whole)
    (sound_leases whole grown _ held) _
    (leases_released state.records.tables.namespaces asked.ingest.ns asked.dropped_by
    (Ingest asked.ingest.name) _ held)

module _ (state : State) (row : IngestRow) (s : IsSound state)
    (numbered : row.number ≡ state.records.next)
    (there : has_namespace state.records.tables row.ns ≡ true)
    (free : has_row ingest_key (ingest_key row) state.records.tables.ingests ≡ false) where
  abbrev rows : List IngestRow
  rows = state.records.tables.ingests

  abbrev next : ℕ
  next = state.records.next

  abbrev more : List ℕ
  more = put_in_order nat_lt next state.backends.ingests

  -- all other numbers are smaller
  pub tables_begun : AreTables
      (record state.records.tables { ingests = add_row ingest_key row rows })
  tables_begun = ingest_added state.records.tables s.tables row there free
      (All-weaker (Below next) (λ other. IsTrue (not (row.number == other.number)))
      (λ other h. not_above other.number row.number (omega (arith, h, numbered))) rows
      s.backed.ingests_below)
      (All-weaker (λ (snap : SnapRow). snap.number < next)
      (λ snap. IsTrue (not (snap.number == row.number)))
      (λ snap h. not_below snap.number row.number (omega (arith, h, numbered)))
      state.records.tables.snapshots s.backed.snapshots_below)

  -- and its object is the new one
  new_begun : IsBegun more row
  new_begun = added_any (λ number. number == row.number) nat_lt next state.backends.ingests
      ((Decides-eqb next row.number).1 (sym numbered))

  pub ingest_begun : IsSound (with_ingest_object (with_ingests state (add_row ingest_key row rows)))
  ingest_begun = sound_ingests state s (add_row ingest_key row rows) (next + 1) more tables_begun
      (record {
        snapshots_below = λ k d lt. (let h = s.backed.snapshots_below k d lt in omega (arith, h));
        ingests_below = all_added ingest_key (Below (next + 1)) row (omega (arith, numbered)) rows
            (λ k d lt. (let h = s.backed.ingests_below k d lt in omega (arith, h)));
        objects_below = λ k d lt. (let h = s.backed.objects_below k d lt in omega (arith, h));
        begun_below = all_put (λ number. number < next + 1) nat_lt next (omega arith)
            state.backends.ingests
            (λ k d lt. (let h = s.backed.begun_below k d lt in omega (arith, h)));
        ingests_begun = all_added ingest_key (IsBegun more) row new_begun rows
            (All-weaker (IsBegun state.backends.ingests) (IsBegun more)
            (λ other h. any_added (λ number. number == other.number) nat_lt next
            state.backends.ingests h) rows s.backed.ingests_begun);
        objects = s.backed.objects;
        back_parents = s.backed.back_parents;
        objects_in_order = s.backed.objects_in_order;
        begun_in_order = last_in_order next state.backends.ingests s.backed.begun_below
            s.backed.begun_in_order;
      })

-- the key of an ingest that is opened
abbrev opened_key : IngestBegin → Key
opened_key asked = asked.ingest.ns ∷ asked.ingest.name ∷ []

-- one that isn't there is begun
begun_anew : (state : State) (asked : IngestBegin) → IsSound state
    → is_some (row_at ingest_key (opened_key asked) state.records.tables.ingests) ≡ false
    → lacks state asked.ingest.ns asked.lease ≡ false
    → IsSound (outcome state (R.IngestBegin asked)).after
begun_anew state asked s free there =
    let row : IngestRow = record {
      ns = asked.ingest.ns;
      name = asked.ingest.name;
      expected = asked.expected;
      expires = own_end asked.lease asked.at;
      number = state.records.next;
      extra = data_of asked.extra;
    } in
    sound_leases
    (with_ingest_object (with_ingests state (add_row ingest_key row state.records.tables.ingests)))
    (ingest_begun state row s refl (not-false _ (or_parts _ _ there).0) free) _
    (leases_held state.records.tables.namespaces asked.ingest.ns asked.lease
    (Ingest asked.ingest.name) state.records.leases s.leases)

pub after_ingest_begin : (state : State) (asked : IngestBegin) → IsSound state
    → least_fault (outcome state (R.IngestBegin asked)) ≡ None
    → IsSound (outcome state (R.IngestBegin asked)).after
after_ingest_begin state asked s none =
    let f = none_applies (outcome state (R.IngestBegin asked)) none in
    begun_anew state asked s f.2 f.1

-- the rows with it opened again
abbrev opened_rows : State → IngestBegin → List IngestRow
opened_rows state asked =
    change_row ingest_key (opened_key asked) (reopened asked) state.records.tables.ingests

-- one that is opened again keeps its number and its object
ingest_again : (state : State) (asked : IngestBegin) → IsSound state
    → IsSound (with_ingests state (opened_rows state asked))
ingest_again state asked s =
    let key = opened_key asked in
    let rows = state.records.tables.ingests in
    let next = state.records.next in
    let begun = state.backends.ingests in
    sound_ingests state s (opened_rows state asked) next begun
    (ingest_changed state.records.tables s.tables key (reopened asked) (λ row. refl) (λ row. refl)
    (λ row. refl))
    (record {
      snapshots_below = s.backed.snapshots_below;
      ingests_below = all_changed ingest_key (Below next) key (reopened asked) (λ row h. h) rows
          s.backed.ingests_below;
      objects_below = s.backed.objects_below;
      begun_below = s.backed.begun_below;
      ingests_begun = all_changed ingest_key (IsBegun begun) key (reopened asked) (λ row h. h) rows
          s.backed.ingests_begun;
      objects = s.backed.objects;
      back_parents = s.backed.back_parents;
      objects_in_order = s.backed.objects_in_order;
      begun_in_order = s.backed.begun_in_order;
    })

-- and what its lease holds is no part of it
held_again : (state : State) (asked : IngestBegin) → IsSound state
    → IsSound (holding asked.ingest.ns asked.lease (Ingest asked.ingest.name)
    (with_ingests state (opened_rows state asked)))
held_again state asked s =
    sound_leases (with_ingests state (opened_rows state asked)) (ingest_again state asked s) _
    (leases_held state.records.tables.namespaces asked.ingest.ns asked.lease
    (Ingest asked.ingest.name) state.records.leases s.leases)

pub after_ingest_open : (state : State) (asked : IngestBegin) → IsSound state
    → least_fault (outcome state (R.IngestOpen asked)) ≡ None
    → IsSound (outcome state (R.IngestOpen asked)).after
after_ingest_open state asked s none =
    let f = none_applies (outcome state (R.IngestOpen asked)) none in
    elim (cases_Bool
    (is_some (row_at ingest_key (opened_key asked) state.records.tables.ingests))) [
      | inl found ↦ rw found (held_again state asked s)
      | inr free ↦ rw free (begun_anew state asked s free f.1)
    ]
