-- The row that a request leaves is found by its key.
use Rattle.std.proofs.Common.{◌≡◌, ◌∙◌, Bool, true, false, not, List, [], ◌∷◌, Option, Some, None, refl, sym, ap, subst, inl, inr, true≢false}
use Rattle.std.specs.Prelude.{option_map, option_and_then, ◌&&◌, ◌||◌, IfOk, Result, Ok, Err}
use Rattle.std.specs.Result.{IsErrAnd}
use Rattle.std.proofs.lemmas.Bool.{cases_Bool, and_parts, and_from, or_parts, not-false}
use Rattle.meta_types.specs.Keys.{Key, is_key, is_before, row_at, has_row, add_row, change_row}
use Rattle.meta_types.specs.Rows.{State}
use Rattle.meta_types.specs.Changes.{all_of}
use Rattle.meta_types.specs.Ops.{Outcome, labelled, least_fault}
use Rattle.meta_types.specs.Requests.{outcome}
use Rattle.meta_types.specs.Shown.{row_named, row_shown, shown_row}
use Rattle.meta_types.specs.declared.object.Object.{Object}
use Rattle.meta_types.specs.Text.{Text}
use Rattle.meta_types.specs.Labels.{LabelList, is_label, has_room, takes_label}
use Rattle.meta_types.specs.Faults.{Refuses, unless}
use Rattle.meta_types.specs.declared.request.RowUpdate.{RowUpdate}
use Rattle.meta_types.specs.declared.fault.Fault.{Fault}
use Rattle.meta_types.specs.declared.fault.Fault.TheVariants.{InvalidArgument, NotFound, AlreadyExists, FailedPrecondition, BadLine, TooLong, OutOfMemory, NoWorker, BackendFailed, ReadFailed, WriteFailed, Mismatch}
use Rattle.request_core.specs.Made.{MakesParts, updating_fault}
use Rattle.meta_types.specs.declared.shown_row.ShownRow.{ShownRow}
use Rattle.meta_types.specs.declared.request.Request.{Request}
use Rattle.object_tables.proofs.RowsKept.{key_itself}
use Rattle.request_core.specs.Follows.{ReadsTexts}
use Rattle.request_core.specs.Foreseen.{IsMemory, Shows, ShowsRow, told}
use Rattle.request_core.specs.declared.refusal.Refusal.{Refusal}
use Rattle.request_core.specs.declared.refusal.Refusal.TheVariants.{Reading, By}
use Rattle.request_core.proofs.ListsSound.{none_applies}

module _ {Row : Type 0} (key_of : Row → Key) where
  -- one that was added
  pub found_added : (key : Key) (row : Row) → is_key key (key_of row) ≡ true → (rows : List Row) →
      has_row key_of key rows ≡ false → row_at key_of key (add_row key_of row rows) ≡ Some row
  found_added key row e [] free = rw e refl
  found_added key row e (x ∷ rows) free = elim (cases_Bool (is_key key (key_of x))) [
    | inl t ↦ absurd (cc (rw t at free))
    | inr f ↦ elim (cases_Bool (is_before (key_of row) (key_of x))) [
      | inl b ↦ rw (b, e) refl
      | inr b ↦ rw (b, f) (found_added key row e rows (rw f at free))
    ]
  ]

  -- one that was changed
  pub found_changed : (key : Key) (change : Row → Row) →
      ((row : Row) → key_of (change row) ≡ key_of row)
      → (rows : List Row) → row_at key_of key (change_row key_of key change rows) ≡ option_map
      change (row_at key_of key rows)
  found_changed key change same [] = refl
  found_changed key change same (row ∷ rows) = elim (cases_Bool (is_key key (key_of row))) [
    | inl t ↦ rw (t, same row, t) refl
    | inr f ↦ rw (f, f) (found_changed key change same rows)
  ]

-- ---- refusals

-- a refusal that is passed on
pub passed : (expected : Option ShownRow) (r : Result (Option ShownRow) Refusal) (refusal : Refusal)
    → IsErrAnd r (λ other. other ≡ refusal) → IsMemory refusal → Shows expected r
passed expected (Ok shown) refusal same h = absurd same
passed expected (Err other) refusal same h = subst IsMemory (sym same) h

-- texts that are allowed are refused with OutOfMemory only
pub not_read : {X : Type 0} (refusal : Refusal) (allowed : Bool) (value : X)
    → ReadsTexts {X = X} (Err refusal) allowed value → allowed ≡ true → IsMemory refusal
not_read Reading allowed value h a = tt
not_read (By fault) allowed value h a = absurd (true≢false (sym a ∙ h.1))

module _ (state : State) (request : Request) where
  -- a text isn't allowed, or memory ran out
  pub unread : {X : Type 0} (r : Result (Option ShownRow) Refusal) (refusal : Refusal)
      (allowed : Bool) (value : X) → IsErrAnd r (λ other. other ≡ refusal)
      → ReadsTexts {X = X} (Err refusal) allowed value
      → (allowed ≡ false → (outcome state request).invalid ≡ true) → ShowsRow state request r
  unfolding ShowsRow
  unread {X = X} r refusal allowed value same h invalid = λ none.
      passed _ r refusal same (elim (cases_Bool allowed) [
        | inl t ↦ not_read {X = X} refusal allowed value h t
        | inr f ↦ absurd (true≢false (sym (invalid f)
            ∙ (none_applies (outcome state request) none).0))
      ])

-- ---- rows

module _ {Row : Type 0} (key_of : Row → Key) (shown : Row → ShownRow) where
  -- a row that is new is shown as it is added
  pub added_shown : (new is : Row) (rows : List Row) → has_row key_of (key_of new) rows ≡ false
      → is ≡ new
      → option_map shown (row_at key_of (key_of new) (add_row key_of new rows)) ≡ Some (shown is)
  added_shown new is rows free same =
      ap (option_map shown)
      (found_added key_of (key_of new) new (key_itself (key_of new)) rows free)
      ∙ ap (λ (r : Row). Some (shown r)) (sym same)

  -- a row that was changed is shown as it was changed
  pub changed_shown : (key : Key) (change : Row → Row)
      → ((row : Row) → key_of (change row) ≡ key_of row) → (rows : List Row) (row new : Row)
      → row_at key_of key rows ≡ Some row → new ≡ change row
      → option_map shown (row_at key_of key (change_row key_of key change rows)) ≡ Some (shown new)
  changed_shown key change keeps rows row new found is =
      ap (option_map shown)
      (found_changed key_of key change keeps rows
      ∙ ap (option_map change) found
      ∙ ap (λ (r : Row). Some r) (sym is))

  -- where there is none, none is shown
  pub none_shown : (key : Key) (change : Row → Row)
      → ((row : Row) → key_of (change row) ≡ key_of row) → (rows : List Row)
      → row_at key_of key rows ≡ None
      → option_map shown (row_at key_of key (change_row key_of key change rows)) ≡ None
  none_shown key change keeps rows none =
      ap (option_map shown)
      (found_changed key_of key change keeps rows ∙ ap (option_map change) none)

-- ---- parts

-- where the update isn't refused, parts of a row are refused with OutOfMemory only
pub parts_unmade : {Row : Type 0} (labels_in : Row → LabelList) (extra_in : Row → Text)
    (update : RowUpdate) (found : Option Row) (expected : Option ShownRow)
    (r : Result (Option ShownRow) Refusal) (refusal : Refusal)
    → IsErrAnd r (λ other. other ≡ refusal)
    → MakesParts labels_in extra_in update found (Err refusal)
    → updating_fault labels_in update found ≡ None → Shows expected r
parts_unmade labels_in extra_in update found expected r refusal same made none =
    passed expected r refusal same (memory refusal made)
  where
    memory : (x : Refusal) → MakesParts labels_in extra_in update found (Err x) → IsMemory x
    memory Reading m = tt
    memory (By fault) m = rw none at m

-- a label that is taken is refused with OutOfMemory only
pub unput : (expected : Option ShownRow) (r : Result (Option ShownRow) Refusal) (fault : Fault)
    (takes : Bool) → IsErrAnd r (λ other. other ≡ By fault)
    → Refuses {X = Unit {0}} (Err fault) (unless takes InvalidArgument) → takes ≡ true
    → Shows expected r
unput expected r fault takes same refused taken =
    passed expected r (By fault) same (rw taken at refused)

-- a label that no fault refuses is taken by the row that is there
pub label_taken : {Row : Type 0} (labels_in : Row → LabelList) (key value : Text) (o : Outcome)
    (named : Bool) (found : Option Row) (row : Row) → Some row ≡ found
    → o.invalid ≡ (not named || not (all_of (labelled labels_in key value found)))
    → least_fault o ≡ None → takes_label key value (labels_in row) ≡ true
label_taken labels_in key value o named found row there is none =
    let invalid = (or_parts (not named) (not (all_of (labelled labels_in key value found)))
    (sym is ∙ (none_applies o none).0)).1 in
    let all = not-false (all_of (labelled labels_in key value found)) invalid in
    let here : (is_label key value && (has_room key value (labels_in row) && true)) ≡ true =
    ap (λ (f : Option _). all_of (labelled labels_in key value f)) there ∙ all in
    let both = and_parts (is_label key value) (has_room key value (labels_in row) && true) here in
    and_from (is_label key value) (has_room key value (labels_in row)) both.0
    (and_parts (has_room key value (labels_in row)) true both.1).0

-- ---- the answers

-- memory alone refuses
pub told_fault : (r : Result (Option ShownRow) Refusal) → Refuses (told r) None
told_fault (Ok shown) = refl
told_fault (Err Reading) = refl
told_fault (Err (By OutOfMemory)) = refl
told_fault (Err (By InvalidArgument)) = refl
told_fault (Err (By NotFound)) = refl
told_fault (Err (By AlreadyExists)) = refl
told_fault (Err (By FailedPrecondition)) = refl
told_fault (Err (By BackendFailed)) = refl
told_fault (Err (By BadLine)) = refl
told_fault (Err (By TooLong)) = refl
told_fault (Err (By NoWorker)) = refl
told_fault (Err (By ReadFailed)) = refl
told_fault (Err (By WriteFailed)) = refl
told_fault (Err (By (Mismatch place))) = refl

-- the row that is shown is the answer
pub told_shows : (If : Type 0) (expected : Option ShownRow) (r : Result (Option ShownRow) Refusal)
    → (If → Shows expected r) → IfOk (told r) (λ shown. If → expected ≡ shown)
told_shows If expected (Ok shown) h = h
told_shows If expected (Err Reading) h = tt
told_shows If expected (Err (By OutOfMemory)) h = tt
told_shows If expected (Err (By InvalidArgument)) h = λ k. absurd (cc (h k))
told_shows If expected (Err (By NotFound)) h = λ k. absurd (cc (h k))
told_shows If expected (Err (By AlreadyExists)) h = λ k. absurd (cc (h k))
told_shows If expected (Err (By FailedPrecondition)) h = λ k. absurd (cc (h k))
told_shows If expected (Err (By BackendFailed)) h = λ k. absurd (cc (h k))
told_shows If expected (Err (By BadLine)) h = λ k. absurd (cc (h k))
told_shows If expected (Err (By TooLong)) h = λ k. absurd (cc (h k))
told_shows If expected (Err (By NoWorker)) h = λ k. absurd (cc (h k))
told_shows If expected (Err (By ReadFailed)) h = λ k. absurd (cc (h k))
told_shows If expected (Err (By WriteFailed)) h = λ k. absurd (cc (h k))
told_shows If expected (Err (By (Mismatch place))) h = λ k. absurd (cc (h k))

-- of a request that is of no row, none is shown
pub of_no_row : (state : State) (request of : Request) → request ≡ of → row_named of ≡ None
    → ShowsRow state request (Ok None)
unfolding ShowsRow
of_no_row state request of is lost = λ none.
    ap (option_and_then (λ (named : Text × Object).
    shown_row (outcome state request).after named.0 named.1))
    (ap row_named is ∙ lost)
