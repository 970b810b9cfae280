-- A removal whose texts are read. Ours, unless a source stands beside.
use Rattle.std.specs.Prelude.{◌≡◌, Bool, true, false, not, [], ◌∷◌, Result, Ok, Err, ⊤}
use Rattle.meta_types.specs.Text.{is_short_name, is_name}
use Rattle.meta_types.specs.Keys.{has_row, remove_row}
use Rattle.meta_types.specs.Rows.{Records, image_key, lease_key}
use Rattle.meta_types.specs.Changes.{all_of}
use Rattle.meta_types.specs.declared.request.Removal.{Removal}
use Rattle.meta_types.specs.declared.request.Removal.TheVariants as R
use Rattle.meta_types.specs.declared.fault.Fault.{Fault}
use Rattle.meta_types.specs.declared.fault.Fault.TheVariants.{InvalidArgument, NotFound, AlreadyExists, FailedPrecondition, BadLine, TooLong, OutOfMemory, NoWorker, BackendFailed, ReadFailed, WriteFailed, Mismatch}
use Rattle.collection.specs.declared.removal.RemovedRow.{RemovedRow}
use Rattle.collection.specs.declared.removal.RemovedRow.TheVariants as N

-- its texts are allowed
abbrev pub is_readable : Removal → Bool
is_readable (R.Image image) = all_of (is_short_name image.ns ∷ is_name image.name ∷ [])
is_readable (R.Lease lease) = all_of (is_short_name lease.ns ∷ is_name lease.name ∷ [])

-- what it names
abbrev pub named_in : Removal → RemovedRow
named_in (R.Image image) = N.Image image.ns image.name
named_in (R.Lease lease) = N.Lease lease.ns lease.name

-- texts are read where they are allowed
abbrev pub ReadsTexts : {X : Type 0} → Result X Fault → Bool → X → Type 0
ReadsTexts (Ok x) allowed value = (allowed ≡ true) × (x ≡ value)
ReadsTexts (Err InvalidArgument) allowed value = allowed ≡ false
ReadsTexts (Err OutOfMemory) allowed value = ⊤
ReadsTexts (Err NotFound) allowed value = ⊥
ReadsTexts (Err AlreadyExists) allowed value = ⊥
ReadsTexts (Err FailedPrecondition) allowed value = ⊥
ReadsTexts (Err BadLine) allowed value = ⊥
ReadsTexts (Err TooLong) allowed value = ⊥
ReadsTexts (Err NoWorker) allowed value = ⊥
ReadsTexts (Err BackendFailed) allowed value = ⊥
ReadsTexts (Err ReadFailed) allowed value = ⊥
ReadsTexts (Err WriteFailed) allowed value = ⊥
ReadsTexts (Err (Mismatch place)) allowed value = ⊥

-- what is named isn't there
abbrev pub is_missing : Records → RemovedRow → Bool
is_missing records (N.Image ns name) = not (has_row image_key (ns ∷ name ∷ []) records.tables.images)
is_missing records (N.Lease ns id) = not (has_row lease_key (ns ∷ id ∷ []) records.leases)

-- the records without what is named
abbrev pub without : Records → RemovedRow → Records
without records (N.Image ns name) = record records { tables = record records.tables { images = remove_row image_key (ns ∷ name ∷ []) records.tables.images } }
without records (N.Lease ns id) = record records { leases = remove_row lease_key (ns ∷ id ∷ []) records.leases }
