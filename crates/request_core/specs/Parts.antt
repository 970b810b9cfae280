-- What the parts of a request do. Ours, unless a source stands beside.
use Rattle.std.specs.Prelude.{◌≡◌, ℕ, ◌+◌, Bool, true, false, not, ◌&&◌, ◌==◌, length, List, [], ◌∷◌, Option, Some, None, Result, Ok, Err, if◌then◌else◌}
use Rattle.std.specs.Option.{option_map_or}
use Rattle.meta_types.specs.Text.{Text, is_short_name}
use Rattle.meta_types.specs.Keys.{has_row}
use Rattle.meta_types.specs.Rows.{LeaseRow, Records, State, lease_key}
use Rattle.meta_types.specs.Changes.{all_of, release_under}
use Rattle.meta_types.specs.Ops.{Outcome, done, found_fault, in_store, lacks}
use Rattle.meta_types.specs.Ops.Snapshots.{commit_findings, prepare_findings}
use Rattle.meta_types.specs.Ops.Ingests.{ingest_commit_findings}
use Rattle.meta_types.specs.declared.rows.SnapRow.{SnapRow}
use Rattle.request_core.specs.declared.refusal.Refusal.{Refusal}
use Rattle.meta_types.specs.declared.resource.Kind.{Kind}
use Rattle.meta_types.specs.declared.resource.Resource.{Resource}
use Rattle.meta_types.specs.declared.reply.Reply.TheVariants.{Names}
use Rattle.object_tables.specs.Calls.{names_of_kind}
use Rattle.meta_types.specs.declared.fault.Fault.{Fault}
use Rattle.meta_types.specs.declared.fault.Fault.TheVariants.{InvalidArgument, NotFound, AlreadyExists, FailedPrecondition, BadLine, TooLong, OutOfMemory, NoWorker, BackendFailed, ReadFailed, WriteFailed, Mismatch}

-- the lease that is named, if one is, is there (containerd leases service)
abbrev pub is_lease_there : Text → Option Text → List LeaseRow → Bool
is_lease_there ns lease leases = option_map_or (λ id. has_row lease_key (ns ∷ id ∷ []) leases) lease true

-- a resource is let go where it was new
abbrev pub release_if : Bool → Text → Option Text → Resource → List LeaseRow → List LeaseRow
release_if new ns lease resource leases = if new then release_under ns lease resource leases else leases

-- an object is made, or memory ran out, or the device failed once
abbrev pub MakesOrFails : Result (Unit {0}) Fault → ℕ → ℕ → Type 0
MakesOrFails (Ok _) before after = after ≡ before
MakesOrFails (Err OutOfMemory) before after = after ≡ before
MakesOrFails (Err BackendFailed) before after = after ≡ before + 1
MakesOrFails (Err InvalidArgument) before after = ⊥
MakesOrFails (Err NotFound) before after = ⊥
MakesOrFails (Err AlreadyExists) before after = ⊥
MakesOrFails (Err FailedPrecondition) before after = ⊥
MakesOrFails (Err BadLine) before after = ⊥
MakesOrFails (Err TooLong) before after = ⊥
MakesOrFails (Err NoWorker) before after = ⊥
MakesOrFails (Err ReadFailed) before after = ⊥
MakesOrFails (Err WriteFailed) before after = ⊥
MakesOrFails (Err (Mismatch place)) before after = ⊥

-- an object that is held already is refused; else it is made, or memory ran
-- out, or the device failed once
abbrev pub MakesWhereFree : Bool → Result (Unit {0}) Fault → ℕ → ℕ → Type 0
MakesWhereFree there (Ok _) before after = (there ≡ false) × (after ≡ before)
MakesWhereFree there (Err AlreadyExists) before after = (there ≡ true) × (after ≡ before)
MakesWhereFree there (Err OutOfMemory) before after = (there ≡ false) × (after ≡ before)
MakesWhereFree there (Err BackendFailed) before after = (there ≡ false) × (after ≡ before + 1)
MakesWhereFree there (Err InvalidArgument) before after = ⊥
MakesWhereFree there (Err NotFound) before after = ⊥
MakesWhereFree there (Err FailedPrecondition) before after = ⊥
MakesWhereFree there (Err BadLine) before after = ⊥
MakesWhereFree there (Err TooLong) before after = ⊥
MakesWhereFree there (Err NoWorker) before after = ⊥
MakesWhereFree there (Err ReadFailed) before after = ⊥
MakesWhereFree there (Err WriteFailed) before after = ⊥
MakesWhereFree there (Err (Mismatch place)) before after = ⊥

-- lists the names of a kind's rows in a namespace (List)
abbrev pub lists_kind : State → Kind → Text → Outcome
lists_kind state kind ns =
    record (done state) {
      invalid = not (all_of (is_short_name ns ∷ []));
      missing = lacks state ns None;
      reply = Names (names_of_kind kind state.records.tables ns);
    }

-- what refuses a commit of a snapshot whose texts are allowed
-- (containerd snapshots service, Commit)
abbrev pub commit_fault : State → Text → Text → Text → Text → Option Text → Option Fault
commit_fault state ns snapshotter key name lease = found_fault (in_store state ns lease (commit_findings ns snapshotter key name state.records.tables.snapshots))

-- what refuses a new snapshot whose texts are allowed (containerd
-- snapshots service, Prepare and View)
abbrev pub prepare_fault : State → SnapRow → Option Text → Option Fault
prepare_fault state new lease = found_fault (prepare_findings state new.key.ns new.key.snapshotter new.key.name new.parent lease)

-- no row of any kind is stored
abbrev pub has_no_row : Records → Bool
has_no_row records = length records.tables.namespaces == 0 && length records.tables.images == 0 && length records.tables.containers == 0 && length records.tables.content == 0
    && length records.tables.ingests == 0 && length records.tables.snapshots == 0 && length records.leases == 0

-- three values that were read, the third in Some
abbrev pub some_third : {A B C : Type 0} → Result (A × B × C) Refusal → Result (A × B × Option C) Refusal
some_third (Ok read) = Ok (read.0, read.1, Some read.2)
some_third (Err refusal) = Err refusal

-- what refuses a commit of an ingest whose texts are allowed (containerd content-flow.md)
abbrev pub ingest_commit_fault : State → Text → Text → Text → Option Text → Option Fault
ingest_commit_fault state ns name digest lease = found_fault (ingest_commit_findings state ns name digest lease)

-- a value that was read, in Some
abbrev pub some_of : {A : Type 0} → Result A Refusal → Result (Option A) Refusal
some_of (Ok read) = Ok (Some read)
some_of (Err refusal) = Err refusal
