-- What a request may come to: which faults apply, and what comes where none does. The files of Ops
-- say it of each request, whose state is that before it. Ours, unless a source stands beside.
pub mod Namespaces
pub mod Images
pub mod Containers
pub mod Content
pub mod Ingests
pub mod Snapshots
pub mod Leases
use Rattle.std.specs.Prelude.{Bool, not, ◌||◌, false, true, List, [], ◌∷◌, map, Option, None, filter, bytes_eq}
use Rattle.std.specs.Option.{option_map_or}
use Rattle.meta_types.specs.Text.{Text, is_short_name, is_name, is_digest}
use Rattle.meta_types.specs.Faults.{least_of}
use Rattle.meta_types.specs.Keys.{Key}
use Rattle.meta_types.specs.Labels.{LabelList, is_label, has_room}
use Rattle.meta_types.specs.Rows.{State}
use Rattle.meta_types.specs.Changes.{has_namespace, has_lease, all_of}
use Rattle.meta_types.specs.declared.fault.Fault.{Fault}
use Rattle.meta_types.specs.declared.request.RawContent.{RawContent}
use Rattle.meta_types.specs.declared.request.RawName.{RawName}
use Rattle.meta_types.specs.declared.request.RawSnapshot.{RawSnapshot}
use Rattle.meta_types.specs.declared.reply.ReplyRow.{ReplyRow}
use Rattle.meta_types.specs.declared.reply.Reply.{Reply}
use Rattle.meta_types.specs.declared.reply.Reply.TheVariants as R

-- something named isn't allowed, isn't there, is there already, or is forbidden; else the reply,
-- and the store after (containerd's error classes)
pub record Outcome : Type 0 where
  pub invalid : Bool
  pub missing : Bool
  pub there : Bool
  pub forbidden : Bool
  pub reply : Reply
  pub after : State

-- the least of the faults that apply is answered
abbrev pub least_fault : Outcome → Option Fault
least_fault o = least_of o.invalid o.missing o.there o.forbidden

-- a request that no fault refuses, that answers that it is done and changes nothing; each op says
-- what is otherwise
abbrev pub done : State → Outcome
done state = record { invalid = false; missing = false; there = false; forbidden = false; reply = R.Done; after = state }

-- ---- what a request names

-- the key of an image, a container, an ingest or a lease
abbrev pub name_key : RawName → Key
name_key named = named.ns ∷ named.name ∷ []

-- its texts are allowed
abbrev pub is_allowed_name : RawName → Bool
is_allowed_name named = all_of (is_short_name named.ns ∷ is_name named.name ∷ [])

abbrev pub digest_key : RawContent → Key
digest_key named = named.ns ∷ named.digest ∷ []

abbrev pub is_allowed_content : RawContent → Bool
is_allowed_content named = all_of (is_short_name named.ns ∷ is_digest named.digest ∷ [])

abbrev pub snapshot_key : RawSnapshot → Key
snapshot_key named = named.ns ∷ named.snapshotter ∷ named.name ∷ []

abbrev pub is_allowed_snapshot : RawSnapshot → Bool
is_allowed_snapshot named =
    all_of (is_short_name named.ns ∷ is_short_name named.snapshotter ∷ is_name named.name ∷ [])

-- ---- what it answers

-- the row that was asked for
abbrev pub row_reply : {A : Type 0} → (A → ReplyRow) → Option A → Reply
row_reply shown found = option_map_or (λ a. R.Row (shown a)) found R.Done

-- the namespace or the lease that is named isn't there (containerd namespaces.md, leases service)
abbrev pub lacks : State → Text → Option Text → Bool
lacks state ns lease = not (has_namespace state.records.tables ns) || option_map_or (λ id. not (has_lease state ns id)) lease false

-- the tests of one label: of itself, and of room on the row that it goes to
abbrev pub labelled : {A : Type 0} → (A → LabelList) → Text → Text → Option A → List Bool
labelled labels_in key value found = is_label key value ∷ option_map_or (λ a. has_room key value (labels_in a)) found true ∷ []

-- the names of a namespace's rows, in their order (containerd, listings)
abbrev pub names_in : {A : Type 0} → (A → Text) → (A → Text) → Text → List A → List Text
names_in ns_of name_of ns rows = map name_of (filter (λ row. bytes_eq ns (ns_of row)) rows)

-- lists them
abbrev pub lists_names : {A : Type 0} → (A → Text) → (A → Text) → State → Text → List A → Outcome
lists_names ns_of name_of state ns rows =
    record (done state) {
      invalid = not (all_of (is_short_name ns ∷ []));
      missing = lacks state ns None;
      reply = R.Names (names_in ns_of name_of ns rows);
    }

-- ---- what several calls find

-- what a call finds whose texts are allowed: something named isn't there, is there already, or is
-- forbidden (containerd's error classes)
pub record Findings : Type 0 where
  pub missing : Bool
  pub there : Bool
  pub forbidden : Bool

-- the least of the faults that it finds is answered
abbrev pub found_fault : Findings → Option Fault
found_fault found = least_of false found.missing found.there found.forbidden

-- the namespace or the lease that the request names may be missing too (containerd
-- namespaces.md, leases service)
abbrev pub in_store : State → Text → Option Text → Findings → Findings
in_store state ns lease found = record found { missing = lacks state ns lease || found.missing }
