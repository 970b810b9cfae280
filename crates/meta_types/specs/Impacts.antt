-- What would go without a row. Ours, unless a source stands beside.
use Rattle.std.specs.Prelude.{◌≡◌, ℕ, ℤ, Bool, false, not, ◌&&◌, ◌||◌, ◌==◌, List, filter, Option, None}
use Rattle.std.specs.Prelude.{is_some, bytes_eq}
use Rattle.std.specs.List.{list_any}
use Rattle.std.specs.Option.{option_map_or}
use Rattle.meta_types.specs.Text.{Text, is_short_name}
use Rattle.meta_types.specs.Time.{instant_of}
use Rattle.meta_types.specs.Faults.{least_of}
use Rattle.meta_types.specs.Limits.{is_too_large}
use Rattle.meta_types.specs.Rows.{State}
use Rattle.meta_types.specs.Paths.{Thing, IsPath}
use Rattle.meta_types.specs.Backends.{BackNames}
use Rattle.meta_types.specs.Reports.{Report, Removed, Plans}
use Rattle.meta_types.specs.Ops.{Outcome}
use Rattle.meta_types.specs.Requests.{outcome}
use Rattle.meta_types.specs.Explanations.{object_of}
use Rattle.meta_types.specs.declared.fault.Fault.{Fault}
use Rattle.meta_types.specs.declared.object.Object.{Object}
use Rattle.meta_types.specs.declared.object.Object.TheVariants.{Image, Container, Lease, Held}
use Rattle.meta_types.specs.declared.resource.Resource.TheVariants as R
use Rattle.meta_types.specs.declared.request.Request.{Request}
use Rattle.meta_types.specs.declared.request.Request.TheVariants as Q

-- ---- the removal of a row

-- the request that removes the row of this namespace, kind and name
abbrev pub removal_of : Text → Object → Request
removal_of ns (Image name) = Q.ImageRemove (record { ns = ns; name = name })
removal_of ns (Container name) = Q.ContainerRemove (record { ns = ns; name = name })
removal_of ns (Lease id) = Q.LeaseRemove (record { ns = ns; name = id })
removal_of ns (Held (R.Content digest)) = Q.ContentRemove (record { ns = ns; digest = digest }) None
removal_of ns (Held (R.Snapshot snapshotter name)) =
    Q.SnapRemove (record { ns = ns; snapshotter = snapshotter; name = name }) None
removal_of ns (Held (R.Ingest name)) = Q.IngestAbort (record { ns = ns; name = name }) None

-- what that request comes to
abbrev pub removed : State → Text → Object → Outcome
removed state ns object = outcome state (removal_of ns object)

-- the row isn't there; or it can't be removed, or there are too many nodes to mark
abbrev pub impact_fault : State → Text → Object → Option Fault
impact_fault state ns object =
    let o = removed state ns object in
    least_of false o.missing false (o.forbidden || is_too_large state.records)

-- the same of a question's texts, where one may not be allowed
abbrev pub impact_question_fault : State → Text → Text → Text → Text → Option Fault
impact_question_fault state ns kind name at =
    least_of (not (is_short_name ns && is_some (object_of kind name) && is_some (instant_of at)))
    (option_map_or (λ object. (removed state ns object).missing) (object_of kind name) false) false
    (option_map_or (λ object. (removed state ns object).forbidden) (object_of kind name) false
    || is_too_large state.records)

-- ---- the removals of then that aren't removals of now

-- the names of the rows that would go
pub record ImpactRows : Type 0 where
  pub content : List (Text × Text)
  pub ingests : List (Text × Text)
  pub snapshots : List (Text × Text × Text)

-- the names of the objects and of the rows that would go
pub record Impact : Type 0 where
  pub backend : BackNames
  pub removed : ImpactRows

abbrev pub is_pair : Text × Text → Text × Text → Bool
is_pair a b = bytes_eq a.0 b.0 && bytes_eq a.1 b.1

abbrev pub is_triple : Text × Text × Text → Text × Text × Text → Bool
is_triple a b = (bytes_eq a.0 b.0 && bytes_eq a.1 b.1) && bytes_eq a.2 b.2

abbrev pub is_object : Text × ℕ → Text × ℕ → Bool
is_object a b = bytes_eq a.0 b.0 && a.1 == b.1

-- a list without what another has, in its order
abbrev pub less : {X : Type 0} → (X → X → Bool) → List X → List X → List X
less is list other = filter (λ x. not (list_any (λ y. is y x) other)) list

-- objects without those of another report
abbrev pub objects_less : BackNames → BackNames → BackNames
objects_less objects other = record {
  blobs = less bytes_eq objects.blobs other.blobs;
  ingests = less (λ a b. a == b) objects.ingests other.ingests;
  snapshots = less is_object objects.snapshots other.snapshots;
}

-- rows without those of another report; images and leases go in both, where they ended
abbrev pub rows_less : Removed → Removed → ImpactRows
rows_less rows other = record {
  content = less is_pair rows.content other.content;
  ingests = less is_pair rows.ingests other.ingests;
  snapshots = less is_triple rows.snapshots other.snapshots;
}

-- what the second report names, and the first doesn't
abbrev pub impact_of : Report → Report → Impact
impact_of here there = record {
  backend = objects_less there.backend here.backend;
  removed = rows_less there.removed here.removed;
}

-- Dry runs of the two stores report this: what the second names and the first doesn't. So do all
-- of their dry runs.
pub record IsImpact (now then : State) (at : ℤ) (impact : Impact) : Type 0 where
  pub here : Report
  pub there : Report
  pub plans_now : Plans now at here
  pub plans_then : Plans then at there
  pub is : impact ≡ impact_of here there
  pub each : (one other : Report) → Plans now at one → Plans then at other
      → impact ≡ impact_of one other

-- a removal makes no path, so a row that a collection would remove now, it would remove after it
abbrev pub ARemovalMakesNoPath : Type 0
ARemovalMakesNoPath = (state : State) (ns : Text) (object : Object) (at : ℤ)
    → (last : Thing) (path : List Thing)
    → IsPath (removed state ns object).after.records at last path → IsPath state.records at last path
