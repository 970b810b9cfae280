-- How a worked script is shown: where one pass more finds nothing, the report and the store so
-- computed are those of a collection.
use Rattle.std.proofs.Common.{◌≡◌, ℕ, suc, Bool, true, false, not, ℤ, refl}
use Rattle.std.specs.Prelude.{◌||◌, ◌&&◌, ◌==◌, IsTrue, bytes_eq, filter}
use Rattle.std.specs.List.{list_any, list_all}
use Rattle.std.proofs.lemmas.List.Elements.{All-weaker}
use Rattle.std.proofs.lemmas.List.Sums.{AllPass-from_list_all}
use Rattle.meta_types.specs.Rows.{State, Tables, BackLists, BackSnap}
use Rattle.meta_types.specs.Paths.{Thing}
use Rattle.meta_types.specs.Backends.{BackNames, IsFailure, no_objects, removed_objects, is_named, is_ancestor_of_one}
use Rattle.meta_types.specs.Collected.{collected, collected_records}
use Rattle.meta_types.specs.Reports.{Report, report_of, Collects}
use Rattle.meta_types.proofs.Closure.{is_found, passes, passes_are_reached, tells_if_closed, closed_from_pass}
use Rattle.meta_types.proofs.NoFailure.{no_failure}

-- the test that `n` passes give
abbrev pub found_in : State → ℤ → ℕ → Thing → Bool
found_in state at n = is_found state.records.profile at (passes n state.records at)

-- where one pass more adds nothing, report and store are those of a collection with these failures
pub collects_if : (state : State) (at : ℤ) (n : ℕ) (failed : BackNames) (report : Report) (new : State) → passes (suc n) state.records at ≡ passes n state.records at
    → IsFailure (collected_records at (found_in state at n) state.records).tables state.backends failed
    → report ≡ report_of state at (found_in state at n) failed false → new ≡ collected state at (found_in state at n) failed → Collects state at failed report new
collects_if state at n failed report new closed may_fail reports leaves = record {
  reached = found_in state at n;
  tells = tells_if_closed state.records at (passes n state.records at) (passes_are_reached state.records at n) (closed_from_pass state.records at (passes n state.records at) closed);
  may_fail = may_fail;
  state_is = leaves;
  report_is = reports;
}

-- the same where no removal failed
pub collects : (state : State) (at : ℤ) (n : ℕ) (report : Report) (new : State) → passes (suc n) state.records at ≡ passes n state.records at
    → report ≡ report_of state at (found_in state at n) no_objects false → new ≡ collected state at (found_in state at n) no_objects → Collects state at no_objects report new
collects state at n report new closed reports leaves =
    collects_if state at n no_objects report new closed (no_failure (collected_records at (found_in state at n) state.records).tables state.backends) reports leaves

-- ---- failures

abbrev is_failed : BackNames → BackSnap → Bool
is_failed failed snap = list_any (λ name. is_named name snap) failed.snapshots

-- these removals may have failed, each condition by a test that computes
pub record Fits (tables : Tables) (back : BackLists) (failed : BackNames) : Type 0 where
  pub blobs : failed.blobs ≡ filter (λ digest. list_any (bytes_eq digest) failed.blobs) (removed_objects tables no_objects back).blobs
  pub ingests : failed.ingests ≡ filter (λ number. list_any (λ other. other == number) failed.ingests) (removed_objects tables no_objects back).ingests
  pub snapshots : failed.snapshots ≡ filter (λ name. list_any (λ other. bytes_eq other.0 name.0 && other.1 == name.1) failed.snapshots) (removed_objects tables no_objects back).snapshots
  pub apart : list_all (λ snap. not (is_failed failed snap) || not (is_ancestor_of_one back.snapshots failed.snapshots snap)) back.snapshots ≡ true

either_not : (p q : Bool) → (not p || not q) ≡ true → p ≡ true → q ≡ false
either_not true true h t = absurd cc
either_not true false h t = refl
either_not false q h t = absurd cc

pub fits : (tables : Tables) (back : BackLists) (failed : BackNames) → Fits tables back failed → IsFailure tables back failed
fits tables back failed h = record {
  blobs = h.blobs;
  ingests = h.ingests;
  snapshots = h.snapshots;
  apart = All-weaker (λ snap. IsTrue (not (is_failed failed snap) || not (is_ancestor_of_one back.snapshots failed.snapshots snap)))
      (λ snap. IsTrue (is_failed failed snap) → is_ancestor_of_one back.snapshots failed.snapshots snap ≡ false)
      (λ snap either. either_not (is_failed failed snap) (is_ancestor_of_one back.snapshots failed.snapshots snap) either) back.snapshots
      (AllPass-from_list_all (λ snap. not (is_failed failed snap) || not (is_ancestor_of_one back.snapshots failed.snapshots snap)) back.snapshots h.apart);
}

-- where one pass more adds nothing, and these removals may have failed, report and
-- store are those of a collection
pub collects_but : (state : State) (at : ℤ) (n : ℕ) (failed : BackNames) (report : Report) (new : State) → passes (suc n) state.records at ≡ passes n state.records at
    → Fits (collected_records at (found_in state at n) state.records).tables state.backends failed
    → report ≡ report_of state at (found_in state at n) failed false → new ≡ collected state at (found_in state at n) failed → Collects state at failed report new
collects_but state at n failed report new closed may_fail reports leaves =
    collects_if state at n failed report new closed (fits (collected_records at (found_in state at n) state.records).tables state.backends failed may_fail) reports leaves
