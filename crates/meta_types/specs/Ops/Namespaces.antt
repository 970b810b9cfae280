-- What requests on namespaces, and on the profile, do. A call in brackets is of containerd's
-- namespaces service. Ours, unless a source stands beside.
use Rattle.std.specs.Prelude.{ℕ, Bool, true, false, not, ◌||◌, ◌&&◌, ◌==◌, List, [], ◌∷◌, None}
use Rattle.meta_types.specs.Text.{Text, is_short_name}
use Rattle.meta_types.specs.Keys.{add_row, remove_row}
use Rattle.meta_types.specs.Rows.{Records, State, namespace_key}
use Rattle.meta_types.specs.Changes.{has_namespace, is_in_use, has_lease_in, with_namespaces, all_of}
use Rattle.meta_types.specs.Ops.{Outcome, done, lacks}
use Rattle.meta_types.specs.declared.reply.Reply.TheVariants as R

-- adds a namespace (Create)
abbrev pub adds_namespace : State → Text → Outcome
adds_namespace state ns =
    record (done state) {
      invalid = not (all_of (is_short_name ns ∷ []));
      there = has_namespace state.records.tables ns;
      after = with_namespaces state (add_row namespace_key ns state.records.tables.namespaces);
    }

-- removes a namespace that holds no object and no lease (Delete)
abbrev pub removes_namespace : State → Text → Outcome
removes_namespace state ns =
    record (done state) {
      invalid = not (all_of (is_short_name ns ∷ []));
      missing = lacks state ns None;
      forbidden = is_in_use state.records.tables ns || has_lease_in state.records.leases ns;
      after = with_namespaces state (remove_row namespace_key (ns ∷ []) state.records.tables.namespaces);
    }

-- the namespaces, by their bytes (List)
abbrev pub lists_namespaces : State → Outcome
lists_namespaces state = record (done state) { reply = R.Names state.records.tables.namespaces }

-- no row of any kind is stored, and no backend number was used
abbrev pub is_untouched : Records → Bool
is_untouched records = is_nothing records.tables.namespaces && is_nothing records.tables.images && is_nothing records.tables.containers && is_nothing records.tables.content
    && is_nothing records.tables.ingests && is_nothing records.tables.snapshots && is_nothing records.leases && records.next == 1
  where
    is_nothing : {A : Type 0} → List A → Bool
    is_nothing [] = true
    is_nothing (x ∷ xs) = false

-- chooses the profile, 1 or 2, while nothing is stored
abbrev pub chooses_profile : State → ℕ → Outcome
chooses_profile state v =
    record (done state) {
      invalid = not (all_of ((v == 1 || v == 2) ∷ []));
      forbidden = not (is_untouched state.records);
      after = record state { records = record state.records { profile = v } };
    }
