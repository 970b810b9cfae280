-- Rows by their names: what refuses their removal, and the store after it.
use Rattle.std.proofs.Common.{◌≡◌, ◌≤◌, ℕ, ℤ, Bool, true, false, List, [], ◌∷◌, length}
use Rattle.std.proofs.Common.{Some, None, Result, Ok, Err}
use Rattle.std.proofs.Common.{refl, sym, ap, ◌∙◌, subst, inl, inr, arith}
use Rattle.std.specs.Prelude.{◌||◌, ◌+◌, ◌*◌, nat_lt, IfOk, Option}
use Rattle.std.specs.Result.{IsErrAnd}
use Rattle.std.proofs.lemmas.Bool.{cases_Bool}
use Rattle.std.proofs.lemmas.Bool.Decides.{nat_tests}
use Rattle.meta_types.specs.Text.{Text}
use Rattle.meta_types.specs.Faults.{least_of, Refuses}
use Rattle.meta_types.specs.declared.fault.Fault.{Fault}
use Rattle.meta_types.specs.declared.limits.TheConstants.{MAX_NODES}
use Rattle.meta_types.specs.Limits.{is_too_large}
use Rattle.meta_types.specs.Keys.{Key, is_key, remove_row}
use Rattle.meta_types.specs.Rows.{Records, BackLists, State, content_key, ingest_key, snap_key}
use Rattle.meta_types.specs.Reports.{Report, Plans}
use Rattle.meta_types.specs.Impacts.{removed, impact_fault, Impact, impact_of, IsImpact}
use Rattle.meta_types.proofs.Once.{one_plan}
use Rattle.meta_types.specs.declared.object.Object.{Object}
use Rattle.meta_types.specs.declared.object.Object.TheVariants.{Image, Container, Lease, Held}
use Rattle.meta_types.specs.declared.resource.Resource.TheVariants as R
use Rattle.collection.specs.Impacts.{row_name, lacks_row, is_parent, less_row}
use Rattle.collection.specs.declared.row_name.RowName.{RowName}
use Rattle.collection.specs.declared.row_name.RowName.TheVariants as N

-- ---- the tests of the code

-- what the check refuses with
abbrev pub tested : Records → RowName → Option Fault
tested records row =
    least_of false (lacks_row records row) false (is_parent records row || is_too_large records)

-- it is what the definitions refuse with
tested_is : (state : State) (ns : Text) (object : Object)
    → tested state.records (row_name ns object) ≡ impact_fault state ns object
tested_is state ns (Image name) = refl
tested_is state ns (Container name) = refl
tested_is state ns (Lease id) = refl
tested_is state ns (Held (R.Content digest)) = refl
tested_is state ns (Held (R.Snapshot snapshotter name)) = refl
tested_is state ns (Held (R.Ingest name)) = refl

-- the store without the row is the one that the removal leaves
less_row_is : (state : State) (ns : Text) (object : Object)
    → record { records = less_row state.records (row_name ns object); backends = state.backends }
    ≡ (removed state ns object).after
less_row_is state ns (Image name) = refl
less_row_is state ns (Container name) = refl
less_row_is state ns (Lease id) = refl
less_row_is state ns (Held (R.Content digest)) = refl
less_row_is state ns (Held (R.Snapshot snapshotter name)) = refl
less_row_is state ns (Held (R.Ingest name)) = refl

-- where the check refuses nothing, the row is no parent, and the rows aren't too many
pub let_through : (missing parent large : Bool)
    → least_of false missing false (parent || large) ≡ None → (parent ≡ false) × (large ≡ false)
let_through true parent large e = absurd cc
let_through false true large e = absurd cc
let_through false false true e = absurd cc
let_through false false false e = (refl, refl)

-- ---- answers

module _ (state : State) (ns : Text) (object : Object) (row : RowName)
    (e : row ≡ row_name ns object) where
  row_tested_is : tested state.records row ≡ impact_fault state ns object
  row_tested_is = ap (tested state.records) e ∙ tested_is state ns object

  -- the check's fault is passed on
  pub refused : (result : Result Impact Fault) (fault : Fault)
      → IsErrAnd result (λ other. other ≡ fault) → tested state.records row ≡ Some fault
      → Refuses result (impact_fault state ns object)
  refused (Ok impact) fault same h = absurd same
  refused (Err other) fault same h =
      subst (Refuses {X = Impact} (Err other)) (sym h ∙ row_tested_is) same

  -- later only memory refuses
  pub only_memory : (result : Result Impact Fault) → tested state.records row ≡ None
      → Refuses result None → Refuses result (impact_fault state ns object)
  only_memory result h r = subst (Refuses result) (sym h ∙ row_tested_is) r

  abbrev before : BackLists → State
  before back = record { records = state.records; backends = back }

  abbrev behind : BackLists → RowName → State
  behind back named = record { records = less_row state.records named; backends = back }

  -- the impact of records without the row is that of the removal
  pub after_removal : (back : BackLists) (at : ℤ) (result : Result Impact Fault)
      → IfOk result (IsImpact (before back) (behind back row) at) → back ≡ state.backends
      → IfOk result (IsImpact state (removed state ns object).after at)
  after_removal back at (Err fault) h b = tt
  after_removal back at (Ok impact) h b =
      subst (λ (then : State). IsImpact state then at impact) (less_row_is state ns object)
      (subst (λ (named : RowName). IsImpact state (behind state.backends named) at impact) e
      (subst (λ (lists : BackLists). IsImpact (before lists) (behind lists row) at impact) b h))

-- ---- records without a row are no larger

fewer : {Row : Type 0} (key_of : Row → Key) (key : Key) (rows : List Row)
    → length (remove_row key_of key rows) ≤ length rows
fewer key_of key [] = omega arith
fewer key_of key (row ∷ rows) = elim (cases_Bool (is_key key (key_of row))) [
  | inl t ↦ rw t (omega arith)
  | inr f ↦ rw f (let rest = fewer key_of key rows in omega arith)
]

still_few : (most a b : ℕ) → a ≤ b → nat_lt most b ≡ false → nat_lt most a ≡ false
still_few most a b le few = grind (arith, nat_tests)

abbrev nodes : ℕ → ℕ → ℕ → ℕ
nodes content snapshots ingests = 2 * (content + snapshots) + ingests

few_nodes : (a b c x y z : ℕ) → x ≤ a → y ≤ b → z ≤ c
    → nat_lt MAX_NODES (nodes a b c) ≡ false → nat_lt MAX_NODES (nodes x y z) ≡ false
few_nodes a b c x y z p q r few =
    still_few MAX_NODES (nodes x y z) (nodes a b c) (omega (arith, p, q, r)) few

same : (n : ℕ) → n ≤ n
same n = omega arith

pub few_without : (records : Records) (row : RowName)
    → is_too_large records ≡ false → is_too_large (less_row records row) ≡ false
few_without records (N.Image ns name) few = few
few_without records (N.Container ns name) few = few
few_without records (N.Lease ns id) few = few
few_without records (N.Content ns digest) few =
    let t = records.tables in
    few_nodes (length t.content) (length t.snapshots) (length t.ingests) _ _ _
    (fewer content_key (ns ∷ digest ∷ []) t.content)
    (same (length t.snapshots)) (same (length t.ingests)) few
few_without records (N.Ingest ns name) few =
    let t = records.tables in
    few_nodes (length t.content) (length t.snapshots) (length t.ingests) _ _ _
    (same (length t.content)) (same (length t.snapshots))
    (fewer ingest_key (ns ∷ name ∷ []) t.ingests) few
few_without records (N.Snapshot key) few =
    let t = records.tables in
    few_nodes (length t.content) (length t.snapshots) (length t.ingests) _ _ _
    (same (length t.content))
    (fewer snap_key (key.ns ∷ key.snapshotter ∷ key.name ∷ []) t.snapshots)
    (same (length t.ingests)) few

-- ---- dry runs

-- each store has one dry run at a moment, so what two of them give is the impact
pub is_impact : (now then : State) (at : ℤ) (here there : Report) (impact : Impact)
    → Plans now at here → Plans then at there → impact ≡ impact_of here there
    → IsImpact now then at impact
is_impact now then at here there impact p q e = record {
  here = here;
  there = there;
  plans_now = p;
  plans_then = q;
  is = e;
  each = λ r s a b.
      e ∙ (λ i. impact_of (one_plan now at here r p a i) (one_plan then at there s q b i));
}

-- a dry run of what is left is one of the records without the row
pub plans_less : (records left : Records) (row : RowName) (back : BackLists) (at : ℤ)
    (report : Report) → left ≡ less_row records row
    → Plans (record { records = left; backends = back }) at report
    → Plans (record { records = less_row records row; backends = back }) at report
plans_less records left row back at report is p =
    subst (λ (r : Records). Plans (record { records = r; backends = back }) at report) is p
