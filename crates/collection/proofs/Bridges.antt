-- What is said of the rows that were read holds of the records that they were read from: namespaces
-- and the next number lead no path anywhere.
use Rattle.std.proofs.Common.{◌≡◌, ◌+◌, ℕ, Bool, true, false, List, [], ◌∷◌, length, refl, sym, ap, ◌∙◌, subst, ℤ}
use Rattle.std.specs.Prelude.{Contains, IsTrue, None, Result, Ok, Err, OnErr, ◌*◌, nat_lt}
use Rattle.meta_types.specs.Limits.{is_too_large}
use Rattle.meta_types.specs.declared.limits.TheConstants.{MAX_NODES}
use Rattle.table_sweep.specs.InKeyOrder.{records_in_key_order}
use Rattle.table_sweep.proofs.RecordsArrived.{as_large}
use Rattle.meta_types.specs.Faults.{least_of}
use Rattle.meta_types.specs.Rows.{Records, BackLists}
use Rattle.meta_types.specs.Paths.{Thing, things, is_root, IsPath, TellsReached}
use Rattle.table_sweep.specs.declared.planning.Plan.{Plan}
use Rattle.table_sweep.specs.Plans.{dry_report_of, IsPlanOfRows}
use Rattle.backend_sweep.specs.Planned.{IsPlanOf}
use Rattle.collection.specs.Stores.{records_in}
use Rattle.request_core.specs.declared.state.Records.{Records as Kept}

-- ---- paths

path_as : (a b : Records) (at : ℤ) → things a ≡ things b → a.profile ≡ b.profile
    → (x : Thing) (path : List Thing) → IsPath a at x path → IsPath b at x path
path_as a b at t p x [] h = (subst (λ (l : List Thing). Contains l x) t h.0, subst (λ (n : ℕ). IsTrue (is_root n at x)) p h.1)
path_as a b at t p x (y ∷ path) h = (subst (λ (l : List Thing). Contains l x) t h.0, h.1, path_as a b at t p y path h.2)

-- a test that tells where paths end tells it of other records of the same things
pub tells_as : (a b : Records) (at : ℤ) (reached : Thing → Bool) → things a ≡ things b
    → a.profile ≡ b.profile → TellsReached a at reached → TellsReached b at reached
tells_as a b at reached t p h = record {
  each = λ thing c.
      let e = h.each thing (subst (λ (l : List Thing). Contains l thing) (sym t) c) in (
        (λ r. (let q = e.0 r in (q.0, path_as a b at t p thing q.0 q.1))),
        (λ q. e.1 (q.0, path_as b a at (sym t) (sym p) thing q.0 q.1)),
      );
}

-- ---- records that agree but for namespaces and the next number

pub record Agree (a b : Records) : Type 0 where
  pub images : a.tables.images ≡ b.tables.images
  pub containers : a.tables.containers ≡ b.tables.containers
  pub content : a.tables.content ≡ b.tables.content
  pub ingests : a.tables.ingests ≡ b.tables.ingests
  pub snapshots : a.tables.snapshots ≡ b.tables.snapshots
  pub leases : a.leases ≡ b.leases
  pub profile : a.profile ≡ b.profile

-- the first with the namespaces and the next number of the second
abbrev moved : Records → Records → Records
moved a b = record {
  tables = record a.tables { namespaces = b.tables.namespaces };
  leases = a.leases;
  next = b.next;
  profile = a.profile;
}

moved_is : (a b : Records) → Agree a b → moved a b ≡ b
moved_is a b h = λ i. record {
  tables = record {
    namespaces = b.tables.namespaces;
    images = h.images i;
    containers = h.containers i;
    content = h.content i;
    ingests = h.ingests i;
    snapshots = h.snapshots i;
  };
  leases = h.leases i;
  next = b.next;
  profile = h.profile i;
}

plan_moved : (a b : Records) (n : ℕ) (back : BackLists) (at : ℤ) (plan : Plan)
    → IsPlanOfRows a n back at plan → IsPlanOfRows (moved a b) n back at plan
plan_moved a b n back at plan p = record {
  reached = p.reached;
  tells = tells_as (records_in_key_order a) (records_in_key_order (moved a b)) at p.reached refl refl p.tells;
  masks = record {
    images = p.masks.images;
    leases = p.masks.leases;
    ingests = p.masks.ingests;
    content = p.masks.content;
    snapshots = p.masks.snapshots;
  };
  report_is = p.report_is;
}

-- a plan of the one is a plan of the other
pub plan_as : (a b : Records) (n m : ℕ) (back : BackLists) (at : ℤ) (plan : Plan) → Agree a b
    → n ≡ m → IsPlanOfRows a n back at plan → IsPlanOfRows b m back at plan
plan_as a b n m back at plan h e p =
    subst (λ (k : ℕ). IsPlanOfRows b k back at plan) e (subst (λ (r : Records). IsPlanOfRows r n back at plan) (moved_is a b h) (plan_moved a b n back at plan p))

-- a plan of rows as they arrived is one of the rows in order
pub in_some_order : (arrived records : Records) (n : ℕ) (back : BackLists) (at : ℤ) (plan : Plan)
    → records_in_key_order arrived ≡ records → IsPlanOfRows arrived n back at plan
    → IsPlanOf records n back at plan
in_some_order arrived records n back at plan e p = record {
  reached = p.reached;
  tells = subst (λ (r : Records). TellsReached r at p.reached) e p.tells;
  arrived = arrived;
  in_order = e;
  masks = p.masks;
  report_is =
      subst (λ (r : Records). plan.report ≡ dry_report_of r n back at p.reached) e p.report_is;
}

-- so is one of rows that, in order, agree with the records
pub plan_of_lent : (arrived records : Records) (n m : ℕ) (back : BackLists) (at : ℤ) (plan : Plan)
    → Agree (records_in_key_order arrived) records
    → n ≡ m → IsPlanOfRows arrived n back at plan → IsPlanOf records m back at plan
plan_of_lent arrived records n m back at plan h e p =
    in_some_order (moved arrived records) records m back at plan (moved_is (records_in_key_order arrived) records h)
    (subst (λ (k : ℕ). IsPlanOfRows (moved arrived records) k back at plan) e (plan_moved arrived records n back at plan p))

-- ---- sizes

-- records whose rows are those of others are as large
pub large_as : (a b : Records) → a.tables.content ≡ b.tables.content
    → a.tables.ingests ≡ b.tables.ingests → a.tables.snapshots ≡ b.tables.snapshots
    → is_too_large a ≡ is_too_large b
large_as a b content ingests snapshots = λ i. nat_lt MAX_NODES (2 * (length (content i) + length (snapshots i)) + length (ingests i))

-- rows in order are as many as those that arrived
pub large_arrived : (rows arrived : Records) → rows ≡ arrived
    → is_too_large (records_in_key_order arrived) ≡ false → is_too_large rows ≡ false
large_arrived rows arrived e few = ap is_too_large e ∙ sym (as_large arrived) ∙ few

-- ---- checks

-- the records that a store lends are its records
pub lent_are : (kept : Kept) (r : Records) → kept.tables ≡ r.tables → kept.leases ≡ r.leases
    → kept.next ≡ r.next → kept.profile ≡ r.profile → records_in kept ≡ r
lent_are kept r tables leases next profile = λ i. record {
  tables = tables i;
  leases = leases i;
  next = next i;
  profile = profile i;
}

-- where no fault applies, the rows aren't too many
pub are_few : (large : Bool) → least_of false false false large ≡ None → large ≡ false
are_few true e = absurd cc
are_few false e = refl

-- what holds where a call is refused leads to more there
pub at_err : {X E : Type 0} (result : Result X E) (A B : Type 0) → (A → B) → OnErr result A
    → OnErr result B
at_err (Ok x) A B f h = tt
at_err (Err e) A B f h = f h
