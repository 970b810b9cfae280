-- What a making changes in all shards.
use Rattle.std.proofs.Common.{◌≡◌, ◌≢◌, subst, ℕ, ◌+◌, Bool, true, false, List, refl, sym, ◌∙◌, ap}
use Rattle.std.specs.Prelude.{Option, Some, None, Result, Ok, Err, OnOk, OnErr, is_some, option_map}
use Rattle.std.specs.Ordering.{nat_cmp}
use Rattle.std.specs.FinMap as finmap
use Rattle.meta_types.specs.Text.{Text}
use Rattle.meta_types.specs.Keys.{put_in_order}
use Rattle.meta_types.specs.Changes.{stands_before}
use Rattle.back_model.specs.Answers.{Makes, make_fails}
use Rattle.back_model.specs.Snaps.{Snaps, is_held, is_parent_held}
use Rattle.back_model.specs.Shown.{Shard, AreApart, shard_at, snaps_at, failures_at, put_shard, back_snap, all_snaps, all_failures, snaps_after, shard_after}
use Rattle.back_model.specs.declared.faults.MakeFault.{MakeFault}
use Rattle.back_model.proofs.Listed.{listed, listed_same, counted}
use Rattle.back_model.proofs.ShardPlaces.{at_put, put_put}

module _ (name : Text) (shards : List Shard) (n : ℕ) (p : Option ℕ) where
  -- the shard that a making changed
  pub shard_is : (result : Result (Unit {0}) MakeFault) (s : Shard) (t : Text) (m : Snaps) (k : ℕ) → shard_at name shards ≡ Some s → t ≡ name
      → OnOk result (m ≡ finmap.insert s.snaps n p) → OnErr result (m ≡ s.snaps) → k ≡ s.failures + make_fails result
      → ◌≡◌ {A = Shard} (record { snapshotter = t; snaps = m; failures = k }) (shard_after result name shards n p)
  shard_is (Ok u) s t m k found same made unmade count = rw (found, same, made, count) refl
  shard_is (Err f) s t m k found same made unmade count = rw (found, same, unmade, count) refl

  pub made_listed : (result : Result (Unit {0}) MakeFault) (parent : Bool) → AreApart shards → Makes result (is_held (snaps_at name shards) n) parent
      → OnOk result (all_snaps (put_shard (shard_after result name shards n p) shards) ≡ put_in_order stands_before (back_snap name (n, p)) (all_snaps shards))
  made_listed (Ok u) parent apart made = listed name n p (failures_at name shards + 0) shards apart made.0
  made_listed (Err f) parent apart made = tt

  pub made_err : (result : Result (Unit {0}) MakeFault) → AreApart shards → OnErr result (all_snaps (put_shard (shard_after result name shards n p) shards) ≡ all_snaps shards)
  made_err (Ok u) apart = tt
  made_err (Err f) apart = listed_same name (failures_at name shards + make_fails (Err f)) (snaps_at name shards) shards apart refl

  pub made_fails : (result : Result (Unit {0}) MakeFault) → AreApart shards → all_failures (put_shard (shard_after result name shards n p) shards) ≡ all_failures shards + make_fails result
  made_fails result apart = counted name (make_fails result) (failures_at name shards + make_fails result) (snaps_after result (snaps_at name shards) n p) shards apart refl

  -- ---- where there is no shard

  abbrev pub fresh : Shard
  fresh = record { snapshotter = name; snaps = finmap.empty; failures = 0 }

  module _ (gone : shard_at name shards ≡ None) where
    pub snaps_of_fresh : snaps_at name (put_shard fresh shards) ≡ snaps_at name shards
    snaps_of_fresh = let there : shard_at name (put_shard fresh shards) ≡ Some fresh = at_put fresh shards in rw (there, gone) refl

    pub none_held : (number : ℕ) → is_held (snaps_at name shards) number ≡ false
    none_held number = rw (gone, finmap.get-empty {X = Option ℕ} nat_cmp number) refl

    pub no_parent : (parent : Option ℕ) → is_some parent ≡ true → is_parent_held (snaps_at name shards) parent ≡ false
    no_parent None e = absurd cc
    no_parent (Some above) e = none_held above

    pub after_fresh : (result : Result (Unit {0}) MakeFault) → put_shard (shard_after result name (put_shard fresh shards) n p) (put_shard fresh shards) ≡ put_shard (shard_after result name shards n p) shards
    after_fresh result =
        let there : shard_at name (put_shard fresh shards) ≡ Some fresh = at_put fresh shards in
        let same : ◌≡◌ {A = Shard} (shard_after result name (put_shard fresh shards) n p) (shard_after result name shards n p) = rw (there, gone) refl in
        put_put fresh (shard_after result name (put_shard fresh shards) n p) refl shards ∙ ap (λ s. put_shard s shards) same

    pub made_fresh : (result : Result (Unit {0}) MakeFault) (set now : List Shard) → set ≡ put_shard fresh shards → now ≡ put_shard (shard_after result name set n p) set
        → now ≡ put_shard (shard_after result name shards n p) shards
    made_fresh result set now is made = made ∙ ap (λ (l : List Shard). put_shard (shard_after result name l n p) l) is ∙ after_fresh result

    pub fault_fresh : (result : Result (Unit {0}) MakeFault) (set : List Shard) → set ≡ put_shard fresh shards
        → Makes result (is_held (snaps_at name set) n) (is_parent_held (snaps_at name set) p) → Makes result (is_held (snaps_at name shards) n) (is_parent_held (snaps_at name shards) p)
    fault_fresh result set is made =
        let same : snaps_at name set ≡ snaps_at name shards = ap (snaps_at name) is ∙ snaps_of_fresh in
        subst (λ (m : Snaps). Makes result (is_held m n) (is_parent_held m p)) same made

    pub is_there : (set : List Shard) → set ≡ put_shard fresh shards → shard_at name set ≢ None
    is_there set is none = let e : Some fresh ≡ None = sym (ap (shard_at name) is ∙ at_put fresh shards) ∙ none in cc

pub none_asked : (held : Snaps) (parent : Option ℕ) → is_some parent ≡ false → is_parent_held held parent ≡ true
none_asked held None e = refl
none_asked held (Some above) e = absurd cc

pub not_shown : {X : Type 0} (f : X → Shard) (o : Option X) (s : Option Shard) → option_map f o ≡ s → is_some o ≡ false → s ≡ None
not_shown f None s e none = sym e
not_shown f (Some x) s e none = absurd cc
