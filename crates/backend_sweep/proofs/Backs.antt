-- From places of shards and plans to what all sweeps come to.
use Rattle.std.proofs.Common.{◌≡◌, ℕ, Bool, ◌+◌, List, [], ◌∷◌, ◌++◌, map, length, take, refl, sym, ◌∙◌, ap, subst, inl, inr, arith, slice_index_or}
use Rattle.std.specs.Prelude.{Contains, bytes_eq, filter}
use Rattle.std.specs.List.{AllByRecursion}
use Rattle.std.specs.List.Sorted.{IsStrictlySortedBy}
use Rattle.std.specs.Cmp.Lexicographic.{nat_list_cmp_total}
use Rattle.std.specs.Ordering.{ordering_reverse}
use Rattle.std.specs.declared.cmp.Ordering.TheVariants.{Less, Greater}
use Rattle.std.proofs.lemmas.Cmp.{tied_itself}
use Rattle.std.proofs.lemmas.Bool.Decides.{Decides-eqb}
use Rattle.std.proofs.lemmas.Slice.Eq.{bytes_eq-Decides}
use Rattle.meta_types.specs.Text.{Text, text_cmp}
use Rattle.meta_types.specs.Backends.{BackNames}
use Rattle.meta_types.specs.Rows.{BackLists, BackSnap}
use Rattle.meta_types.proofs.Members.{here, later, first_or_later, none_in_nothing}
use Rattle.back_model.specs.Snaps.{Snaps}
use Rattle.back_model.specs.Shown.{Shard, AreApart, snaps_at, shown, all_snaps, all_failures}
use Rattle.back_model.proofs.ShardPlaces.{apart_head, apart_rest}
use Rattle.backend_sweep.specs.Shards.{is_number, numbers_of}
use Rattle.backend_sweep.specs.Sweep.{Childfirst}
use Rattle.backend_sweep.specs.Singles.{AreHeldOnce}
use Rattle.backend_sweep.specs.ShardPlans.{PlannedShard, shard_plan_for, IsReady, outcome_of, is_removed, is_failed}
use Rattle.backend_sweep.specs.ObjectOutcomes.{AllOutcomes, removed_of, failed_of}
use Rattle.backend_sweep.specs.Backed.{MaySweep}
use Rattle.backend_sweep.specs.Swept.{IsSwept, SweepsNames, count_names}
use Rattle.backend_sweep.specs.Tasks.{entries_in, shards_in, shard_plans_in, left_in, AreJobsOf, AreReady, SweepsJobs, SweepsList}
use Rattle.backend_sweep.specs.declared.outcomes.Outcome.{Outcome}
use Rattle.backend_sweep.specs.declared.shard_task.ShardJob.{ShardJob}
use Rattle.backend_sweep.proofs.ObjectOutcomes.{removed_by, failed_by}
use Rattle.backend_sweep.proofs.Zipped.{Triple, olds_of, shard_plans_of, news_of, One, Zips, shard_plan_at, shard_there, zipped}
use Rattle.backend_sweep.proofs.Counting.{counted}
use Rattle.backend_sweep.proofs.LeftShards.{same_snaps, same_failures}
use Rattle.backend_sweep.proofs.SweptBackends.{lists_of, held_once, texts_apart, numbers_apart, first_by, swept}

-- a vector after all of its slice was written
taken : {X : Type 0} (xs ys : List X) → take (length xs) (xs ++ ys) ≡ xs
taken [] ys = refl
taken (x ∷ xs) ys = ap (λ (l : List _). x ∷ l) (taken xs ys)

whole_slice : {X : Type 0} (len : ℕ) (new ys : List X) → len ≡ length new
    → take len (new ++ ys) ≡ new
whole_slice len new ys is = ap (λ (k : ℕ). take k (new ++ ys)) is ∙ taken new ys

-- jobs that were lent as a slice
pub swept_whole : {S : Type 0} (contents : S → Snaps) (fails : S → ℕ) (old lent new rest : List (ShardJob S)) (len : ℕ)
    → lent ≡ old → len ≡ length old → SweepsJobs contents fails lent new
    → SweepsJobs contents fails old (take len (new ++ rest))
swept_whole contents fails old lent new rest len is long h =
    subst (λ (l : List (ShardJob _)). SweepsJobs contents fails l (take len (new ++ rest))) is
    (subst (λ (l : List (ShardJob _)). SweepsJobs contents fails lent l) (sym (whole_slice len new rest (long ∙ ap (λ (l : List (ShardJob _)). length l) (sym is) ∙ sym h.0))) h)

pub held_blobs : (olds : List Shard) (blobs : List Text) (ingests : List ℕ) (names : BackNames)
    → MaySweep (lists_of olds blobs ingests) names → AreHeldOnce bytes_eq names.blobs blobs
held_blobs olds blobs ingests names may = held_once bytes_eq (λ x y. (bytes_eq-Decides x y).0) (λ x y. (bytes_eq-Decides x y).1) _ names.blobs blobs (ap (λ (n : BackNames). n.blobs) may.are) (texts_apart blobs may.blobs_ordered)

pub held_ingests : (olds : List Shard) (blobs : List Text) (ingests : List ℕ) (names : BackNames)
    → MaySweep (lists_of olds blobs ingests) names → AreHeldOnce is_number names.ingests ingests
held_ingests olds blobs ingests names may =
    held_once is_number (λ x y h. sym ((Decides-eqb y x).0 h)) (λ x y e. (Decides-eqb y x).1 (sym e)) _ names.ingests ingests (ap (λ (n : BackNames). n.ingests) may.are) (numbers_apart ingests may.ingests_ordered)

behind_all : (t : Text) (shards : List Shard)
    → AllByRecursion (λ y. text_cmp t y ≡ Less) (map (λ (s : Shard). s.snapshotter) shards)
    → (s : Shard) → Contains shards s → text_cmp t s.snapshotter ≡ Less
behind_all t [] h s c = none_in_nothing s c
behind_all t (w ∷ shards) h s c = elim (first_or_later w shards s c) [
  | inl same ↦ ap (λ (x : Shard). text_cmp t x.snapshotter) (sym same) ∙ h.0
  | inr more ↦ behind_all t shards h.1 s more
]

at_shard : (shards : List Shard) → AreApart shards → (s : Shard) → Contains shards s
    → snaps_at s.snapshotter shards ≡ s.snaps
at_shard [] apart s c = none_in_nothing s c
at_shard (w ∷ shards) apart s c = elim (first_or_later w shards s c) [
  | inl same ↦ subst (λ (x : Shard). snaps_at x.snapshotter (w ∷ shards) ≡ x.snaps) same (rw (tied_itself nat_list_cmp_total w.snapshotter) refl)
  | inr more ↦ (
      let greater : text_cmp s.snapshotter w.snapshotter ≡ Greater = nat_list_cmp_total.antisymm s.snapshotter w.snapshotter ∙ ap ordering_reverse (behind_all w.snapshotter shards (apart_head w shards apart) s more) in
      rw greater (at_shard shards (apart_rest w shards apart) s more))
]

same_names : (names : List (Text × ℕ)) (zs : List Triple)
    → ((z : Triple) → Contains zs z → One names z)
    → map (λ (s : Shard). s.snapshotter) (olds_of zs) ≡ map (λ (s : Shard). s.snapshotter) (news_of zs)
same_names names [] each = refl
same_names names (z ∷ zs) each = λ i. sym (each z (here z zs)).new_name i ∷ same_names names zs (λ w c. each w (later z zs w c)) i

-- a sweep of the same backend, with the same outcomes
list_swept : {X B : Type 0} (same : X → X → Bool) (contents : B → List X) (fails : B
    → ℕ) (list : List X) (old mid new last : B) (outcomes fates' : List Outcome)
    → mid ≡ old → fates' ≡ outcomes → last ≡ new
    → SweepsList same contents fails list outcomes mid new
    → SweepsList same contents fails list fates' old last
list_swept same contents fails list old mid new last outcomes fates' m f l s =
    subst (λ (b : _). SweepsList same contents fails list fates' b last) m
    (subst (λ (fs : List Outcome). SweepsList same contents fails list fs mid last) (sym f)
    (subst (λ (b : _). SweepsList same contents fails list outcomes mid b) (sym l) s))

module _ {S : Type 0} (contents : S → Snaps) (fails : S → ℕ) (olds : List Shard) (blobs : List Text) (ingests : List ℕ) (names : BackNames) (may : MaySweep (lists_of olds blobs ingests) names) (apart : AreApart olds)
    (jobs : List (ShardJob S)) (of : AreJobsOf contents fails names.snapshots olds jobs) where
  abbrev view : Text × S → Shard
  view = shown contents fails

  -- each shard may be swept by its plan
  pub ready : AreReady contents fails jobs
  ready i d lt =
      let job : ShardJob S = slice_index_or jobs i d in
      let shard_plan : job.shard_plan ≡ shard_plan_for names.snapshots job.entry.0 = shard_plan_at contents fails names.snapshots jobs i d lt of.shard_plans_are in
      let at : snaps_at job.entry.0 olds ≡ contents job.entry.1 = ap (snaps_at job.entry.0) (sym of.shards_are)
      ∙ at_shard (shards_in contents fails jobs) (subst AreApart (sym of.shards_are) apart) (view job.entry) (shard_there contents fails names.snapshots jobs i d lt) in
      let first : Childfirst (numbers_of job.entry.0 names.snapshots) (contents job.entry.1) = subst (λ (m : Snaps). Childfirst (numbers_of job.entry.0 names.snapshots) m) at (first_by olds blobs ingests names may apart job.entry.0) in
      let here : IsReady (view job.entry) (shard_plan_for names.snapshots job.entry.0) = (first, (refl, refl, refl, refl, omega arith)) in
      subst (λ (l : PlannedShard). IsReady (view job.entry) l) (sym shard_plan) here

  module _ (new : List (ShardJob S)) (done : SweepsJobs contents fails jobs new) where
    pub zips : Zips names.snapshots (shards_in contents fails jobs) (shard_plans_in new) (shards_in contents fails new)
    zips = zipped contents fails names.snapshots jobs new of.shard_plans_are done.0 done.1

    -- the shards stay apart
    pub news_apart : AreApart (shards_in contents fails new)
    news_apart =
        subst AreApart zips.news_are (subst (IsStrictlySortedBy text_cmp) (same_names names.snapshots zips.zs zips.each) (subst AreApart (sym (zips.olds_are ∙ of.shards_are)) apart))

-- taking the shards out and putting them back leaves the other backends, and setting the
-- snapshots' outcomes leaves the other outcomes
module _ {S B I : Type 0} (contents : S → Snaps) (fails : S → ℕ) (texts : B → List Text) (blob_fails : B → ℕ) (numbers : I → List ℕ) (ingest_fails : I → ℕ)
    (olds : List Shard) (b0 b1 b2 b3 : B) (i0 i1 i2 i3 : I) (names : BackNames) (may : MaySweep (lists_of olds (texts b0) (numbers i0)) names) (apart : AreApart olds)
    (jobs : List (ShardJob S)) (of : AreJobsOf contents fails names.snapshots olds jobs) (new : List (ShardJob S)) (done : SweepsJobs contents fails jobs new)
    (outcomes last : AllOutcomes) (last_is : last ≡ record outcomes {
      snapshots = map (outcome_of
          (shard_plans_in new)) names.snapshots;
    })
    (blobs_taken : b1 ≡ b0) (blobs_put : b3 ≡ b2) (ingests_taken : i1 ≡ i0) (ingests_put : i3 ≡ i2)
    (blobs_swept : SweepsList bytes_eq texts blob_fails names.blobs outcomes.blobs b1 b2)
    (ingests_swept : SweepsList is_number numbers ingest_fails names.ingests outcomes.ingests i1 i2)
    (news : List Shard) (news_are : news ≡ left_in contents fails names.snapshots new) where
  z : Zips names.snapshots (shards_in contents fails jobs) (shard_plans_in new) (shards_in contents fails new)
  z = zips contents fails olds (texts b0) (numbers i0) names may apart jobs of new done

  olds_are : olds_of z.zs ≡ olds
  olds_are = z.olds_are ∙ of.shards_are

  sb : SweepsList bytes_eq texts blob_fails names.blobs last.blobs b0 b3
  sb = list_swept bytes_eq texts blob_fails names.blobs b0 b1 b2 b3 outcomes.blobs last.blobs
      blobs_taken (ap (λ (f : AllOutcomes). f.blobs) last_is) blobs_put blobs_swept

  si : SweepsList is_number numbers ingest_fails names.ingests last.ingests i0 i3
  si = list_swept is_number numbers ingest_fails names.ingests i0 i1 i2 i3 outcomes.ingests
      last.ingests ingests_taken (ap (λ (f : AllOutcomes). f.ingests) last_is) ingests_put
      ingests_swept

  set : last.snapshots ≡ map (outcome_of (shard_plans_in new)) names.snapshots
  set = ap (λ (f : AllOutcomes). f.snapshots) last_is

  removed_are : (removed_of names last).snapshots ≡ filter (is_removed (shard_plans_of z.zs)) names.snapshots
  removed_are = removed_by (shard_plans_in new) names.snapshots last.snapshots set ∙ ap (λ (l : List PlannedShard). filter (is_removed l) names.snapshots) (sym z.shard_plans_are)

  failed_are : (failed_of names last).snapshots ≡ filter (is_failed (shard_plans_of z.zs)) names.snapshots
  failed_are = failed_by (shard_plans_in new) names.snapshots last.snapshots set ∙ ap (λ (l : List PlannedShard). filter (is_failed l) names.snapshots) (sym z.shard_plans_are)

  -- the shards that are left out hold nothing
  held : lists_of (shards_in contents fails new) (texts b3) (numbers i3)
      ≡ lists_of news (texts b3) (numbers i3)
  held = ap
      (λ (l : List BackSnap). record { blobs = texts b3; snapshots = l; ingests = numbers i3 })
      (sym (ap all_snaps news_are ∙ same_snaps contents fails names.snapshots (entries_in new)))

  pub swept_by : SweepsNames names (lists_of olds (texts b0) (numbers i0)) (lists_of news (texts b3) (numbers i3)) last
  swept_by tables are =
      subst
      (λ (l : BackLists). IsSwept tables (lists_of olds (texts b0) (numbers i0)) l
      (removed_of names last) (failed_of names last)) held
      (swept olds (texts b0) (numbers i0) names may apart z.zs olds_are z.each tables are (texts b3) (numbers i3) (removed_of names last) (failed_of names last) (blob_fails b0) (blob_fails b3) (ingest_fails i0) (ingest_fails i3)
      sb si removed_are failed_are (shards_in contents fails new) z.news_are)

  pub count_by : all_failures news + blob_fails b3 + ingest_fails i3
      ≡ all_failures olds + blob_fails b0 + ingest_fails i0 + count_names (failed_of names last)
  count_by =
      let n = counted names.snapshots z.zs (subst AreApart (sym olds_are) apart) z.each in
      let a : all_failures news ≡ all_failures (news_of z.zs) = ap all_failures news_are
      ∙ same_failures contents fails names.snapshots (entries_in new)
      ∙ ap all_failures (sym z.news_are) in
      let b : all_failures (olds_of z.zs) ≡ all_failures olds = ap all_failures olds_are in
      let f : length (failed_of names last).snapshots ≡ length (filter (is_failed (shard_plans_of z.zs)) names.snapshots) = ap (λ (l : List (Text × ℕ)). length l) failed_are in
      let p = sb.count in
      let q = si.count in
      omega (arith, n, a, b, f, p, q)
