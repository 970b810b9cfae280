-- The list of all snapshots after a sweep is a filter of that before.
use Rattle.std.proofs.Common.{◌≡◌, ℕ, List, [], ◌∷◌, ◌++◌, map, Bool, true, false, not, refl, sym, ◌∙◌, ap, inl, inr}
use Rattle.std.specs.Prelude.{cond, filter, Contains, Option, Some, None}
use Rattle.std.proofs.Math.Dec.{T}
use Rattle.std.specs.Ordering.{nat_cmp, eq_by_cmp, is_eq}
use Rattle.std.specs.Cmp.{nat_cmp_total, unsigned_tied}
use Rattle.std.specs.FinMap as finmap
use Rattle.std.specs.FinMap.Entries.{is_sorted, below_all, where_key, is_sorted-where_key, find-where_key, same_entries}
use Rattle.std.proofs.lemmas.Bool.{cases_Bool, eqb-true}
use Rattle.std.proofs.lemmas.Cmp.{tied_itself}
use Rattle.std.proofs.lemmas.List.Elements.{filter-append}
use Rattle.meta_types.specs.Text.{Text}
use Rattle.meta_types.specs.Rows.{BackSnap}
use Rattle.meta_types.proofs.Members.{here, later, first_or_later, none_in_nothing}
use Rattle.back_model.specs.Snaps.{Snaps}
use Rattle.back_model.specs.Shown.{Shard, back_snap, snaps_in, all_snaps}
use Rattle.back_model.proofs.Entries.{Parents}
use Rattle.backend_sweep.proofs.Children.{left, right, absent}

-- an entry is what is found under its number
entry_found : (es : Parents) → T (is_sorted nat_cmp es) → (e : ℕ × Option ℕ) → Contains es e → finmap.find nat_cmp e.0 es ≡ Some e.1
entry_found [] s e c = none_in_nothing e c
entry_found (f ∷ es) s e c = elim (first_or_later f es e c) [
  | inl same ↦ ap (λ (x : ℕ × Option ℕ). finmap.find nat_cmp x.0 (f ∷ es)) (sym same) ∙ ap (λ (b : Bool). cond b (Some f.1) (finmap.find nat_cmp f.0 es)) (ap is_eq (tied_itself nat_cmp_total f.0)) ∙ ap (λ (x : ℕ × Option ℕ). Some x.1) same
  | inr more ↦ (
      let rest = entry_found es (right (below_all nat_cmp f.0 es) (is_sorted nat_cmp es) s) e more in
      elim (cases_Bool (eq_by_cmp nat_cmp e.0 f.0)) [
        | inl tied ↦ (
            let key : e.0 ≡ f.0 = eqb-true e.0 f.0 (sym (unsigned_tied e.0 f.0) ∙ tied) in
            let none : finmap.find nat_cmp e.0 es ≡ None = ap (λ (k : ℕ). finmap.find nat_cmp k es) key ∙ absent f.0 es (left (below_all nat_cmp f.0 es) (is_sorted nat_cmp es) s) in
            absurd (cc (none, rest)))
        | inr other ↦ ap (λ (b : Bool). cond b (Some f.1) (finmap.find nat_cmp e.0 es)) other ∙ rest
      ])
]

pub held_at : (m : Snaps) (e : ℕ × Option ℕ) → Contains (finmap.entries m) e → finmap.get m e.0 ≡ Some e.1
held_at m e c = finmap.get-entries m e.0 ∙ entry_found (finmap.entries m) (finmap.entries_sorted m) e c

turned : {A : Type 0} (b : Bool) (x y : A) → cond (not b) x y ≡ cond b y x
turned true x y = refl
turned false x y = refl

-- the entries of what is left
entries_left : (m now : Snaps) (gone : ℕ → Bool) → ((n : ℕ) → finmap.get now n ≡ cond (gone n) None (finmap.get m n)) → finmap.entries now ≡ filter (λ (e : ℕ × Option ℕ). not (gone e.0)) (finmap.entries m)
entries_left m now gone is =
    let keep : ℕ → Bool = λ n. not (gone n) in
    same_entries nat_cmp nat_cmp_total finmap.nat_cmp-IsAntisymmetric (finmap.entries now) (where_key nat_cmp keep (finmap.entries m)) (finmap.entries_sorted now)
    (is_sorted-where_key nat_cmp keep (finmap.entries m) (finmap.entries_sorted m))
    (λ q. sym (finmap.get-entries now q) ∙ is q ∙ ap (λ (o : Option (Option ℕ)). cond (gone q) None o) (finmap.get-entries m q) ∙ sym (turned (gone q) (finmap.find nat_cmp q (finmap.entries m)) None)
    ∙ sym (find-where_key nat_cmp keep q (λ x tie. ap keep (sym (finmap.nat_cmp-IsAntisymmetric q x tie))) (finmap.entries m)))

module _ (stay : BackSnap → Bool) where
  -- what became of one shard
  pub record Left (s t : Shard) : Type 0 where
    pub same : t.snapshotter ≡ s.snapshotter
    pub gone : ℕ → Bool
    pub left_is : (n : ℕ) → finmap.get t.snaps n ≡ cond (gone n) None (finmap.get s.snaps n)
    pub stays : (n : ℕ) (p : Option ℕ) → finmap.get s.snaps n ≡ Some p → stay (back_snap s.snapshotter (n, p)) ≡ not (gone n)

  abbrev pub AreLeft : List Shard → List Shard → Type 0
  AreLeft [] [] = Unit {0}
  AreLeft (s ∷ olds) (t ∷ news) = Left s t × AreLeft olds news
  AreLeft [] (t ∷ news) = ⊥
  AreLeft (s ∷ olds) [] = ⊥

  kept_as : (name : Text) (gone : ℕ → Bool) (es : Parents) → ((e : ℕ × Option ℕ) → Contains es e → stay (back_snap name e) ≡ not (gone e.0))
      → map (back_snap name) (filter (λ (e : ℕ × Option ℕ). not (gone e.0)) es) ≡ filter stay (map (back_snap name) es)
  kept_as name gone [] h = refl
  kept_as name gone (e ∷ es) h =
      let rest = kept_as name gone es (λ f c. h f (later e es f c)) in
      elim (cases_Bool (not (gone e.0))) [
        | inl t ↦ rw (t, h e (here e es) ∙ t) (ap (λ (l : List BackSnap). back_snap name e ∷ l) rest)
        | inr f ↦ rw (f, h e (here e es) ∙ f) rest
      ]

  shard_left : (s t : Shard) → Left s t → snaps_in t ≡ filter stay (snaps_in s)
  shard_left s t h =
      (λ i. map (back_snap (h.same i)) (finmap.entries t.snaps))
      ∙ ap (map (back_snap s.snapshotter)) (entries_left s.snaps t.snaps h.gone h.left_is)
      ∙ kept_as s.snapshotter h.gone (finmap.entries s.snaps) (λ e c. h.stays e.0 e.1 (held_at s.snaps e c))

  -- all that is left
  pub all_left : (olds news : List Shard) → AreLeft olds news → all_snaps news ≡ filter stay (all_snaps olds)
  all_left [] [] h = refl
  all_left (s ∷ olds) (t ∷ news) h = (λ i. shard_left s t h.0 i ++ all_left olds news h.1 i) ∙ sym (filter-append stay (snaps_in s) (all_snaps olds))
  all_left [] (t ∷ news) h = absurd h
  all_left (s ∷ olds) [] h = absurd h
