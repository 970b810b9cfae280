-- Ancestors in the list of all snapshots are chains of parents in their shard.
use Rattle.std.proofs.Common.{◌≡◌, ℕ, zero, suc, List, [], ◌∷◌, length, sym, ◌∙◌, ap, subst, inl, inr}
use Rattle.std.specs.Prelude.{Option, Some, None, find, option_map, Contains}
use Rattle.std.specs.Option.{option_map_or}
use Rattle.std.specs.FinMap as finmap
use Rattle.meta_types.specs.Text.{Text}
use Rattle.meta_types.specs.Rows.{BackSnap}
use Rattle.meta_types.specs.Backends.{is_named, ancestors, ancestors_of}
use Rattle.meta_types.proofs.Members.{first_or_later, none_in_nothing}
use Rattle.meta_types.proofs.ListSearches.{none_or_some, found_is}
use Rattle.meta_types.proofs.Falling.{object_above}
use Rattle.back_model.specs.Snaps.{Snaps}
use Rattle.back_model.specs.Shown.{Shard, AreApart, snaps_at, back_snap, all_snaps}
use Rattle.backend_sweep.specs.Shards.{IsChild}
use Rattle.backend_sweep.specs.Sweep.{IsAncestor}
use Rattle.backend_sweep.proofs.SnapshotSearches.{found_is as found_in_shard}

module _ (olds : List Shard) (apart : AreApart olds) (name : Text) (m : Snaps) (at : snaps_at name olds ≡ m) where
  abbrev all : List BackSnap
  all = all_snaps olds

  -- what is found of a number of this shard
  pub found : (n : ℕ) → find (is_named (name, n)) all ≡ option_map (λ p. back_snap name (n, p)) (finmap.get m n)
  found n = found_in_shard name n olds apart ∙ ap (λ (x : Snaps). option_map (λ p. back_snap name (n, p)) (finmap.get x n)) at

  pub found_at : (n : ℕ) (p : Option ℕ) → finmap.get m n ≡ Some p → find (is_named (name, n)) all ≡ Some (back_snap name (n, p))
  found_at n p is = found n ∙ ap (option_map (λ q. back_snap name (n, q))) is

  -- the parent's object, where the parent is held
  above_at : (n p : ℕ) (q : Option ℕ) → finmap.get m p ≡ Some q → object_above all (back_snap name (n, Some p)) ≡ Some (back_snap name (p, q))
  above_at n p q is = found_at p q is

  -- it stands in the list
  pub stands : (n : ℕ) (p : Option ℕ) → finmap.get m n ≡ Some p → Contains all (back_snap name (n, p))
  stands n p is = (found_is (is_named (name, n)) all (back_snap name (n, p)) (found_at n p is)).0

  -- ---- from ancestors to chains

  pub record Climbed (n : ℕ) (x : BackSnap) : Type 0 where
    pub by : x.snapshotter ≡ name
    pub chain : IsAncestor m x.number n

  climbs_of : (most n : ℕ) (o : Option ℕ) (x : BackSnap) → finmap.get m n ≡ Some o → Contains (ancestors most all (back_snap name (n, o))) x → Climbed n x
  climbs_of zero n o x is c = none_in_nothing x c
  climbs_of (suc most) n None x is c = none_in_nothing x c
  climbs_of (suc most) n (Some p) x is c = elim (none_or_some (finmap.get m p)) [
    | inl none ↦ none_in_nothing x (subst (λ (o : Option BackSnap). Contains (option_map_or (λ (snap : BackSnap). snap ∷ ancestors most all snap) o []) x) (found p ∙ ap (option_map (λ q. back_snap name (p, q))) none) c)
    | inr some ↦ (
        let c' : Contains (back_snap name (p, some.0) ∷ ancestors most all (back_snap name (p, some.0))) x
        = subst (λ (o : Option BackSnap). Contains (option_map_or (λ (snap : BackSnap). snap ∷ ancestors most all snap) o []) x) (found_at p some.0 some.1) c in
        elim (first_or_later (back_snap name (p, some.0)) (ancestors most all (back_snap name (p, some.0))) x c') [
          | inl same ↦ record { by = ap (λ (s : BackSnap). s.snapshotter) (sym same); chain = ([], (subst (λ (k : ℕ). IsChild m k n) (ap (λ (s : BackSnap). s.number) same) is, tt)) }
          | inr more ↦ (
              let rest = climbs_of most p some.0 x some.1 more in
              record { by = rest.by; chain = (p ∷ rest.chain.0, (is, rest.chain.1)) })
        ])
  ]

  pub climbed : (n : ℕ) (o : Option ℕ) (x : BackSnap) → finmap.get m n ≡ Some o → Contains (ancestors_of all (back_snap name (n, o))) x → Climbed n x
  climbed n o x is c = climbs_of (length all) n o x is c
