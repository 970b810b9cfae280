-- The things that paths end in, computed: pass over all things until a pass adds nothing.
use Rattle.std.proofs.Common.{◌≡◌, ℕ, zero, suc, Bool, true, List, [], ◌∷◌, subst, inl, inr}
use Rattle.std.specs.Prelude.{Contains, filter, ◌||◌, ℤ}
use Rattle.std.specs.List.{list_any}
use Rattle.std.proofs.lemmas.Bool.{or_cases, or_left, or_right}
use Rattle.meta_types.specs.Rows.{Records}
use Rattle.meta_types.specs.Paths.{Thing, things, has_edge, is_root, IsPath, IsReached, TellsReached}
use Rattle.meta_types.proofs.Members.{in_filter, from_filter, any_from, found_by_any, none_in_nothing}

-- the thing is a root, or one of those found references it
abbrev pub is_found : ℕ → ℤ → List Thing → Thing → Bool
is_found profile at found thing = is_root profile at thing || list_any (λ before. has_edge before thing) found

-- one pass
abbrev pub pass_over : Records → ℤ → List Thing → List Thing
pass_over records at found = filter (is_found records.profile at found) (things records)

abbrev pub passes : ℕ → Records → ℤ → List Thing
passes zero records at = []
passes (suc n) records at = pass_over records at (passes n records at)

-- each thing found is one that a path ends in
abbrev pub AreReached : Records → ℤ → List Thing → Type 0
AreReached records at found = (thing : Thing) → Contains found thing → IsReached records at thing

module _ (records : Records) (at : ℤ) where
  pub reached_if_found : (found : List Thing) → AreReached records at found → (thing : Thing) → Contains (things records) thing → is_found records.profile at found thing ≡ true → IsReached records at thing
  reached_if_found found all thing in_store h = elim (or_cases (is_root records.profile at thing) (list_any (λ before. has_edge before thing) found) h) [
    | inl root ↦ ([], (in_store, root))
    | inr by_edge ↦ (
        let one = found_by_any (λ before. has_edge before thing) found by_edge in
        let path = all one.0 one.1 in
        (one.0 ∷ path.0, (in_store, one.2, path.1)))
  ]

  -- each thing that a pass finds was found
  abbrev pub IsClosed : List Thing → Type 0
  IsClosed found = (thing : Thing) → Contains (things records) thing → is_found records.profile at found thing ≡ true → Contains found thing

  pub closed_from_pass : (found : List Thing) → pass_over records at found ≡ found → IsClosed found
  closed_from_pass found same thing is_in h = subst (λ (l : List Thing). Contains l thing) same (in_filter (is_found records.profile at found) (things records) thing is_in h)

  pub found_if_reached : (found : List Thing) → IsClosed found → (thing : Thing) (path : List Thing) → IsPath records at thing path → is_found records.profile at found thing ≡ true
  found_if_reached found closed thing [] p = or_left (is_root records.profile at thing) (list_any (λ before. has_edge before thing) found) p.1
  found_if_reached found closed thing (before ∷ path) p =
      let is_in : Contains (things records) before = in_things before path p.2 in
      let again : Contains found before = closed before is_in (found_if_reached found closed before path p.2) in
      or_right (is_root records.profile at thing) (list_any (λ before. has_edge before thing) found) (any_from (λ before. has_edge before thing) found before again p.1)
    where
      in_things : (last : Thing) (path : List Thing) → IsPath records at last path → Contains (things records) last
      in_things last [] p = p.0
      in_things last (b ∷ path) p = p.0

  pub passes_are_reached : (n : ℕ) → AreReached records at (passes n records at)
  passes_are_reached zero thing c = none_in_nothing thing c
  passes_are_reached (suc n) thing c =
      let both = from_filter (is_found records.profile at (passes n records at)) (things records) thing c in
      reached_if_found (passes n records at) (passes_are_reached n) thing both.0 both.1

  -- where a pass over what paths end in finds nothing more, it tells where paths end
  pub tells_if_closed : (found : List Thing) → AreReached records at found → IsClosed found → TellsReached records at (is_found records.profile at found)
  tells_if_closed found all closed = record {
    each = λ thing in_store. (
      (λ h. reached_if_found found all thing in_store h),
      (λ r. found_if_reached found closed thing r.0 r.1),
    );
  }
