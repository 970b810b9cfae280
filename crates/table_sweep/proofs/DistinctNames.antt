-- A row that stays isn't named among those that go, where no key stands twice.
use Rattle.std.proofs.Common.{◌≡◌, ◌≢◌, Bool, true, not, List, map, sym, ap, ◌∙◌}
use Rattle.std.specs.Prelude.{AllPairs, Contains, filter}
use Rattle.std.proofs.lemmas.Bool.{both_ways}
use Rattle.meta_types.specs.Keys.{Key}
use Rattle.meta_types.proofs.FilteredNames.{from_map}
use Rattle.meta_types.proofs.ListSearches.{one_item}
use Rattle.meta_types.proofs.Members.{from_filter}

module _ {Row Name : Type 0} (key_of : Row → Key) (name_of : Row → Name) (same : (a b : Row) → name_of a ≡ name_of b → key_of a ≡ key_of b) (stays : Row → Bool) (rows : List Row) where
  pub not_named : AllPairs (λ a b. key_of a ≢ key_of b) rows → (row : Row) → Contains rows row → stays row ≡ true → Contains (map name_of (filter (λ (r : Row). not (stays r)) rows)) (name_of row) → ⊥
  not_named apart row c h named =
      let found = from_map name_of (filter (λ (r : Row). not (stays r)) rows) (name_of row) named in
      let both = from_filter (λ (r : Row). not (stays r)) rows found.0 found.1 in
      let e : key_of found.0 ≡ key_of row = same found.0 row found.2 in
      let one : found.0 ≡ row = one_item (λ (a b : Row). key_of a ≢ key_of b) rows apart found.0 row both.0 c (λ differ. differ e) (λ differ. differ (sym e)) in
      both_ways (not (stays row)) (ap not h) (ap (λ (r : Row). not (stays r)) (sym one) ∙ both.1)
