-- The place of a namespace among others, which stand in any order.
use Rattle.std.proofs.Common.{◌≡◌, ℕ, zero, suc, Bool, true, false, cond, List, [], ◌∷◌, ◌++◌, length, map, Some, None, refl, sym, ap, ◌∙◌, inl, inr, arith}
use Rattle.std.specs.Prelude.{Option, IfSome, IfNone, bytes_eq, slice_get, ◌&&◌}
use Rattle.std.specs.List.{position}
use Rattle.std.specs.Option.{option_map}
use Rattle.std.proofs.lemmas.Bool.{cases_Bool}
use Rattle.indexmap.specs.IndexMap.{set_value_at, insert_entry}
use Rattle.std.specs.Prelude.{slice_set, not, ◌==◌, if◌then◌else◌}
use Rattle.std.specs.List.{swap_remove}
use Rattle.row_tables.specs.ArrivedNamespaces.{has_rows}
use Rattle.meta_types.specs.Text.{Text}
use Rattle.meta_types.specs.Keys.{is_key, has_row}
use Rattle.meta_types.specs.Rows.{namespace_key}
use Rattle.meta_types.proofs.ListSearches.{no_none, some_is}
use Rattle.row_tables.proofs.FirstPosition.{position_next}
use Rattle.row_tables.proofs.NamespaceLists.{name_key, home_at}

pub alone : (b : Bool) → b ≡ (b && true)
alone b = elim b as (λ v. v ≡ (v && true)) [ true ↦ refl | false ↦ refl ]

none_before : (r : Option ℕ) → None ≡ option_map suc r → None ≡ r
none_before None h = refl
none_before (Some n) h = no_none (suc n) h

module _ {X : Type 0} where
  names_place : (ns : Text) (gs : List (Text × X))
      → position (bytes_eq ns) (map (λ (g : Text × X). g.0) gs) ≡ position (λ (g : Text × X). is_key (namespace_key ns) (name_key g)) gs
  names_place ns [] = refl
  names_place ns (g ∷ gs) =
      position_next (bytes_eq ns) g.0 (map (λ (h : Text × X). h.0) gs)
      ∙ (λ i. cond (alone (bytes_eq ns g.0) i) (Some 0) (option_map suc (names_place ns gs i)))
      ∙ sym (position_next (λ (h : Text × X). is_key (namespace_key ns) (name_key h)) g gs)

  nowhere : (ns : Text) (gs : List (Text × X))
      → None ≡ position (λ (g : Text × X). is_key (namespace_key ns) (name_key g)) gs
      → has_row name_key (namespace_key ns) gs ≡ false
  nowhere ns [] h = refl
  nowhere ns (g ∷ gs) h = elim (cases_Bool (is_key (namespace_key ns) (name_key g))) [
    | inl t ↦ no_none 0 (rw t at (h ∙ position_next (λ (h : Text × X). is_key (namespace_key ns) (name_key h)) g gs))
    | inr f ↦ rw f (nowhere ns gs (none_before (position (λ (h : Text × X). is_key (namespace_key ns) (name_key h)) gs) (rw f at (h ∙ position_next (λ (h : Text × X). is_key (namespace_key ns) (name_key h)) g gs))))
  ]

  pub home_is : (ns : Text) (gs : List (Text × X)) (r : Option ℕ)
      → r ≡ position (bytes_eq ns) (map (λ (g : Text × X). g.0) gs)
      → IfSome r (λ place. (rows : X) × (slice_get gs place ≡ Some (ns, rows)))
  home_is ns gs None is = tt
  home_is ns gs (Some i) is = home_at ns gs i (is ∙ names_place ns gs)

  pub no_home : (ns : Text) (gs : List (Text × X)) (r : Option ℕ)
      → r ≡ position (bytes_eq ns) (map (λ (g : Text × X). g.0) gs)
      → IfNone r (has_row name_key (namespace_key ns) gs ≡ false)
  no_home ns gs None is = nowhere ns gs (is ∙ names_place ns gs)
  no_home ns gs (Some i) is = tt

  -- other rows for the namespace at a place
  pub set_entry : (gs : List (Text × X)) (i : ℕ) (ns : Text) (rows new : X)
      → slice_get gs i ≡ Some (ns, rows) → set_value_at gs i new ≡ slice_set gs i (ns, new)
  set_entry [] i ns rows new at = refl
  set_entry (g ∷ gs) zero ns rows new at =
      ap (λ (m : Text). (m, new) ∷ gs) (ap (λ (x : Text × X). x.0) (some_is g (ns, rows) at))
  set_entry (g ∷ gs) (suc i) ns rows new at = ap (λ rest. g ∷ rest) (set_entry gs i ns rows new at)

  pub value_there : (gs : List (Text × X)) (i : ℕ) (g : Text × X) → slice_get gs i ≡ Some g
      → slice_get (map (λ (h : Text × X). h.1) gs) i ≡ Some g.1
  value_there [] i g at = no_none g at
  value_there (h ∷ gs) zero g at = ap (option_map (λ (x : Text × X). x.1)) at
  value_there (h ∷ gs) (suc i) g at = value_there gs i g at

  -- what a map's index gives is what stands there
  pub rows_are : (gs : List (Text × X)) (i : ℕ) (ns : Text) (rows given : X)
      → slice_get gs i ≡ Some (ns, rows) → slice_get (map (λ (h : Text × X). h.1) gs) i ≡ Some given
      → given ≡ rows
  rows_are gs i ns rows given at is = some_is given rows (sym is ∙ value_there gs i (ns, rows) at)

  pub at_given : (gs : List (Text × X)) (i : ℕ) (ns : Text) (rows given : X)
      → slice_get gs i ≡ Some (ns, rows) → slice_get (map (λ (h : Text × X). h.1) gs) i ≡ Some given
      → slice_get gs i ≡ Some (ns, given)
  at_given gs i ns rows given at there =
      at ∙ ap (λ r. Some (ns, r)) (sym (rows_are gs i ns rows given at there))

-- the one namespace more goes last
pub new_entry : {X : Type 0} (gs : List (Text × X)) (ns : Text) (rows : X) (m : Text) (given : X) (new : List (Text × X))
    → has_row name_key (ns ∷ []) gs ≡ false → m ≡ ns → given ≡ rows
    → new ≡ insert_entry bytes_eq gs m given → new ≡ gs ++ (ns, rows) ∷ []
new_entry gs ns rows m given new none e f is =
    is ∙ (λ i. insert_entry bytes_eq gs (e i) (f i)) ∙ last gs none
  where
    last : (gs : List (Text × _)) → has_row name_key (ns ∷ []) gs ≡ false
        → insert_entry bytes_eq gs ns rows ≡ gs ++ (ns, rows) ∷ []
    last [] none = refl
    last (g ∷ gs) none = elim (cases_Bool (bytes_eq ns g.0)) [
      | inl t ↦ absurd (cc (rw t at none))
      | inr f ↦ rw f (ap (λ rest. g ∷ rest) (last gs (rw f at none)))
    ]

module _ {Row : Type 0} (gs : List (Text × List Row)) (i : ℕ) (g : Text × List Row)
    (given : List Row) (count : ℕ) (at : slice_get gs i ≡ Some g)
    (there : slice_get (map (λ (h : Text × List Row). h.1) gs) i ≡ Some given)
    (len : count ≡ length given) where
  counted : count ≡ length g.1
  counted = len ∙ ap length (rows_are gs i g.0 g.1 given at there)

  pub empty_there : {new : List (Text × List Row)} → count ≡ 0 → new ≡ swap_remove gs i g
      → new ≡ (if has_rows g then gs else swap_remove gs i g)
  empty_there {new} none is = is ∙ ap (λ b. if b then gs else swap_remove gs i g) (sym empty)
    where
      empty : not (length g.1 == 0) ≡ false
      empty = ap (λ n. not (n == 0)) (sym counted ∙ none)

  pub full_there : (count ≡ 0 → ⊥) → gs ≡ (if has_rows g then gs else swap_remove gs i g)
  full_there some =
      ap (λ b. if b then gs else swap_remove gs i g)
      (sym (filled (length g.1) (λ e. some (counted ∙ e))))
    where
      filled : (n : ℕ) → (n ≡ 0 → ⊥) → not (n == 0) ≡ true
      filled zero h = absurd (h refl)
      filled (suc n) h = grind arith
