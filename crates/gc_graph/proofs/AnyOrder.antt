-- Roots in any order: a lease's resources are read as they arrived.
use Rattle.std.proofs.Common.{◌≡◌, ℕ, ◌+◌, ◌<◌, Bool, true, false, ℤ, if◌then◌else◌, List, [], ◌∷◌, ◌++◌, map, length, get_or, take, sym, ap, ◌∙◌, subst, inl, inr, append_assoc, append-nil, Option, Some, None}
use Rattle.std.specs.List.{flat_map, filter_map, cons_option}
use Rattle.std.specs.List.Sorted.{IsPermutation}
use Rattle.std.proofs.lemmas.Bool.{cases_Bool}
use Rattle.std.proofs.lemmas.Grind.{flat_map-append}
use Rattle.std.proofs.lemmas.List.Sorted.{IsPermutation-refl, IsPermutation-cons, IsPermutation-trans, IsPermutation-middle, IsPermutation-sym, IsPermutation-append_left, IsPermutation-append_right}
use Rattle.meta_types.specs.Text.{Text}
use Rattle.meta_types.specs.Keys.{Key, is_before, add_row}
use Rattle.meta_types.specs.Resources.{resource_key}
use Rattle.meta_types.specs.Rows.{LeaseRow}
use Rattle.meta_types.specs.Paths.{lease, lease_mode, lease_stays}
use Rattle.meta_types.specs.declared.resource.Mode.{Mode}
use Rattle.meta_types.specs.declared.resource.Resource.{Resource}
use Rattle.row_tables.specs.Arrived.{sorted}
use Rattle.gc_graph.specs.declared.node.Node.{Node}
use Rattle.gc_graph.specs.Targets.{node, resource_mode, resource_targets}
use Rattle.gc_graph.specs.Built.{number_of, numbers_in, targets_in, root_targets}
use Rattle.gc_graph.proofs.BookNumbers.{take_next}

-- ---- what is found of rows, once they are sorted

module _ {Row X : Type 0} (key_of : Row → Key) (find : Row → Option X) where
  abbrev found : List Row → List X
  found rows = filter_map find rows

  under : (first : Option X) (xs ys : List X) → IsPermutation xs ys
      → IsPermutation (cons_option first xs) (cons_option first ys)
  under None xs ys p = p
  under (Some x) xs ys p = IsPermutation-cons x xs ys p

  turned : (a b : Option X) (xs : List X)
      → IsPermutation (cons_option a (cons_option b xs)) (cons_option b (cons_option a xs))
  turned None b xs = IsPermutation-refl (cons_option b xs)
  turned (Some x) None xs = IsPermutation-refl (x ∷ xs)
  turned (Some x) (Some y) xs = IsPermutation-middle (x ∷ []) y xs

  moved_up : (row : Row) (rows : List Row)
      → IsPermutation (found (row ∷ rows)) (found (add_row key_of row rows))
  moved_up row [] = IsPermutation-refl (found (row ∷ []))
  moved_up row (next ∷ rows) = elim (cases_Bool (is_before (key_of row) (key_of next))) [
    | inl t ↦ rw t (IsPermutation-refl (found (row ∷ next ∷ rows)))
    | inr f ↦ rw f (IsPermutation-trans
        (found (row ∷ next ∷ rows)) (found (next ∷ row ∷ rows))
        (found (next ∷ add_row key_of row rows))
        (turned (find row) (find next) (found rows))
        (under (find next) (found (row ∷ rows)) (found (add_row key_of row rows))
        (moved_up row rows)))
  ]

  pub found_sorted : (rows : List Row) → IsPermutation (found (sorted key_of rows)) (found rows)
  found_sorted [] = IsPermutation-refl []
  found_sorted (row ∷ rows) =
      let rest = sorted key_of rows in
      IsPermutation-trans (found (add_row key_of row rest)) (found (row ∷ rest)) (found (row ∷ rows))
      (IsPermutation-sym (found (row ∷ rest)) (found (add_row key_of row rest)) (moved_up row rest))
      (under (find row) (found rest) (found rows) (found_sorted rows))

filter_map-map : {X Y Z : Type 0} (h : Y → Option Z) (f : X → Y) (xs : List X)
    → filter_map h (map f xs) ≡ filter_map (λ x. h (f x)) xs
filter_map-map h f [] = λ i. []
filter_map-map h f (x ∷ xs) = ap (cons_option (h (f x))) (filter_map-map h f xs)

-- what a lease holds, as it arrived and sorted
held_in_any_order : (book : List Node) (ns : Text) (mode : Mode) (start now : List ℕ)
    (arrived held : List Resource) → sorted resource_key arrived ≡ held
    → now ≡ start ++ numbers_in book (resource_targets ns mode arrived)
    → IsPermutation (start ++ numbers_in book (resource_targets ns mode held)) now
held_in_any_order book ns mode start now arrived held same is =
    let f : Resource → Node = λ resource. node ns resource (resource_mode mode resource) in
    let find : Resource → Option ℕ = λ resource. number_of book (f resource) in
    let in_order = sorted resource_key arrived in
    let of : (resources : List Resource)
    → numbers_in book (resource_targets ns mode resources) ≡ filter_map find resources =
    λ resources. filter_map-map (number_of book) f resources in
    let moved : IsPermutation (start ++ filter_map find in_order) (start ++ filter_map find arrived) =
    IsPermutation-append_right start (filter_map find in_order) (filter_map find arrived)
    (found_sorted resource_key find arrived) in
    let left : start ++ filter_map find in_order
    ≡ start ++ numbers_in book (resource_targets ns mode held) =
    ap (λ l. start ++ l) (sym (of in_order)
    ∙ ap (λ (rs : List Resource). numbers_in book (resource_targets ns mode rs)) same) in
    let right : start ++ filter_map find arrived ≡ now =
    ap (λ l. start ++ l) (sym (of arrived)) ∙ sym is in
    subst (λ (l : List ℕ). IsPermutation (start ++ numbers_in book (resource_targets ns mode held)) l)
    right
    (subst (λ (l : List ℕ). IsPermutation l (start ++ filter_map find arrived)) left moved)

-- ---- one list behind another

pub unmoved : (start now more : List ℕ) → now ≡ start ++ more → IsPermutation (start ++ more) now
unmoved start now more is =
    subst (λ (l : List ℕ). IsPermutation (start ++ more) l) (sym is)
    (IsPermutation-refl (start ++ more))

-- a loop's step: what a row gives comes behind what the rows before it gave
pub row_in_any_order : {Row : Type 0} (f : Row → List ℕ) (start now new : List ℕ) (rows : List Row)
    (i : ℕ) (row : Row) → i < length rows → row ≡ get_or rows i row
    → IsPermutation (start ++ flat_map f (take i rows)) now → IsPermutation (now ++ f row) new
    → IsPermutation (start ++ flat_map f (take (i + 1) rows)) new
row_in_any_order f start now new rows i row lt item before step =
    let first = start ++ flat_map f (take i rows) in
    let whole : first ++ f row ≡ start ++ flat_map f (take (i + 1) rows) =
    append_assoc start (flat_map f (take i rows)) (f row)
    ∙ ap (λ l. start ++ l) (ap (λ l. flat_map f (take i rows) ++ l) (sym (append-nil (f row)))
    ∙ sym (flat_map-append f (take i rows) (row ∷ []))
    ∙ ap (flat_map f) (sym (take_next rows i row lt item))) in
    subst (λ (l : List ℕ). IsPermutation l new) whole
    (IsPermutation-trans (first ++ f row) (now ++ f row) new
    (IsPermutation-append_left (f row) first now before) step)

-- ---- one lease

module _ (book : List Node) (profile : ℕ) (at : ℤ) (row : LeaseRow) (start now : List ℕ) where
  pub lease_in_any_order : (arrived : List Resource) → lease_stays at row ≡ true
      → sorted resource_key arrived ≡ row.resources
      → now ≡ start ++ numbers_in book (resource_targets row.ns (lease_mode row) arrived)
      → IsPermutation (start ++ root_targets profile at book (lease row)) now
  lease_in_any_order arrived stays same is =
      subst (λ (b : Bool).
      IsPermutation (start ++ (if b then targets_in book (lease row) else [])) now) (sym stays)
      (held_in_any_order book row.ns (lease_mode row) start now arrived row.resources same is)

  pub lease_that_ended : lease_stays at row ≡ false → now ≡ start
      → IsPermutation (start ++ root_targets profile at book (lease row)) now
  lease_that_ended ended is =
      subst (λ (b : Bool).
      IsPermutation (start ++ (if b then targets_in book (lease row) else [])) now) (sym ended)
      (unmoved start now [] (is ∙ sym (append-nil start)))

-- ---- all roots

pub own_behind : (things places held own all : List ℕ) → IsPermutation things held → own ≡ places
    → all ≡ held ++ own → IsPermutation (things ++ places) all
own_behind things places held own all p same is =
    subst (λ (l : List ℕ). IsPermutation (things ++ places) l)
    (ap (λ l. held ++ l) (sym same) ∙ sym is)
    (IsPermutation-append_left places things held p)

-- what leases hold comes behind what images and containers reference
pub three_kinds : (none images containers leases first second all : List ℕ) → none ≡ []
    → first ≡ none ++ images → second ≡ first ++ containers → IsPermutation (second ++ leases) all
    → IsPermutation (images ++ containers ++ leases) all
three_kinds none images containers leases first second all empty one two p =
    let before : second ≡ images ++ containers =
    two ∙ ap (λ (l : List ℕ). l ++ containers) (one ∙ ap (λ (l : List ℕ). l ++ images) empty) in
    subst (λ (l : List ℕ). IsPermutation (l ++ leases) all) before p
