-- Rows in the order of their keys are apart: one key, one row.
use Rattle.std.proofs.Common.{◌≡◌, zero, suc, true, List, [], ◌∷◌, get_or, sym, ap, ◌∙◌, arith, subst, inl, inr}
use Rattle.std.specs.Prelude.{All, Contains}
use Rattle.std.specs.Ordering.{is_lt, ordering_reverse}
use Rattle.std.specs.Cmp.Lexicographic.{slice_cmp}
use Rattle.std.specs.declared.cmp.Ordering.{Ordering}
use Rattle.std.specs.declared.cmp.Ordering.TheVariants.{Less, Equal, Greater}
use Rattle.std.proofs.lemmas.Bool.{and_parts}
use Rattle.std.proofs.lemmas.List.Elements.{All-contains}
use Rattle.meta_types.specs.Text.{text_cmp}
use Rattle.meta_types.specs.Keys.{Key, is_before, is_first, are_in_order}
use Rattle.meta_types.proofs.Ordered.{keys_total, before_trans}
use Rattle.meta_types.proofs.Members.{first_or_later, none_in_nothing}

-- no key stands before itself
pub not_before_itself : (k : Key) → is_before k k ≡ true → ⊥
not_before_itself k h = go (slice_cmp text_cmp k k) (keys_total.antisymm k k) h
  where
    go : (r : Ordering) → r ≡ ordering_reverse r → is_lt r ≡ true → ⊥
    go Less e h = absurd cc
    go Equal e h = absurd cc
    go Greater e h = absurd cc

module _ {Row : Type 0} (key_of : Row → Key) where
  -- a row stands before all later ones
  pub before_all : (row : Row) (rows : List Row) → is_first key_of row rows ≡ true → are_in_order key_of rows ≡ true → All (λ other. is_before (key_of row) (key_of other) ≡ true) rows
  before_all row [] p o i d lt = absurd (omega arith)
  before_all row (next ∷ rows) p o zero d lt = p
  before_all row (next ∷ rows) p o (suc i) d lt =
      let parts = and_parts (is_first key_of next rows) (are_in_order key_of rows) o in
      before_trans (key_of row) (key_of next) (key_of (get_or rows i d)) p (before_all next rows parts.0 parts.1 i d (omega arith))

  -- a row's key is none of those behind it
  key_is_gone : (row other : Row) (rows : List Row) → are_in_order key_of (row ∷ rows) ≡ true → Contains rows other → key_of row ≡ key_of other → ⊥
  key_is_gone row other rows o c e =
      let parts = and_parts (is_first key_of row rows) (are_in_order key_of rows) o in
      let before : is_before (key_of row) (key_of other) ≡ true = All-contains (λ (next : Row). is_before (key_of row) (key_of next) ≡ true) rows other (before_all row rows parts.0 parts.1) c in
      not_before_itself (key_of other) (subst (λ (k : Key). is_before k (key_of other) ≡ true) e before)

  -- two rows of one key are one
  pub one_row : (rows : List Row) → are_in_order key_of rows ≡ true → (a b : Row) → Contains rows a → Contains rows b → key_of a ≡ key_of b → a ≡ b
  one_row [] o a b ca cb e = none_in_nothing a ca
  one_row (row ∷ rows) o a b ca cb e = elim (first_or_later row rows a ca) [
    | inl here ↦ elim (first_or_later row rows b cb) [
      | inl there ↦ sym here ∙ there
      | inr later ↦ absurd (key_is_gone row b rows o later (ap key_of here ∙ e))
    ]
    | inr behind ↦ elim (first_or_later row rows b cb) [
      | inl there ↦ absurd (key_is_gone row a rows o behind (ap key_of there ∙ sym e))
      | inr later ↦ one_row rows (and_parts (is_first key_of row rows) (are_in_order key_of rows) o).1 a b behind later e
    ]
  ]
