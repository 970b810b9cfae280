-- Lists of rows stay in the order of their keys.
use Rattle.std.proofs.Common.{◌≡◌, true, false, List, [], ◌∷◌, refl, ap, ◌∙◌, inl, inr}
use Rattle.std.specs.Cmp.{IsTotalOrder}
use Rattle.std.specs.Ordering.{is_lt, is_eq, ordering_reverse}
use Rattle.std.specs.Cmp.Lexicographic.{slice_cmp, lists_ties, texts_ties}
use Rattle.std.specs.declared.cmp.Ordering.{Ordering}
use Rattle.std.specs.declared.cmp.Ordering.TheVariants.{Less, Equal, Greater}
use Rattle.std.proofs.lemmas.Cmp.{lists_total, nat_list_cmp_total}
use Rattle.std.proofs.lemmas.Bool.{cases_Bool, both_ways, and_parts, and_from}
use Rattle.meta_types.specs.Text.{text_cmp}
use Rattle.meta_types.specs.Keys.{Key, is_key, is_before, has_row, add_row, remove_row, is_first, are_in_order}

-- the order of keys is total
pub keys_total : IsTotalOrder (slice_cmp text_cmp)
keys_total = lists_total nat_list_cmp_total

-- two keys are the same exactly if their order calls them equal
pub key_ties : (a b : Key) → is_key a b ≡ is_eq (slice_cmp text_cmp a b)
key_ties a b = lists_ties text_cmp texts_ties a b

-- of two keys that are not one, one stands before the other
pub after : (a b : Key) → is_before a b ≡ false → is_key a b ≡ false → is_before b a ≡ true
after a b n d = go (slice_cmp text_cmp a b) refl
  where
    go : (r : Ordering) → slice_cmp text_cmp a b ≡ r → is_before b a ≡ true
    go Less e = absurd (both_ways (is_before a b) n (ap is_lt e))
    go Equal e = absurd (both_ways (is_key a b) d (key_ties a b ∙ ap is_eq e))
    go Greater e = ap is_lt (keys_total.antisymm b a ∙ ap ordering_reverse e)

less : (r : Ordering) → is_lt r ≡ true → r ≡ Less
less Less e = refl
less Equal e = absurd cc
less Greater e = absurd cc

-- a key before one that is before a third is before the third
pub before_trans : (a b c : Key) → is_before a b ≡ true → is_before b c ≡ true → is_before a c ≡ true
before_trans a b c p q = ap is_lt (keys_total.trans a b c (less _ p) (less _ q))

module _ {Row : Type 0} (key_of : Row → Key) where
  no_row_later : (key : Key) (row : Row) (rows : List Row) → has_row key_of key (row ∷ rows) ≡ false → (is_key key (key_of row) ≡ false) × (has_row key_of key rows ≡ false)
  no_row_later key row rows h = elim (cases_Bool (is_key key (key_of row))) [
    | inl t ↦ absurd (cc (rw t at h))
    | inr f ↦ (f, rw f at h)
  ]

  -- the head of a list with one row more
  first_added : (before row : Row) (rows : List Row) → is_before (key_of before) (key_of row) ≡ true → is_first key_of before rows ≡ true → is_first key_of before (add_row key_of row rows) ≡ true
  first_added before row [] p q = p
  first_added before row (next ∷ rows) p q = elim (cases_Bool (is_before (key_of row) (key_of next))) [
    | inl t ↦ rw t p
    | inr f ↦ rw f q
  ]

  -- rows stay in order if a row with a free key is added
  pub in_order_added : (row : Row) (rows : List Row) → are_in_order key_of rows ≡ true → has_row key_of (key_of row) rows ≡ false → are_in_order key_of (add_row key_of row rows) ≡ true
  in_order_added row [] o h = refl
  in_order_added row (next ∷ rows) o h = elim (cases_Bool (is_before (key_of row) (key_of next))) [
    | inl t ↦ rw (t, t) o
    | inr f ↦ (
        let parts = and_parts (is_first key_of next rows) (are_in_order key_of rows) o in
        let absent = no_row_later (key_of row) next rows h in
        rw f (and_from (is_first key_of next (add_row key_of row rows)) (are_in_order key_of (add_row key_of row rows))
        (first_added next row rows (after (key_of row) (key_of next) f absent.0) parts.0) (in_order_added row rows parts.1 absent.1)))
  ]

  first_removed : (before : Row) (key : Key) (rows : List Row) → is_first key_of before rows ≡ true → are_in_order key_of rows ≡ true → is_first key_of before (remove_row key_of key rows) ≡ true
  first_removed before key [] p o = refl
  first_removed before key (next ∷ rows) p o = elim (cases_Bool (is_key key (key_of next))) [
    | inl t ↦ rw t (skip rows (and_parts (is_first key_of next rows) (are_in_order key_of rows) o).0)
    | inr f ↦ rw f p
  ]
    where
      skip : (rs : List Row) → is_first key_of next rs ≡ true → is_first key_of before rs ≡ true
      skip [] q = refl
      skip (r ∷ rs) q = before_trans (key_of before) (key_of next) (key_of r) p q

  -- rows stay in order if one is removed
  pub in_order_removed : (key : Key) (rows : List Row) → are_in_order key_of rows ≡ true → are_in_order key_of (remove_row key_of key rows) ≡ true
  in_order_removed key [] o = refl
  in_order_removed key (next ∷ rows) o =
      let parts = and_parts (is_first key_of next rows) (are_in_order key_of rows) o in
      elim (cases_Bool (is_key key (key_of next))) [
        | inl t ↦ rw t parts.1
        | inr f ↦ rw f (and_from (is_first key_of next (remove_row key_of key rows)) (are_in_order key_of (remove_row key_of key rows)) (first_removed next key rows parts.0 parts.1) (in_order_removed key rows parts.1))
      ]
