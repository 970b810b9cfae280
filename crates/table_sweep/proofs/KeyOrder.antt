-- Keys of snapshots are ordered by snapshotter, the deepest first, then by number.
use Rattle.std.proofs.Common.{◌≡◌, refl, sym, ◌∙◌}
use Rattle.std.specs.Prelude.{◌&&◌, ◌||◌}
use Rattle.std.specs.declared.cmp.Ordering.{Ordering}
use Rattle.std.specs.declared.cmp.Ordering.TheVariants.{Less, Equal, Greater}
use Rattle.std.specs.Ordering.{is_lt, is_eq, nat_cmp, ordering_then}
use Rattle.std.specs.Cmp.{IsTotalOrder, nat_cmp_total}
use Rattle.std.specs.Cmp.Lexicographic.{nat_list_cmp_total}
use Rattle.std.proofs.lemmas.Map.Text.{is_eq-slice_cmp}
use Rattle.std.proofs.lemmas.Map.Lookups.{exact_unsigned, exact_bytes}
use Rattle.std.proofs.lemmas.Cmp.{on_total}
use Rattle.meta_types.specs.Text.{text_cmp}
use Rattle.meta_types.proofs.OrderThen.{is_lt-nat, is_eq-nat, then_total, deepest_total}
use Rattle.table_sweep.specs.declared.depths.Key.{Key}
use Rattle.table_sweep.specs.Depths.{is_first, key_cmp}

pub key_total : IsTotalOrder key_cmp
key_total =
    then_total (λ (a b : Key). ordering_then (text_cmp a.snapshotter b.snapshotter) (nat_cmp b.depth a.depth)) (λ (a b : Key). nat_cmp a.number b.number)
    (then_total (λ (a b : Key). text_cmp a.snapshotter b.snapshotter) (λ (a b : Key). nat_cmp b.depth a.depth)
    (on_total (λ (k : Key). k.snapshotter) nat_list_cmp_total) (on_total (λ (k : Key). k.depth) deepest_total))
    (on_total (λ (k : Key). k.number) nat_cmp_total)

pub key_exact : (a b : Key) → key_cmp a b ≡ Equal → a ≡ b
key_exact a b h = go (text_cmp a.snapshotter b.snapshotter) (nat_cmp b.depth a.depth) refl refl h
  where
    go : (r s : Ordering) → text_cmp a.snapshotter b.snapshotter ≡ r → nat_cmp b.depth a.depth ≡ s
        → ordering_then (ordering_then r s) (nat_cmp a.number b.number) ≡ Equal → a ≡ b
    go Less s e f h = absurd cc
    go Greater s e f h = absurd cc
    go Equal Less e f h = absurd cc
    go Equal Greater e f h = absurd cc
    go Equal Equal e f h =
        let name : a.snapshotter ≡ b.snapshotter = exact_bytes a.snapshotter b.snapshotter e in
        let depth : a.depth ≡ b.depth = sym (exact_unsigned b.depth a.depth f) in
        let number : a.number ≡ b.number = exact_unsigned a.number b.number h in
        λ i. record { snapshotter = name i; depth = depth i; number = number i }

-- the test of the definitions is this order
pub first_is : (a b : Key) → is_first a b ≡ is_lt (key_cmp a b)
first_is a b =
    (λ i. is_lt (text_cmp a.snapshotter b.snapshotter) || sym (is_eq-slice_cmp a.snapshotter b.snapshotter) i
    && (sym (is_lt-nat b.depth a.depth) i || sym (is_eq-nat b.depth a.depth) i && sym (is_lt-nat a.number b.number) i))
    ∙ go (text_cmp a.snapshotter b.snapshotter) (nat_cmp b.depth a.depth) (nat_cmp a.number b.number)
  where
    go : (r s t : Ordering) → (is_lt r || is_eq r && (is_lt s || is_eq s && is_lt t)) ≡ is_lt (ordering_then (ordering_then r s) t)
    go Less s t = refl
    go Equal Less t = refl
    go Equal Equal Less = refl
    go Equal Equal Equal = refl
    go Equal Equal Greater = refl
    go Equal Greater t = refl
    go Greater s t = refl
