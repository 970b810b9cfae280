-- The row of a lease has the id that it was asked by.
use Rattle.std.proofs.Common.{◌≡◌, true, List, [], ◌∷◌, Some, refl, sym, inl, inr}
use Rattle.std.specs.Prelude.{bytes_eq}
use Rattle.std.specs.Cmp.Lexicographic.{same_text}
use Rattle.std.proofs.lemmas.Bool.{cases_Bool, and_parts}
use Rattle.meta_types.specs.Text.{Text}
use Rattle.meta_types.specs.Keys.{is_key, row_at}
use Rattle.meta_types.specs.Rows.{LeaseRow, lease_key}
use Rattle.meta_types.specs.Ops.{row_reply}
use Rattle.meta_types.specs.declared.reply.ReplyRow.TheVariants as W
use Rattle.meta_types.specs.declared.reply.Reply.TheVariants as R

pub lease_shown : (ns id : Text) (rows : List LeaseRow) (lease : LeaseRow) → Some lease
    ≡ row_at lease_key (ns ∷ id ∷ []) rows
    → R.Row (W.Lease id lease.labels lease.extra) ≡ row_reply
    (λ (row : LeaseRow). W.Lease row.id row.labels row.extra)
    (row_at lease_key (ns ∷ id ∷ []) rows)
lease_shown ns id [] lease h = absurd cc
lease_shown ns id (row ∷ rows) lease h = elim (cases_Bool (is_key (ns ∷ id ∷ []) (lease_key row))) [
  | inl t ↦ (
      let here : Some lease ≡ Some row = rw t at h in
      let is : lease ≡ row = cc in
      let same : id ≡ row.id = same_text id row.id (sym (and_parts (bytes_eq id row.id) true (and_parts (bytes_eq ns row.ns) _ t).1).0) in
      rw (t, same, is) refl)
  | inr f ↦ rw f (lease_shown ns id rows lease (rw f at h))
]
