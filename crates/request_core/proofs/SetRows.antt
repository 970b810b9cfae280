-- Parts of a row that were made go in the place of those that are there.
use Rattle.std.proofs.Common.{◌≡◌, ◌∙◌, Bool, true, false, not, ◌&&◌, List, [], ◌∷◌, Option, None, Some, ap, sym, refl, subst, true≢false}
use Rattle.std.specs.Prelude.{◌++◌, ◌||◌, is_none, Result, Ok, Err}
use Rattle.std.specs.Result.{IsErrAnd}
use Rattle.meta_types.specs.Text.{Text}
use Rattle.meta_types.specs.Labels.{LabelList}
use Rattle.meta_types.specs.Keys.{Key, row_at, change_row}
use Rattle.meta_types.specs.Updates.{update_tests}
use Rattle.meta_types.specs.Changes.{all_of}
use Rattle.meta_types.specs.Faults.{least_of}
use Rattle.meta_types.specs.Ops.{Outcome, least_fault}
use Rattle.meta_types.specs.declared.request.RowUpdate.{RowUpdate}
use Rattle.meta_types.specs.declared.fault.Fault.{Fault}
use Rattle.meta_types.specs.declared.reply.Reply.{Reply}
use Rattle.row_tables.proofs.ChangedThere.{same_there}
use Rattle.request_core.specs.Follows.{Store, FollowsExactly, FailsExactly}
use Rattle.request_core.specs.Made.{MakesParts, updating_fault}
use Rattle.request_core.specs.declared.refusal.Refusal.{Refusal}
use Rattle.request_core.specs.declared.refusal.Refusal.TheVariants.{Reading, By}
use Rattle.request_core.proofs.Refusals.{refused_exactly}

-- tests that hold leave the others
not_both : (a b : Bool) → a ≡ true → (not a || b) ≡ b
not_both true b e = refl
not_both false b e = absurd (true≢false (sym e))

others_left : (a : Bool) (others tests : List Bool) → all_of (a ∷ others) ≡ true
    → (all_of others ≡ true → all_of (others ++ tests) ≡ all_of tests)
    → all_of (a ∷ others ++ tests) ≡ all_of tests
others_left true others tests e rest = rest e
others_left false others tests e rest = absurd (true≢false (sym e))

all_left : (others tests : List Bool) → all_of others ≡ true → all_of (others ++ tests)
    ≡ all_of tests
all_left [] tests e = refl
all_left (a ∷ others) tests e = others_left a others tests e (all_left others tests)

module _ {Row : Type 0} where
  -- what is put at the row that is there is what the request sets
  pub set_is : (key_of : Row → Key) (key : Key) (put set : Row → Row) (row : Row) (rows : List Row)
      → row_at key_of key rows ≡ Some row → put row ≡ set row
      → change_row key_of key put rows ≡ change_row key_of key set rows
  set_is key_of key put set row rows found same =
      sym (same_there key_of key put row rows found)
      ∙ ap (λ (r : Row). change_row key_of key (λ _. r) rows) same
      ∙ same_there key_of key set row rows found

  module _ (labels_in : Row → LabelList) (extra_in : Row → Text) (update : RowUpdate) where
    -- where the other texts are allowed, the request is refused as its update is
    pub updating_is : (o : Outcome) (named : Bool) (others : List Bool) (at found : Option Row)
        → found ≡ at → named ≡ true → all_of others ≡ true
        → o.invalid ≡ (not named || not (all_of (others ++ update_tests labels_in update at)))
        → o.missing ≡ is_none at → o.there ≡ false → o.forbidden ≡ false
        → least_fault o ≡ updating_fault labels_in update found
    updating_is o named others at found is name rest invalid missing there forbidden =
        (λ i. least_of (invalid i) (missing i) (there i) (forbidden i))
        ∙ ap (λ b. least_of b (is_none at) false false)
        (not_both named (not (all_of (others ++ update_tests labels_in update at))) name
        ∙ ap not (all_left others (update_tests labels_in update at) rest))
        ∙ ap (updating_fault labels_in update) (sym is)

    -- a request whose parts were refused is refused as they were
    pub parts_refused : (found : Option Row) (old : Store) (o : Outcome) (r : Result Reply Refusal)
        (refusal : Refusal)
        → IsErrAnd r (λ other. other ≡ refusal) → MakesParts labels_in extra_in update found
        (Err refusal)
        → least_fault o ≡ updating_fault labels_in update found → FollowsExactly old o r old
    parts_refused found old o (Ok reply) refusal same made is = absurd same
    parts_refused found old o (Err other) refusal same made is =
        subst (λ (x : Refusal). FollowsExactly old o (Err x) old) (sym same) (go refusal made)
      where
        go : (x : Refusal) → MakesParts labels_in extra_in update found (Err x)
            → FollowsExactly old o (Err x) old
        go Reading m = refl
        go (By fault) m =
            let refused = refused_exactly old old fault
            (not (all_of (update_tests labels_in update found))) (is_none found) false false m refl
            in
            (subst (FailsExactly fault) (sym is) refused.0, refused.1)
