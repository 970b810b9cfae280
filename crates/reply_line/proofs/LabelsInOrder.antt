-- Labels in the order of their keys are members in that order.
use Rattle.std.proofs.Common.{◌≡◌, ◌∙◌, ap, refl, sym, ℕ, ◌<◌, ◌+◌, length, take, get_or, List, [], ◌∷◌, ◌++◌, append_assoc, append-nil, true, arith, String, Global, string_bytes}
use Rattle.std.specs.Prelude.{flat_map}
use Rattle.std.specs.Ordering.{is_lt, ordering_reverse, ordering_then, nat_cmp}
use Rattle.std.specs.Cmp.Lexicographic.{slice_cmp}
use Rattle.std.specs.declared.cmp.Ordering.{Ordering}
use Rattle.std.specs.declared.cmp.Ordering.TheVariants.{Less, Equal, Greater}
use Rattle.std.proofs.lemmas.Grind.{flat_map-append}
use Rattle.std.proofs.lemmas.List.{map-append, take_more}
use Rattle.std.proofs.lemmas.Bool.{and_parts}
use Rattle.std.proofs.lemmas.Cmp.{nat_list_cmp_total}
use Rattle.std.proofs.lemmas.List.Elements.{All-contains, Contains-append_right}
use Rattle.json.specs.Token.{Token, end_object}
use Rattle.json.specs.Tree.{members_tokens}
use Rattle.serde_json.specs.Data.{string, Members, no_members, member, put}
use Rattle.serde_json.specs.Written.{members_outline}
use Rattle.gc_report.specs.Writing.{member_tokens}
use Rattle.meta_types.specs.Text.{Text, text_cmp, texts_of}
use Rattle.meta_types.specs.Keys.{is_before, is_first, are_in_order}
use Rattle.meta_types.specs.Labels.{LabelList, label_key}
use Rattle.meta_types.proofs.OneRowPerKey.{before_all}
use Rattle.reply_line.specs.Replies.{with_labels}

-- the labels as members, one behind the other
abbrev pub members_of : LabelList → Members
members_of [] = no_members
members_of (label ∷ labels) = member label.0 (string label.1) (members_of labels)

less : (r : Ordering) → is_lt (ordering_then r Equal) ≡ true → r ≡ Less
less Less e = refl
less Equal e = absurd cc
less Greater e = absurd cc

-- a label that stands behind all of these goes last
put_last : (done : LabelList) (label : Text × Text) (more : LabelList) → are_in_order label_key (done ++ label ∷ more) ≡ true
    → put label.0 (string label.1) (members_of done) ≡ members_of (done ++ label ∷ [])
put_last [] label more h = refl
put_last (first ∷ done) label more h =
    let parts = and_parts (is_first label_key first (done ++ label ∷ more)) (are_in_order label_key (done ++ label ∷ more)) h in
    let before : is_before (label_key first) (label_key label) ≡ true = All-contains (λ (l : Text × Text). is_before (label_key first) (label_key l) ≡ true) (done ++ label ∷ more) label (before_all label_key first (done ++ label ∷ more) parts.0 parts.1)
    (Contains-append_right done (label ∷ more) label (0, omega arith, refl)) in
    let above : slice_cmp nat_cmp label.0 first.0 ≡ Greater = nat_list_cmp_total.antisymm label.0 first.0 ∙ ap ordering_reverse (less (text_cmp first.0 label.0) before) in
    rw above (ap (member first.0 (string first.1)) (put_last done label more parts.1))

with_more : (done labels : LabelList) → are_in_order label_key (done ++ labels) ≡ true → with_labels (members_of done) labels ≡ members_of (done ++ labels)
with_more done [] h = ap members_of (sym (append-nil done))
with_more done (label ∷ labels) h =
    let split : (done ++ label ∷ []) ++ labels ≡ done ++ label ∷ labels = append_assoc done (label ∷ []) labels in
    ap (λ ms. with_labels ms labels) (put_last done label labels h) ∙ with_more (done ++ label ∷ []) labels (ap (are_in_order label_key) split ∙ h) ∙ ap members_of split

-- labels in their order are put one behind the other
pub with_labels-in_order : (labels : LabelList) → are_in_order label_key labels ≡ true → with_labels no_members labels ≡ members_of labels
with_labels-in_order labels h = with_more [] labels h

-- the tokens of labels
abbrev pub label_tokens : LabelList → List Token
label_tokens = flat_map (λ (label : Text × Text). member_tokens label.0 (string label.1))

-- one label more
pub label_tokens-more : (labels : List (String Global × String Global)) (i : ℕ) (label : String Global × String Global) → i < length labels → label ≡ get_or labels i label
    → label_tokens (texts_of (take (i + 1) labels)) ≡ label_tokens (texts_of (take i labels)) ++ member_tokens (string_bytes label.0) (string (string_bytes label.1))
label_tokens-more labels i label lt is =
    let front = texts_of (take i labels) in
    let last : Text × Text = (string_bytes label.0, string_bytes label.1) in
    let more : texts_of (take (i + 1) labels) ≡ front ++ last ∷ [] = rw (take_more labels i label lt, ← is) (map-append _ (take i labels) (label ∷ [])) in
    ap label_tokens more ∙ flat_map-append (λ (l : Text × Text). member_tokens l.0 (string l.1)) front (last ∷ [])

-- all labels, and the closing brace
pub members_tokens-labels : (labels : LabelList) → label_tokens labels ++ end_object ∷ [] ≡ members_tokens (members_outline (members_of labels))
members_tokens-labels [] = refl
members_tokens-labels (label ∷ labels) = ap (λ ts. member_tokens label.0 (string label.1) ++ ts) (members_tokens-labels labels)
