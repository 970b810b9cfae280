-- What the byte at one place of a key tells, and what one label adds.
use Rattle.std.proofs.Common.{◌≡◌, ℕ, append-nil, append_assoc, true, false, List, [], ◌∷◌, ◌++◌, take, drop, length, refl, sym, ap, ap₂, ◌∙◌, Option, Some, None, if◌then◌else◌, not, ◌==◌, ◌||◌, take_while}
use Rattle.std.specs.Prelude.{bytes_eq, codes, slice_get}
use Rattle.std.specs.Option.{option_map_or}
use Rattle.std.proofs.lemmas.List.{take-append-drop}
use Rattle.std.proofs.lemmas.Grind.{flat_map-append}
use Rattle.std.proofs.lemmas.Slice.Eq.{bytes_eq-Decides}
use Rattle.std.proofs.lemmas.Bool.{false_from_ne_true}
use Rattle.meta_types.specs.Text.{Text, begins_with}
use Rattle.meta_types.specs.CollectorLabels.{content_ref_key, snapshot_prefix, is_content_key, snapshotter_in}
use Rattle.meta_types.specs.declared.resource.Mode.TheVariants.{Full}
use Rattle.meta_types.specs.declared.resource.Resource.TheVariants.{Content, Snapshot}
use Rattle.meta_types.specs.Labels.{LabelList}
use Rattle.gc_graph.specs.declared.node.Node.{Node}
use Rattle.gc_graph.specs.Targets.{node, content_target, snapshot_target, label_targets}
use Rattle.gc_graph.specs.Built.{numbers_in}
use Rattle.gc_graph.proofs.BookNumbers.{numbers_in-append}

-- what a key begins with stands in it
begun : (prefix key : Text) → begins_with prefix key ≡ true
    → key ≡ prefix ++ drop (length prefix) key
begun prefix key is =
    sym (take-append-drop (length prefix) key)
    ∙ ap (λ front. front ++ drop (length prefix) key)
    (sym ((bytes_eq-Decides prefix (take (length prefix) key)).0 is))

-- content's keys have a `c` there
pub no_content : (ns key value : Text) → (slice_get key 21 ≡ Some 99 → ⊥)
    → content_target ns (key, value) ≡ []
no_content ns key value never =
    let alone : bytes_eq key content_ref_key ≡ false =
    false_from_ne_true (bytes_eq key content_ref_key)
    (λ is. never (ap (λ k. slice_get k 21) ((bytes_eq-Decides key content_ref_key).0 is))) in
    let dotted : begins_with (content_ref_key ++ codes ".") key ≡ false =
    false_from_ne_true (begins_with (content_ref_key ++ codes ".") key)
    (λ is. never (ap (λ k. slice_get k 21) (begun (content_ref_key ++ codes ".") key is))) in
    let slashed : begins_with (content_ref_key ++ codes "/") key ≡ false =
    false_from_ne_true (begins_with (content_ref_key ++ codes "/") key)
    (λ is. never (ap (λ k. slice_get k 21) (begun (content_ref_key ++ codes "/") key is))) in
    let none : is_content_key key ≡ false = λ i. alone i || dotted i || slashed i in
    ap (λ b. if b then node ns (Content value) Full ∷ [] else []) none

-- those of snapshots an `s`
pub no_snapshot : (ns key value : Text) → (slice_get key 21 ≡ Some 115 → ⊥)
    → snapshot_target ns (key, value) ≡ []
no_snapshot ns key value never =
    let other : begins_with snapshot_prefix key ≡ false =
    false_from_ne_true (begins_with snapshot_prefix key)
    (λ is. never (ap (λ k. slice_get k 21) (begun snapshot_prefix key is))) in
    let none : snapshotter_in key ≡ None =
    ap (λ b. if b then Some (take_while (λ byte. not (byte == 47)) (drop (length snapshot_prefix) key)) else None)
    other in
    ap (λ s. option_map_or (λ name. node ns (Snapshot name value) Full ∷ []) s []) none

-- nothing behind, or nothing before
pub content_alone : (book : List Node) (old new : List ℕ) (content others : List Node)
    → new ≡ old ++ numbers_in book content → others ≡ []
    → new ≡ old ++ numbers_in book (content ++ others)
content_alone book old new content others is none =
    is ∙ ap (λ nodes. old ++ numbers_in book nodes)
    (sym (ap (λ o. content ++ o) none ∙ append-nil content))

pub snapshot_alone : (book : List Node) (old new : List ℕ) (content others : List Node)
    → new ≡ old ++ numbers_in book others → content ≡ []
    → new ≡ old ++ numbers_in book (content ++ others)
snapshot_alone book old new content others is none =
    is ∙ ap (λ nodes. old ++ numbers_in book nodes) (sym (ap (λ c. c ++ others) none))

pub neither : (book : List Node) (old : List ℕ) (content others : List Node) → content ≡ []
    → others ≡ [] → old ≡ old ++ numbers_in book (content ++ others)
neither book old content others none no_other =
    sym (ap₂ (λ c o. old ++ numbers_in book (c ++ o)) none no_other ∙ append-nil old)

-- a byte is that of one kind
pub not_that : (kind other : ℕ) (byte : Option ℕ) → byte ≡ Some kind → (kind ≡ other → ⊥)
    → byte ≡ Some other → ⊥
not_that kind other byte is differ same = differ (ap (λ b. option_map_or (λ n. n) b 0) (sym is ∙ same))

-- a label more
pub label_step : (book : List Node) (ns : Text) (start now new : List ℕ) (entries : LabelList)
    (label : Text × Text)
    → now ≡ start ++ numbers_in book (label_targets ns entries)
    → new ≡ now ++ numbers_in book (content_target ns label ++ snapshot_target ns label)
    → new ≡ start ++ numbers_in book (label_targets ns (entries ++ label ∷ []))
label_step book ns start now new entries label before more =
    let one = content_target ns label ++ snapshot_target ns label in
    let all : label_targets ns (entries ++ label ∷ []) ≡ label_targets ns entries ++ one =
    flat_map-append (λ l. content_target ns l ++ snapshot_target ns l) entries (label ∷ [])
    ∙ ap (λ t. label_targets ns entries ++ t) (append-nil one) in
    more ∙ ap (λ n. n ++ numbers_in book one) before
    ∙ append_assoc start (numbers_in book (label_targets ns entries)) (numbers_in book one)
    ∙ sym (ap (λ ts. start ++ numbers_in book ts) all
    ∙ ap (λ t. start ++ t) (numbers_in-append book (label_targets ns entries) one))
