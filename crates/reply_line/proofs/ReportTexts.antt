-- A report's text is what its writer puts behind one another.
use Rattle.std.proofs.Common.{
  ◌≡◌,
  ◌∙◌,
  refl,
  sym,
  ap,
  ap₂,
  ℕ,
  List,
  ◌++◌,
  ◌∷◌,
  [],
  Bool,
  true,
  false,
  codes,
  append_assoc,
}
use Rattle.serde_json.proofs.OnLiterals.{serde_json_on_literals}
use Rattle.serde_json.proofs.Texts.{print-outline}
use Rattle.serde_json.specs.Data.{Data, boolean, string}
use Rattle.serde_json.specs.Written.{compact_text, comma_if}
use Rattle.json.specs.Print.{print}
use Rattle.json.specs.Written.{Written}
use Rattle.meta_types.specs.Backends.{BackNames}
use Rattle.meta_types.specs.Reports.{Report, Removed}
use Rattle.meta_types.specs.Steps.{reported}
use Rattle.gc_report.specs.Reports.{
  count_data,
  snapshot_data,
  pair_data,
  triple_data,
  list_data,
  objects_data,
  kept_data,
  images_if,
  removed_data,
  report_with,
  report_data,
  has_images,
}
use Rattle.gc_report.specs.Writing.{tokens_of, Adds}
use Rattle.reply_line.specs.Replies.{answer_text}
use Rattle.reply_line.specs.ReportTexts.{images_text, front_text, end_text}

-- a value's tokens are printed behind what stood there
pub value_put : (value : Data) (old new : Written) (items stood : List ℕ) → old.before ≡ stood →
    old.tokens ≡ [] → Adds old new (tokens_of value) → items ≡ new.before ++ print new.tokens →
    items ≡ stood ++ compact_text value
value_put value old new items stood before empty adds is =
    is ∙ ap₂ (λ b ts. b ++ print ts) (adds.before ∙ before) (adds.tokens ∙ ap (λ ts. ts ++ tokens_of
    value) empty)
    ∙ ap (λ text. stood ++ text) (print-outline value)

-- one item more of a list
pub item_more : (done text rest : List ℕ) (later : Bool) → (done ++ (comma_if later ++ text)) ++
    rest ≡ done ++ (comma_if later ++ (text ++ rest))
item_more done text rest later = append_assoc done (comma_if later ++ text) rest ∙ ap (λ t. done ++
    t) (append_assoc (comma_if later) text rest)

pub objects_whole : (o : BackNames) → (codes "{\"blobs\":" ++ compact_text (list_data string
    o.blobs)) ++ ((codes ",\"ingests\":" ++ compact_text (list_data count_data o.ingests)) ++
    ((codes ",\"snapshots\":" ++ compact_text (list_data snapshot_data o.snapshots)) ++ codes "}"))
    ≡ compact_text (objects_data o)
unfolding serde_json_on_literals
objects_whole o = refl

pub removed_whole : (w : Bool) (r : Removed) → (codes "{\"content\":" ++ compact_text (list_data
    pair_data r.content)) ++ (images_text w (codes ",\"images\":") r.images
    ++ ((codes ",\"ingests\":" ++ compact_text (list_data pair_data r.ingests)) ++ ((codes
    ",\"leases\":" ++ compact_text (list_data pair_data r.leases))
    ++ ((codes ",\"snapshots\":" ++ compact_text (list_data triple_data r.snapshots)) ++ codes
    "}"))))
    ≡ compact_text (removed_data w r)
unfolding serde_json_on_literals
removed_whole true r = refl
removed_whole false r = refl

-- six texts, and one behind them
six_then : (a b c d e f y : List ℕ) → (a ++ (b ++ (c ++ (d ++ (e ++ f))))) ++ y ≡ a ++ (b ++ (c ++
    (d ++ (e ++ (f ++ y)))))
six_then a b c d e f y =
    append_assoc a (b ++ (c ++ (d ++ (e ++ f)))) y ∙ ap (λ t. a ++ t)
    (append_assoc b (c ++ (d ++ (e ++ f))) y ∙ ap (λ t. b ++ t)
    (append_assoc c (d ++ (e ++ f)) y ∙ ap (λ t. c ++ t)
    (append_assoc d (e ++ f) y ∙ ap (λ t. d ++ t) (append_assoc e f y))))

members_whole : (w : Bool) (r : Report) →
    codes "{\"backend\":" ++ (compact_text (objects_data r.backend)
    ++ ((codes ",\"dry\":" ++ compact_text (boolean r.dry))
    ++ (codes ",\"failed\":" ++ (compact_text (objects_data r.failed)
    ++ ((codes ",\"ignored\":" ++ compact_text (list_data pair_data r.ignored))
    ++ (images_text w (codes ",\"ignored_images\":") r.ignored_images
    ++ ((codes ",\"kept\":" ++ compact_text (kept_data r.kept))
    ++ (codes ",\"removed\":" ++ (compact_text (removed_data w r.removed)
    ++ ((codes ",\"scanned\":" ++ compact_text (count_data r.scanned)) ++ codes "}"))))))))))
    ≡ compact_text (report_with (objects_data r.backend) r.dry (objects_data r.failed) (list_data
    pair_data r.ignored) (images_if w r.ignored_images) (kept_data r.kept) (removed_data w
    r.removed) r.scanned)
unfolding serde_json_on_literals
members_whole true r = refl
members_whole false r = refl

pub report_whole : (r : Report) → front_text r ++ end_text r ≡ compact_text (report_data r)
report_whole r =
    six_then (codes "{\"backend\":") (compact_text (objects_data r.backend)) (codes ",\"dry\":" ++
    compact_text (boolean r.dry)) (codes ",\"failed\":") (compact_text (objects_data r.failed))
    (codes ",\"ignored\":" ++ compact_text (list_data pair_data r.ignored)) (end_text r)
    ∙ members_whole (has_images r) r

pub reply_whole : (r : Report) → codes "{\"ok\":true,\"report\":" ++ (compact_text (report_data r)
    ++ codes "}\n") ≡ answer_text (reported r) ++ 10 ∷ []
unfolding serde_json_on_literals answer_text
reply_whole r = ap (λ text. codes "{\"ok\":true,\"report\":" ++ text) (sym (append_assoc
    (compact_text (report_data r)) (codes "}") (codes "\n")))
