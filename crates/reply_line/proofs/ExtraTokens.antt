-- The tokens of a row, whose data may be left out.
use Rattle.std.proofs.Common.{◌≡◌, refl, [], ◌∷◌, ◌++◌, codes, Option, Some, None}
use Rattle.json.specs.Token.{begin_object, end_object}
use Rattle.serde_json.specs.Data.{Data, object, no_members, member}
use Rattle.gc_report.specs.Reports.{member_if}
use Rattle.gc_report.specs.Writing.{tokens_of, member_tokens}
use Rattle.reply_line.specs.StepWriting.{tokens_if}

pub image_tokens : (extra : Option Data) (labels name target : Data) → tokens_of (object
    (member_if (codes "data") extra
    (member (codes "labels") labels
    (member (codes "name") name
    (member (codes "target") target no_members))))) ≡ begin_object ∷ (
    tokens_if (codes "data") extra ++ (
    member_tokens (codes "labels") labels ++ (
    member_tokens (codes "name") name ++ (
    member_tokens (codes "target") target ++ end_object ∷ []))))
image_tokens None labels name target = refl
image_tokens (Some d) labels name target = refl

pub container_tokens : (extra : Option Data) (labels name snapshot : Data) → tokens_of (object
    (member_if (codes "data") extra
    (member (codes "labels") labels
    (member (codes "name") name
    (member (codes "snapshot") snapshot no_members))))) ≡ begin_object ∷ (
    tokens_if (codes "data") extra ++ (
    member_tokens (codes "labels") labels ++ (
    member_tokens (codes "name") name ++ (
    member_tokens (codes "snapshot") snapshot ++ end_object ∷ []))))
container_tokens None labels name snapshot = refl
container_tokens (Some d) labels name snapshot = refl

pub content_tokens : (extra : Option Data) (digest labels : Data) → tokens_of (object
    (member_if (codes "data") extra
    (member (codes "digest") digest
    (member (codes "labels") labels no_members)))) ≡ begin_object ∷ (
    tokens_if (codes "data") extra ++ (
    member_tokens (codes "digest") digest ++ (
    member_tokens (codes "labels") labels ++ end_object ∷ [])))
content_tokens None digest labels = refl
content_tokens (Some d) digest labels = refl

pub ingest_tokens : (extra : Option Data) (expected number own ref : Data) → tokens_of (object
    (member_if (codes "data") extra
    (member (codes "expected") expected
    (member (codes "number") number
    (member (codes "own") own
    (member (codes "ref") ref no_members)))))) ≡ begin_object ∷ (
    tokens_if (codes "data") extra ++ (
    member_tokens (codes "expected") expected ++ (
    member_tokens (codes "number") number ++ (
    member_tokens (codes "own") own ++ (
    member_tokens (codes "ref") ref ++ end_object ∷ [])))))
ingest_tokens None expected number own ref = refl
ingest_tokens (Some d) expected number own ref = refl

pub snap_tokens : (extra : Option Data) (key kind labels number parent : Data) (above : Option Data)
    → tokens_of (object
    (member_if (codes "data") extra
    (member (codes "key") key
    (member (codes "kind") kind
    (member (codes "labels") labels
    (member (codes "number") number
    (member (codes "parent") parent
    (member_if (codes "parent_number") above no_members)))))))) ≡ begin_object ∷ (
    tokens_if (codes "data") extra ++ (
    member_tokens (codes "key") key ++ (
    member_tokens (codes "kind") kind ++ (
    member_tokens (codes "labels") labels ++ (
    member_tokens (codes "number") number ++ (
    member_tokens (codes "parent") parent ++ (
    tokens_if (codes "parent_number") above ++ end_object ∷ [])))))))
snap_tokens None key kind labels number parent None = refl
snap_tokens (Some d) key kind labels number parent None = refl
snap_tokens None key kind labels number parent (Some n) = refl
snap_tokens (Some d) key kind labels number parent (Some n) = refl

pub lease_tokens : (extra : Option Data) (id labels : Data) → tokens_of (object
    (member_if (codes "data") extra
    (member (codes "id") id
    (member (codes "labels") labels no_members)))) ≡ begin_object ∷ (
    tokens_if (codes "data") extra ++ (
    member_tokens (codes "id") id ++ (
    member_tokens (codes "labels") labels ++ end_object ∷ [])))
lease_tokens None id labels = refl
lease_tokens (Some d) id labels = refl
