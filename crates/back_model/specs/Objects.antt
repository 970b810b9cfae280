-- What backends of blobs and of ingests hold: lists in order. Ours, unless a source stands beside.
use Rattle.std.specs.Prelude.{ℕ, Bool, not, List, filter, bytes_eq, nat_lt, ◌==◌}
use Rattle.std.specs.List.{list_any}
use Rattle.std.specs.List.Sorted.{IsStrictlySortedBy}
use Rattle.std.specs.Ordering.{nat_cmp}
use Rattle.meta_types.specs.Text.{Text, text_cmp}
use Rattle.meta_types.specs.Keys.{put_in_order}

-- the blob is there (containerd content-flow.md)
abbrev pub has_blob : Text → List Text → Bool
has_blob digest blobs = list_any (bytes_eq digest) blobs

-- the blob goes
abbrev pub without_blob : Text → List Text → List Text
without_blob digest blobs = filter (λ other. not (bytes_eq digest other)) blobs

-- each digest stands before the next
abbrev pub AreOrderedBlobs : List Text → Type 0
AreOrderedBlobs = IsStrictlySortedBy text_cmp

-- the ingest's object is there
abbrev pub has_number : ℕ → List ℕ → Bool
has_number number numbers = list_any (λ other. other == number) numbers

-- one number more, in its place
abbrev pub put_number : ℕ → List ℕ → List ℕ
put_number number numbers = put_in_order nat_lt number numbers

-- the number goes
abbrev pub without_number : ℕ → List ℕ → List ℕ
without_number number numbers = filter (λ other. not (other == number)) numbers

-- each number stands before the next
abbrev pub AreOrderedNumbers : List ℕ → Type 0
AreOrderedNumbers = IsStrictlySortedBy nat_cmp
