-- An error that a caller hands on.
use Rattle.std.proofs.Common.{◌≡◌, ◌∙◌, ap, sym, Result, Ok, Err, IsErrAnd}

pub same_error : {T U E : Type 0} (inner : Result T E) (outer : Result U E) (error told : E)
    → inner ≡ Err error → IsErrAnd outer (λ other. other ≡ error)
    → outer ≡ Err told → inner ≡ Err told
same_error inner (Ok x) error told is passed out = absurd passed
same_error inner (Err other) error told is passed out = let same : other ≡ told = cc out in is
    ∙ ap Err (sym passed ∙ same)
