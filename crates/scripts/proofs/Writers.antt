-- On what a writer holds and a reader has left.
use Rattle.std.proofs.Common.{refl, ℕ, List, [], Option, Some, None}
use Rattle.std.specs.Io.KnownBytes.{Consumes}
pub use Rattle.reply_line.proofs.Putting.{Appends-none, WritesFront-append, WritesFront-after, holds_on_err}

pub Consumes-none : (left : Option (List ℕ)) → Consumes left left []
Consumes-none None = tt
Consumes-none (Some xs) = refl
