-- On replies, in the words of a run.
use Rattle.std.proofs.Common.{◌≡◌, refl, ℕ, List, Option, Some, None}
use Rattle.line_loop.specs.Runs.{reply_bytes as bytes_of}
use Rattle.scripts.specs.ReplyTexts.{reply_bytes}
use Rattle.scripts.specs.declared.reply_text.ReplyText.{ReplyText}
use Rattle.scripts.specs.StoreSteps.{said_bytes}

pub same_bytes : (reply : Option ReplyText) → reply_bytes reply ≡ bytes_of said_bytes reply
same_bytes None = refl
same_bytes (Some said) = refl
