-- The texts of answers that name nothing, computed.
use Rattle.std.proofs.Common.{◌≡◌, refl, ℕ, codes}
use Rattle.std.specs.Fmt.{digits}
use Rattle.serde_json.proofs.OnLiterals.{serde_json_on_literals}
use Rattle.meta_types.specs.Steps.{answered, refused}
use Rattle.meta_types.specs.declared.reply.Reply.TheVariants as R
use Rattle.meta_types.specs.declared.fault.Fault.TheVariants as F
use Rattle.reply_line.specs.Replies.{answer_text}

pub done : codes "{\"ok\":true}" ≡ answer_text (answered R.Done)
unfolding answer_text serde_json_on_literals digits
done = refl

pub invalid_argument : codes "{\"fault\":1,\"name\":\"InvalidArgument\"}" ≡ answer_text (refused (F.InvalidArgument))
unfolding answer_text serde_json_on_literals digits
invalid_argument = refl

pub not_found : codes "{\"fault\":2,\"name\":\"NotFound\"}" ≡ answer_text (refused (F.NotFound))
unfolding answer_text serde_json_on_literals digits
not_found = refl

pub already_exists : codes "{\"fault\":3,\"name\":\"AlreadyExists\"}" ≡ answer_text (refused (F.AlreadyExists))
unfolding answer_text serde_json_on_literals digits
already_exists = refl

pub failed_precondition : codes "{\"fault\":4,\"name\":\"FailedPrecondition\"}" ≡ answer_text (refused (F.FailedPrecondition))
unfolding answer_text serde_json_on_literals digits
failed_precondition = refl

pub bad_line : codes "{\"fault\":5,\"name\":\"BadLine\"}" ≡ answer_text (refused (F.BadLine))
unfolding answer_text serde_json_on_literals digits
bad_line = refl

pub too_long : codes "{\"fault\":6,\"name\":\"TooLong\"}" ≡ answer_text (refused (F.TooLong))
unfolding answer_text serde_json_on_literals digits
too_long = refl

pub out_of_memory : codes "{\"fault\":7,\"name\":\"OutOfMemory\"}" ≡ answer_text (refused (F.OutOfMemory))
unfolding answer_text serde_json_on_literals digits
out_of_memory = refl

pub no_worker : codes "{\"fault\":8,\"name\":\"NoWorker\"}" ≡ answer_text (refused (F.NoWorker))
unfolding answer_text serde_json_on_literals digits
no_worker = refl

pub backend_failed : codes "{\"fault\":9,\"name\":\"BackendFailed\"}" ≡ answer_text (refused (F.BackendFailed))
unfolding answer_text serde_json_on_literals digits
backend_failed = refl

pub read_failed : codes "{\"fault\":10,\"name\":\"ReadFailed\"}" ≡ answer_text (refused (F.ReadFailed))
unfolding answer_text serde_json_on_literals digits
read_failed = refl

pub write_failed : codes "{\"fault\":11,\"name\":\"WriteFailed\"}" ≡ answer_text (refused (F.WriteFailed))
unfolding answer_text serde_json_on_literals digits
write_failed = refl

pub mismatch : (place : ℕ) → codes "{\"fault\":12,\"name\":\"Mismatch\"}" ≡ answer_text (refused (F.Mismatch place))
unfolding answer_text serde_json_on_literals digits
mismatch place = refl
