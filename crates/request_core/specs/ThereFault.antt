-- The fault "there already". Ours, unless a source stands beside.
use Rattle.std.specs.Prelude.{Bool, true, false}
use Rattle.meta_types.specs.declared.fault.Fault.{Fault}
use Rattle.meta_types.specs.declared.fault.Fault.TheVariants.{InvalidArgument, NotFound, AlreadyExists, FailedPrecondition, BadLine, TooLong, OutOfMemory, NoWorker, BackendFailed, ReadFailed, WriteFailed, Mismatch}

-- it says that what is made is there (containerd's error classes)
abbrev pub says_there : Fault → Bool
says_there InvalidArgument = false
says_there NotFound = false
says_there AlreadyExists = true
says_there FailedPrecondition = false
says_there OutOfMemory = false
says_there BackendFailed = false
says_there BadLine = false
says_there TooLong = false
says_there NoWorker = false
says_there ReadFailed = false
says_there WriteFailed = false
says_there (Mismatch place) = false
