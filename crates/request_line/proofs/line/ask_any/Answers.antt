use Rattle.std.proofs.Common.{◌≡◌, refl, inr, Bool, true, false, ◌↔◌, IsTrue}
use Rattle.std.proofs.lemmas.Str.{is_utf8-from_IsUtf8}
use Rattle.request_line.proofs.Asking.{command_in-value, command_in-unread}
use Rattle.request_line.proofs.line.ask_any.Goals as goal

not_true : (b : Bool) (P : Type 0) → IsTrue b ↔ P → b ≡ false → ¬ P
not_true b P both off p = let on : b ≡ true = both.1 p in cc

-- the line asks for what its value asks for
pub returns-in-Ok-clause-fault : goal.returns-in-Ok-clause-fault
returns-in-Ok-clause-fault c =
    let line = c.args.line.now in
    let read = c.in-Ok.ensures.ok in
    rw (command_in-value line _ (is_utf8-from_IsUtf8 line read.0) read.1) c.ask_by.ensures.fault

-- the line asks for what its value asks for
pub returns-in-Ok-clause-ok : goal.returns-in-Ok-clause-ok
returns-in-Ok-clause-ok c =
    let line = c.args.line.now in
    let read = c.in-Ok.ensures.ok in
    rw (command_in-value line _ (is_utf8-from_IsUtf8 line read.0) read.1) c.ask_by.ensures.ok

-- the line is no UTF-8 or no JSON
pub returns-in-Err-2-clause-fault : goal.returns-in-Err-2-clause-fault
returns-in-Err-2-clause-fault c =
    let other = not_true c.is_memory.result _ c.is_memory.ensures c.if-is_memory.false in
    inr (refl, command_in-unread c.args.line.now (c.in-Err.ensures.err other))
