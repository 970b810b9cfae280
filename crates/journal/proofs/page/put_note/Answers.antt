use Rattle.std.proofs.Common.{◌≡◌, ◌≤◌, ◌+◌, ◌∙◌, ap, ℕ, length, replicate, arith}
use Rattle.std.proofs.lemmas.List.{length-replicate}
use Rattle.journal.proofs.NotePuts.{none_left, blank_left, zeros_left, text_left, put_whole, either_left}
use Rattle.journal.proofs.page.put_note.Goals as goal

pub returns-in_err-put-clause-crash : goal.returns-in_err-put-clause-crash
returns-in_err-put-clause-crash g c clean only out left =
    let is = c.is_whole.ensures c.if-not-is_whole.false in
    let it = c.args.note in
    let at = c.args.at in
    let text = g.L.Log.text c.args.log.now in
    let are : c.deref.result.now ≡ replicate 197 0 = c.deref.ensures.value
    ∙ c.in_ok-zeros.ensures in
    let size : length c.deref.result.now ≡ 197 = ap length are ∙ length-replicate {A = ℕ} 197 0 in
    either_left at it text text c.deref.result.now _ _ only (none_left at it is text)
    (λ fits mixed file. blank_left at it is text (omega (arith, fits, size)) c.deref.result.now
    mixed file are) (c.put.ensures.crash clean only) out left

-- zeros stand there, and the note or a part of it
pub returns-in_err-put-2-clause-crash : goal.returns-in_err-put-2-clause-crash
returns-in_err-put-2-clause-crash g c clean only out left =
    let is = c.is_whole.ensures c.if-not-is_whole.false in
    let it = c.args.note in
    let at = c.args.at in
    let text = g.L.Log.text c.args.log.now in
    let are : c.deref.result.now ≡ replicate 197 0 = c.deref.ensures.value
    ∙ c.in_ok-zeros.ensures in
    let whole = c.deref-2.ensures.value ∙ c.in_ok-text.ensures in
    let size : length c.deref.result.now ≡ 197 = ap length are ∙ length-replicate {A = ℕ} 197 0 in
    let room = c.in_ok-put.ensures.fits clean in
    let fits : at + 197 ≤ length text = omega (arith, room, size) in
    let blank = c.in_ok-put.ensures.ok clean in
    let rests = c.in_ok-put.ensures.durable clean in
    either_left at it text _ c.deref-2.result.now _ _ rests
    (zeros_left at it is text fits c.deref.result.now _ are blank)
    (λ more mixed file. text_left at it is text fits c.deref.result.now _ are blank
    c.deref-2.result.now mixed file whole)
    (c.put-2.ensures.crash (c.put.ensures.calm ∙ clean) rests) out left

pub returns-clause-crash : goal.returns-clause-crash
returns-clause-crash g c clean only out left =
    let is = c.is_whole.ensures c.if-not-is_whole.false in
    let it = c.args.note in
    let at = c.args.at in
    let text = g.L.Log.text c.args.log.now in
    let are : c.deref.result.now ≡ replicate 197 0 = c.deref.ensures.value
    ∙ c.in_ok-zeros.ensures in
    let whole = c.deref-2.ensures.value ∙ c.in_ok-text.ensures in
    let size : length c.deref.result.now ≡ 197 = ap length are ∙ length-replicate {A = ℕ} 197 0 in
    let room = c.in_ok-put.ensures.fits clean in
    let fits : at + 197 ≤ length text = omega (arith, room, size) in
    let blank = c.in_ok-put.ensures.ok clean in
    let rests = c.in_ok-put.ensures.durable clean in
    either_left at it text _ c.deref-2.result.now _ _ rests
    (zeros_left at it is text fits c.deref.result.now _ are blank)
    (λ more mixed file. text_left at it is text fits c.deref.result.now _ are blank
    c.deref-2.result.now mixed file whole)
    (c.put-2.ensures.crash (c.put.ensures.calm ∙ clean) rests) out left

pub returns-clause-ok : goal.returns-clause-ok
returns-clause-ok g c clean =
    let is = c.is_whole.ensures c.if-not-is_whole.false in
    let it = c.args.note in
    let at = c.args.at in
    let text = g.L.Log.text c.args.log.now in
    let are : c.deref.result.now ≡ replicate 197 0 = c.deref.ensures.value
    ∙ c.in_ok-zeros.ensures in
    let size : length c.deref.result.now ≡ 197 = ap length are ∙ length-replicate {A = ℕ} 197 0 in
    let room = c.in_ok-put.ensures.fits clean in
    let fits : at + 197 ≤ length text = omega (arith, room, size) in
    put_whole at it is text fits c.deref.result.now _ are (c.in_ok-put.ensures.ok clean)
    c.deref-2.result.now _ (c.deref-2.ensures.value ∙ c.in_ok-text.ensures)
    (c.in_ok-put-2.ensures.ok (c.put.ensures.calm ∙ clean))
