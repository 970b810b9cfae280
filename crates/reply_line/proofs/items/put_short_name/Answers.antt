use Rattle.std.proofs.Common.{◌∙◌, ap, sym, ◌++◌, ◌∷◌, []}
use Rattle.std.proofs.lemmas.Result.{on_ok_weaker}
use Rattle.reply_line.proofs.Plain.{escape_plain}
use Rattle.reply_line.proofs.ShortNamesPlain.{short_name_plain}
use Rattle.reply_line.proofs.items.put_short_name.Goals as goal

-- no byte of it is escaped
pub returns : goal.returns
returns c =
    on_ok_weaker c.put_plain.result
    (λ put. put ∙ ap (λ text. c.args.block.now.items ++ 34 ∷ (text ++ 34 ∷ []))
    (c.as_bytes.ensures.value
    ∙ sym (escape_plain c.args.text.now (short_name_plain c.args.text.now c.requires))))
    c.put_plain.ensures
