use Rattle.std.proofs.Common.{◌∙◌, ap, refl}
use Rattle.std.specs.List.{list_all}
use Rattle.std.proofs.lemmas.List.{take_all}
use Rattle.json.specs.Run.{is_plain}
use Rattle.reply_line.proofs.Plain.{plain_more}
use Rattle.reply_line.proofs.items.are_plain.Goals as goal

-- one byte more
pub loop-byte-preserved : goal.loop-byte-preserved
loop-byte-preserved c =
    plain_more c.args.text.now c.loop-byte.byte-index c.loop-byte.plain c.is_plain-plain.result _
    c.loop-byte-test.true refl c.is_plain-plain.ensures c.loop-byte.invariant

-- all bytes
pub returns : goal.returns
returns c = c.loop-byte.invariant ∙ ap (list_all is_plain) (take_all c.loop-byte.byte-index
    c.args.text.now c.loop-byte-test.false)
