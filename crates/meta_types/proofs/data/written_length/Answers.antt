use Rattle.std.proofs.Common.{◌∙◌, ◌+◌, sym, ap, arith}
use Rattle.std.specs.Prelude.{sum_by}
use Rattle.std.proofs.lemmas.List.{take_all}
use Rattle.std.proofs.lemmas.List.Sums.{sum_by_more}
use Rattle.meta_types.specs.Data.{written_bytes}
use Rattle.meta_types.proofs.WrittenData.{few_bytes}
use Rattle.meta_types.proofs.data.written_length.Goals as goal

-- one byte more
pub loop-byte-preserved : goal.loop-byte-preserved
loop-byte-preserved c = record {
  sum = (λ k. c.loop-byte.invariant.sum k + c.written_bytes-written.ensures k)
      ∙ sym (sum_by_more written_bytes c.args.text.now c.loop-byte.byte-index 0
      c.loop-byte-test.true);
  few = omega (
    arith,
    c.loop-byte.invariant.few,
    c.written_bytes-written.ensures,
    few_bytes
        c.args.text.now c.loop-byte.byte-index,
  );
}

-- all bytes
pub returns : goal.returns
returns c = c.loop-byte.invariant.sum ∙ ap (sum_by written_bytes) (take_all c.loop-byte.byte-index
    c.args.text.now c.loop-byte-test.false)
