use Rattle.std.proofs.Common.{refl}
use Rattle.std.specs.Prelude.{IsTrue}
use Rattle.journal.proofs.Behind.{behind_only}
use Rattle.journal.proofs.page.anew.make_anew.Goals as goal

pub returns : goal.returns
returns g c = record {
  blank = λ clean.
      let now : IsTrue (g.L.Log.is_clean c.blank_page.new.log) = rw c.new.ensures.same at clean in
      rw (c.new.ensures.same, c.new.ensures.place refl) (
        c.in-Ok-blank_page.ensures.ok now,
        behind_only 4096 _ _ (c.in-Ok-blank_page.ensures.durable now),
      );
}
