use Rattle.std.proofs.Common.{◌∙◌, ap, refl, take}
use Rattle.store_folder.proofs.opening.headed.HeadedFile.new.Goals as goal

pub invariant_of-result : goal.invariant_of-result
invariant_of-result g c = record {
  sized = (refl, c.requires.bound);
  headed = λ now still. c.requires.headed still;
  fronts = λ still file left. ap (take 4096) (c.requires.only file left) ∙ c.requires.head still;
}
