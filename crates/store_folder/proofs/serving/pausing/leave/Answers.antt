use Rattle.store_folder.proofs.serving.pausing.leave.Goals as goal

-- the file that counts is as it was
pub returns : goal.returns
returns g c = record {
  reads = λ right. (
    rw c.witness_folder-folder.ensures.file at right.0,
    c.witness_folder-folder.ensures.clean right.1,
  );
  holds = λ right kept had. c.witness_folder-folder.ensures.holds right.1 kept had;
  rests = λ had. rw c.witness_folder-folder.ensures.file had;
}
