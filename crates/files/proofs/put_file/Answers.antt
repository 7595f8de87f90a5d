-- `files::put_file` meets its contract: no room, or all the bytes. Assumes nothing.
use borrow.Author.Tests.{lt-ltb, le-ltb}
use mathlib.Core.Path.{◌≡◌, refl, ◌∙◌}
use lib.ListN.{length}
use Rattle.numbers.specs.Numbers.{encode_all}
use Rattle.table.specs.declared.Verdict.TheVariants.{Good}
use Rattle.table.proofs.Writes.{refuses_room, writes-all}
use Rattle.files.specs.Writing.{encode_file, file_of}
use Rattle.files.proofs.put_file.Goals.{After-as_slice}
use Rattle.files.proofs.put_file.Goals as goal

-- the bytes of the numbers are the file
file_is : (c : After-as_slice) → encode_all c.as_slice.result.now ≡ file_of c.args.t.now.table
unfolding file_of encode_file
file_is c = rw (c.as_slice.ensures.value, c.file_numbers-numbers.ensures)

pub returns-then-out-size : goal.returns-then-out-size
returns-then-out-size c =
    let file = file_is (goal.at.returns-then-out-size c).After-as_slice in
    let size : length (file_of c.args.t.now.table) ≡ c.size_of_all-size.result = rw (c.size_of_all-size.ensures, file) in
    record {
      answer = rw (size, lt-ltb _ _ c.if-out-size.true);
      bytes = (refuses_room Good _ _ refl _ size c.if-out-size.true).bytes;
    }

pub returns : goal.returns
returns c =
    let file = file_is (goal.at.returns c).After-as_slice in
    let size : length (file_of c.args.t.now.table) ≡ c.size_of_all-size.result = rw (c.size_of_all-size.ensures, file) in
    let same : c.as_slice-2.result.now ≡ c.as_slice.result.now = cc in
    record {
      answer = rw (size, le-ltb _ _ c.if-out-size.false);
      bytes = (writes-all Good _ _ refl _ size c.if-out-size.false _ (c.put_all.ensures ∙ rw (same, file))).bytes;
    }
