-- Names for definitions that samples of texts and of chains compute, beside those of crate `sheet`. Nothing is proved here.
use Prim.Native.Nat.{ℕ}
use Rattle.text.specs.Numerals.{is_digit, digits_in, numeral_from}
use Rattle.files.specs.Writing.{row_numbers}
use Rattle.fields.specs.TextFields as fields
use Rattle.comma.specs.Reading as reading
use Rattle.comma.specs.Writing as writing
use Rattle.sheet.proofs.Opened.{bytes_read, core_said_lem, lines_made}
use Rattle.chains.specs.Lists as lists
use Rattle.chains.specs.Chains as chains

-- a field's number and its stop
field-parts : ℕ
unfolding is_digit digits_in numeral_from fields.stands_at fields.shortest fields.decimal_at fields.closed_at fields.value_at fields.ending_at
field-parts = 0

-- a field
field-read : ℕ
unfolding field-parts fields.fits fields.misfit fields.text_field
field-read = 0

-- reading a text
unfoldable pub text-read : ℕ
unfolding bytes_read field-read fields.text_times reading.line_at reading.lines_at reading.decode_text
text-read = 0

-- the lines of rows
unfoldable pub lines_written : ℕ
unfolding lines_made row_numbers writing.line_of writing.lines_of
lines_written = 0

-- a list of steps
list_read : ℕ
unfolding bytes_read lists.steps_wanted lists.steps_from lists.steps_at lists.list_numbers lists.decode_list
list_read = 0

-- its steps in a table
chain-read : ℕ
unfolding list_read chains.part_at chains.link_at chains.links_at chains.chain_in
chain-read = 0

-- the answer for a chain, once its cores' verdicts and its delay are known
unfoldable pub chain-answered : ℕ
unfolding chain-read core_said_lem chains.cores_said chains.chain_said chains.answer_for chains.delay_answer
chain-answered = 0
