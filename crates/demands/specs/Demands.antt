-- What the user asked for and what is claimed, all of it together.
-- Left out, and why: the promises of the functions, which stand at the functions, and are what all of this is about; uniqueness of
-- promises that are equations, since two results that equal one thing are equal; promises of functions that are
-- offered to the crates above them alone; what the programs read and write, of which no contract can speak.
use Rattle.model.specs.MachineSample.{PeriodicAllowed, MachineSample}
use Rattle.model.specs.BegunSample.{BegunSample}
use Rattle.model.specs.ChainDelays.{ChainDelays}
use Rattle.machine.specs.NoRunIsLater.{NoRunIsLater}
use Rattle.machine.specs.PassingSample.{PassingSample}
use Rattle.files.specs.RoundTrips.{GoodFileIsShort, UnusedHasNoSay}
use Rattle.files.specs.Enough.{EnoughToJudge}
use Rattle.text.specs.Text.{Decimal, LinesAreTheText}
use Rattle.sheet.specs.Claims.{TextIsShort, TextIsPrinted, SheetOfTheFront, LineOfItsRow, LineOfItsCore, NoOtherLine, LineOfARefusal}
use Rattle.sheet.specs.SetA.{SetAReport}
use Rattle.demands.specs.Demand1.{Demand1}
use Rattle.demands.specs.Demand2.{Demand2}
use Rattle.demands.specs.Demand3.{Demand3}
use Rattle.demands.specs.Tables.{Tables}
use Rattle.demands.specs.Codes.{CodeTable}
use Rattle.demands.specs.GoodTables.{GoodTables, NoRowsIsGood}
use Rattle.demands.specs.AfterReading.{AfterReading}
use Rattle.demands.specs.Printing.{Printing}
use Rattle.demands.specs.Samples.{Samples}
use Rattle.demands.specs.SampleB.{SampleB}
use Rattle.demands.specs.TextSamples.{TextSamples}
use Rattle.demands.specs.ChainSamples.{ChainSamples}
use Rattle.demands.specs.Texts.{Texts}
use Rattle.demands.specs.Chains.{Chains}
use Rattle.demands.specs.Unique.{Unique}

-- files: what document 01 says of them beside the demands
pub record FileClaims : Type 0 where
  -- the table of codes, line by line
  pub codes : CodeTable
  -- the tasks of good files are those in the ranges, without a clash
  pub good_tables : GoodTables
  pub no_rows : NoRowsIsGood
  -- each place of the table: the file's tasks and zeros behind them; zeros only after a refused read
  pub after_reading : AfterReading
  pub short : GoodFileIsShort
  pub enough : EnoughToJudge
  pub unused : UnusedHasNoSay

-- the printed sheet
pub record SheetClaims : Type 0 where
  -- what is answered and left, in too short a room and in enough
  pub printing : Printing
  pub decimals : Decimal
  pub short : TextIsShort
  pub printed : TextIsPrinted
  -- the sheet of the first 5,124 bytes is that of the whole input
  pub front : SheetOfTheFront
  -- each line of a good file's sheet, at its place; a refused file prints one
  pub row_lines : LineOfItsRow
  pub core_lines : LineOfItsCore
  pub no_other : NoOtherLine
  pub refused : LineOfARefusal
  pub cut : LinesAreTheText

-- samples: those marked P, the machine's, a second table beside Set A, texts and chains
pub record WorkedSamples : Type 0 where
  pub marked : Samples
  pub set_a : SetAReport
  pub sample_b : SampleB
  pub texts : TextSamples
  pub chains : ChainSamples
  pub machine : MachineSample
  pub begun : BegunSample
  -- delays on Set A, and a value on its way along a chain
  pub delays : ChainDelays
  pub passing : PassingSample
  -- runs whose jobs come one period apart are allowed, so that demand 3 is about some run
  pub periodic : PeriodicAllowed

-- all of them
pub record Demands : Type 0 where
  -- one answer; each refusal exactly when its rule says; what is left in lent room
  pub demand1 : Demand1
  -- bounds are the least solutions; a core passes exactly if; the round trips; other cores' rows have no say
  pub demand2 : Demand2
  -- no allowed run is later than the number left for a part
  pub demand3 : Demand3
  -- nor, on a core that misses a deadline, than the bounds of equations 4 to 12
  pub never_later : NoRunIsLater
  -- so it is for tables in memory, which are written or analysed
  pub tables : Tables
  pub files : FileClaims
  pub sheets : SheetClaims
  -- document 02, §1: a spreadsheet's text, read and written
  pub texts : Texts
  -- document 02, §4: the delay along a chain, and what it means
  pub chains : Chains
  pub samples : WorkedSamples
  -- each promise on lent memory allows one result
  pub unique : Unique
