-- Document 02, §1: worked cases of texts, and Set A's text. In the words on a case CR and LF are \r and \n.
use Rattle.std.specs.Prelude.{ℕ, ◌≡◌, false, List, [], ◌∷◌, ◌++◌}
use Rattle.model.specs.BoundSamples.{set_a}
use Rattle.table.specs.declared.Verdict.TheVariants as C
use Rattle.table.specs.Fields.{part_count}
use Rattle.fields.specs.Stepping.{stop, go}
use Rattle.fields.specs.TextFields.{text_field}
use Rattle.comma.specs.Reading.{lines_at, decode_text}
use Rattle.comma.specs.Writing.{lines_of}

-- 1,0,0,3,5,5,1,1\r\n
abbrev pub line1 : List ℕ
line1 = 49 ∷ 44 ∷ 48 ∷ 44 ∷ 48 ∷ 44 ∷ 51 ∷ 44 ∷ 53 ∷ 44 ∷ 53 ∷ 44 ∷ 49 ∷ 44 ∷ 49 ∷ 13 ∷ 10 ∷ []

-- 2,0,1,2,10,10,2,1,2\r\n
abbrev pub line2 : List ℕ
line2 =
    50 ∷ 44 ∷ 48 ∷ 44 ∷ 49 ∷ 44 ∷ 50 ∷ 44
    ∷ 49 ∷ 48 ∷ 44 ∷ 49 ∷ 48 ∷ 44 ∷ 50 ∷ 44 ∷ 49 ∷ 44 ∷ 50 ∷ 13 ∷ 10 ∷ []

-- 3,0,1,1,20,20,2,2,3\r\n
abbrev pub line3 : List ℕ
line3 =
    51 ∷ 44 ∷ 48 ∷ 44 ∷ 49 ∷ 44 ∷ 49 ∷ 44
    ∷ 50 ∷ 48 ∷ 44 ∷ 50 ∷ 48 ∷ 44 ∷ 50 ∷ 44 ∷ 50 ∷ 44 ∷ 51 ∷ 13 ∷ 10 ∷ []

-- Set A's text
abbrev pub text_a : List ℕ
text_a = line1 ++ line2 ++ line3

-- "1",0,0,3,"5",5,1,"1"\r\n
abbrev pub quoted1 : List ℕ
quoted1 =
    34 ∷ 49 ∷ 34 ∷ 44 ∷ 48 ∷ 44 ∷ 48 ∷ 44 ∷ 51 ∷ 44
    ∷ 34 ∷ 53 ∷ 34 ∷ 44 ∷ 53 ∷ 44 ∷ 49 ∷ 44 ∷ 34 ∷ 49 ∷ 34 ∷ 13 ∷ 10 ∷ []

-- 3,0,1,1,20,20,2,2,"3"
abbrev pub quoted3 : List ℕ
quoted3 =
    51 ∷ 44 ∷ 48 ∷ 44 ∷ 49 ∷ 44 ∷ 49 ∷ 44
    ∷ 50 ∷ 48 ∷ 44 ∷ 50 ∷ 48 ∷ 44 ∷ 50 ∷ 44 ∷ 50 ∷ 44 ∷ 34 ∷ 51 ∷ 34 ∷ []

-- the cases
pub record TextSamples : Type 0 where
  -- a CR without LF faults at the byte after it: '1\rx'
  pub return_alone : decode_text (49 ∷ 13 ∷ 120 ∷ []) ≡ stop (C.BadText 2)
  -- before the range: '0\rx'
  pub return_first : decode_text (48 ∷ 13 ∷ 120 ∷ []) ≡ stop (C.BadText 2)
  -- the range, before whether the stop fits: '0\r\n'
  pub range_first : decode_text (48 ∷ 13 ∷ 10 ∷ []) ≡ stop (C.OutOfRange 0)
  -- too few fields: '1\r\n'
  pub few_fields : decode_text (49 ∷ 13 ∷ 10 ∷ []) ≡ stop (C.BadText 1)
  -- a leading zero: '01'
  pub leading_zero : decode_text (48 ∷ 49 ∷ []) ≡ stop (C.BadText 1)
  -- no digit between quotes: '""'
  pub no_digit : decode_text (34 ∷ 34 ∷ []) ≡ stop (C.BadText 1)
  -- an empty line: '\r\n'
  pub empty_line : decode_text (13 ∷ 10 ∷ []) ≡ stop (C.BadText 0)
  -- no field before a CR without LF: '1,\rx'
  pub no_field : decode_text (49 ∷ 44 ∷ 13 ∷ 120 ∷ []) ≡ stop (C.BadText 2)
  -- a bare LF behind a whole row: '1,0,0,3,5,5,1,1\n'
  pub bare_feed :
      decode_text (49 ∷ 44 ∷ 48 ∷ 44 ∷ 48 ∷ 44 ∷ 51 ∷ 44 ∷ 53 ∷ 44 ∷ 53 ∷ 44 ∷ 49 ∷ 44 ∷ 49 ∷ 10 ∷ [])
      ≡ stop (C.BadText 15)
  -- an empty line behind the first
  pub empty_second : decode_text (line1 ++ (13 ∷ 10 ∷ [])) ≡ stop (C.BadText 17)
  -- twelve digits: '123456789012'
  pub long : decode_text (49 ∷ 50 ∷ 51 ∷ 52 ∷ 53 ∷ 54 ∷ 55 ∷ 56 ∷ 57 ∷ 48 ∷ 49 ∷ 50 ∷ []) ≡ stop (C.OutOfRange 0)
  -- and a bad byte behind them: '123456789012x'
  pub long_bad : decode_text (49 ∷ 50 ∷ 51 ∷ 52 ∷ 53 ∷ 54 ∷ 55 ∷ 56 ∷ 57 ∷ 48 ∷ 49 ∷ 50 ∷ 120 ∷ []) ≡ stop (C.BadText 12)
  -- 7 comes before a stop that does not fit: '1\r\n' where a part count is wanted and no time is left
  pub no_times_left : text_field false (49 ∷ 13 ∷ 10 ∷ []) (part_count 1024) 0 ≡ stop (C.TooManyTimes 0)
  -- where no line more may come, 3 at its first byte, whatever it holds: '\r\n' behind Set A's text
  pub no_line_more : lines_at 0 (set_a 20) (text_a ++ (13 ∷ 10 ∷ [])) 59 ≡ stop (C.OutOfRange 59)
  -- the empty text has no rows
  pub empty : decode_text [] ≡ go [] 0
  -- Set A's text is Set A
  pub read_a : decode_text text_a ≡ go (set_a 20) 59
  -- also with quoted fields, and without the last line end
  pub read_quoted_a : decode_text (quoted1 ++ line2 ++ quoted3) ≡ go (set_a 20) 65
  -- and Set A is written as it
  pub write_a : lines_of (set_a 20) ≡ text_a
