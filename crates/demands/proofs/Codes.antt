-- The table of codes is that of documents 01 and 02. Assumes nothing.
use mathlib.Core.Path.{refl}
use Rattle.demands.specs.Codes.{CodeTable}

-- line by line
pub code-table : CodeTable
code-table =
    record {
      code0 = (refl, refl);
      code1 = λ n. (refl, refl);
      code2 = λ n. (refl, refl);
      code3 = λ n. (refl, refl);
      code4 = λ n. (refl, refl);
      code5 = λ n. (refl, refl);
      code6 = λ n. (refl, refl);
      code7 = λ n. (refl, refl);
      code8 = λ n. (refl, refl);
      code9 = λ n. (refl, refl);
      code10 = λ n. (refl, refl);
      code11 = λ n. (refl, refl);
      code12 = λ n. (refl, refl);
      code16 = λ n. (refl, refl);
      code17 = λ n. (refl, refl);
    }
