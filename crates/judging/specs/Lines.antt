-- The line that a refusal is printed as.
use Rattle.std.specs.Prelude.{ℕ, List, ◌++◌, codes, decimal}

-- REFUSED, and the number, the record and the detail, each after a blank
abbrev pub refused_line : ℕ → ℕ → ℕ → List ℕ
refused_line n r d =
    codes "REFUSED " ++ (decimal n ++ (codes " " ++ (decimal r ++ (codes " " ++ decimal d))))
