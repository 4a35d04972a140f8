-- A sheet seen as its numbers, and the answers of the calls that hand one over.
use Rattle.std.specs.Prelude.{Ok, Err, Result}
use Rattle.records.specs.declared.refusal.Refusal.{Refusal}
use Rattle.calls.specs.Sheets.{Filling}
use Rattle.sheets.specs.declared.sheet.Sheet.{Sheet}

-- the numbers of a sheet
abbrev pub filling_of : Sheet → Filling
filling_of s = record {
  labels = s.sizes.labels;
  free = s.sizes.free;
  terms = s.sizes.terms;
  constraints = s.sizes.constraints;
  labels_in = s.labels_in;
  terms_in = s.terms_in;
  constraints_in = s.constraints_in;
}

-- what make answers, with the sheet's numbers
abbrev pub made : Result Sheet Refusal → Result Filling Refusal
made (Ok s) = Ok (filling_of s)
made (Err e) = Err e
