-- A sealed sheet seen as the trial that begins from it, and as its numbers.
use Rattle.std.specs.Prelude.{◌+◌, ◌≤◌, Ok, Err, Result}
use Rattle.records.specs.declared.refusal.Refusal.{Refusal}
use Rattle.records.specs.declared.verdict.Verdict.TheVariants.{Undecided}
use Rattle.calls.specs.Sheets.{Counts}
use Rattle.sheets.specs.declared.sealed.Sealed.{Sealed}
use Rattle.sheets.specs.declared.sheet.Sheet.{Sheet}
use Rattle.sheets.specs.declared.sizes.Sizes.{Sizes}

-- its numbers
abbrev pub sizes_of : Sealed → Sizes
sizes_of s = s.sizes

-- the trial that begins with these numbers: the constraints are its first facts
abbrev pub begun : Sizes → Counts
begun n = record {
  labels = n.labels;
  free = n.free;
  terms = n.terms;
  constraints = n.constraints;
  verdict = Undecided;
  names = n.labels + n.free;
  facts = n.constraints;
  forks = 0;
  granted = 0;
  denied = 0;
}

-- what seal answers, with the trial's numbers
abbrev pub sealed : Result Sealed (Sheet × Refusal) → Result Counts Refusal
sealed (Ok s) = Ok (begun (sizes_of s))
sealed (Err e) = Err e.1

-- no more of each than a sheet holds
pub record Few (n : Sizes) : Type 0 where
  pub names : n.labels + n.free ≤ 32
  pub terms : n.terms ≤ 64
  pub constraints : n.constraints ≤ 128
