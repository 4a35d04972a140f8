-- The number and the detail of each refusal.
use Rattle.std.specs.Prelude.{ℕ}
use Rattle.records.specs.declared.refusal.Room.{Room}
use Rattle.records.specs.declared.refusal.Room.TheVariants.{Names, Facts, Forks}
use Rattle.records.specs.declared.refusal.Refusal.{Refusal}
use Rattle.records.specs.declared.refusal.Refusal.TheVariants.{
  StoresShort,
  NotHeader,
  WrongLetter,
  OverLimit,
  NotDue,
  UnknownLabel,
  IllTerm,
  IllConstraint,
  RowsDue,
  VerdictReached,
  NotStep,
  RecordsSpent,
  NoRule,
  NotOnBranch,
  NotMet,
  NoRoom,
  Unlawful,
  TuplesOver,
  ConstraintFalse,
  NoVerdict,
  BufferShort,
  PairsFull,
  OldHeld,
  InputLong,
  RenamesIll,
}

-- the number of each refusal
abbrev pub number_of : Refusal → ℕ
number_of StoresShort = 1
number_of NotHeader = 2
number_of (WrongLetter letter) = 3
number_of OverLimit = 4
number_of NotDue = 5
number_of (UnknownLabel code) = 6
number_of (IllTerm term) = 7
number_of (IllConstraint constraint) = 8
number_of (RowsDue rows) = 9
number_of VerdictReached = 10
number_of NotStep = 11
number_of RecordsSpent = 12
number_of (NoRule rule) = 13
number_of (NotOnBranch fact) = 14
number_of NotMet = 15
number_of (NoRoom room) = 16
number_of (Unlawful name) = 17
number_of TuplesOver = 18
number_of (ConstraintFalse constraint) = 19
number_of NoVerdict = 20
number_of (BufferShort needed) = 21
number_of PairsFull = 22
number_of (OldHeld code) = 23
number_of InputLong = 24
number_of RenamesIll = 25

-- what there is no room for: names, facts, forks
abbrev pub room_number : Room → ℕ
room_number Names = 1
room_number Facts = 2
room_number Forks = 3

-- the detail of each refusal, 0 unless it names something
abbrev pub detail_of : Refusal → ℕ
detail_of StoresShort = 0
detail_of NotHeader = 0
detail_of (WrongLetter letter) = letter
detail_of OverLimit = 0
detail_of NotDue = 0
detail_of (UnknownLabel code) = code
detail_of (IllTerm term) = term
detail_of (IllConstraint constraint) = constraint
detail_of (RowsDue rows) = rows
detail_of VerdictReached = 0
detail_of NotStep = 0
detail_of RecordsSpent = 0
detail_of (NoRule rule) = rule
detail_of (NotOnBranch fact) = fact
detail_of NotMet = 0
detail_of (NoRoom room) = room_number room
detail_of (Unlawful name) = name
detail_of TuplesOver = 0
detail_of (ConstraintFalse constraint) = constraint
detail_of NoVerdict = 0
detail_of (BufferShort needed) = needed
detail_of PairsFull = 0
detail_of (OldHeld code) = code
detail_of InputLong = 0
detail_of RenamesIll = 0
