-- What stands of the call functions, together: the law of verdicts, that the functions run exactly as the
-- law's relation of calls, and that the law speaks of every trial that they reach.
use Rattle.meaning.specs.Law.{LawOfVerdicts}
use Rattle.calls.specs.Exact.{MakeIsExact, AddIsExact, SealIsExact, StepIsExact, SettleIsExact}
use Rattle.calls.specs.Runs.{CallIsExact, RunsAreExact, RunsAreSound, FunctionsReach, ListingIsExact}

-- Rows are granted exactly where the subject grants them: make, add and seal.
abbrev pub RowsGrantedExactly : Type 0
RowsGrantedExactly = MakeIsExact × AddIsExact × SealIsExact

-- Steps are granted exactly where the subject grants them, and so is a settle.
abbrev pub StepsGrantedExactly : Type 0
StepsGrantedExactly = StepIsExact × SettleIsExact

-- The functions run exactly as the relation of calls, call by call and over whole runs; what they list is the
-- subject's listing.
abbrev pub FunctionsRunExactly : Type 0
FunctionsRunExactly = CallIsExact × RunsAreExact × RunsAreSound × ListingIsExact

-- All of it, with the law.
abbrev pub CallsStand : Type 0
CallsStand =
    LawOfVerdicts × FunctionsRunExactly × FunctionsReach × RowsGrantedExactly × StepsGrantedExactly
