-- What stands of the call functions, put together (`calls_stand`).
use Rattle.meaning.proofs.Law.{law_of_verdicts}
use Rattle.calls.specs.Exact.{StepIsExact}
use Rattle.calls.specs.Standing.{RowsGrantedExactly, StepsGrantedExactly, FunctionsRunExactly, CallsStand}
use Rattle.calls.proofs.Models.{model_exact}
use Rattle.calls.proofs.MakeExact.{make_exact}
use Rattle.calls.proofs.AddExact.{add_exact}
use Rattle.calls.proofs.SealExact.{seal_exact}
use Rattle.calls.proofs.StepsExact.{settle_exact}
use Rattle.calls.proofs.ModelSteps.{step_exact}
use Rattle.calls.proofs.Determined.{single}
use Rattle.calls.proofs.Runs.{call_exact_by, runs_exact_by, runs_sound_by}
use Rattle.calls.proofs.Reached.{functions_reach_by}
use Rattle.calls.proofs.Listed.{listing_exact}

steps : StepIsExact
steps = step_exact model_exact

pub rows_granted_exactly : RowsGrantedExactly
rows_granted_exactly = (make_exact, add_exact, seal_exact)

pub steps_granted_exactly : StepsGrantedExactly
steps_granted_exactly = (steps, settle_exact)

pub functions_run_exactly : FunctionsRunExactly
functions_run_exactly = (
  call_exact_by single add_exact seal_exact steps settle_exact,
  runs_exact_by single add_exact seal_exact steps settle_exact,
  runs_sound_by single add_exact seal_exact steps settle_exact,
  listing_exact,
)

pub calls_stand : CallsStand
calls_stand = (
  law_of_verdicts,
  functions_run_exactly,
  functions_reach_by functions_run_exactly.1 functions_run_exactly.2,
  rows_granted_exactly,
  steps_granted_exactly,
)
