-- add runs exactly as the subject has it (`add_exact`).
use Rattle.std.proofs.Common.{◌≡◌, ℕ, List, refl}
use mathlib.Core.Option.{Option}
use Rattle.std.specs.declared.option.Option.TheVariants as option
use Rattle.records.specs.declared.record.RowRecord.TheVariants as row
use Rattle.records.specs.declared.refusal.Refusal.TheVariants.{NotDue}
use Rattle.records.specs.Reading.{RowRead, row_in}
use Rattle.calls.specs.Stores.{Held}
use Rattle.calls.specs.Sheets.{Filling, row_added}
use Rattle.calls.specs.Views.{Orderly}
use Rattle.calls.specs.Exact.{AddIsExact}
use Rattle.calls.proofs.Bytes.{RowTold, row_told}
use Rattle.calls.proofs.Enough.{enough_holds}
use Rattle.calls.proofs.AddCases.{Exactly, refused}
use Rattle.calls.proofs.AddLabel.{label_exact}
use Rattle.calls.proofs.AddTerm.{term_exact}
use Rattle.calls.proofs.AddConstraint.{constraint_exact}

-- by the row that was read
by_row :
    (K : ℕ → Option ℕ) (f : Filling) (h : Held) (o : Orderly f h) (bs : List ℕ) (x : RowRead) → row_in bs ≡ x →
    RowTold bs x → Exactly K f h bs (row_added K f h x)
by_row K f h o bs (option.Some (row.Label c)) e told = label_exact K f h o bs c e told
by_row K f h o bs (option.Some (row.Term r)) e told = term_exact K f h o bs r e told
by_row K f h o bs (option.Some (row.Constraint r)) e told = constraint_exact K f h o bs r e told
by_row K f h o bs option.None e told = refused K f h bs option.None e NotDue (λ c. c)

pub add_exact : AddIsExact
add_exact K f h bs o =
    rw (enough_holds h o.enough) (by_row K f h o bs (row_in bs) refl (row_told bs))
