use Rattle.std.proofs.Common.{◌≡◌, ◌+◌, ◌-◌}
use Rattle.calls.specs.Views.{Orderly}
use Rattle.sheets.specs.View.{filling_of}
use Rattle.stores.specs.View.{held, Same}
use Rattle.streams.specs.Cutting.{records_of}
use Rattle.streams.specs.Judging.{rows_from}
use Rattle.streams.proofs.rows.add_rows.Given as goal

abbrev pub invariant-loop-i : goal.invariant-loop-i
invariant-loop-i g l =
    (rows_from (g.K.Kind.meaning l.kind) l.due (filling_of l.initial.sheet) (held l.initial.stores) 2
    (records_of l.initial.rest)
    ≡ rows_from (g.K.Kind.meaning l.kind) (l.due - l.i) (filling_of l.sheet) (held l.stores) (2 + l.i)
    (records_of l.rest))
    × Orderly (filling_of l.sheet) (held l.stores)
    × Same l.initial.stores l.stores
