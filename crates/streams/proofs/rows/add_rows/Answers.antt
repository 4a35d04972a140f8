use Rattle.std.proofs.Common.{ℕ, ◌+◌, ◌-◌, List, sym, ap, ◌∙◌}
use mathlib.Core.Option.{Option}
use Rattle.calls.specs.Stores.{Held}
use Rattle.calls.specs.Sheets.{Filling, add_of}
use Rattle.sheets.specs.View.{filling_of}
use Rattle.stores.specs.View.{held}
use Rattle.streams.specs.Cutting.{records_of, first_record}
use Rattle.streams.specs.Judging.{stopped, rows_from}
use Rattle.streams.proofs.CourseLemmas.{same_on, row_on, row_granted, row_kept}
use Rattle.streams.proofs.rows.add_rows.Goals as goal

pub returns-in-Err : goal.returns-in-Err
returns-in-Err g c =
    let K : ℕ → Option ℕ = g.K.Kind.meaning c.args.kind.now in
    let f : Filling = filling_of c.loop-i.sheet in
    let h : Held = held c.loop-i.stores in
    record {
      course =
          ap (λ (n : ℕ). rows_from K n (filling_of c.args.sheet.now) (held c.args.stores.now) 2 (records_of c.args.stream.now))
          (sym c.due-due.ensures)
          ∙ c.loop-i.invariant.0
          ∙ row_on K c.due-due.result c.loop-i.i f h c.loop-i.rest.now _ c.loop-i-test.true
          (c.in-Err.ensures.all ∙ ap (add_of K f h) c.cut_off.ensures.first)
          ∙ ap (λ (i : ℕ). stopped c.in-Err.refusal (2 + i) (held c.add.new.stores)) (sym c.from.ensures);
      orderly = tt;
      same = same_on _ _ _ c.loop-i.invariant.2 c.in-Err.ensures.same;
    }

pub loop-i-preserved : goal.loop-i-preserved
loop-i-preserved g c =
    let K : ℕ → Option ℕ = g.K.Kind.meaning c.args.kind.now in
    let f : Filling = filling_of c.loop-i.sheet in
    let h : Held = held c.loop-i.stores in
    let f' : Filling = filling_of c.add.new.self in
    let h' : Held = held c.add.new.stores in
    let bs : List ℕ = c.loop-i.rest.now in
    let row = c.in_default.ensures.all ∙ ap (add_of K f h) c.cut_off.ensures.first in (
      c.loop-i.invariant.0
          ∙ row_granted K c.due-due.result c.loop-i.i f h bs f' h' c.loop-i-test.true row
          ∙ ap (λ (xs : List ℕ). rows_from K (c.due-due.result - (c.loop-i.i + 1)) f' h' (2 + (c.loop-i.i + 1)) (records_of xs)) (sym c.cut_off.ensures.rest),
      row_kept K f h (first_record bs) f' h' row c.loop-i.invariant.1,
      same_on _ _ _ c.loop-i.invariant.2 c.in_default.ensures.same,
    )
