-- The room tests of a step speak of all its alternatives.
use Rattle.std.specs.Prelude.{◌≡◌, ℕ, ◌+◌, ◌≤◌, false, ◌↔◌, length}
use Rattle.std.specs.List.{AllByRecursion}
use Rattle.records.specs.declared.rule.Rule.{Rule as RuleName}
use Rattle.rules.specs.declared.cited.Cited.{Cited}
use Rattle.rules.specs.declared.cited.Alt.{Alt as AltRow}
use Rattle.rules.specs.Room.{names_over, facts_over}
use Rattle.calls.specs.Reading.{alt_facts}
use Rattle.calls.specs.Passing.{alt_rows}

-- On at most 64 names the test of names fails exactly where every alternative leaves at most 64.
abbrev pub NamesFit : Type 0
NamesFit =
    (r : RuleName) (c : Cited) (n : ℕ) → n ≤ 64 →
    (names_over r c n ≡ false) ↔ AllByRecursion (λ (a : AltRow). n + a.fresh ≤ 64) (alt_rows r c n)

-- On at most 1,024 facts the test of facts fails exactly where every alternative leaves at most 1,024.
abbrev pub FactsFit : Type 0
FactsFit =
    (r : RuleName) (c : Cited) (n m : ℕ) → m ≤ 1024 →
    (facts_over r c n m ≡ false) ↔ AllByRecursion (λ (a : AltRow). m + length (alt_facts a) ≤ 1024) (alt_rows r c n)

-- Both.
abbrev pub RoomTold : Type 0
RoomTold = NamesFit × FactsFit
