-- The room tests of a step speak of all its alternatives (`room_told`).
use Rattle.std.proofs.Common.{◌≡◌, ℕ, ◌+◌, ◌≤◌, Bool, false, ◌||◌, ltb, ◌↔◌, [], ◌∷◌, arith, ltb-false, le-ltb}
use Rattle.std.specs.List.{AllByRecursion}
use Rattle.std.proofs.lemmas.Bool.{or_parts}
use Rattle.records.specs.declared.rule.Rule.{Rule as RuleName}
use Rattle.records.specs.declared.rule.Rule.TheVariants as R
use Rattle.rules.specs.declared.cited.Cited.{Cited}
use Rattle.rules.specs.declared.cited.Alt.{Alt as AltRow}
use Rattle.rules.specs.Facts.{no_alt}
use Rattle.rules.specs.Rules.{alternative_of, size_of}
use Rattle.calls.specs.Passing.{alt_rows}
use Rattle.calls.specs.Fitting.{RoomTold}

-- three counts within the limit l
within : (l x y z : ℕ) → (ltb l x || (ltb l y || ltb l z)) ≡ false → (x ≤ l) × (y ≤ l) × (z ≤ l)
within l x y z h =
    let r = or_parts _ _ h in
    let q = or_parts _ _ r.1 in
    (ltb-false l x r.0, ltb-false l y q.0, ltb-false l z q.1)

over : (l x y z : ℕ) → x ≤ l → y ≤ l → z ≤ l → (ltb l x || (ltb l y || ltb l z)) ≡ false
over l x y z hx hy hz = λ i. le-ltb l x hx i || (le-ltb l y hy i || le-ltb l z hz i)

module _ (count : AltRow → ℕ) (l : ℕ) where
  -- the tests of alternatives 0, 1 and 2
  abbrev Over : AltRow → AltRow → AltRow → Bool
  Over a b c = ltb l (count a) || (ltb l (count b) || ltb l (count c))

  abbrev Told : RuleName → Cited → ℕ → Type 0
  Told r c n =
      (Over (alternative_of r c n 0) (alternative_of r c n 1) (alternative_of r c n 2) ≡ false)
      ↔ AllByRecursion (λ (a : AltRow). count a ≤ l) (alt_rows r c n)

  none_told : count no_alt ≤ l → (Over no_alt no_alt no_alt ≡ false) ↔ Unit {0}
  none_told h = (λ e. tt, λ u. over l (count no_alt) (count no_alt) (count no_alt) h h h)

  one_told : (a : AltRow) → (Over a a a ≡ false) ↔ AllByRecursion (λ (x : AltRow). count x ≤ l) (a ∷ [])
  one_told a = (
    λ e. ((within l (count a) (count a) (count a) e).0, tt),
    λ h. over l (count a) (count a) (count a) h.0 h.0 h.0,
  )

  two_told : (a b : AltRow) → (Over a b b ≡ false) ↔ AllByRecursion (λ (x : AltRow). count x ≤ l) (a ∷ b ∷ [])
  two_told a b = (
    λ e. (let h = within l (count a) (count b) (count b) e in (h.0, (h.1, tt))),
    λ h. over l (count a) (count b) (count b) h.0 h.1.0 h.1.0,
  )

  three_told : (a b c : AltRow) → (Over a b c ≡ false) ↔ AllByRecursion (λ (x : AltRow). count x ≤ l) (a ∷ b ∷ c ∷ [])
  three_told a b c = (
    λ e. (let h = within l (count a) (count b) (count c) e in (h.0, (h.1, (h.2, tt)))),
    λ h. over l (count a) (count b) (count c) h.0 h.1.0 h.1.1.0,
  )

  -- a rule with fewer than three alternatives gives its last one again
  told : count no_alt ≤ l → (r : RuleName) (c : Cited) (n : ℕ) → Told r c n
  told h R.UnionDown c n = two_told _ _
  told h R.DiffUp c n = two_told _ _
  told h R.SetDiseq c n = two_told _ _
  told h R.ClosDown c n = three_told _ _ _
  told h R.EmptyUnsat c n = none_told h
  told h R.EqUnsat c n = none_told h
  told h R.LabelUnsat c n = none_told h
  told h _ c n = one_told _

pub room_told : RoomTold
room_told = (
  λ r c n h. told (λ a. n + a.fresh) 64 (omega arith) r c n,
  λ r c n m h. told (λ a. m + size_of a) 1024 (omega arith) r c n,
)
