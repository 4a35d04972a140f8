-- A rule with alternatives is granted exactly where there is room for them: one alternative is appended, and
-- of several the first, with a fork for the others (`grows`).
use Rattle.std.proofs.Common.{◌≡◌, ℕ, ◌+◌, ◌<◌, ◌≤◌, Bool, true, false, cond, eqb, ltb, List, ◌++◌, length, set, Some, Ok, Err, Result, refl, ap, ◌∙◌, subst, arith, length-set, ltb-false, ltb-true, eqb-true}
use mathlib.Core.Option.{Option}
use Rattle.std.specs.List.{AllByRecursion, slice_get}
use Rattle.std.proofs.lemmas.Bool.{both_ways, eqb-false}
use Rattle.std.proofs.lemmas.List.{take_more_set}
use Rattle.std.proofs.lemmas.Option.{slice_get_within}
use Rattle.records.specs.declared.rows.Step.{Step}
use Rattle.records.specs.declared.refusal.Refusal.{Refusal}
use Rattle.records.specs.declared.refusal.Refusal.TheVariants.{NoRoom}
use Rattle.records.specs.declared.refusal.Room.TheVariants as over
use Rattle.records.specs.declared.verdict.Verdict.TheVariants as verdict
use Rattle.rules.specs.declared.cited.Cited.{Cited}
use Rattle.rules.specs.declared.cited.Alt.{Alt as AltRow}
use Rattle.rules.specs.declared.cited.Plan.{Plan}
use Rattle.rules.specs.declared.outcome.Outcome.{Outcome}
use Rattle.rules.specs.declared.outcome.Outcome.TheVariants as outcome
use Rattle.rules.specs.Rules.{alternative_of, alternatives_of, size_of, facts_of}
use Rattle.rules.specs.Looked.{looked, planned}
use Rattle.rules.specs.Room.{names_over, facts_over, grown}
use Rattle.meaning.specs.Mixes.{Room}
use Rattle.calls.specs.Reading.{alt_facts}
use Rattle.calls.specs.Passing.{alt_rows}
use Rattle.calls.specs.Bridge.{plan_alts, Fair}
use Rattle.calls.specs.Stores.{Held}
use Rattle.calls.specs.Sheets.{Counts}
use Rattle.calls.specs.RuleSteps.{cited_again, forked, growing, codes_of, rows_of, branch_facts, forks_of, put_alt}
use Rattle.calls.specs.Trials.{plain_of, branch_of}
use Rattle.calls.specs.Views.{Whole}
use Rattle.calls.proofs.Bridge.{bridged}
use Rattle.calls.proofs.Fitting.{room_told}
use Rattle.calls.proofs.Fronts.{put_front, put_length, put_below}
use Rattle.calls.proofs.Forks.{all_at_number}
use Rattle.calls.proofs.Forking.{again, forking, made}
use Rattle.calls.proofs.Landings.{adds_land, forks_land}
use Rattle.calls.proofs.Rooms.{has_room, room_names, room_facts, room_forks}
use Rattle.calls.proofs.Following.{open_forks, Right, live, facts_long, forks_long, lands_follow, refused, granted}

module _
    (t : Counts) (h : Held) (w : Whole t h) (un : t.verdict ≡ verdict.Undecided) (room : t.granted < 1000000)
    (K : ℕ → Option ℕ) (x : Step) (y : Plan)
    (ep : planned K (codes_of t h) (rows_of t h) (branch_facts t h) x ≡ Ok y)
    (z₀ : eqb (alternatives_of y.rule) 0 ≡ false) where
  -- the alternatives as rows, and the first
  abbrev rows : List AltRow
  rows = alt_rows y.rule y.cited t.names

  abbrev a : AltRow
  a = alternative_of y.rule y.cited t.names 0

  abbrev Names : Type 0
  Names = AllByRecursion (λ (z : AltRow). t.names + z.fresh ≤ 64) rows

  abbrev Facts : Type 0
  Facts = AllByRecursion (λ (z : AltRow). t.facts + length (alt_facts z) ≤ 1024) rows

  first_has : (Q : AltRow → Type 0) → AllByRecursion Q rows → Q a
  first_has Q all =
      all_at_number Q (alternative_of y.rule y.cited t.names) (alternatives_of y.rule) 0 all
      (let n = eqb-false (alternatives_of y.rule) 0 z₀ in omega arith)

  first_names : Names → t.names + a.fresh ≤ 64
  first_names all = first_has (λ (z : AltRow). t.names + z.fresh ≤ 64) all

  first_facts : Facts → t.facts + size_of a ≤ 1024
  first_facts all = first_has (λ (z : AltRow). t.facts + length (alt_facts z) ≤ 1024) all

  all_fair : AllByRecursion (λ (z : AltRow). Fair (plain_of t h) (branch_facts t h ++ alt_facts z) (t.names + z.fresh)) rows
  all_fair = bridged.3 K (plain_of t h) (branch_facts t h) t.names (live t h w un).fair x y ep

  first_fair : Fair (plain_of t h) (branch_facts t h ++ alt_facts a) (t.names + a.fresh)
  first_fair =
      first_has (λ (z : AltRow). Fair (plain_of t h) (branch_facts t h ++ alt_facts z) (t.names + z.fresh)) all_fair

  abbrev HasRoom : Type 0
  HasRoom = Room (branch_of t h) (open_forks t h) (plan_alts (plain_of t h) t.names y)

  with_room : Names → Facts → (2 ≤ alternatives_of y.rule → t.forks < 64) → HasRoom
  with_room names facts forks =
      has_room (plain_of t h) (branch_facts t h) t.names (forks_of t h) y.rule y.cited names
      (rw (facts_long t h w) facts) (λ l. rw (forks_long t h w) (forks l))

  -- ── granted ──────────────────────────────────────────────────────────────

  adds :
      alternatives_of y.rule ≡ 1 → Names → Facts →
      Right K t h x (Ok (outcome.Adds (grown t.facts t.names a)))
  adds one names facts =
      let l = first_facts facts in
      granted t h w un room K x y ep (outcome.Adds (grown t.facts t.names a))
      (with_room names facts (λ l. absurd (omega arith)))
      (lands_follow t h w un room (t.facts + size_of a) (t.names + a.fresh) t.forks
      (put_alt h.facts t.facts a) h.forks _ _ _ (put_length h.facts t.facts (facts_of a)) refl
      (put_below h.facts t.facts (facts_of a) t.constraints w.constraints_kept (omega arith))
      (put_front h.facts t.facts (facts_of a) (omega arith)) refl w.few_forks
      (adds_land (plain_of t h) t.constraints t.facts t.names (branch_facts t h) (forks_of t h)
      (facts_long t h w) (live t h w un).stacked w.constraints_kept y.rule y.cited a refl one
      (first_facts facts) (first_names names) first_fair))

  forks :
      eqb (alternatives_of y.rule) 1 ≡ false → t.forks < 64 → Names → Facts →
      Right K t h x (Ok (outcome.Forks (grown t.facts t.names a) (forked t y.rule x) (t.forks + 1)))
  forks z₁ few names facts =
      let l = first_facts facts in
      let m = made K (codes_of t h) (rows_of t h) (branch_facts t h) x y ep in
      let two = forking y.rule z₀ z₁ in
      let there : slice_get (branch_facts t h) x.p ≡ Some m.f =
      subst (λ (z : Bool). looked z (branch_facts t h) x.p ≡ Some m.f) two.0 m.at_p in
      let low : x.p < t.facts =
      subst (λ (k : ℕ). x.p < k) (facts_long t h w) (slice_get_within (branch_facts t h) x.p m.f there) in
      let each :
      (i : ℕ) →
      alternative_of y.rule y.cited t.names i
      ≡ alternative_of y.rule (cited_again (rows_of t h) m.f x.t) t.names i =
      λ i.
      ap (λ (c : Cited). alternative_of y.rule c t.names i) m.cites
      ∙ again y.rule z₀ z₁ K (codes_of t h) (rows_of t h) x m.f m.g t.names i in
      granted t h w un room K x y ep
      (outcome.Forks (grown t.facts t.names a) (forked t y.rule x) (t.forks + 1))
      (with_room names facts (λ l. few))
      (lands_follow t h w un room (t.facts + size_of a) (t.names + a.fresh) (t.forks + 1)
      (put_alt h.facts t.facts a) (set h.forks t.forks (forked t y.rule x)) _ _ _
      (put_length h.facts t.facts (facts_of a)) (length-set h.forks t.forks (forked t y.rule x))
      (put_below h.facts t.facts (facts_of a) t.constraints w.constraints_kept (omega arith))
      (put_front h.facts t.facts (facts_of a) (omega arith))
      (take_more_set h.forks t.forks (forked t y.rule x) (omega arith)) (omega arith)
      (forks_land (plain_of t h) t.constraints t.facts t.names (branch_facts t h) (forks_of t h)
      (facts_long t h w) (live t h w un).stacked w.constraints_kept y.rule y.cited a refl
      two.1.0 two.1.1 x.p x.t m.f there low each w.few_names (first_facts facts)
      (first_names names) names facts all_fair first_fair))

  -- ── by the tests, in their order ─────────────────────────────────────────

  abbrev by_forks : Bool → Result Outcome Refusal
  by_forks b =
      cond b (Ok (outcome.Forks (grown t.facts t.names a) (forked t y.rule x) (t.forks + 1)))
      (Err (NoRoom over.Forks))

  abbrev by_one : Bool → Result Outcome Refusal
  by_one b = cond b (Ok (outcome.Adds (grown t.facts t.names a))) (by_forks (ltb t.forks 64))

  abbrev by_facts : Bool → Result Outcome Refusal
  by_facts b = cond b (Err (NoRoom over.Facts)) (by_one (eqb (alternatives_of y.rule) 1))

  at_forks :
      (b : Bool) → ltb t.forks 64 ≡ b → eqb (alternatives_of y.rule) 1 ≡ false → Names → Facts →
      Right K t h x (by_forks b)
  at_forks true e z₁ names facts = forks z₁ (ltb-true _ _ e) names facts
  at_forks false e z₁ names facts =
      refused t h w un room K x y ep (NoRoom over.Forks)
      (λ has.
      (let two = (forking y.rule z₀ z₁).1 in
      let few =
      room_forks (plain_of t h) (branch_facts t h) t.names (forks_of t h) y.rule y.cited has (omega (arith, two.1)) in
      omega (arith, ltb-false _ _ e, few, forks_long t h w)))

  at_one :
      (b : Bool) → eqb (alternatives_of y.rule) 1 ≡ b → Names → Facts → Right K t h x (by_one b)
  at_one true e names facts = adds (eqb-true _ _ e) names facts
  at_one false e names facts = at_forks (ltb t.forks 64) refl e names facts

  at_facts :
      (b : Bool) → facts_over y.rule y.cited t.names t.facts ≡ b → Names → Right K t h x (by_facts b)
  at_facts true e names =
      refused t h w un room K x y ep (NoRoom over.Facts)
      (λ has.
      both_ways _
      ((room_told.1 y.rule y.cited t.names t.facts w.few_facts).1
      (rw (facts_long t h w) at
      (room_facts (plain_of t h) (branch_facts t h) t.names (forks_of t h) y.rule y.cited has)))
      e)
  at_facts false e names =
      at_one (eqb (alternatives_of y.rule) 1) refl names
      ((room_told.1 y.rule y.cited t.names t.facts w.few_facts).0 e)

  at_names :
      (b : Bool) → names_over y.rule y.cited t.names ≡ b →
      Right K t h x
      (cond b (Err (NoRoom over.Names)) (by_facts (facts_over y.rule y.cited t.names t.facts)))
  at_names true e =
      refused t h w un room K x y ep (NoRoom over.Names)
      (λ has.
      both_ways _
      ((room_told.0 y.rule y.cited t.names w.few_names).1
      (room_names (plain_of t h) (branch_facts t h) t.names (forks_of t h) y.rule y.cited has))
      e)
  at_names false e =
      at_facts (facts_over y.rule y.cited t.names t.facts) refl
      ((room_told.0 y.rule y.cited t.names w.few_names).0 e)

  pub grows : Right K t h x (growing t x y.rule y.cited)
  grows = at_names (names_over y.rule y.cited t.names) refl
