-- A rule without alternatives closes the branch: the latest fork is resumed, which is never refused, or the
-- trial is closed (`closes`).
use Rattle.std.proofs.Common.{◌≡◌, ℕ, ◌+◌, ◌-◌, ◌<◌, ◌≤◌, Bool, true, false, cond, ltb, List, [], ◌∷◌, ◌++◌, map, take, set, Some, None, Ok, Err, Option as Maybe, sym, refl, ap, ◌∙◌, subst, arith, length-set, le-ltb}
use mathlib.Core.Option.{Option}
use Rattle.std.specs.List.{slice_get}
use Rattle.std.proofs.lemmas.List.{take_more_set, take-set, take-take}
use Rattle.records.specs.declared.rows.Fact.{Fact as FactRow}
use Rattle.records.specs.declared.rows.Step.{Step}
use Rattle.records.specs.declared.refusal.Refusal.TheVariants.{NoRoom}
use Rattle.records.specs.declared.refusal.Room.TheVariants as over
use Rattle.records.specs.declared.verdict.Verdict.TheVariants as verdict
use Rattle.rules.specs.declared.cited.Alt.{Alt as AltRow}
use Rattle.rules.specs.declared.cited.Plan.{Plan}
use Rattle.rules.specs.declared.outcome.Fork.{Fork as ForkRow}
use Rattle.rules.specs.declared.outcome.Outcome.{Outcome}
use Rattle.rules.specs.declared.outcome.Outcome.TheVariants as outcome
use Rattle.rules.specs.Rules.{alternative_of, alternatives_of, size_of, facts_of}
use Rattle.rules.specs.Looked.{planned}
use Rattle.rules.specs.Room.{grown}
use Rattle.meaning.specs.Calculus.{Alt, up_from, State, resume, apply}
use Rattle.meaning.specs.Mixes.{Room}
use Rattle.calls.specs.Reading.{read_alt}
use Rattle.calls.specs.Bridge.{plan_alts}
use Rattle.calls.specs.Stores.{Held}
use Rattle.calls.specs.Sheets.{Counts}
use Rattle.calls.specs.RuleSteps.{
  onward,
  at_most,
  forks_left,
  resumed_with,
  resumed,
  closing,
  codes_of,
  rows_of,
  branch_facts,
  forks_of,
  put_alt,
  taken,
}
use Rattle.calls.specs.Trials.{plain_of, branch_of}
use Rattle.calls.specs.Views.{cited_at, read_forks, ForkFits, Stacked, Whole}
use Rattle.calls.proofs.Fronts.{last_split, no_last, has_last, put_front, put_length, put_below}
use Rattle.calls.proofs.Forks.{top}
use Rattle.calls.proofs.Landings.{resume_lands, next_few_names, next_few_facts}
use Rattle.calls.proofs.Following.{
  open_forks,
  Right,
  Follows,
  live,
  facts_long,
  lands_follow,
  closes_follow,
  granted,
}

module _
    (t : Counts) (h : Held) (w : Whole t h) (un : t.verdict ≡ verdict.Undecided) (room : t.granted < 1000000)
    (K : ℕ → Option ℕ) (x : Step) (y : Plan)
    (ep : planned K (codes_of t h) (rows_of t h) (branch_facts t h) x ≡ Ok y)
    (none : alternatives_of y.rule ≡ 0) where
  no_alts : plan_alts (plain_of t h) t.names y ≡ []
  no_alts =
      ap
      (λ (k : ℕ). map (read_alt (rows_of t h)) (map (alternative_of y.rule y.cited t.names) (up_from 0 k)))
      none

  always_room : Room (branch_of t h) (open_forks t h) (plan_alts (plain_of t h) t.names y)
  always_room =
      rw no_alts
      (record { names_fit = tt; facts_fit = tt; forks_fit = λ l. absurd (omega arith) })

  back_to :
      resume (open_forks t h)
      ≡ apply (branch_of t h) (plan_alts (plain_of t h) t.names y) (open_forks t h)
  back_to = ap (λ (z : List Alt). apply (branch_of t h) z (open_forks t h)) (sym no_alts)

  -- the latest fork f is resumed
  module _ (f : ForkRow) (en : slice_get (forks_of t h) (t.forks - 1) ≡ Some f) where
    forks_split : forks_of t h ≡ take (t.forks - 1) h.forks ++ (f ∷ [])
    forks_split = last_split h.forks t.forks f (omega arith) en

    below :
        Stacked (plain_of t h) (branch_facts t h) t.constraints f.facts (take (t.forks - 1) h.forks)
    below =
        (top (plain_of t h) t.constraints (branch_facts t h) t.facts (forks_of t h)
        (take (t.forks - 1) h.forks) f forks_split (live t h w un).stacked).0

    fit : ForkFits (plain_of t h) (branch_facts t h) t.constraints t.facts f
    fit =
        (top (plain_of t h) t.constraints (branch_facts t h) t.facts (forks_of t h)
        (take (t.forks - 1) h.forks) f forks_split (live t h w un).stacked).1

    abbrev a : AltRow
    a = alternative_of f.rule (cited_at (plain_of t h) (branch_facts t h) f) f.names f.next

    few_facts_then : f.facts + size_of a ≤ 1024
    few_facts_then =
        next_few_facts (plain_of t h) t.constraints t.facts (branch_facts t h)
        (take (t.forks - 1) h.forks) f (facts_long t h w) below fit

    few_names_then : f.names + a.fresh ≤ 64
    few_names_then =
        next_few_names (plain_of t h) t.constraints t.facts (branch_facts t h)
        (take (t.forks - 1) h.forks) f (facts_long t h w) below fit

    abbrev back : Outcome
    back = outcome.Resumes (grown f.facts f.names a) (onward f) (forks_left t.forks f)

    -- nothing is in the way
    resumed_is : resumed t (rows_of t h) (branch_facts t h) f ≡ Ok back
    resumed_is =
        let em : at_most t.facts f.facts ≡ f.facts =
        ap (λ (b : Bool). cond b t.facts f.facts) (le-ltb t.facts f.facts fit.front) in
        let en : at_most 64 f.names ≡ f.names =
        ap (λ (b : Bool). cond b 64 f.names) (le-ltb 64 f.names fit.few_names) in
        (λ i. resumed_with t.forks f (em i) (en i)
        (alternative_of f.rule (cited_at (plain_of t h) (branch_facts t h) f) (en i) f.next))
        ∙ (λ i. cond (le-ltb 64 (f.names + a.fresh) few_names_then i) (Err (NoRoom over.Names))
        (cond (le-ltb 1024 (f.facts + size_of a) few_facts_then i) (Err (NoRoom over.Facts)) (Ok back)))

    forks_then :
        (b : Bool) →
        take (cond b t.forks (t.forks - 1)) (set h.forks (t.forks - 1) (onward f))
        ≡ cond b (take (t.forks - 1) h.forks ++ (onward f ∷ [])) (take (t.forks - 1) h.forks)
    forks_then true =
        let one : 1 ≤ t.forks = has_last t.forks h.forks f en in
        let e : t.forks ≡ t.forks - 1 + 1 = omega arith in
        ap (λ (k : ℕ). take k (set h.forks (t.forks - 1) (onward f))) e
        ∙ take_more_set h.forks (t.forks - 1) (onward f) (omega arith)
    forks_then false = take-set h.forks (t.forks - 1) (onward f)

    few_forks_then : (b : Bool) → cond b t.forks (t.forks - 1) ≤ 64
    few_forks_then true = w.few_forks
    few_forks_then false = omega arith

    resumes : Right K t h x (resumed t (rows_of t h) (branch_facts t h) f)
    resumes =
        let l = few_facts_then in
        let lands =
        resume_lands (plain_of t h) t.constraints t.facts (branch_facts t h)
        (take (t.forks - 1) h.forks) f (facts_long t h w) below fit
        (ltb (onward f).next (alternatives_of f.rule)) refl in
        let follows =
        lands_follow t h w un room (f.facts + size_of a) (f.names + a.fresh) (forks_left t.forks f)
        (put_alt h.facts f.facts a) (set h.forks (t.forks - 1) (onward f)) _ _ _
        (put_length h.facts f.facts (facts_of a)) (length-set h.forks (t.forks - 1) (onward f))
        (put_below h.facts f.facts (facts_of a) t.constraints fit.constraints_below (omega arith))
        (put_front h.facts f.facts (facts_of a) (omega arith)
        ∙ ap (λ (z : List FactRow). z ++ facts_of a) (sym (take-take f.facts t.facts h.facts fit.front)))
        (forks_then (ltb (onward f).next (alternatives_of f.rule)))
        (few_forks_then (ltb (onward f).next (alternatives_of f.rule))) lands in
        rw resumed_is
        (granted t h w un room K x y ep back always_room
        (subst
        (λ (z : State). Follows t h (taken t h back).trial (taken t h back).stores z)
        (ap (λ (z : List ForkRow). resume (read_forks (plain_of t h) (branch_facts t h) z [])) (sym forks_split)
        ∙ back_to)
        follows))

  pub closes :
      (z : Maybe ForkRow) → slice_get (forks_of t h) (t.forks - 1) ≡ z →
      Right K t h x (closing t (rows_of t h) (branch_facts t h) z)
  closes None en =
      granted t h w un room K x y ep outcome.Closes always_room
      (closes_follow t h w un room _
      (ap (λ (z : List ForkRow). resume (read_forks (plain_of t h) (branch_facts t h) z []))
      (sym (no_last h.forks t.forks (omega arith) en))
      ∙ back_to))
  closes (Some f) en = resumes f en
