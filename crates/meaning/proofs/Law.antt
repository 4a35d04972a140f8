-- The law of verdicts, `law_of_verdicts`: CLOSED and OPEN tell the truth, and agree where the meanings of the labels do.
use Rattle.std.proofs.Common.{◌≡◌, ℕ, ◌≤◌, List, length, sym, ◌∙◌, subst, arith}
use mathlib.Core.Option.{Option}
use Rattle.meaning.specs.Terms.{Sheet, names, Full}
use Rattle.meaning.specs.Meaning.{Thing, Interp, Reads, Satisfies, Satisfiable}
use Rattle.meaning.specs.Calculus.{Branch, Fork, running, closed, Run, start}
use Rattle.meaning.specs.Model.{Lawful, Named, Listed, Alike}
use Rattle.meaning.specs.Mixes.{Verdict, CLOSED, OPEN, Trial, verdict_lines, facts_of, listing, Tells}
use Rattle.meaning.specs.Law.{Truthful, SameRows, ClosedIsTrue, OpenIsTrue, VerdictsAgree, LawOfVerdicts}
use Rattle.meaning.proofs.Sound.{run_neat, start_neat, refutes}
use Rattle.meaning.proofs.Models.{models, agrees}
use Rattle.meaning.proofs.ReadBack.{reads_back}
use Rattle.meaning.proofs.SameValue.{satisfies_same}
use Rattle.meaning.proofs.Listings.{tells_listed, told_names, told_members}
use Rattle.meaning.proofs.Mixes.{Rests, Tried, reached_tried}

-- the lines of a model are truthful
lines_truthful : (K : ℕ → Option ℕ) (S : Sheet) → Full S → (b : Branch) (fs : List Fork) → Run K S (start S) (running b fs) → (rs : List ℕ) → Lawful K S b.count rs → Satisfies S (Named S rs b.facts) → (g : ℕ) → Truthful K S (verdict_lines S g b.facts (OPEN rs))
lines_truthful K S full b fs run rs lawful sat g = record {
  some_told = (Listed K S rs b.facts, tells_listed S rs g b.facts K);
  all_told = λ I tells. (reads I tells, satisfies I tells);
}
  where
    enough : names S ≤ length rs
    enough = let h : names S ≤ b.count = (run_neat K S full run (start_neat K S full)).0.0 in omega (arith, lawful.count)

    told : Reads K S (Listed K S rs b.facts) × Satisfies S (Listed K S rs b.facts)
    told = models K S full b fs run rs lawful sat

    reads : (I : Interp Thing) → Tells K S (verdict_lines S g b.facts (OPEN rs)) I → Reads K S I
    reads I tells = record {
      labels = λ e l. let x = told.0.labels e l in (x.0, x.1, sym (told_names S rs g b.facts K I tells e (omega (arith, enough))) ∙ x.2);
      sized = λ t k row u m. told.0.sized t k row u ((told_members S rs g b.facts K I tells t u).1 m);
    }

    satisfies : (I : Interp Thing) → Tells K S (verdict_lines S g b.facts (OPEN rs)) I → Satisfies S I
    satisfies I tells =
        satisfies_same S full (Listed K S rs b.facts) I (λ e l. told_names S rs g b.facts K I tells e (omega (arith, enough)))
        (λ t k row u. told_members S rs g b.facts K I tells t u) told.1

-- what a verdict rests on, once it is known
module _ (K : ℕ → Option ℕ) (T : Trial) (f : Tried K T) where
  closed_run : T.verdict ≡ CLOSED → Run K T.sheet (start T.sheet) closed
  closed_run e = subst (Run K T.sheet (start T.sheet)) (subst (λ (v : Verdict). Rests K T.sheet v T.state) e f.rests) f.run

  open_rests : (rs : List ℕ) → T.verdict ≡ OPEN rs → Rests K T.sheet (OPEN rs) T.state
  open_rests rs e = subst (λ (v : Verdict). Rests K T.sheet v T.state) e f.rests

  open_truthful : (rs : List ℕ) → T.verdict ≡ OPEN rs → Truthful K T.sheet (listing T)
  open_truthful rs e =
      let r = open_rests rs e in
      let b = r.0 in
      let run = subst (Run K T.sheet (start T.sheet)) r.2 f.run in
      let q : listing T ≡ verdict_lines T.sheet T.granted b.facts (OPEN rs) = λ i. verdict_lines T.sheet T.granted (facts_of (r.2 i)) (e i) in
      subst (Truthful K T.sheet) (sym q) (lines_truthful K T.sheet f.whole.full b r.1 run rs r.3 r.4 T.granted)

  -- another meaning that agrees on which labels are the same
  open_satisfiable : (K' : ℕ → Option ℕ) → Alike K K' T.sheet → (rs : List ℕ) → T.verdict ≡ OPEN rs → Satisfiable K' T.sheet
  open_satisfiable K' alike rs e =
      let r = open_rests rs e in
      agrees K K' T.sheet alike f.whole.full r.0 r.1 (subst (Run K T.sheet (start T.sheet)) r.2 f.run) rs r.3 r.4

-- whether a sheet is satisfiable does not depend on its free names, nor does which labels are the same
with_free : Sheet → ℕ → Sheet
with_free S n = record S { free = n }

same_but_free : (S S' : Sheet) → SameRows S S' → with_free S S'.free ≡ S'
unfolding with_free
same_but_free S S' h = λ i. record { codes = h.codes i; free = S'.free; rows = h.rows i; constraints = h.constraints i }

satisfiable_over : (K : ℕ → Option ℕ) (S S' : Sheet) → SameRows S S' → Satisfiable K S' → Satisfiable K S
unfolding with_free
satisfiable_over K S S' h sat =
    let s : Satisfiable K (with_free S S'.free) = subst (Satisfiable K) (sym (same_but_free S S' h)) sat in
    (s.0, record { labels = s.1.labels; sized = s.1.sized }, s.2)

alike_over : (K K' : ℕ → Option ℕ) (S S' : Sheet) → SameRows S S' → Alike K K' S → Alike K' K S'
unfolding with_free
alike_over K K' S S' h alike = subst (Alike K' K) (same_but_free S S' h) (λ d e. ((alike d e).1, (alike d e).0))

closed_is_true : ClosedIsTrue
closed_is_true K T r e sat =
    let f = reached_tried K r in
    refutes K T.sheet f.whole.full sat (closed_run K T f e)

open_is_true : OpenIsTrue
open_is_true K T r rs e = (listing T, reads_back (listing T), open_truthful K T (reached_tried K r) rs e)

verdicts_agree : VerdictsAgree
verdicts_agree K K' T T' r r' same alike e rs e' =
    let sat = open_satisfiable K' T' (reached_tried K' r') K (alike_over K K' T.sheet T'.sheet same alike) rs e' in
    closed_is_true K T r e (satisfiable_over K T.sheet T'.sheet same sat)

pub law_of_verdicts : LawOfVerdicts
law_of_verdicts = (closed_is_true, open_is_true, verdicts_agree)
