-- A model is granted exactly where it is lawful, has few enough tuples, and satisfies the constraints:
-- `model_exact`.
use Rattle.std.proofs.Common.{◌≡◌, ℕ, Bool, true, false, cond, eqb, leb, length, Ok, Err, Result, sym, refl, ◌∙◌, eq-eqb, eqb-true}
use mathlib.Core.Option.{Option, none, some}
use Rattle.records.specs.declared.refusal.Refusal.{Refusal}
use Rattle.records.specs.declared.refusal.Refusal.TheVariants.{Unlawful, TuplesOver}
use Rattle.meaning.specs.Terms.{Sheet}
use Rattle.meaning.specs.Meaning.{Interp, Satisfies}
use Rattle.meaning.specs.Model.{Lawful, Named}
use Rattle.meaning.specs.Mixes.{most_tuples, Few}
use Rattle.calls.specs.Models.{first_bad, name_lawful, first_false, tuples_in}
use Rattle.calls.specs.Models.{on_constraints, on_names, model_answer}
use Rattle.calls.specs.ModelLaws.{ModelsGrantedExactly}
use Rattle.calls.proofs.Lawful.{lawful_exact}
use Rattle.calls.proofs.Few.{few_exact}
use Rattle.calls.proofs.Satisfied.{satisfies_exact}

-- granted after a test: the test passed, and what follows grants
granted_after : (t : Bool) (x : Result (Unit {0}) Refusal) (r : Refusal) →
    cond t x (Err r) ≡ Ok tt → (t ≡ true) × (x ≡ Ok tt)
granted_after true x r h = (refl, h)
granted_after false x r h = absurd cc

-- what a grant says of the first false constraint, and of the first unlawful name
constraints_grant : (o : Option ℕ) → on_constraints o ≡ Ok tt → o ≡ none
constraints_grant none h = refl
constraints_grant (some k) h = absurd cc

names_grant : (S : Sheet) (I : Interp ℕ) (o : Option ℕ) → on_names S I o ≡ Ok tt →
    (o ≡ none) × (leb (tuples_in S I) most_tuples ≡ true) × (first_false S I S.constraints 0 ≡ none)
names_grant S I (some e) h = absurd cc
names_grant S I none h =
    let r = granted_after (leb (tuples_in S I) most_tuples)
    (on_constraints (first_false S I S.constraints 0)) TuplesOver h in
    (refl, r.0, constraints_grant (first_false S I S.constraints 0) r.1)

pub model_exact : ModelsGrantedExactly
model_exact K S b count rs len most = (from, to)
  where
    from : model_answer K S b count rs ≡ Ok tt →
        Lawful K S b.count rs × Few S rs b.facts most_tuples × Satisfies S (Named S rs b.facts)
    from h =
        let r = granted_after (eqb count b.count)
        (on_names S (Named S rs b.facts) (first_bad (name_lawful K S rs) b.count)) (Unlawful 255) h in
        let g = names_grant S (Named S rs b.facts) (first_bad (name_lawful K S rs) b.count) r.1 in
        let same : length rs ≡ b.count = len ∙ eqb-true count b.count r.0 in (
          (lawful_exact K S rs b.count same most).0 g.0,
          (few_exact S rs b.facts most_tuples).0 g.1,
          (satisfies_exact S (Named S rs b.facts)).0 g.2,
        )

    to : Lawful K S b.count rs × Few S rs b.facts most_tuples × Satisfies S (Named S rs b.facts) →
        model_answer K S b count rs ≡ Ok tt
    to (w, f, s) =
        let counted : eqb count b.count ≡ true = eq-eqb count b.count (sym len ∙ w.count) in
        let good : first_bad (name_lawful K S rs) b.count ≡ none =
        (lawful_exact K S rs b.count w.count most).1 w in
        let fits : leb (tuples_in S (Named S rs b.facts)) most_tuples ≡ true =
        (few_exact S rs b.facts most_tuples).1 f in
        let holds : first_false S (Named S rs b.facts) S.constraints 0 ≡ none =
        (satisfies_exact S (Named S rs b.facts)).1 s in
        cc
