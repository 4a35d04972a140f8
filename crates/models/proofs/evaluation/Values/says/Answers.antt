use Rattle.std.proofs.Common.{◌≡◌, List, map, Decides, sym, ap, ◌∙◌, subst}
use Rattle.records.specs.Tuples.{equal_names}
use Rattle.records.specs.declared.tuple.Tuple.{Tuple}
use Rattle.values.specs.Sets.{has, In}
use Rattle.values.proofs.Theory.{has_in, in_has}
use Rattle.values.proofs.Inserting.{same_law}
use Rattle.models.specs.Tuples.{by_names}
use Rattle.models.specs.Rows.{fact_tuple, value_of}
use Rattle.models.specs.Constraints.{Includes}
use Rattle.models.proofs.Deciding.{includes_decides, both_decide, first_decides}
use Rattle.models.proofs.evaluation.Values.says.Goals as goal

pub returns-in-Member : goal.returns-in-Member
returns-in-Member c =
    let f = c.args.f in
    let vs : List (List Tuple) = map (λ v. v.now) c.args.self.terms.now in
    let v = value_of vs f.term in
    let t = c.represented.result in
    let same : t ≡ fact_tuple c.args.self.representatives.now f = c.represented.ensures ∙ ap (λ (u : Tuple). by_names c.args.self.representatives.now u.a u.b u.c u.d) c.from.ensures in
    let there : c.contains.result ≡ has equal_names v t = c.contains.ensures ∙ ap (λ l. has equal_names l t) c.of-s.ensures in
    rw c.in-Member.is (
      λ e. subst (In v) same (has_in equal_names same_law v t (sym there ∙ e)),
      λ m. there ∙ in_has equal_names same_law v t (subst (In v) (sym same) m),
    )

pub returns-then-within : goal.returns-then-within
returns-then-within c =
    let s = c.of-s.result.now in
    let r = c.of-r.result.now in
    let one = subst (λ b. Decides b (Includes (In s) (In r))) (sym c.within.ensures) (includes_decides r s) in
    let other = subst (λ b. Decides b (Includes (In r) (In s))) (sym c.within-then-within.ensures) (includes_decides s r) in
    rw (c.in-EqualTerms.is, ← c.of-s.ensures, ← c.of-r.ensures) (both_decide c.within.result _ _ one c.within-then-within.result c.if-within.true other)

pub returns-else-within : goal.returns-else-within
returns-else-within c =
    let s = c.of-s.result.now in
    let r = c.of-r.result.now in
    let one = subst (λ b. Decides b (Includes (In s) (In r))) (sym c.within.ensures) (includes_decides r s) in
    rw (c.in-EqualTerms.is, ← c.of-s.ensures, ← c.of-r.ensures) (first_decides c.within.result _ _ one c.if-within.false)
