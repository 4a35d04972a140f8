use Rattle.std.proofs.Common.{◌+◌, ◌-◌, ◌*◌, ◌<◌, ◌≤◌, [], ◌∷◌, get_or, length, sym, refl, ap, arith}
use Rattle.std.specs.List.{flat_map}
use Rattle.std.proofs.lemmas.List.{take_all}
use Rattle.meaning.specs.Text.{opened, text}
use Rattle.meaning.specs.Mixes.{name_lines}
use Rattle.calls.specs.Listing.{fact_lines}
use Rattle.rules.specs.Facts.{no_fact}
use Rattle.listing.specs.Buffer.{Listed}
use Rattle.listing.proofs.Pages.{listed_none, listed_more, listed_as, listed_next}
use Rattle.listing.proofs.Pieces.{names_next, name_most, open_total}
use Rattle.listing.proofs.branch.BranchListing.put.Goals as goal
use Rattle.listing.proofs.branch.BranchListing.put.Goals.{in-Some, in_default}

pub loop-name-preserved : goal.loop-name-preserved
loop-name-preserved c =
    let e = c.loop-name.name in
    let rs = c.args.self.now.representatives.now in
    let few : e < 64 = omega (arith, c.args.self.now.few_names) in
    listed_as _ _ (names_next rs e c.loop-name-test.true) (omega arith) (listed_more _ _ _ (11 + ((e + 1 - 10) - (e - 10))) c.loop-name.invariant (record { wrote = c.put-in-loop-name.ensures.wrote; most = name_most e (get_or rs e 0) few (omega arith) }))

pub loop-fact-preserved : goal.loop-fact-preserved
loop-fact-preserved c =
    let b = c.args.self.now in
    let lines = fact_lines b.representatives.now b.terms.now in
    let m = 23 * c.loop-fact.fact-index in
    let t : m + 23 ≤ 23 * (c.loop-fact.fact-index + 1) = omega arith in
    elim c.match-entry.branch [
      | in-Some w ↦ rw w.page-is (listed_next lines b.facts.now c.loop-fact.fact-index no_fact m 23 _ t c.loop-fact-test.true c.loop-fact.invariant (listed_as _ 23 (sym w.in-Some.ensures) (omega arith) w.put-in-Some.ensures))
      | in_default w ↦ rw w.page-is (listed_next lines b.facts.now c.loop-fact.fact-index no_fact m 23 _ t c.loop-fact-test.true c.loop-fact.invariant (listed_as _ 23 (sym w.in_default.ensures) (omega arith) (listed_none _ 23)))
    ]

pub returns : goal.returns
returns c =
    let b = c.args.self.now in
    let n = length b.representatives.now in
    let k = length b.facts.now in
    let o : Listed c.args.page.now (opened b.granted ∷ []) c.put.new.page (length (text (opened b.granted ∷ []))) = record { wrote = c.put.ensures.wrote; most = omega arith } in
    let names = listed_as _ (11 * n + (n - 10)) (ap (λ l. name_lines l 0) (take_all c.loop-name.name b.representatives.now c.loop-name-test.false)) (omega arith) c.loop-name.invariant in
    let facts = listed_as _ (23 * k) (ap (flat_map (fact_lines b.representatives.now b.terms.now)) (take_all c.loop-fact.fact-index b.facts.now c.loop-fact-test.false)) (omega arith) c.loop-fact.invariant in
    listed_as _ _ refl (open_total b.granted n k (omega arith) b.few_names b.few_facts) (listed_more _ _ _ _ o (listed_more _ _ _ _ names facts))
