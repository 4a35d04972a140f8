-- The facts and forks that a rule leaves, as lists, read as the state that its alternatives bring, and fit
-- again: one alternative (`adds_land`), several (`forks_land`), a fork resumed (`resume_lands`).
use Rattle.std.proofs.Common.{◌≡◌, ℕ, suc, ◌+◌, ◌-◌, ◌<◌, ◌≤◌, Bool, true, false, cond, ltb, List, [], ◌∷◌, ◌++◌, map, length, take, Some, sym, refl, ap, ◌∙◌, subst, arith, length-take, ltb-false, ltb-true, lt-ltb}
use Rattle.std.specs.List.{AllByRecursion, slice_get}
use Rattle.std.proofs.lemmas.List.{map-append, take_all, take-take, take-append-le}
use Rattle.records.specs.declared.rows.Fact.{Fact as FactRow}
use Rattle.records.specs.declared.rule.Rule.{Rule as RuleName}
use Rattle.rules.specs.declared.cited.Cited.{Cited}
use Rattle.rules.specs.declared.cited.Alt.{Alt as AltRow}
use Rattle.rules.specs.declared.outcome.Fork.{Fork as ForkRow}
use Rattle.rules.specs.Rules.{alternative_of, alternatives_of, size_of, facts_of}
use Rattle.meaning.specs.Calculus.{Alt, up_from, Fork, State, running, enter, resume, apply, extend}
use Rattle.calls.specs.Reading.{Plain, read_fact, read_alt, alt_facts}
use Rattle.calls.specs.Passing.{alt_rows}
use Rattle.calls.specs.Bridge.{read_branch, Fair}
use Rattle.calls.specs.RuleSteps.{or_none, cited_again, onward}
use Rattle.calls.specs.Views.{cited_at, fork_with, read_fork, read_forks, ForkFits, Stacked, over}
use Rattle.calls.proofs.Fronts.{nth_cut}
use Rattle.calls.proofs.Forks.{
  map_same,
  all_at_number,
  more_from,
  none_from,
  forks_more,
  forks_same,
  fits_moved,
  stack_moved,
}
use Rattle.calls.proofs.Forking.{few_alternatives}

-- The facts F, m of them, with n names and the forks G, read as the state x, over c constraints.
pub record Lands (P : Plain) (c : ℕ) (x : State) (m n : ℕ) (F : List FactRow) (G : List ForkRow) : Type 0 where
  pub reads : running (read_branch P F n) (read_forks P F G []) ≡ x
  pub fair : Fair P F n
  pub stacked : Stacked P F c m G
  pub few_facts : m ≤ 1024
  pub few_names : n ≤ 64
  pub kept : c ≤ m

-- the fork of a rule that cites fact p and the term t, with its second alternative next
abbrev pub new_fork : ℕ → ℕ → RuleName → ℕ → ℕ → ForkRow
new_fork m n r p t = record { facts = m; names = n; rule = r; p = p; t = t; next = 1 }

module _
    (P : Plain) (c m n : ℕ) (F : List FactRow) (G : List ForkRow) (len : length F ≡ m) (st : Stacked P F c m G)
    (kept : c ≤ m) where
  -- the front stays
  front_stays : (a : AltRow) → take m F ≡ take m (F ++ facts_of a)
  front_stays a = sym (take-append-le m F (facts_of a) (omega arith))

  forks_stay : (a : AltRow) → read_forks P (F ++ facts_of a) G [] ≡ read_forks P F G []
  forks_stay a = sym (forks_same P c F (F ++ facts_of a) m G [] st (front_stays a))

  branch_grown :
      (a : AltRow) →
      read_branch P (F ++ facts_of a) (n + a.fresh) ≡ extend (read_branch P F n) (read_alt P.rows a)
  branch_grown a = cc (map-append (read_fact P.rows) F (facts_of a))

  -- one alternative
  pub adds_land :
      (r : RuleName) (q : Cited) (a : AltRow) → alternative_of r q n 0 ≡ a → alternatives_of r ≡ 1 →
      m + size_of a ≤ 1024 → n + a.fresh ≤ 64 → Fair P (F ++ facts_of a) (n + a.fresh) →
      Lands P c (apply (read_branch P F n) (map (read_alt P.rows) (alt_rows r q n)) (read_forks P F G []))
      (m + size_of a) (n + a.fresh) (F ++ facts_of a) G
  adds_land r q a ea one lm ln fair =
      let alts : map (read_alt P.rows) (alt_rows r q n) ≡ read_alt P.rows a ∷ [] =
      cc (one, ea) in
      record {
        reads =
            cc (branch_grown a, forks_stay a, alts);
        fair = fair;
        stacked = stack_moved P c F (F ++ facts_of a) m (m + size_of a) G (omega arith) (front_stays a) st;
        few_facts = lm;
        few_names = ln;
        kept = omega arith;
      }

  -- the first of several, and a fork for the others
  module _
      (r : RuleName) (q : Cited) (a : AltRow) (ea : alternative_of r q n 0 ≡ a) (k : ℕ)
      (two : alternatives_of r ≡ suc (suc k)) (p t : ℕ) (g : FactRow) (at_p : slice_get F p ≡ Some g) (low : p < m)
      (each : (i : ℕ) → alternative_of r q n i ≡ alternative_of r (cited_again P.rows g t) n i) where
    -- the cited fact on the longer branch
    still_there : Some g ≡ slice_get (F ++ facts_of a) p
    still_there = sym at_p ∙ nth_cut F (F ++ facts_of a) m p low (front_stays a)

    each_again :
        (i : ℕ) → alternative_of r q n i ≡ alternative_of r (cited_at P (F ++ facts_of a) (new_fork m n r p t)) n i
    each_again i =
        cc (each i, still_there)

    rows_again : alt_rows r q n ≡ alt_rows r (cited_at P (F ++ facts_of a) (new_fork m n r p t)) n
    rows_again = map_same _ _ each_again (up_from 0 (alternatives_of r))

    -- what holds of the alternatives holds of them as made again
    all_again :
        (Q : AltRow → Type 0) → AllByRecursion Q (alt_rows r q n) →
        AllByRecursion Q (alt_rows r (cited_at P (F ++ facts_of a) (new_fork m n r p t)) n)
    all_again Q h = subst (λ (z : List AltRow). AllByRecursion Q z) rows_again h

    front_is : take m (F ++ facts_of a) ≡ F
    front_is = sym (front_stays a) ∙ take_all m F (omega arith)

    -- the alternatives of the rule, from the fork's
    alts_again :
        map (read_alt P.rows) (alt_rows r q n)
        ≡ read_alt P.rows a
        ∷ (read_fork P (F ++ facts_of a) (new_fork m n r p t)).next
        ∷ (read_fork P (F ++ facts_of a) (new_fork m n r p t)).later
    alts_again =
        let e : k ≡ alternatives_of r - 2 = omega arith in
        ap (map (read_alt P.rows)) rows_again
        ∙ ap
        (λ (j : ℕ). map (read_alt P.rows)
        (map (alternative_of r (cited_at P (F ++ facts_of a) (new_fork m n r p t)) n) (up_from 0 j)))
        two
        ∙ (λ i. read_alt P.rows ((sym (each_again 0) ∙ ea) i)
        ∷ (read_fork P (F ++ facts_of a) (new_fork m n r p t)).next
        ∷ map (read_alt P.rows)
        (map (alternative_of r (cited_at P (F ++ facts_of a) (new_fork m n r p t)) n) (up_from 2 (e i))))

    fork_reads :
        read_forks P (F ++ facts_of a) (G ++ (new_fork m n r p t ∷ [])) []
        ≡ record {
          at = read_branch P F n;
          next = (read_fork P (F ++ facts_of a) (new_fork m n r p t)).next;
          later = (read_fork P (F ++ facts_of a) (new_fork m n r p t)).later;
        } ∷ read_forks P F G []
    fork_reads =
        forks_more P (F ++ facts_of a) G (new_fork m n r p t) []
        ∙ (λ i. record {
          at = read_branch P (front_is i) n;
          next = (read_fork P (F ++ facts_of a) (new_fork m n r p t)).next;
          later = (read_fork P (F ++ facts_of a) (new_fork m n r p t)).later;
        } ∷ forks_stay a i)

    pub forks_land :
        n ≤ 64 → m + size_of a ≤ 1024 → n + a.fresh ≤ 64 →
        AllByRecursion (λ (z : AltRow). n + z.fresh ≤ 64) (alt_rows r q n) →
        AllByRecursion (λ (z : AltRow). m + length (alt_facts z) ≤ 1024) (alt_rows r q n) →
        AllByRecursion (λ (z : AltRow). Fair P (F ++ alt_facts z) (n + z.fresh)) (alt_rows r q n) →
        Fair P (F ++ facts_of a) (n + a.fresh) →
        Lands P c (apply (read_branch P F n) (map (read_alt P.rows) (alt_rows r q n)) (read_forks P F G []))
        (m + size_of a) (n + a.fresh) (F ++ facts_of a) (G ++ (new_fork m n r p t ∷ []))
    forks_land few lm ln names_fit facts_fit all_fair fair = record {
      reads =
          cc (branch_grown a, fork_reads, alts_again);
      fair = fair;
      stacked =
          over G (new_fork m n r p t) refl
          (stack_moved P c F (F ++ facts_of a) m m G (omega arith) (front_stays a) st)
          (record {
            front = omega arith;
            constraints_below = kept;
            cites_below = low;
            few_names = few;
            left = omega arith;
            names_fit = all_again (λ (z : AltRow). n + z.fresh ≤ 64) names_fit;
            facts_fit = all_again (λ (z : AltRow). m + length (alt_facts z) ≤ 1024) facts_fit;
            fair =
                all_again (λ (z : AltRow). Fair P (take m (F ++ facts_of a) ++ alt_facts z) (n + z.fresh))
                (rw front_is all_fair);
          });
      few_facts = lm;
      few_names = ln;
      kept = omega arith;
    }

-- the latest fork resumed, on the front that it was made on
module _
    (P : Plain) (c m : ℕ) (F : List FactRow) (G : List ForkRow) (f : ForkRow) (len : length F ≡ m)
    (st : Stacked P F c f.facts G) (fit : ForkFits P F c m f) where
  -- the alternative that comes next
  abbrev pub next_of : AltRow
  next_of = alternative_of f.rule (cited_at P F f) f.names f.next

  -- what holds of the fork's alternatives holds of the next
  next_has : (Q : AltRow → Type 0) → AllByRecursion Q (alt_rows f.rule (cited_at P F f) f.names) → Q next_of
  next_has Q h =
      all_at_number Q (alternative_of f.rule (cited_at P F f) f.names) (alternatives_of f.rule) f.next h
      fit.left

  pub next_few_names : f.names + next_of.fresh ≤ 64
  next_few_names = next_has (λ (z : AltRow). f.names + z.fresh ≤ 64) fit.names_fit

  pub next_few_facts : f.facts + size_of next_of ≤ 1024
  next_few_facts = next_has (λ (z : AltRow). f.facts + length (alt_facts z) ≤ 1024) fit.facts_fit

  next_step : (onward f).next ≡ f.next + 1
  next_step =
      ap (λ (b : Bool). cond b (f.next + 1) 3) (lt-ltb f.next 3 (omega (arith, few_alternatives f.rule)))

  -- the front of the fork, and the facts after its next alternative
  abbrev cut : List FactRow
  cut = take f.facts F

  abbrev after : List FactRow
  after = take f.facts F ++ facts_of next_of

  cut_long : f.facts ≤ length cut
  cut_long = omega (arith, length-take f.facts F)

  front_kept : take f.facts F ≡ take f.facts after
  front_kept =
      sym
      (take-append-le f.facts cut (facts_of next_of) cut_long ∙ take-take f.facts f.facts F (omega arith))

  others_kept : read_forks P after G [] ≡ read_forks P F G []
  others_kept = sym (forks_same P c F after f.facts G [] st front_kept)

  after_reads :
      read_branch P after (f.names + next_of.fresh)
      ≡ extend (read_branch P cut f.names) (read_alt P.rows next_of)
  after_reads =
      cc (map-append (read_fact P.rows) cut (facts_of next_of))

  -- the alternatives after the next, read
  abbrev later_from : List ℕ → List Alt
  later_from js = map (read_alt P.rows) (map (alternative_of f.rule (cited_at P F f) f.names) js)

  -- the fork by whether an alternative is left after this one
  abbrev pub left_forks : Bool → List ForkRow
  left_forks b = cond b (G ++ (onward f ∷ [])) G

  resumed_reads :
      (b : Bool) → ltb (onward f).next (alternatives_of f.rule) ≡ b →
      running (read_branch P after (f.names + next_of.fresh)) (read_forks P after (left_forks b) [])
      ≡ enter (read_branch P cut f.names) (read_alt P.rows next_of)
      (later_from (up_from (f.next + 1) (alternatives_of f.rule - (f.next + 1)))) (read_forks P F G [])
  resumed_reads true q =
      let lo : (onward f).next < alternatives_of f.rule = ltb-true _ _ q in
      let some_left =
      more_from (f.next + 1) (alternatives_of f.rule)
      (subst (λ (j : ℕ). j < alternatives_of f.rule) next_step lo) in
      let ep = nth_cut F after f.facts f.p fit.cites_below front_kept in
      ap (λ (z : List Fork). running (read_branch P after (f.names + next_of.fresh)) z)
      (forks_more P after G (onward f) [])
      ∙ (λ i. running (after_reads i) (read_fork P after (onward f) ∷ others_kept i))
      ∙ (λ i. running (extend (read_branch P cut f.names) (read_alt P.rows next_of))
      (fork_with P
      (record f { next = next_step i })
      (sym front_kept i) (cited_again P.rows (or_none (sym ep i)) f.t)
      ∷ read_forks P F G []))
      ∙ ap
      (λ (z : List ℕ). enter (read_branch P cut f.names) (read_alt P.rows next_of) (later_from z)
      (read_forks P F G []))
      (sym some_left)
  resumed_reads false q =
      let lo : alternatives_of f.rule ≤ (onward f).next = ltb-false _ _ q in
      let none_left =
      none_from (f.next + 1) (alternatives_of f.rule)
      (subst (λ (j : ℕ). alternatives_of f.rule ≤ j) next_step lo) in
      (λ i. running (after_reads i) (others_kept i))
      ∙ ap
      (λ (z : List ℕ). enter (read_branch P cut f.names) (read_alt P.rows next_of) (later_from z)
      (read_forks P F G []))
      (sym none_left)

  resumed_stacked :
      (b : Bool) → ltb (onward f).next (alternatives_of f.rule) ≡ b →
      Stacked P after c (f.facts + size_of next_of) (left_forks b)
  resumed_stacked true q =
      let own = fits_moved P c F F m f.facts f (omega arith) refl fit in
      let fit' = fits_moved P c F after f.facts (f.facts + size_of next_of) f (omega arith) front_kept own in
      over G (onward f) refl (stack_moved P c F after f.facts f.facts G (omega arith) front_kept st)
      (search (ltb-true _ _ q))
  resumed_stacked false q =
      stack_moved P c F after f.facts (f.facts + size_of next_of) G (omega arith) front_kept st

  pub resume_lands :
      (b : Bool) → ltb (onward f).next (alternatives_of f.rule) ≡ b →
      Lands P c (resume (read_forks P F (G ++ (f ∷ [])) [])) (f.facts + size_of next_of)
      (f.names + next_of.fresh) (take f.facts F ++ facts_of next_of) (left_forks b)
  resume_lands b q =
      record {
        reads = cc (resumed_reads b q, forks_more P F G f []);
        fair = next_has (λ (z : AltRow). Fair P (take f.facts F ++ alt_facts z) (f.names + z.fresh)) fit.fair;
        stacked = resumed_stacked b q;
        few_facts = next_few_facts;
        few_names = next_few_names;
        kept = omega arith;
      }
