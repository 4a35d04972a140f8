-- A step has a plan exactly where a rule of the calculus applies, with the same alternatives (`bridged`).
use Rattle.std.proofs.Common.{◌≡◌, ℕ, ◌+◌, ◌≤◌, Bool, true, false, cond, eqb, List, [], ◌∷◌, ◌++◌, map, Some, Ok, Result, sym, refl, ap, ◌∙◌, subst, ap₂, arith, eq-eqb, eqb-true}
use Rattle.std.proofs.lemmas.Bool.{and_parts}
use mathlib.Core.Option.{Option, some}
use Rattle.std.specs.List.{AllByRecursion, slice_get}
use Rattle.std.proofs.ByRecursion.{All-append}
use Rattle.records.specs.declared.rows.Fact.{Fact as FactRow}
use Rattle.records.specs.declared.rows.Step.{Step}
use Rattle.records.specs.declared.rule.Rule.{Rule as RuleName}
use Rattle.records.specs.declared.refusal.Refusal.{Refusal}
use Rattle.rules.specs.declared.cited.Alt.{Alt as AltRow}
use Rattle.rules.specs.declared.cited.Cited.{Cited}
use Rattle.rules.specs.declared.cited.Plan.{Plan}
use Rattle.rules.specs.Facts.{no_fact}
use Rattle.rules.specs.Rules.{line_met}
use Rattle.records.specs.Kinds.{rule_number, rule_of}
use Rattle.rules.specs.Looked.{uses, untouched, looked, cited_by, zeros_kept}
use Rattle.rules.specs.Looked.{planned}
use Rattle.meaning.specs.Terms.{Fact, names}
use Rattle.meaning.specs.Calculus.{Alt, Rule, At, alone, Cites, cites_none, cites_one, cites_two}
use Rattle.calls.specs.Reading.{read_fact, write_fact, write_alt, read_alt, alt_facts, Plain, read_sheet, FactFits}
use Rattle.calls.specs.Reading.{Good}
use Rattle.calls.specs.Passing.{alt_rows, Passes, second_of, From, from_none, from_one, from_twice, from_two}
use Rattle.calls.specs.Bridge.{plan_alts, Fair, AppliesTo, Bridged}
use Rattle.meaning.proofs.RuleFits.{Fits, rule_fits}
use Rattle.calls.proofs.Lookups.{unmap, remap, all_at, same_entry}
use Rattle.calls.proofs.Numbers.{named, numbered}
use Rattle.calls.proofs.Rows.{full}
use Rattle.calls.proofs.Written.{few, alts_back, alts_kept, facts_up}
use Rattle.calls.proofs.Complete.{complete}
use Rattle.calls.proofs.Forking.{made}
use Rattle.calls.proofs.Found.{found}

-- a field that is zero, by its test
zero_when : (b : Bool) (p : ℕ) → b ≡ false → untouched b p ≡ true → p ≡ 0
zero_when true p e h = absurd cc
zero_when false p e h = eqb-true p 0 h

module _ (K : ℕ → Option ℕ) (P : Plain) (good : Good P) where
  -- a fact that fits a branch with n names
  abbrev Fitting : ℕ → Fact → Type 0
  Fitting n f = Fits K (read_sheet P) (full P good) n f

  -- what a step cites
  abbrev cites : RuleName → Step → FactRow → FactRow → Cited
  cites r x f g = cited_by K P.codes P.rows r x f g

  module _ (facts : List FactRow) (n : ℕ) (fit : AllByRecursion (FactFits P n) facts) where
    -- the branch, read
    abbrev branch : List Fact
    branch = map (read_fact P.rows) facts

    -- the plan of a step
    abbrev plan_of : Step → Result Plan Refusal
    plan_of x = planned K P.codes P.rows facts x

    -- a field is looked up, or is zero
    abbrev Looks : Bool → ℕ → FactRow → Type 0
    Looks b p f = (looked b facts p ≡ Some f) × (untouched b p ≡ true)

    -- the facts of each alternative fit
    abbrev Kept : List AltRow → Type 0
    Kept xs = AllByRecursion (λ (a : AltRow). AllByRecursion (FactFits P (n + a.fresh)) (alt_facts a)) xs

    -- ── a step that applies has a plan ─────────────────────────────────────

    -- the row of a fact of the branch
    row_there : (p : ℕ) (f : Fact) → At branch p f → (slice_get facts p ≡ Some (write_fact f)) × Fitting n f
    row_there p f a =
        let r = unmap (read_fact P.rows) facts p f a.is in
        let b = all_at (FactFits P n) facts p r.0 fit r.1 in (
          (same_entry facts p r.0).0 r.1 ∙ ap Some (sym b.written ∙ ap write_fact r.2),
          subst (λ (x : Fact). Fitting n x) r.2 b.fits,
        )

    -- a plan from what it is made of
    make :
        (x : Step) (r : RuleName) (f g : FactRow) → rule_number r ≡ x.rule →
        Looks (uses r).p x.p f → Looks (uses r).q x.q g →
        untouched (uses r).t x.t ≡ true → untouched (uses r).w x.w ≡ true →
        line_met r (cites r x f g) ≡ true →
        plan_of x ≡ Ok (record { rule = r; cited = cites r x f g })
    make x r f g en hp hq ht hw m =
        cc (ap rule_of (sym en) ∙ named r)

    look_none : (b : Bool) (p : ℕ) → b ≡ false → p ≡ 0 → Looks b p no_fact
    look_none b p e z = (ap (λ (c : Bool). looked c facts p) e, ap₂ untouched e z)

    look_some : (b : Bool) (p : ℕ) (f : FactRow) → b ≡ true → slice_get facts p ≡ Some f → Looks b p f
    look_some b p f e h = (ap (λ (c : Bool). looked c facts p) e ∙ h, ap (λ (c : Bool). untouched c p) e)

    -- q, where it is p again or nothing
    second :
        (z b : Bool) (q p : ℕ) (f : FactRow) → b ≡ z → q ≡ cond z p 0 → slice_get facts p ≡ Some f →
        Looks b q (cond z f no_fact)
    second true b q p f eb e h = look_some b q f eb (ap (slice_get facts) e ∙ h)
    second false b q p f eb e h = look_none b q eb e

    -- what is to show: a plan, with these alternatives, which keep facts fitting
    abbrev Goal : Step → List Alt → Type 0
    Goal x alts =
        (y : Plan) × (plan_of x ≡ Ok y) × (plan_alts P n y ≡ alts) × Kept (alt_rows y.rule y.cited n)

    finish :
        (x : Step) (ps : List Fact) (f g : FactRow) (alts : List Alt) → names (read_sheet P) ≤ n →
        Rule K (read_sheet P) n x.rule x.t x.w ps alts → AllByRecursion (Fitting n) ps →
        (s : Passes K P n x.rule (eqb x.p x.q) ps f g x.t x.w (map write_alt alts)) →
        Looks (uses s.rule).p x.p f → Looks (uses s.rule).q x.q g → Goal x alts
    finish x ps f g alts l rule b s hp hq =
        let size = few K P good rule b in
        let fits = rule_fits K (read_sheet P) (full P good) rule l b in (
          record { rule = s.rule; cited = cites s.rule x f g },
          make x s.rule f g s.numbered hp hq s.t_use s.w_use s.met,
          ap (map (read_alt P.rows)) s.gives ∙ alts_back K P good n alts size fits,
          subst Kept (sym s.gives) (alts_kept K P good n alts size fits),
        )

    met : names (read_sheet P) ≤ n → (x : Step) (alts : List Alt) → AppliesTo K P facts n x alts → Goal x alts
    met l x alts a = go a.cited a.rule x.p x.q refl refl a.cites
      where
        go :
            (ps : List Fact) → Rule K (read_sheet P) n x.rule x.t x.w ps alts →
            (p q : ℕ) → x.p ≡ p → x.q ≡ q → Cites branch x.rule p q ps → Goal x alts
        go ps rule p q ep eq cites_none =
            let s = complete K P good rule tt (eqb x.p x.q) tt in
            finish x [] no_fact no_fact alts l rule tt s
            (look_none _ x.p s.p_use ep)
            (look_none _ x.q s.q_use eq)
        go ps rule p q ep eq (cites_one {f = f} h) =
            let hp = row_there x.p f (subst (λ (i : ℕ). At branch i f) (sym ep) h) in
            let b : AllByRecursion (Fitting n) (f ∷ []) = (hp.1, tt) in
            let s =
            complete K P good rule b (eqb x.p x.q)
            (λ e. eq-eqb x.p x.q (ep ∙ sym (eq ∙ ap (λ (i : ℕ). alone i p) e))) in
            finish x (f ∷ []) (write_fact f) (second_of x.rule (f ∷ [])) alts l rule b s
            (look_some _ x.p _ s.p_use hp.0)
            (second (eqb x.rule 11) _ x.q p (write_fact f) s.q_use eq
            (ap (slice_get facts) (sym ep) ∙ hp.0))
        go ps rule p q ep eq (cites_two {f = f} {g = g} h k) =
            let hp = row_there x.p f (subst (λ (i : ℕ). At branch i f) (sym ep) h) in
            let hq = row_there x.q g (subst (λ (i : ℕ). At branch i g) (sym eq) k) in
            let b : AllByRecursion (Fitting n) (f ∷ g ∷ []) = (hp.1, (hq.1, tt)) in
            let s = complete K P good rule b (eqb x.p x.q) tt in
            finish x (f ∷ g ∷ []) (write_fact f) (write_fact g) alts l rule b s
            (look_some _ x.p _ s.p_use hp.0)
            (look_some _ x.q _ s.q_use hq.0)

    -- ── a step that has a plan applies ─────────────────────────────────────

    at_read :
        (p : ℕ) (f : FactRow) (h : Fact) → slice_get facts p ≡ Some f → h ≡ read_fact P.rows f → At branch p h
    at_read p f h e q =
        record { is = remap (read_fact P.rows) facts p f ((same_entry facts p f).1 e) ∙ ap some (sym q) }

    sees : (b : Bool) (p : ℕ) (f : FactRow) → b ≡ true → looked b facts p ≡ Some f → slice_get facts p ≡ Some f
    sees true p f e h = h
    sees false p f e h = absurd cc

    fits_seen : (b : Bool) (p : ℕ) (f : FactRow) → looked b facts p ≡ Some f → b ≡ true → FactFits P n f
    fits_seen b p f h e = all_at (FactFits P n) facts p f fit ((same_entry facts p f).1 (sees b p f e h))

    -- the fields p and q cite what the rule's facts come from
    citing :
        (r : RuleName) (p q : ℕ) (f g : FactRow) (ps : List Fact) →
        Looks (uses r).p p f → Looks (uses r).q q g →
        From r (eqb p q) (read_fact P.rows f) (read_fact P.rows g) ps → Cites branch (rule_number r) p q ps
    citing r p q f g ps hp hq (from_none up uq) =
        rw (zero_when (uses r).p p up hp.1, zero_when (uses r).q q uq hq.1) cites_none
    citing r p q f g ps hp hq (from_one {h = h} up uq ne e) =
        let zq = sym (zero_when (uses r).q q uq hq.1) in
        subst (λ (i : ℕ). Cites branch (rule_number r) p i (h ∷ [])) (ap (λ (z : Bool). cond z p 0) ne ∙ zq)
        (cites_one (at_read p f h (sees (uses r).p p f up hp.0) e))
    citing r p q f g ps hp hq (from_twice {h = h} up uq n11 o e) =
        subst (λ (i : ℕ). Cites branch (rule_number r) p i (h ∷ []))
        (ap (λ (i : ℕ). alone i p) n11 ∙ eqb-true p q o)
        (cites_one (at_read p f h (sees (uses r).p p f up hp.0) e))
    citing r p q f g ps hp hq (from_two {h = h} {k = k} up uq e e') =
        cites_two
        (at_read p f h (sees (uses r).p p f up hp.0) e)
        (at_read q g k (sees (uses r).q q g uq hq.0) e')

    -- the step applies, with some alternatives
    abbrev SomeApply : Step → Type 0
    SomeApply x = (alts : List Alt) × AppliesTo K P facts n x alts

    applies : (x : Step) (y : Plan) → plan_of x ≡ Ok y → SomeApply x
    applies x y h =
        let w = made K P.codes P.rows facts x y h in
        let m = and_parts (zeros_kept y.rule x) _ w.met in
        let hp = and_parts (untouched (uses y.rule).p x.p) _ m.0 in
        let hq = and_parts (untouched (uses y.rule).q x.q) _ hp.1 in
        let ht = and_parts (untouched (uses y.rule).t x.t) _ hq.1 in
        let fp = fits_seen (uses y.rule).p x.p w.f w.at_p in
        let fq = fits_seen (uses y.rule).q x.q w.g w.at_q in
        let v = found K P good y.rule n (eqb x.p x.q) w.f w.g x.t x.w fp fq ht.0 ht.1 m.1 in
        let en = numbered x.rule y.rule w.named in
        let c = citing y.rule x.p x.q w.f w.g v.cited (w.at_p, hp.0) (w.at_q, hq.0) v.from in (
          v.alts,
          record {
            cited = v.cited;
            rule = subst (λ (i : ℕ). Rule K (read_sheet P) n i x.t x.w v.cited v.alts) en v.rule;
            cites = subst (λ (i : ℕ). Cites branch i x.p x.q v.cited) en c;
          },
        )

    -- ── the two together ───────────────────────────────────────────────────

    -- the alternatives are those of the plan
    met_applies :
        names (read_sheet P) ≤ n → (x : Step) (y : Plan) → plan_of x ≡ Ok y → AppliesTo K P facts n x
        (plan_alts P n y)
    met_applies l x y h =
        let a = applies x y h in
        let m = met l x a.0 a.1 in
        let e = sym m.2 ∙ ap (plan_alts P n) (cc (m.1, h)) in
        subst (λ (alts : List Alt). AppliesTo K P facts n x alts) e a.1

    one_list :
        names (read_sheet P) ≤ n → (x : Step) (alts alts' : List Alt) →
        AppliesTo K P facts n x alts → AppliesTo K P facts n x alts' → alts ≡ alts'
    one_list l x alts alts' a a' =
        let m = met l x alts a in
        let m' = met l x alts' a' in
        sym m.2 ∙ ap (plan_alts P n) (cc (m.1, m'.1)) ∙ m'.2

    -- each alternative leaves a branch that fits again
    stays_in :
        names (read_sheet P) ≤ n → (xs : List AltRow) → Kept xs →
        AllByRecursion (λ (a : AltRow). Fair P (facts ++ alt_facts a) (n + a.fresh)) xs
    stays_in l [] h = tt
    stays_in l (a ∷ xs) h =
        let m = n + a.fresh in
        let before = facts_up K P good n (n + a.fresh) (omega arith) facts fit in (
          record {
            sheet = good;
            named = omega arith;
            facts_fit = All-append (FactFits P m) facts (alt_facts a) before h.0;
          },
          stays_in l xs h.1,
        )

    stays_fair :
        names (read_sheet P) ≤ n → (x : Step) (y : Plan) → plan_of x ≡ Ok y →
        AllByRecursion (λ (a : AltRow). Fair P (facts ++ alt_facts a) (n + a.fresh)) (alt_rows y.rule y.cited n)
    stays_fair l x y h =
        let a = applies x y h in
        let m = met l x a.0 a.1 in
        let e : m.0 ≡ y = cc (m.1, h) in
        stays_in l _ (subst (λ (z : Plan). Kept (alt_rows z.rule z.cited n)) e m.3)

pub bridged : Bridged
bridged = (
  λ K P facts n fair. met_applies K P fair.sheet facts n fair.facts_fit fair.named,
  λ K P facts n fair x alts a.
      (let m = met K P fair.sheet facts n fair.facts_fit fair.named x alts a in
      (m.0, m.1, m.2)),
  λ K P facts n fair. one_list K P fair.sheet facts n fair.facts_fit fair.named,
  λ K P facts n fair. stays_fair K P fair.sheet facts n fair.facts_fit fair.named,
)
