-- No run from a satisfied sheet ends closed: `refutes`.
use Rattle.std.proofs.Common.{◌≡◌, ℕ, ◌+◌, ◌<◌, ◌≤◌, ◌⊎◌, List, [], ◌∷◌, sym, refl, ◌∙◌, inl, inr, ⊎_elim, arith}
use mathlib.Core.Option.{Option}
use Rattle.std.specs.List.{AllByRecursion}
use Rattle.std.proofs.ByRecursion.{All-append, All-weaker}
use Rattle.meaning.specs.Terms.{Row, Form, member, equal, same, Fact, Sheet, names, Full, FormFits}
use Rattle.meaning.specs.Meaning.{Thing, Interp, SatFact, Reads, Satisfiable}
use Rattle.meaning.specs.Calculus.{Alt, Cites, cites_none, cites_one, cites_two, Branch, extend, Fork, State, running, closed, enter, apply, Step, step, Run, done, then, start}
use Rattle.meaning.proofs.Lookups.{all_at}
use Rattle.meaning.proofs.Names.{Below, sat_old}
use Rattle.meaning.proofs.RuleSound.{Some, rule_sound}
use Rattle.meaning.proofs.RuleFits.{Fits, form_up, rule_fits}

-- what all facts of a branch have, those that are cited have
pub all_cited : (P : Fact → Type 0) (l ps : List Fact) {r p q : ℕ} → AllByRecursion P l → Cites l r p q ps → AllByRecursion P ps
all_cited P l _ h cites_none = tt
all_cited P l _ h (cites_one {p = p} {f = f} a) = (all_at P l p f h a.is, tt)
all_cited P l _ h (cites_two {p = p} {q = q} {f = f} {g = g} a b) = (all_at P l p f h a.is, (all_at P l q g h b.is, tt))

pub fit_low : (rs : List Row) (n : ℕ) (c : Fact) → FormFits rs n c.form → Below n c
fit_low rs n c h = go c.form h
  where
    go : (f : Form) → FormFits rs n f → Below n (record { sign = c.sign; form = f })
    go (member u t) h = h.1
    go (equal a b) h = h
    go (same s r) h = tt

-- what every run keeps of a sheet's names and arities
module _ (K : ℕ → Option ℕ) (S : Sheet) (full : Full S) where
  -- the branch has the sheet's names, and its facts fit the sheet
  abbrev pub Neat : Branch → Type 0
  Neat b = (names S ≤ b.count) × AllByRecursion (Fits K S full b.count) b.facts

  abbrev pub NeatAlts : Branch → List Alt → Type 0
  NeatAlts b alts = AllByRecursion (λ (a : Alt). Neat (extend b a)) alts

  abbrev pub NeatForks : List Fork → Type 0
  NeatForks fs = AllByRecursion (λ (f : Fork). NeatAlts f.at (f.next ∷ f.later)) fs

  abbrev pub NeatState : State → Type 0
  NeatState (running b fs) = Neat b × NeatForks fs
  NeatState closed = Unit {0}

  pub lows : (n : ℕ) (cs : List Fact) → AllByRecursion (Fits K S full n) cs → AllByRecursion (Below n) cs
  lows n cs h = All-weaker (Fits K S full n) (Below n) (fit_low S.rows n) cs h

  entered_neat : (b : Branch) (a : Alt) (more : List Alt) (fs : List Fork) → NeatAlts b (a ∷ more) → NeatForks fs → NeatState (enter b a more fs)
  entered_neat b a [] fs n nf = (n.0, nf)
  entered_neat b a (a' ∷ more) fs n nf = (n.0, (n.1, nf))

  applied_neat : (b : Branch) (alts : List Alt) (fs : List Fork) → NeatAlts b alts → NeatForks fs → NeatState (apply b alts fs)
  applied_neat b [] [] n nf = tt
  applied_neat b [] (f ∷ fs) n nf = entered_neat f.at f.next f.later fs nf.0 nf.1
  applied_neat b (a ∷ more) fs n nf = entered_neat b a more fs n nf

  neat_alts : (b : Branch) → Neat b → (alts : List Alt) → AllByRecursion (λ (a : Alt). AllByRecursion (Fits K S full (b.count + a.fresh)) a.facts) alts → NeatAlts b alts
  neat_alts b n [] h = tt
  neat_alts b n (a ∷ alts) h =
      let l : names S ≤ b.count = n.0 in
      let m : ℕ = b.count + a.fresh in
      ((omega arith, All-append (Fits K S full m) b.facts a.facts (All-weaker (Fits K S full b.count) (Fits K S full m) (λ c. form_up S.rows b.count m (omega arith) c.form) b.facts n.1) h.0), neat_alts b n alts h.1)

  kept_neat : {x y : State} → Step K S x y → NeatState x → NeatState y
  kept_neat (step {b = b} {fs = fs} {alts = alts} a) n =
      applied_neat b alts fs (neat_alts b n.0 alts (rule_fits K S full a.rule n.0.0 (all_cited (Fits K S full b.count) b.facts a.cited n.0.1 a.cites))) n.1

  pub run_neat : {x y : State} → Run K S x y → NeatState x → NeatState y
  run_neat done n = n
  run_neat (then s r) n = run_neat r (kept_neat s n)

  pub start_neat : NeatState (start S)
  start_neat = ((omega arith, full.constraints_fit), tt)

  -- and of an interpretation that satisfies it
  module _ (I : Interp Thing) (reads : Reads K S I) where
    -- some meaning of the names satisfies the branch
    abbrev Good : Branch → Type 0
    Good b = (e : ℕ → Thing) × ((i : ℕ) → i < names S → e i ≡ I.name i) × AllByRecursion (SatFact S.rows I e) b.facts

    abbrev GoodAlts : Branch → List Alt → Type 0
    GoodAlts b alts = Some (λ (a : Alt). Good (extend b a)) alts

    abbrev GoodForks : List Fork → Type 0
    GoodForks fs = Some (λ (f : Fork). GoodAlts f.at (f.next ∷ f.later)) fs

    -- the branch is satisfied, or some alternative that is left
    abbrev Live : State → Type 0
    Live (running b fs) = Good b ⊎ GoodForks fs
    Live closed = ⊥

    entered : (b : Branch) (a : Alt) (more : List Alt) (fs : List Fork) → GoodAlts b (a ∷ more) ⊎ GoodForks fs → Live (enter b a more fs)
    entered b a [] fs (inl (inl g)) = inl g
    entered b a [] fs (inl (inr g)) = absurd g
    entered b a [] fs (inr g) = inr g
    entered b a (a' ∷ more) fs (inl (inl g)) = inl g
    entered b a (a' ∷ more) fs (inl (inr g)) = inr (inl g)
    entered b a (a' ∷ more) fs (inr g) = inr (inr g)

    applied : (b : Branch) (alts : List Alt) (fs : List Fork) → GoodAlts b alts ⊎ GoodForks fs → Live (apply b alts fs)
    applied b [] fs (inl g) = absurd g
    applied b [] [] (inr g) = g
    applied b [] (f ∷ fs) (inr g) = entered f.at f.next f.later fs g
    applied b (a ∷ more) fs g = entered b a more fs g

    good_alts : (b : Branch) → Neat b → (g : Good b) (alts : List Alt) → Some (λ (a : Alt). (e' : ℕ → Thing) × ((i : ℕ) → i < b.count → e' i ≡ g.0 i) × AllByRecursion (SatFact S.rows I e') a.facts) alts → GoodAlts b alts
    good_alts b n g [] h = h
    good_alts b n g (a ∷ alts) (inl h) =
        let l : names S ≤ b.count = n.0 in
        inl (h.0, λ i q. h.1 i (omega arith) ∙ g.1 i q, All-append (SatFact S.rows I h.0) b.facts a.facts (sat_old S.rows I g.0 h.0 b.count (λ i q. sym (h.1 i q)) b.facts (lows b.count b.facts n.1) g.2) h.2)
    good_alts b n g (a ∷ alts) (inr h) = inr (good_alts b n g alts h)

    kept : {x y : State} → Step K S x y → NeatState x → Live x → Live y
    kept (step {b = b} {fs = fs} {alts = alts} a) n live =
        let fits = all_cited (Fits K S full b.count) b.facts a.cited n.0.1 a.cites in
        applied b alts fs
        (⊎_elim (λ g. inl (good_alts b n.0 g alts (rule_sound K S full I reads a.rule n.0.0 g.0 g.1 (lows b.count a.cited fits) (all_cited (SatFact S.rows I g.0) b.facts a.cited g.2 a.cites)))) (λ g. inr g) live)

    run_live : {x y : State} → Run K S x y → NeatState x → Live x → Live y
    run_live done n live = live
    run_live (then s r) n live = run_live r (kept_neat s n) (kept s n live)

-- a full sheet that some interpretation under K satisfies: no run of the rules ends closed
pub refutes : (K : ℕ → Option ℕ) (S : Sheet) → Full S → Satisfiable K S → Run K S (start S) closed → ⊥
refutes K S full sat run = run_live K S full sat.0 sat.1 run (start_neat K S full) (inl (sat.0.name, λ i h. refl, sat.2))
