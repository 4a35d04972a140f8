-- What every mix keeps: the sheet of a trial that is reached is full, and its state comes by a run of the calculus on which the verdict rests, `reached_tried`.
use Rattle.std.proofs.Common.{◌≡◌, ℕ, ◌+◌, ◌<◌, ◌≤◌, List, [], ◌∷◌, length, sym, refl, subst, ⊎_elim, arith, length-append}
use mathlib.Core.Option.{Option}
use Rattle.std.specs.List.{AllByRecursion}
use Rattle.std.proofs.ByRecursion.{All-append}
use Rattle.meaning.specs.Terms.{Row, Sheet, names, Full}
use Rattle.meaning.specs.Meaning.{Satisfies}
use Rattle.meaning.specs.Calculus.{Alt, Branch, extend, Fork, State, running, closed, enter, apply, Step, Run, start}
use Rattle.meaning.specs.Calculus
use Rattle.meaning.specs.Model.{Lawful, Named}
use Rattle.meaning.specs.Mixes.{most_sheet_names, most_terms, most_constraints, most_names, most_facts, most_forks, most_records, code, Header, Made, Draft, fresh, Verdict, undecided, CLOSED, OPEN, Trial, verdict_at, counted, Stage, filling, trying, settled, Call, step, Grants, label_row, term_row, constraint_row, full_sheet, rule_step, model_step, verdict_there, denied_at, Goes, granted, denied, Mix, end, next}
use Rattle.meaning.specs.Law.{Reaches}
use Rattle.meaning.proofs.Drafts.{full_fresh, full_code, full_row, full_constraint}

-- a term row's arity is 1 to 4
abbrev pub Usual : Row → Type 0
Usual r = (1 ≤ r.arity) × (r.arity ≤ 4)

-- what is kept while rows come in: what is there fits, and no more than is due is there
pub record Filled (D : Draft) : Type 0 where
  pub full : Full D.sheet
  pub usual : AllByRecursion Usual D.sheet.rows
  pub codes_due : length D.sheet.codes ≤ D.labels
  pub rows_due : length D.sheet.rows ≤ D.terms
  pub constraints_due : length D.sheet.constraints ≤ D.constraints
  pub names_fit : D.labels + D.sheet.free ≤ most_sheet_names
  pub terms_fit : D.terms ≤ most_terms
  pub constraints_fit : D.constraints ≤ most_constraints

-- what a verdict rests on
abbrev pub Rests : (ℕ → Option ℕ) → Sheet → Verdict → State → Type 0
Rests K S undecided x = (b : Branch) × (fs : List Fork) × (x ≡ running b fs)
Rests K S CLOSED x = x ≡ closed
Rests K S (OPEN rs) x = (b : Branch) × (fs : List Fork) × (x ≡ running b fs) × Lawful K S b.count rs × Satisfies S (Named S rs b.facts)

-- a branch is within the limits, and so is each alternative that is left
abbrev pub Within : Branch → Type 0
Within b = (b.count ≤ most_names) × (length b.facts ≤ most_facts)

abbrev pub AltsWithin : Branch → List Alt → Type 0
AltsWithin b alts = AllByRecursion (λ (a : Alt). Within (extend b a)) alts

abbrev pub ForksWithin : List Fork → Type 0
ForksWithin fs = AllByRecursion (λ (f : Fork). AltsWithin f.at (f.next ∷ f.later)) fs

abbrev pub StateWithin : State → Type 0
StateWithin (running b fs) = Within b × (length fs ≤ most_forks) × ForksWithin fs
StateWithin closed = Unit {0}

entered_within : (b : Branch) (a : Alt) (more : List Alt) (fs : List Fork) → AltsWithin b (a ∷ more) → length fs ≤ most_forks → (1 ≤ length more → length fs < most_forks) → ForksWithin fs → StateWithin (enter b a more fs)
entered_within b a [] fs w l k ws = (w.0, l, ws)
entered_within b a (a' ∷ more) fs w l k ws = let h = k (omega arith) in (w.0, omega arith, (w.1, ws))

applied_within : (b : Branch) (alts : List Alt) (fs : List Fork) → AltsWithin b alts → (2 ≤ length alts → length fs < most_forks) → length fs ≤ most_forks → ForksWithin fs → StateWithin (apply b alts fs)
applied_within b [] [] w k l ws = tt
applied_within b [] (f ∷ fs) w k l ws = entered_within f.at f.next f.later fs ws.0 (omega arith) (λ _. omega arith) ws.1
applied_within b (a ∷ more) fs w k l ws = entered_within b a more fs w l (λ h. k (omega arith)) ws

room_within : (b : Branch) (alts : List Alt) → AllByRecursion (λ (a : Alt). (extend b a).count ≤ most_names) alts → AllByRecursion (λ (a : Alt). length (extend b a).facts ≤ most_facts) alts → AltsWithin b alts
room_within b [] ns fs = tt
room_within b (a ∷ alts) ns fs = ((ns.0, fs.0), room_within b alts ns.1 fs.1)

-- a sealed sheet: it is full and within its limits
pub record Whole (S : Sheet) : Type 0 where
  pub full : Full S
  pub usual : AllByRecursion Usual S.rows
  pub names_fit : names S ≤ most_sheet_names
  pub terms_fit : length S.rows ≤ most_terms
  pub constraints_fit : length S.constraints ≤ most_constraints

-- what is kept of a trial
pub record Tried (K : ℕ → Option ℕ) (T : Trial) : Type 0 where
  pub whole : Whole T.sheet
  pub granted_fit : T.granted ≤ most_records
  pub run : Run K T.sheet (start T.sheet) T.state
  pub within : StateWithin T.state
  pub rests : Rests K T.sheet T.verdict T.state

-- what is kept at each stage
abbrev pub Kept : (ℕ → Option ℕ) → Stage → Type 0
Kept K (filling D) = Filled D
Kept K (trying T) = Tried K T
Kept K (settled T) = Tried K T

run_on : {K : ℕ → Option ℕ} {S : Sheet} {x y z : State} → Run K S x y → Step K S y z → Run K S x z
run_on Calculus.done s = Calculus.then s Calculus.done
run_on (Calculus.then a r) s = Calculus.then a (run_on r s)

verdict_rests : (K : ℕ → Option ℕ) (S : Sheet) (x : State) → Rests K S (verdict_at x) x
verdict_rests K S (running b fs) = (b, fs, refl)
verdict_rests K S closed = refl

module _ (K : ℕ → Option ℕ) where
  -- each way of granting keeps it, and so does a denial
  grants_kept : {st st' : Stage} {c : Call} → Grants K st c st' → Kept K st → Kept K st'
  grants_kept (label_row {D = D} a b c d l k) f =
      search (arith, full_code D.sheet (code a b c d) f.full, length-append D.sheet.codes (code a b c d ∷ []))
  grants_kept (term_row {D = D} r e l low high fits) f =
      search (
        arith,
        full_row D.sheet r f.full fits,
        All-append Usual D.sheet.rows (r ∷ []) f.usual ((low, high), tt),
        length-append D.sheet.rows (r ∷ []),
      )
  grants_kept (constraint_row {D = D} x e e' l fits) f =
      search (arith, full_constraint D.sheet x f.full fits, length-append D.sheet.constraints (x ∷ []))
  grants_kept (full_sheet {D = D} e e' e'') f = record {
    whole = record {
      full = f.full;
      usual = f.usual;
      names_fit = let h = f.names_fit in omega arith;
      terms_fit = let h = f.terms_fit in omega arith;
      constraints_fit = let h = f.constraints_fit in omega arith;
    };
    granted_fit = omega arith;
    run = Calculus.done;
    within = ((let h = f.names_fit in omega arith, let h = f.constraints_fit in omega arith), omega arith, tt);
    rests = (_, _, refl);
  }
  grants_kept (rule_step {T = T} {b = b} {fs = fs} {alts = alts} r ph pl qh ql t w v e l a room) f = record {
    whole = f.whole;
    granted_fit = omega arith;
    run = run_on f.run (subst (λ (x : State). Step K T.sheet x (apply b alts fs)) (sym e) (Calculus.step a));
    within =
        let h = subst StateWithin e f.within in
        applied_within b alts fs (room_within b alts room.names_fit room.facts_fit) room.forks_fit h.1 h.2;
    rests = verdict_rests K T.sheet (apply b alts fs);
  }
  grants_kept (model_step {T = T} {b = b} {fs = fs} count rs v e l n lawful few sat) f = record {
    whole = f.whole;
    granted_fit = omega arith;
    run = f.run;
    within = f.within;
    rests = (b, fs, e, lawful, sat);
  }
  grants_kept (verdict_there v) f = f

  counted_kept : (T : Trial) → Tried K T → Tried K (counted T)
  counted_kept T f = search

  denied_kept : (st : Stage) (c : Call) → Kept K st → Kept K (denied_at st c)
  denied_kept (trying T) (step bs) f = counted_kept T f
  denied_kept _ _ f = f

  pub goes_kept : {st st' : Stage} {c : Call} → Goes K st c st' → Kept K st → Kept K st'
  goes_kept (granted g) f = grants_kept g f
  goes_kept (denied {st = st} {c = c} t n) f = denied_kept st c f

  pub mix_kept : {st st' : Stage} {cs : List Call} → Mix K st cs st' → Kept K st → Kept K st'
  mix_kept end f = f
  mix_kept (next g m) f = mix_kept m (goes_kept g f)

  pub made_kept : {letter : ℕ} {bs : List ℕ} {H : Header} → Made letter bs H → Kept K (filling (fresh H))
  made_kept {letter} {bs} {H} m = search (arith, full_fresh H)

  pub reached_tried : {T : Trial} → Reaches K T → Tried K T
  reached_tried {T} r =
      let k = mix_kept r.mix (made_kept r.made) in
      ⊎_elim (λ e. subst (Kept K) e k) (λ e. subst (Kept K) e k) r.ends

  pub reached_full : {T : Trial} → Reaches K T → Full T.sheet
  reached_full r = (reached_tried r).whole.full
